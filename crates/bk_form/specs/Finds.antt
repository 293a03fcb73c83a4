-- What the search for the first breach of a kind answers.
use Rattle.std.specs.Prelude.{Option, MatchOption}
use Rattle.bk_func.specs.declared.form.Place.{Place}
use Rattle.bk_func.specs.Records.{ValueRecord, BlockRecord, FuncRecord}
use Rattle.bk_func.specs.Form.{Holds, AllHold, IsPlaceIn, IsFirstPlace}

-- the first place in the block at which what is asked does not hold, if there is one
abbrev pub FindsIn : (BlockRecord → Type 0) → (BlockRecord → ValueRecord → Type 0) → BlockRecord → Option Place → Type 0
FindsIn P Q b r = MatchOption r (Holds P Q b) (IsPlaceIn P Q b)

-- the first place in the function
abbrev pub Finds : (BlockRecord → Type 0) → (BlockRecord → ValueRecord → Type 0) → FuncRecord → Option Place → Type 0
Finds P Q f r = MatchOption r (AllHold P Q f) (IsFirstPlace P Q f)
