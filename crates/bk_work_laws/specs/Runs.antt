-- The steps of a shared table, and the code of functions with handles into the cells that they leave.
use Rattle.std.specs.Prelude.{ℕ, ◌≤◌, List, [], ◌∷◌, map}
use Rattle.std.specs.List.{flat_map}
use Rattle.bk_ops.specs.declared.types.Target.{Target}
use Rattle.bk_core.specs.declared.events.Event.{Event}
use Rattle.bk_core.specs.Events.{CanRun, reach, start}
use Rattle.bk_fixup.specs.Keys.{keys_of}
use Rattle.bk_piece.specs.declared.Key.{Key}
use Rattle.bk_piece.specs.Pieces.{PieceRecord}
use Rattle.bk_work.specs.Each.{Each}
use Rattle.bk_work.specs.Framed.{FramedRecord}
use Rattle.bk_work.specs.Package.{IsCode, in_area}

-- the keys of each function
abbrev pub keys_by : List FramedRecord → List (List Key)
keys_by framed = map (λ (it : FramedRecord). keys_of it.func) framed

-- the keys of an area, function by function and with repeats
abbrev pub all_in : ℕ → List FramedRecord → List ℕ
all_in a framed = flat_map (in_area a) (keys_by framed)

-- what is announced for the three areas
abbrev pub announced_by_all : List FramedRecord → List (List ℕ)
announced_by_all framed = all_in 0 framed ∷ all_in 1 framed ∷ all_in 2 framed ∷ []

-- the words of the cells after events
abbrev pub reached : List FramedRecord → ℕ → List Event → List (List ℕ)
reached framed parts events = (reach (announced_by_all framed) parts events).areas

-- the events can come from the start on, and each function has its code with handles into the cells after them
pub record IsRun (t : Target) (framed : List FramedRecord) (parts : ℕ) (events : List Event) (pieces : List PieceRecord) : Type 0 where
  pub some : 1 ≤ parts
  pub can : CanRun (announced_by_all framed) (start (announced_by_all framed) parts) events
  pub code : Each (IsCode t (reached framed parts events)) framed pieces
