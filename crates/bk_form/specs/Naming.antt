-- What values name of memory, by numbers and by places.
use Rattle.std.specs.Prelude.{◌≡◌, ◌↔◌, ℕ, Option, Some, MatchOption, ◌⊎◌}
use Rattle.std.specs.List.{slice_get}
use Rattle.bk_ops.specs.declared.family.Family.TheVariants.{Copy, InitMem, MakeResult, StaticLECall}
use Rattle.bk_ops.specs.declared.types.Ty.TheVariants.{Mem}
use Rattle.bk_func.specs.Records.{ValueRecord, BlockRecord, FuncRecord}
use Rattle.bk_func.specs.Form.States.{Names, IsFirstInit}
use Rattle.bk_form.specs.Places.{NodeRecord, nodes_of}

-- the place is that of the state that the value names
abbrev pub NamesPlace : FuncRecord → ValueRecord → ℕ → Type 0
NamesPlace f v p = (m : NodeRecord) × (slice_get (nodes_of f) p ≡ Some m) × ((s : ℕ) → Names f v s ↔ (s ≡ m.value.id))

-- and that of the one that it names, if it names any
abbrev pub NamesIf : FuncRecord → ValueRecord → Option ℕ → Type 0
NamesIf f v o = MatchOption o ((s : ℕ) → ¬ Names f v s) (NamesPlace f v)

-- the number is that of the first `InitMem` of the entry, if there is one
abbrev pub IsFirstOf : FuncRecord → Option ℕ → Type 0
IsFirstOf f o =
    MatchOption o ((b : BlockRecord) (v : ValueRecord) → ¬ IsFirstInit f b v)
    (λ n. (b : BlockRecord) × (v : ValueRecord) × IsFirstInit f b v × (v.id ≡ n))

-- the value gives memory, and the first states give it but for the one with the number
abbrev pub GivesMemory : ValueRecord → Type 0
GivesMemory v = ¬ (v.op.family ≡ Copy) × ¬ (v.op.family ≡ MakeResult) × ((v.op.family ≡ StaticLECall) ⊎ (v.ty ≡ Mem))

abbrev pub GivesState : ValueRecord → Option ℕ → Type 0
GivesState v initial = GivesMemory v × (v.op.family ≡ InitMem → initial ≡ Some v.id)
