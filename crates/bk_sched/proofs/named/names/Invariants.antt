use Rattle.std.proofs.Common.{◌≡◌, ℕ, Option, None, Some}
use Rattle.std.specs.List.{slice_get}
use Rattle.bk_func.specs.Records.{ValueRecord}
use Rattle.bk_places.proofs.Filling.{Filled}
use Rattle.bk_sched.specs.Named.{NamesPlace}
use Rattle.bk_sched.proofs.named.names.Given as goal

abbrev pub invariant-loop-value : goal.invariant-loop-value
invariant-loop-value l =
    Filled (λ (p : ℕ) (o : Option ℕ). (v : ValueRecord) → slice_get l.block.values p ≡ Some v → NamesPlace l.places.numbers.items l.roots.items v o) None l.names.items l.value-index
