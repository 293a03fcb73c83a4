use Rattle.std.proofs.Common.{◌≡◌, ◌↔◌, ℕ, Bool, true, false, Some}
use Rattle.std.specs.List.{slice_get}
use Rattle.bk_func.specs.Records.{ValueRecord}
use Rattle.bk_places.proofs.Filling.{Filled}
use Rattle.bk_sched.specs.Arranged.{IsNext}
use Rattle.bk_sched.proofs.order.nexts.Given as goal

abbrev pub invariant-loop-value : goal.invariant-loop-value
invariant-loop-value l = Filled (λ (p : ℕ) (b : Bool). (v : ValueRecord) → slice_get l.block.values p ≡ Some v → (b ≡ true) ↔ IsNext v) false l.picked.items l.value-index
