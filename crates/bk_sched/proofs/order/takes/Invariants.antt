use Rattle.std.proofs.Common.{◌≡◌, ◌↔◌, ℕ, List, [], Some}
use Rattle.std.specs.List.{Contains, slice_get}
use Rattle.bk_func.specs.Records.{ValueRecord}
use Rattle.bk_places.proofs.Filling.{Filled}
use Rattle.bk_sched.proofs.Placing.{Takes}
use Rattle.bk_sched.proofs.order.takes.Given as goal

abbrev pub invariant-loop-value : goal.invariant-loop-value
invariant-loop-value l =
    Filled (λ (p : ℕ) (ps : List ℕ). (v : ValueRecord) → slice_get l.block.values p ≡ Some v → (q : ℕ) → Contains ps q ↔ Takes l.places.numbers.items l.count v q) [] l.takes l.value-index
