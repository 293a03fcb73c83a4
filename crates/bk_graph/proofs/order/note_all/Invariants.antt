use Rattle.std.proofs.Common.{◌≡◌, ℕ, ◌||◌, take}
use Rattle.std.specs.BTreeSet.{contains}
use Rattle.std.specs.List.{list_any}
use Rattle.std.specs.Ordering.{nat_cmp}
use Rattle.bk_graph.specs.Placing.{names, unplaced_in}
use Rattle.bk_graph.proofs.order.note_all.Given as goal

abbrev pub invariant-loop-number : goal.invariant-loop-number
invariant-loop-number l = (q : ℕ) → contains nat_cmp l.ready q
    ≡ (contains nat_cmp l.initial.ready q || list_any (λ s. names q (unplaced_in l.places l.placed s)) (take l.number-index l.numbers))
