use Rattle.std.proofs.Common.{◌≡◌, ℕ, ◌||◌, take}
use Rattle.std.specs.List.{list_any}
use Rattle.std.specs.BTreeSet.{contains}
use Rattle.std.specs.Ordering.{nat_cmp}
use Rattle.bk_form.specs.Edges.{tears, count_in}
use Rattle.bk_form.proofs.control.tear.Given as goal

abbrev pub invariant-loop-edge : goal.invariant-loop-edge
invariant-loop-edge l = (id : ℕ) → contains nat_cmp l.torn id
    ≡ (contains nat_cmp l.initial.torn id || list_any (tears (count_in l.counts_from) (count_in l.counts_to) id) (take l.edge-index l.edges))
