-- the moves so far go to places of their own
use Rattle.std.proofs.Common.{take}
use Rattle.std.specs.BTreeSet.{contains}
use Rattle.std.specs.Ordering.{nat_cmp}
use Rattle.bk_alloc.proofs.Apart.{AreApart}
use Rattle.bk_alloc.proofs.steps.are_apart.Given as goal

abbrev pub invariant-loop-edge : goal.invariant-loop-edge
invariant-loop-edge l = AreApart (contains nat_cmp l.places) (take l.edge-index l.moves)
