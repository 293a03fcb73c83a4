use Rattle.bk_places.proofs.Sowing.{Sown}
use Rattle.bk_sched.proofs.Naming.{IsRoot}
use Rattle.bk_sched.proofs.named.sow.Given as goal

abbrev pub invariant-loop-place : goal.invariant-loop-place
invariant-loop-place l = Sown l.copies l.nowhere (IsRoot l.block) l.place l.search.labels.items l.search.reached.items
