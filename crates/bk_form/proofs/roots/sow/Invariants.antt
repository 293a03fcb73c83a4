use Rattle.bk_places.proofs.Sowing.{Sown}
use Rattle.bk_form.proofs.Copied.{IsRoot}
use Rattle.bk_form.proofs.roots.sow.Given as goal

abbrev pub invariant-loop-place : goal.invariant-loop-place
invariant-loop-place l = Sown l.copies l.nowhere (IsRoot l.flow.scope.func.now) l.place l.search.labels.items l.search.reached.items
