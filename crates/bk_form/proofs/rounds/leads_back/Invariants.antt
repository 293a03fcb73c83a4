use Rattle.bk_form.proofs.Rounding.{Begun}
use Rattle.bk_form.proofs.rounds.leads_back.Given as goal

abbrev pub invariant-loop-start : goal.invariant-loop-start
invariant-loop-start l = Begun l.edges l.nowhere l.starts l.start-index l.search.labels.items l.search.reached.items
