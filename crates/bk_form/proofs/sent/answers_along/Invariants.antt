use Rattle.std.proofs.Common.{length}
use Rattle.bk_places.specs.Search.{IsClear}
use Rattle.bk_form.specs.Names.{measure}
use Rattle.bk_form.specs.Sent.{Passes, IsReachedBy, AreAnswers}
use Rattle.bk_form.proofs.sent.answers_along.Given as goal

abbrev pub invariant-loop-node : goal.invariant-loop-node
invariant-loop-node l = record {
  clear : IsClear (length l.steps) l.search;
  answers : AreAnswers l.flow.scope.func.now (IsReachedBy (measure l.flow.scope) l.flow.scope.func.now l.steps l.node-index) (Passes (measure l.flow.scope) l.flow.scope.func.now l.question) l.answers.items;
}
