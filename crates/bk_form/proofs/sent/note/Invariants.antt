use Rattle.bk_func.specs.Records.{ValueRecord}
use Rattle.bk_form.specs.Names.{measure, seen_callee}
use Rattle.bk_form.specs.Sent.{Passes}
use Rattle.bk_form.proofs.Noting.{Noted}
use Rattle.bk_form.proofs.sent.note.Given as goal

abbrev pub invariant-loop-place : goal.invariant-loop-place
invariant-loop-place l =
    Noted l.flow.scope.func.now (λ (v : ValueRecord). Passes (measure l.flow.scope) l.flow.scope.func.now l.question (seen_callee l.callee) v) l.places l.fn.answers.items l.place-index
    l.answers.items
