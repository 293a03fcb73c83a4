use Rattle.bk_form.specs.Sent.{AreSteps}
use Rattle.bk_form.proofs.sent.steps.Given as goal

abbrev pub invariant-loop-node : goal.invariant-loop-node
invariant-loop-node l = AreSteps l.flow.scope.func.now l.node-index l.steps
