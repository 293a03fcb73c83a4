use Rattle.std.proofs.Common.{◌≡◌, ◌∙◌, ◌+◌, sym, ap, subst, ℕ, List, length, arith}
use Rattle.bk_places.proofs.Elements.{contains_at}
use Rattle.bk_places.proofs.Filling.{item_at}
use Rattle.bk_form.specs.Places.{nodes_of}
use Rattle.bk_form.specs.Sent.{AreSteps}
use Rattle.bk_form.proofs.Sending.{steps_none, steps_more}
use Rattle.bk_form.proofs.sent.steps.Goals as goal

pub step-requires-clause-node : goal.step-requires-clause-node
step-requires-clause-node c =
    let f = c.args.flow.now.scope.func.now in
    let i = c.loop-node.node-index in
    let at = item_at (c.deref-node-items.ensures.value ∙ c.requires.flow.nodes) i c.node-item.result c.loop-node-test.true c.node-item.is in
    contains_at (nodes_of f) i c.node-item.result at

pub loop-node-init : goal.loop-node-init
loop-node-init c = subst (λ (es : List (List ℕ)). AreSteps c.args.flow.now.scope.func.now 0 es) (sym c.in_ok-steps.ensures) (steps_none c.args.flow.now.scope.func.now)

pub loop-node-preserved : goal.loop-node-preserved
loop-node-preserved c =
    let f = c.args.flow.now.scope.func.now in
    let i = c.loop-node.node-index in
    let at = item_at (c.deref-node-items.ensures.value ∙ c.requires.flow.nodes) i c.node-item.result c.loop-node-test.true c.node-item.is in
    subst (λ (es : List (List ℕ)). AreSteps f (i + 1) es) (sym c.in_ok-push.ensures)
    (steps_more f i c.loop-node.steps c.in_ok-behind.behind.items c.node-item.result c.loop-node.invariant at
    c.in_ok-behind.ensures)

pub returns : goal.returns
returns c =
    let end : c.loop-node.node-index ≡ length c.deref-node-items.result.now = omega arith in
    subst (λ (n : ℕ). AreSteps c.args.flow.now.scope.func.now n c.loop-node.steps) (end ∙ ap length (c.deref-node-items.ensures.value ∙ c.requires.flow.nodes)) c.loop-node.invariant
