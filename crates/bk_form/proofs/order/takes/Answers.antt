use Rattle.std.proofs.Common.{◌≡◌, ◌∙◌, ◌↔◌, sym, ap, subst, ℕ, length, arith}
use Rattle.std.specs.List.{Contains}
use Rattle.std.proofs.lemmas.Option.{same_Some}
use Rattle.bk_places.proofs.Elements.{contains_at}
use Rattle.bk_places.proofs.Filling.{filled_more, item_at}
use Rattle.bk_form.specs.Arranged.{TakesTo}
use Rattle.bk_form.specs.Places.{NodeRecord, nodes_of}
use Rattle.bk_form.proofs.Placing.{takes_all}
use Rattle.bk_form.proofs.order.takes.Goals as goal

pub taken-requires-clause-node : goal.taken-requires-clause-node
taken-requires-clause-node c =
    let f = c.args.flow.now.scope.func.now in
    let i = c.loop-node.node-index in
    contains_at (nodes_of f) i c.node-item.result (item_at (c.deref-node-items.ensures.value ∙ c.requires.nodes) i c.node-item.result c.loop-node-test.true c.node-item.is)

pub loop-node-preserved : goal.loop-node-preserved
loop-node-preserved c =
    let f = c.args.flow.now.scope.func.now in
    let i = c.loop-node.node-index in
    let at = item_at (c.deref-node-items.ensures.value ∙ c.requires.nodes) i c.node-item.result c.loop-node-test.true c.node-item.is in
    filled_more c.loop-node.invariant c.in_ok-taken.taken.items c.push.new.self
    (λ m e. subst (λ (x : NodeRecord). (q : ℕ) → Contains c.in_ok-taken.taken.items q ↔ TakesTo f x q) (same_Some c.node-item.result m (sym at ∙ e)) c.in_ok-taken.ensures)
    c.in_ok-push.ensures

pub returns : goal.returns
returns c =
    let end : c.loop-node.node-index ≡ length c.deref-node-items.result.now = omega arith in
    takes_all c.args.flow.now.scope.func.now c.loop-node.takes c.loop-node.node-index (end ∙ ap length (c.deref-node-items.ensures.value ∙ c.requires.nodes)) c.loop-node.invariant
