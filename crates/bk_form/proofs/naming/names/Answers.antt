use Rattle.std.proofs.Common.{◌≡◌, ◌∙◌, sym, ap, subst, length, None, arith}
use Rattle.std.proofs.lemmas.Option.{same_Some}
use Rattle.bk_func.specs.Records.{ValueRecord}
use Rattle.bk_func.specs.Form.Text.{HasValue}
use Rattle.bk_places.proofs.Filling.{filled_none, filled_more, item_at}
use Rattle.bk_form.specs.Naming.{NamesIf}
use Rattle.bk_form.specs.Places.{NodeRecord, nodes_of}
use Rattle.bk_form.proofs.Copied.{stands_at}
use Rattle.bk_form.proofs.Homes.{names_all}
use Rattle.bk_form.proofs.naming.names.Goals as goal

pub loop-node-init : goal.loop-node-init
loop-node-init c = filled_none _ None c.in_ok-names.names.items c.in_ok-names.ensures.items

pub named-name-requires-clause-value : goal.named-name-requires-clause-value
named-name-requires-clause-value c =
    let f = c.args.flow.now.scope.func.now in
    let at = item_at (c.deref-node-items.ensures.value ∙ c.requires.flow.nodes) c.loop-node.node-index c.node-item.result c.loop-node-test.true c.node-item.is in
    let (b, has) = stands_at f c.loop-node.node-index c.node-item.result at in
    (b, subst (λ (v : ValueRecord). HasValue f b v) (sym (ap (λ (m : NodeRecord). m.value) c.node.view_is)) has)

pub loop-node-preserved : goal.loop-node-preserved
loop-node-preserved c =
    let f = c.args.flow.now.scope.func.now in
    let at = item_at (c.deref-node-items.ensures.value ∙ c.requires.flow.nodes) c.loop-node.node-index c.node-item.result c.loop-node-test.true c.node-item.is in
    filled_more c.loop-node.invariant c.named-name.result c.push.new.self.items
    (λ m e. subst (λ (v : ValueRecord). NamesIf f v c.named-name.result) (ap (λ (m : NodeRecord). m.value) (c.node.view_is ∙ same_Some c.node-item.result m (sym at ∙ e))) c.named-name.ensures)
    c.in_ok-push.ensures.items

pub returns : goal.returns
returns c =
    let f = c.args.flow.now.scope.func.now in
    let long : length c.deref-node-items.result.now ≡ length (nodes_of f) = ap length (c.deref-node-items.ensures.value ∙ c.requires.flow.nodes) in
    names_all f c.loop-node.names.items c.loop-node.node-index (omega (arith, long)) c.loop-node.invariant
