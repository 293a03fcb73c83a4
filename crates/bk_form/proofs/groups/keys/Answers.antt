use Rattle.std.proofs.Common.{◌≡◌, ◌∙◌, sym, ap, length, get_or, None, arith}
use Rattle.std.proofs.lemmas.Option.{same_Some, slice_get_within}
use Rattle.bk_places.proofs.Filling.{filled_more, item_at}
use Rattle.bk_form.specs.Groups.{key_of}
use Rattle.bk_form.specs.Places.{NodeRecord, nodes_of}
use Rattle.bk_form.proofs.groups.keys.Goals as goal

pub loop-place-preserved : goal.loop-place-preserved
loop-place-preserved c =
    let i = c.loop-place.place in
    let ns = c.args.names.now in
    let at = item_at (c.deref-node-items.ensures.value ∙ c.requires.nodes) i c.node-item.result c.loop-place-test.true c.node-item.is in
    filled_more c.loop-place.invariant c.key_of-key.result c.push.new.self.items
    (λ m e.
    let home = ap (λ (x : NodeRecord). x.home) c.node.view_is ∙ ap (λ (x : NodeRecord). x.home) (same_Some c.node-item.result m (sym at ∙ e)) in
    c.key_of-key.ensures ∙ (ap (key_of c.node.inside.home) c.entry.ensures ∙ ap (λ h. key_of h (get_or ns i None)) home))
    c.in_ok-push.ensures.items

pub returns-clause-size : goal.returns-clause-size
returns-clause-size c =
    let end : c.loop-place.place ≡ length c.deref-node-items.result.now = omega arith in
    c.loop-place.invariant.size ∙ (end ∙ ap length (c.deref-node-items.ensures.value ∙ c.requires.nodes))

pub returns-clause-each : goal.returns-clause-each
returns-clause-each c = λ p m e.
    let all = ap length (c.deref-node-items.ensures.value ∙ c.requires.nodes) in
    let low = slice_get_within (nodes_of c.args.flow.now.scope.func.now) p m e in
    c.loop-place.invariant.each p (omega (arith, all)) m e
