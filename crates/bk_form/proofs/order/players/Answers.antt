use Rattle.std.proofs.Common.{◌≡◌, ◌∙◌, ◌↔◌, sym, ap, subst, Bool, List, true, length, arith}
use Rattle.std.proofs.lemmas.Option.{same_Some}
use Rattle.std.proofs.lemmas.Result.{IfOk-weaker}
use Rattle.bk_func.specs.Records.{ValueRecord}
use Rattle.bk_places.proofs.Filling.{filled_more, item_at}
use Rattle.bk_places.specs.Order.{HasRole}
use Rattle.bk_form.specs.Arranged.{PlaysAt}
use Rattle.bk_form.specs.Groups.{ArePicked}
use Rattle.bk_form.specs.Places.{NodeRecord}
use Rattle.bk_form.proofs.Grouping.{listed_of, picked_all}
use Rattle.bk_form.proofs.order.players.Goals as goal

pub loop-node-preserved : goal.loop-node-preserved
loop-node-preserved c =
    let i = c.loop-node.node-index in
    let at = item_at (c.deref-node-items.ensures.value ∙ c.requires.flow.nodes) i c.node-item.result c.loop-node-test.true c.node-item.is in
    filled_more c.loop-node.invariant c.has_role-plays.result c.push.new.self.items
    (λ m e.
    let value = ap (λ (x : NodeRecord). x.value) c.node.view_is ∙ ap (λ (x : NodeRecord). x.value) (same_Some c.node-item.result m (sym at ∙ e)) in
    subst (λ (v : ValueRecord). (c.has_role-plays.result ≡ true) ↔ HasRole c.args.role v) value c.has_role-plays.ensures)
    c.in_ok-push.ensures.items

pub members-requires : goal.members-requires
members-requires c = λ p g e. omega (arith, c.requires.groups.within p g e, c.requires.groups.size)

pub returns : goal.returns
returns c =
    let f = c.args.flow.now.scope.func.now in
    let end : c.loop-node.node-index ≡ length c.deref-node-items.result.now = omega arith in
    let picked = picked_all f (PlaysAt c.args.role) c.loop-node.picked.items c.loop-node.node-index (end ∙ ap length (c.deref-node-items.ensures.value ∙ c.requires.flow.nodes)) c.loop-node.invariant in
    IfOk-weaker c.members.result _ _
    (λ es h. listed_of f c.args.groups.now c.requires.groups (PlaysAt c.args.role) c.deref.result.now es
    (subst (λ (bs : List Bool). ArePicked f (PlaysAt c.args.role) bs) (sym c.deref.ensures.value) picked) h)
    c.members.ensures
