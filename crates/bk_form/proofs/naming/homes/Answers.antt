use Rattle.std.proofs.Common.{◌≡◌, ◌∙◌, ap, length, None, arith}
use Rattle.bk_places.proofs.Filling.{filled_none, filled_more, item_at}
use Rattle.bk_form.specs.Names.{measure}
use Rattle.bk_form.specs.Places.{nodes_of}
use Rattle.bk_form.proofs.Copied.{values_named}
use Rattle.bk_form.proofs.Homes.{home_is, homes_all}
use Rattle.bk_form.proofs.naming.homes.Goals as goal

pub loop-node-init : goal.loop-node-init
loop-node-init c = filled_none _ None c.in_ok-homes.homes.items c.in_ok-homes.ensures.items

pub loop-node-preserved : goal.loop-node-preserved
loop-node-preserved c =
    let f = c.args.flow.now.scope.func.now in
    let at = item_at (c.deref-node-items.ensures.value ∙ c.requires.flow.nodes) c.loop-node.node-index c.node-item.result c.loop-node-test.true c.node-item.is in
    filled_more c.loop-node.invariant c.state_home-home.result c.push.new.self.items
    (home_is f (values_named (measure c.args.flow.now.scope) f c.requires.flow.named) c.args.initial c.requires.initial c.loop-node.node-index c.node-item.result at c.state_home-home.result
    c.state_home-home.ensures)
    c.in_ok-push.ensures.items

pub returns : goal.returns
returns c =
    let f = c.args.flow.now.scope.func.now in
    let long : length c.deref-node-items.result.now ≡ length (nodes_of f) = ap length (c.deref-node-items.ensures.value ∙ c.requires.flow.nodes) in
    homes_all f c.loop-node.homes.items c.loop-node.node-index (omega (arith, long)) c.loop-node.invariant
