use Rattle.std.proofs.Common.{◌∙◌, [], arith}
use Rattle.bk_places.proofs.Filling.{filled_none, filled_more}
use Rattle.bk_form.proofs.Carrying.{open_all}
use Rattle.bk_form.proofs.carried.open_edges.Goals as goal

pub loop-at-init : goal.loop-at-init
loop-at-init c = filled_none _ [] c.in_ok-through.through c.in_ok-through.ensures

pub loop-at-preserved : goal.loop-at-preserved
loop-at-preserved c = filled_more c.loop-at.invariant c.in_ok-places.places.items c.push.new.self (c.in_ok-places.ensures.items ∙ c.open_behind-behind.ensures) c.in_ok-push.ensures

pub returns : goal.returns
returns c = open_all c.args.edges.now c.args.chains.now c.loop-at.through c.loop-at.at (omega arith) c.loop-at.invariant
