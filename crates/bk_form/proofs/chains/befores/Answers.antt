use Rattle.std.proofs.Common.{None, arith}
use Rattle.bk_places.proofs.Filling.{filled_none, filled_more}
use Rattle.bk_form.proofs.Homes.{befores_all}
use Rattle.bk_form.proofs.chains.befores.Goals as goal

pub loop-place-init : goal.loop-place-init
loop-place-init c = filled_none _ None c.in_ok-befores.befores.items c.in_ok-befores.ensures.items

pub loop-place-preserved : goal.loop-place-preserved
loop-place-preserved c = filled_more c.loop-place.invariant c.before-before.result c.push.new.self.items c.before-before.ensures c.in_ok-push.ensures.items

pub returns : goal.returns
returns c = befores_all c.args.homes.now c.args.names.now c.loop-place.befores.items c.loop-place.place (omega arith) c.loop-place.invariant
