use Rattle.bk_work.proofs.Turns.{none_yet}
use Rattle.bk_work.proofs.outcomes.Outcomes.new.Goals as goal

pub loop-place-init : goal.loop-place-init
loop-place-init c =
    none_yet c.args.pkg.now c.args.target c.args.lists.now.rules c.args.pkg.now.funcs c.in_ok-with_capacity.field-0.items c.new.result.items c.in_ok-with_capacity.ensures.items c.new.ensures.items
