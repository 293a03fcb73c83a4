use Rattle.std.proofs.Common.{arith}
use Rattle.bk_alloc.specs.Ahead.{uses_in}
use Rattle.bk_alloc.specs.Seen.{seen}
use Rattle.bk_alloc.proofs.Loops.{acts_end, after_end, turn_more}
use Rattle.bk_alloc.proofs.walk.do_tasks.Goals as goal

pub loop-task-preserved : goal.loop-task-preserved
loop-task-preserved c =
    turn_more (uses_in c.args.ahead.now) c.loop-task.after c.in_ok-after.after c.args.tasks.now c.loop-task.task-index c.task-item.result c.loop-task.registers c.turn.new.registers _ (seen c.loop-task.acts.items) _ _
    (omega arith) c.in_ok-after.ensures c.task-item.is c.in_ok-turn.ensures.registers c.in_ok-turn.ensures.acts c.loop-task.invariant

pub returns-clause-registers : goal.returns-clause-registers
returns-clause-registers c =
    after_end (uses_in c.args.ahead.now) c.loop-task.after c.args.tasks.now c.loop-task.task-index c.loop-task.registers _ (omega arith) c.loop-task.invariant.registers

pub returns-clause-acts : goal.returns-clause-acts
returns-clause-acts c =
    acts_end (uses_in c.args.ahead.now) c.loop-task.after c.args.tasks.now c.loop-task.task-index c.loop-task.registers _ _ (omega arith) c.loop-task.invariant.acts
