-- what is still to be done leads to the whole
use Rattle.std.proofs.Common.{◌++◌, drop}
use Rattle.bk_alloc.specs.Ahead.{uses_in}
use Rattle.bk_alloc.specs.Seen.{seen}
use Rattle.bk_alloc.specs.Tasks.{acts_of_tasks, after_tasks}
use Rattle.bk_alloc.proofs.walk.do_tasks.Given as goal
use Rattle.bk_alloc.proofs.Loops.{IsOnTheWay}

abbrev pub invariant-loop-task : goal.invariant-loop-task
invariant-loop-task l =
    let n = uses_in l.ahead in
    IsOnTheWay (after_tasks n l.after (drop l.task-index l.tasks) l.registers) (after_tasks n l.ahead.after l.tasks l.initial.registers)
    (seen l.acts.items ++ acts_of_tasks n l.after (drop l.task-index l.tasks) l.registers) (seen l.initial.acts.items ++ acts_of_tasks n l.ahead.after l.tasks l.initial.registers)
