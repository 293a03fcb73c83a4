-- what is still to be loaded leads to the whole
use Rattle.std.proofs.Common.{◌++◌, drop}
use Rattle.bk_alloc.specs.Ahead.{uses_from}
use Rattle.bk_alloc.specs.Seen.{seen}
use Rattle.bk_alloc.specs.Tasks.{loads, with_loads}
use Rattle.bk_alloc.proofs.walk.fetch_all.Given as goal
use Rattle.bk_alloc.proofs.Loops.{IsOnTheWay}

abbrev pub invariant-loop-value : goal.invariant-loop-value
invariant-loop-value l =
    let n = uses_from l.ahead in
    IsOnTheWay (with_loads n l.values (drop l.value-index l.values) l.registers) (with_loads n l.values l.values l.initial.registers)
    (seen l.acts.items ++ loads n l.values (drop l.value-index l.values) l.registers) (seen l.initial.acts.items ++ loads n l.values l.values l.initial.registers)
