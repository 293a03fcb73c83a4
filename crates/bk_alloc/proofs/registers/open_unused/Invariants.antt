-- the places so far are changed
use Rattle.std.proofs.Common.{◌≡◌, ◌++◌, map, take, drop}
use Rattle.bk_alloc.specs.Ahead.{uses_from}
use Rattle.bk_alloc.specs.Registers.{while_used}
use Rattle.bk_alloc.proofs.registers.open_unused.Given as goal

abbrev pub invariant-loop-other : goal.invariant-loop-other
invariant-loop-other l = l.held ≡ map (while_used (uses_from l.ahead)) (take l.other-index l.initial.held) ++ drop l.other-index l.initial.held
