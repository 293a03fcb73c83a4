-- what is found among the values so far
use Rattle.std.proofs.Common.{◌≡◌, take, None}
use Rattle.std.specs.List.{fold}
use Rattle.bk_alloc.specs.Ahead.{leaving, uses_from, IsWeighed}
use Rattle.bk_alloc.specs.Registers.{weighed}
use Rattle.bk_alloc.proofs.registers.farthest.Given as goal

abbrev pub invariant-loop-other : goal.invariant-loop-other
invariant-loop-other l =
    (leaving l.best ≡ fold (weighed (uses_from l.ahead) l.keep) None (take l.other-index l.held)) × IsWeighed (uses_from l.ahead) l.best
