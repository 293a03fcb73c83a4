-- the places so far are changed
use Rattle.std.proofs.Common.{◌≡◌, ◌++◌, None, map, take, drop}
use Rattle.bk_alloc.proofs.registers.open_all.Given as goal

abbrev pub invariant-loop-other : goal.invariant-loop-other
invariant-loop-other l = l.held ≡ map (λ o. None) (take l.other-index l.initial.held) ++ drop l.other-index l.initial.held
