use Rattle.std.proofs.Common.{◌≡◌, drop}
use Rattle.bk_elf.specs.Lists.{rises_from}
use Rattle.bk_elf.proofs.numbers.rises_from.Given as goal

-- the numbers that are left rise where all do
abbrev pub invariant-loop-number : goal.invariant-loop-number
invariant-loop-number l = rises_from l.before (drop l.number-index l.numbers) ≡ rises_from l.fn.low l.numbers
