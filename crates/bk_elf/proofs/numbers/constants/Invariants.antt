use Rattle.std.proofs.Common.{◌≡◌, ◌-◌, ◌*◌, ◌++◌, drop}
use Rattle.bk_elf.specs.Lists.{numbers}
use Rattle.bk_elf.proofs.numbers.constants.Given as goal

-- what is read and what is left
abbrev pub invariant-loop-k : goal.invariant-loop-k
invariant-loop-k l = l.constants.items ++ numbers 8 (l.count - l.k) (drop (8 * l.k) l.bytes) ≡ numbers 8 l.count l.bytes
