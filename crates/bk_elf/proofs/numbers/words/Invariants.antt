use Rattle.std.proofs.Common.{◌≡◌, ◌-◌, ◌*◌, ◌++◌, drop}
use Rattle.bk_elf.specs.Lists.{numbers}
use Rattle.bk_elf.proofs.numbers.words.Given as goal

-- what is read and what is left
abbrev pub invariant-loop-k : goal.invariant-loop-k
invariant-loop-k l = l.words.items ++ numbers 4 (l.count - l.k) (drop (4 * l.k) l.bytes) ≡ numbers 4 l.count l.bytes
