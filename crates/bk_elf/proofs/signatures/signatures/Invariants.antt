use Rattle.std.proofs.Common.{◌≡◌, ◌-◌}
use Rattle.bk_elf.specs.Loading.{sigs_in}
use Rattle.bk_elf.proofs.Signing.{joined}
use Rattle.bk_elf.proofs.signatures.signatures.Given as goal

-- the signatures so far and those that are left
abbrev pub invariant-loop : goal.invariant-loop
invariant-loop l = joined l.sigs.items (sigs_in l.codes (l.count - l.counter) l.rest) ≡ sigs_in l.codes l.count l.words
