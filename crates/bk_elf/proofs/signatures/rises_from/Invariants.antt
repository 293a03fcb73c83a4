use Rattle.std.proofs.Common.{◌≡◌, drop}
use Rattle.bk_elf.specs.Lists.{rises_from}
use Rattle.bk_elf.proofs.signatures.rises_from.Given as goal

-- the codes that are left rise where all do
abbrev pub invariant-loop-code : goal.invariant-loop-code
invariant-loop-code l = rises_from l.before (drop l.code-index l.codes) ≡ rises_from l.fn.low l.codes
