use Rattle.std.proofs.Common.{◌≡◌, ◌++◌, drop}
use Rattle.bk_elf.specs.Contents.{constant_bytes}
use Rattle.bk_elf.proofs.writer.put_constants.Given as goal

-- what is written and what is left
abbrev pub invariant-loop-constant : goal.invariant-loop-constant
invariant-loop-constant l = l.out.items ++ constant_bytes (drop l.constant-index l.constants) ≡ l.initial.out.items ++ constant_bytes l.constants
