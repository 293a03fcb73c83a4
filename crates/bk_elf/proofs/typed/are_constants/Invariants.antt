use Rattle.std.proofs.Common.{◌<◌, ◌^◌, take}
use Rattle.std.specs.List.{All}
use Rattle.bk_elf.proofs.typed.are_constants.Given as goal

abbrev pub invariant-loop-constant : goal.invariant-loop-constant
invariant-loop-constant l = All (λ n. n < 2 ^ 64) (take l.constant-index l.constants)
