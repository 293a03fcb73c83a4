use Rattle.std.proofs.Common.{◌≡◌, length}
use Rattle.bk_dump.specs.Front.{every}
use Rattle.bk_dump.specs.Types.{next_type_at}
use Rattle.bk_dump.proofs.read.types.behind_types.Given as goal

abbrev pub invariant-loop-ty : goal.invariant-loop-ty
invariant-loop-ty l = (every next_type_at l.rest).1 ≡ (every next_type_at l.text).1

abbrev pub decreases-loop-ty : goal.decreases-loop-ty
decreases-loop-ty l = length l.rest
