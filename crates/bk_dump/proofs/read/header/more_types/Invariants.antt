use Rattle.std.proofs.Common.{◌≡◌, length}
use Rattle.bk_dump.specs.Front.{every, onto}
use Rattle.bk_dump.specs.Types.{next_type_at}
use Rattle.bk_dump.proofs.Every.{behind}
use Rattle.bk_dump.proofs.read.header.more_types.Given as goal

abbrev pub invariant-loop-ty : goal.invariant-loop-ty
invariant-loop-ty l = behind l.types.items (every next_type_at l.rest) ≡ onto l.fn.first (every next_type_at l.text)

abbrev pub decreases-loop-ty : goal.decreases-loop-ty
decreases-loop-ty l = length l.rest
