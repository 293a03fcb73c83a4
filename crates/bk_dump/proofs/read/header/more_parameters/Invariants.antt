use Rattle.std.proofs.Common.{◌≡◌, length}
use Rattle.bk_dump.specs.Front.{every, onto}
use Rattle.bk_dump.specs.Headers.{next_parameter_at}
use Rattle.bk_dump.proofs.Every.{behind}
use Rattle.bk_dump.proofs.read.header.more_parameters.Given as goal

abbrev pub invariant-loop-found : goal.invariant-loop-found
invariant-loop-found l = behind l.parameters.items (every next_parameter_at l.rest) ≡ onto l.fn.first (every next_parameter_at l.text)

abbrev pub decreases-loop-found : goal.decreases-loop-found
decreases-loop-found l = length l.rest
