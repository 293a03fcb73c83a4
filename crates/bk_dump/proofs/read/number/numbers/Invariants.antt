use Rattle.std.proofs.Common.{◌≡◌, length}
use Rattle.bk_dump.specs.Front.{every}
use Rattle.bk_dump.specs.Words.{next_number_at, numbers_at}
use Rattle.bk_dump.proofs.Every.{behind}
use Rattle.bk_dump.proofs.read.number.numbers.Given as goal

abbrev pub invariant-loop-number : goal.invariant-loop-number
invariant-loop-number l = behind l.numbers.items (every (next_number_at l.letter) l.rest) ≡ numbers_at l.letter l.text

abbrev pub decreases-loop-number : goal.decreases-loop-number
decreases-loop-number l = length l.rest
