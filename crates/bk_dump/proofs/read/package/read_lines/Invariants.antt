use Rattle.std.proofs.Common.{◌≡◌, ◌+◌, ◌≤◌, length}
use Rattle.bk_dump.specs.Drafts.{at_start}
use Rattle.bk_dump.specs.Texts.{lines, read_lines}
use Rattle.bk_dump.specs.Views.{state}
use Rattle.bk_dump.proofs.read.package.read_lines.Given as goal

abbrev pub invariant-loop-rest : goal.invariant-loop-rest
invariant-loop-rest l = record {
  same : read_lines l.number (state l.reader) (lines l.rest) ≡ read_lines 1 at_start (lines l.bytes);
  counted : l.number + length l.rest ≤ 1 + length l.bytes;
}

abbrev pub decreases-loop-rest : goal.decreases-loop-rest
decreases-loop-rest l = length l.rest
