use Rattle.std.proofs.Common.{◌≡◌, length}
use Rattle.std.specs.Prelude.{fold}
use Rattle.bk_dump.specs.Front.{every}
use Rattle.bk_dump.specs.Words.{group_at}
use Rattle.bk_dump.specs.Blocks.{marked, mark_of}
use Rattle.bk_dump.proofs.read.end.marked_groups.Given as goal

abbrev pub invariant-loop-inside : goal.invariant-loop-inside
invariant-loop-inside l = record {
  mark : fold marked l.likely (every group_at l.rest).0 ≡ mark_of (every group_at l.text).0;
  left : (every group_at l.rest).1 ≡ (every group_at l.text).1;
}

abbrev pub decreases-loop-inside : goal.decreases-loop-inside
decreases-loop-inside l = length l.rest
