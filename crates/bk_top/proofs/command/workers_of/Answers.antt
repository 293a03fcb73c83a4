use Rattle.std.proofs.Common.{◌≡◌, arith}
use Rattle.bk_top.proofs.Numbers.{same_number}
use Rattle.bk_top.proofs.command.workers_of.Goals as goal
use Rattle.bk_top.proofs.command.workers_of.Goals.{else-count-ge1-via-then-count-ge1+else-count-le-MOST_WORKERS, else-count-ge1-via-else-count-ge1}

pub returns-else-count-ge1-clause-none : goal.returns-else-count-ge1-clause-none
returns-else-count-ge1-clause-none c n e low high =
    let found = c.in_ok-count.ensures.found in
    let same : c.in_ok-count.count ≡ n = same_number c.in_ok-count.count n _ found.1 (omega arith) found.0 e in
    elim c.else-count-ge1.branch [
      | else-count-ge1-via-then-count-ge1+else-count-le-MOST_WORKERS w ↦ omega arith
      | else-count-ge1-via-else-count-ge1 w ↦ omega arith
    ]
