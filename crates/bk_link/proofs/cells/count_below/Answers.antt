use Rattle.bk_link.proofs.Sorting.{found_at, not_found_at}
use Rattle.bk_link.proofs.cells.count_below.Goals as goal

pub returns-in-Ok-clause-value : goal.returns-in-Ok-clause-value
returns-in-Ok-clause-value c = found_at c.args.pool.now c.args.word _ c.in-Ok.ensures.position c.requires

pub returns-in-Err-clause-value : goal.returns-in-Err-clause-value
returns-in-Err-clause-value c = not_found_at c.args.pool.now c.args.word _ c.in-Err.ensures.position c.requires
