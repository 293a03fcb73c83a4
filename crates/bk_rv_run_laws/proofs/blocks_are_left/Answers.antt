use Rattle.bk_rv_run_laws.proofs.Turning.{jump_follows, branch_follows, exit_follows}
use Rattle.bk_rv_run_laws.proofs.blocks_are_left.Goals as goal

pub returns-clause-jumps : goal.returns-clause-jumps
returns-clause-jumps c = jump_follows

pub returns-clause-branches : goal.returns-clause-branches
returns-clause-branches c = branch_follows

pub returns-clause-exits : goal.returns-clause-exits
returns-clause-exits c = exit_follows
