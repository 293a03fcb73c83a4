use Rattle.bk_rv_emit_laws.proofs.Places.{sizes_reach}
use Rattle.bk_rv_emit_laws.proofs.Coming.{jump_comes, branch_comes}
use Rattle.bk_rv_emit_laws.proofs.ends_come_to_blocks.Goals as goal

pub returns-clause-sizes : goal.returns-clause-sizes
returns-clause-sizes c = sizes_reach

pub returns-clause-jumps : goal.returns-clause-jumps
returns-clause-jumps c = jump_comes

pub returns-clause-branches : goal.returns-clause-branches
returns-clause-branches c = branch_comes
