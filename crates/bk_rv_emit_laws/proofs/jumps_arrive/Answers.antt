use Rattle.bk_rv_emit_laws.proofs.Turns.{jump_goes, branch_goes}
use Rattle.bk_rv_emit_laws.proofs.Reach.{jump_fits, branch_fits}
use Rattle.bk_rv_emit_laws.proofs.jumps_arrive.Goals as goal

pub returns-clause-jumps : goal.returns-clause-jumps
returns-clause-jumps c = jump_goes

pub returns-clause-branches : goal.returns-clause-branches
returns-clause-branches c = branch_goes

pub returns-clause-jumps_fit : goal.returns-clause-jumps_fit
returns-clause-jumps_fit c = jump_fits

pub returns-clause-branches_fit : goal.returns-clause-branches_fit
returns-clause-branches_fit c = branch_fits
