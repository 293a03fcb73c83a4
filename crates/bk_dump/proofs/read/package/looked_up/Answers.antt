use Rattle.bk_dump.proofs.Whole.{looks_up}
use Rattle.bk_dump.proofs.read.package.looked_up.Goals as goal

pub returns-in-Err : goal.returns-in-Err
returns-in-Err c = looks_up c.in-Err.error c.refusal.result _ c.in-Err.ensures c.refusal.ensures
