use Rattle.std.proofs.Common.{ap, Err}
use Rattle.bk_work.proofs.package.linked.Goals as goal

pub returns-in-Err-Text-clause-cause : goal.returns-in-Err-Text-clause-cause
returns-in-Err-Text-clause-cause c = let h = (c.in-Err-Text.ensures.text c.in-Err-Text.bytes).0 (ap Err c.in-Err-Text.field-0-is) in (h.0, h.1)

pub returns-in-Ok-clause-made : goal.returns-in-Ok-clause-made
returns-in-Ok-clause-made c = record { file = c.in-Ok.ensures.file; within = c.in-Ok.ensures.within }
