use Rattle.std.proofs.Common.{sym, ◌∙◌, ap, Some}
use Rattle.bk_dump.proofs.Front.{is_text, no_text}
use Rattle.bk_dump.proofs.read.name.as_utf8.Goals as goal

pub returns-in-Ok : goal.returns-in-Ok
returns-in-Ok c = ap Some c.in-Ok.ensures.cases.0 ∙ sym (is_text c.args.bytes.now c.in-Ok.ensures.cases.1)

pub returns-in-Err : goal.returns-in-Err
returns-in-Err c = sym (no_text c.args.bytes.now c.in-Err.ensures.cases.0)
