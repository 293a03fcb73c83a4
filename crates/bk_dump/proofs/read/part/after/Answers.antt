use Rattle.bk_dump.proofs.Front.{stripped}
use Rattle.bk_dump.proofs.read.part.after.Goals as goal

pub returns : goal.returns
returns c = stripped c.args.mark.now c.args.text.now c.strip_prefix.result c.strip_prefix.ensures.cases
