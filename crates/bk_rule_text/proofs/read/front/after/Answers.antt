use Rattle.bk_rule_text.proofs.Front.{stripped}
use Rattle.bk_rule_text.proofs.read.front.after.Goals as goal

pub returns : goal.returns
returns c = stripped c.args.mark.now c.args.text.now c.strip_prefix.result c.strip_prefix.ensures.cases
