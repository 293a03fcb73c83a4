use Rattle.bk_rule_text.proofs.Ops.{same_op}
use Rattle.bk_rule_text.proofs.read.pattern.op_in_table.Goals as goal

pub returns : goal.returns
returns c = same_op c.args.name.now c.op_of_name.result c.op_of_name.ensures
