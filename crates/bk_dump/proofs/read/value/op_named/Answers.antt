use Rattle.bk_dump.proofs.Ops.{same_op}
use Rattle.bk_dump.proofs.read.value.op_named.Goals as goal

pub returns : goal.returns
returns c = same_op c.args.name.now c.op_of_name.result c.op_of_name.ensures
