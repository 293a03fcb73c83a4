use Rattle.bk_form.proofs.Remembered.{init_is}
use Rattle.bk_form.proofs.memory.has_init.Goals as goal

pub returns : goal.returns
returns c = init_is c.args.block.now c.init_in.result c.is_some.result c.is_some.ensures c.init_in.ensures
