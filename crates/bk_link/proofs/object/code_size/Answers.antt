use Rattle.std.proofs.Common.{arith}
use Rattle.std.proofs.lemmas.Grind.{common_steps}
use Rattle.bk_link.proofs.Keyed.{pool_length}
use Rattle.bk_link.proofs.object.code_size.Goals as goal

pub returns : goal.returns
returns c = let e = pool_length c.args.constants.now c.requires.differ in grind (arith, common_steps, e)
