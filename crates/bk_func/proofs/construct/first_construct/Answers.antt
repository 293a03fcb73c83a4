use Rattle.bk_func.proofs.Constructs.{least_among}
use Rattle.bk_func.proofs.construct.first_construct.Goals as goal

pub returns : goal.returns
returns c = let e = least_among c.args.target c.args.func.now in cc
