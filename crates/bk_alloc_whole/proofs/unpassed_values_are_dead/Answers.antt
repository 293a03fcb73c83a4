use Rattle.bk_alloc_whole.proofs.Walking.{unpassed}
use Rattle.bk_alloc_whole.proofs.unpassed_values_are_dead.Goals as goal

pub returns : goal.returns
returns c = unpassed
