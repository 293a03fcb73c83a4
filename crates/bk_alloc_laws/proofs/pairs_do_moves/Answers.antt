use Rattle.bk_alloc_laws.proofs.Edges.{pairs_do}
use Rattle.bk_alloc_laws.proofs.pairs_do_moves.Goals as goal

pub returns : goal.returns
returns c = pairs_do
