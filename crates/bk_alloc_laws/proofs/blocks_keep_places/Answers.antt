use Rattle.bk_alloc_laws.proofs.Whole.{block_holds}
use Rattle.bk_alloc_laws.proofs.blocks_keep_places.Goals as goal

pub returns : goal.returns
returns c = block_holds
