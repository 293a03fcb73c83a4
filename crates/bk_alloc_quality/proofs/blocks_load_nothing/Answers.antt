use Rattle.bk_alloc_quality.proofs.Blocks.{block_stays}
use Rattle.bk_alloc_quality.proofs.blocks_load_nothing.Goals as goal

pub returns : goal.returns
returns c = λ words next b first f h p q. (let r = block_stays words next b first f h p q in (r.settled, r.quiet))
