use Rattle.bk_alloc_quality.proofs.Blocks.{start_holds}
use Rattle.bk_alloc_quality.proofs.blocks_begin_in_registers.Goals as goal

pub returns : goal.returns
returns c = start_holds
