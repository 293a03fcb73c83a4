use Rattle.bk_dump_laws.proofs.LaidBlocks.{block_lays, block_reads}
use Rattle.bk_dump_laws.proofs.opening_lines.Goals as goal

pub returns : goal.returns
returns c line b = (block_lays line b, block_reads line b)
