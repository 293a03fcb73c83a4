use Rattle.bk_dump_laws.proofs.LaidEnds.{end_lays, end_reads}
use Rattle.bk_dump_laws.proofs.ending_lines.Goals as goal

pub returns : goal.returns
returns c line e = (end_lays line e, end_reads line e)
