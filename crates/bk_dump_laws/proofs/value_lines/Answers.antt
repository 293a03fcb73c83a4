use Rattle.bk_dump_laws.proofs.LaidValues.{value_lays, value_reads}
use Rattle.bk_dump_laws.proofs.value_lines.Goals as goal

pub returns : goal.returns
returns c line v = (value_lays line v, value_reads line v)
