use Rattle.bk_dump_laws.proofs.LaidVars.{var_lays, var_reads}
use Rattle.bk_dump_laws.proofs.variable_lines.Goals as goal

pub returns : goal.returns
returns c line v = (var_lays line v, var_reads line v)
