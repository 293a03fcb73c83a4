use Rattle.bk_dump_laws.proofs.LaidHeaders.{func_lays, func_reads}
use Rattle.bk_dump_laws.proofs.function_lines.Goals as goal

pub returns : goal.returns
returns c line h = (func_lays line h, func_reads line h)
