use Rattle.std.proofs.Common.{sym, ◌∙◌}
use Rattle.bk_ops.proofs.Reading.{read_name, name_read}
use Rattle.bk_ops.proofs.names.op_of_name.Goals as goal

pub returns : goal.returns
returns c o = (λ e. name_read _ o (sym c.read.ensures ∙ e), λ h. c.read.ensures ∙ read_name _ o h)
