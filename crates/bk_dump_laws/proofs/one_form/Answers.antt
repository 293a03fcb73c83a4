use Rattle.bk_dump_laws.proofs.Forms.{var_no_func, block_no_var, block_no_func, value_no_end}
use Rattle.bk_dump_laws.proofs.one_form.Goals as goal

pub returns-clause-declarations : goal.returns-clause-declarations
returns-clause-declarations c line v h s t = var_no_func line v h s t

pub returns-clause-blocks : goal.returns-clause-blocks
returns-clause-blocks c line b v s t = block_no_var line b v s t

pub returns-clause-functions : goal.returns-clause-functions
returns-clause-functions c line b h s t = block_no_func line b h s t

pub returns-clause-values : goal.returns-clause-values
returns-clause-values c line v e s t = value_no_end line v e s t
