use Rattle.std.proofs.Common.{refl}
use Rattle.bk_func.specs.Form.Parts.{symbol_of}
use Rattle.bk_form.proofs.Tables.{rv_nothing}
use Rattle.bk_form.proofs.missing.rv_symbol.Goals as goal

pub returns-in-Addr : goal.returns-in-Addr
unfolding symbol_of
returns-in-Addr c = rw c.in-Addr.is refl

pub returns-in_default : goal.returns-in_default
returns-in_default c = rv_nothing c.args.op c.in_default.not-Addr
