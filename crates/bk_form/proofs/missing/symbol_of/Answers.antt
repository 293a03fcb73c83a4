use Rattle.std.proofs.Common.{refl, ⊎_elim}
use Rattle.bk_func.specs.Form.Parts.{symbol_of}
use Rattle.bk_form.proofs.Tables.{no_symbol}
use Rattle.bk_form.proofs.missing.symbol_of.Goals as goal

pub returns-in-StaticLECall : goal.returns-in-StaticLECall
unfolding symbol_of
returns-in-StaticLECall c = ⊎_elim (λ e. rw e refl) (λ r. ⊎_elim (λ e. rw e refl) (λ e. rw e refl) r) c.in-StaticLECall.is

pub returns-in-Addr : goal.returns-in-Addr
unfolding symbol_of
returns-in-Addr c = rw c.in-Addr.is refl

pub returns-in-Arg : goal.returns-in-Arg
unfolding symbol_of
returns-in-Arg c = rw c.in-Arg.is refl

pub returns-in_default : goal.returns-in_default
returns-in_default c =
    let d = c.in_default in
    no_symbol c.args.family d.not-StaticLECall d.not-Call d.not-CallRegs d.not-Addr d.not-Arg d.not-Arm d.not-Rv
