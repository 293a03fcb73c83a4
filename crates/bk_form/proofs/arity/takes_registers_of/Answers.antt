use Rattle.std.proofs.Common.{◌≡◌, ◌∙◌, ◌+◌, sym, ap, subst, length, take}
use Rattle.std.specs.Option.{option_map}
use Rattle.std.proofs.lemmas.Option.{same_Some}
use Rattle.bk_func.specs.Records.{SigRecord}
use Rattle.bk_func.specs.Words.{register_words}
use Rattle.bk_form.specs.Names.{seen_callee}
use Rattle.bk_form.proofs.arity.takes_registers_of.Goals as goal

pub returns-in-Some : goal.returns-in-Some
returns-in-Some c =
    let h = seen_callee c.in-Some.callee in
    let t = c.args.target in
    let args = c.args.value.now.args in (
      (λ t'. (h, ap (option_map seen_callee) c.in-Some.is, c.takes_registers.ensures.0 t')),
      (λ (g, e, long).
          let same : g ≡ h = same_Some g h (sym e ∙ ap (option_map seen_callee) c.in-Some.is) in
          c.takes_registers.ensures.1 (subst (λ (z : SigRecord). length args ≡ length (take (register_words t) z.args) + 1) same long)),
    )
