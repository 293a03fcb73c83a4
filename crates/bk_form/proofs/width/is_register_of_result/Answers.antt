use Rattle.std.proofs.Common.{rules, ℤ, ◌↔◌, sym, subst}
use Rattle.std.specs.Bool.{IsTrue}
use Rattle.std.proofs.lemmas.Bool.{false≢true}
use Rattle.bk_func.specs.Records.{ValueRecord, SigRecord}
use Rattle.bk_func.specs.Form.Parts.{IsInRegister}
use Rattle.bk_form.specs.Names.{measure, seen_callee}
use Rattle.bk_form.proofs.Named.{the_call, no_call}
use Rattle.bk_form.proofs.Signatures.{passed}
use Rattle.bk_form.proofs.Tables.{through}
use Rattle.bk_form.proofs.width.is_register_of_result.Goals as goal

pub returns-in-Some : goal.returns-in-Some
returns-in-Some c =
    let s = c.args.scope.now in
    let v = c.args.value.now in
    let g = seen_callee c.in-Some.callee in
    through (subst (λ (w : ValueRecord). IsTrue c.is_in_register.result ↔ IsInRegister (measure s) g.results w.int) c.value.view_is
    (passed (λ (z : ℤ). IsTrue c.is_in_register.result ↔ IsInRegister (measure s) g.results z) c.value.inside.int (search rules) c.is_in_register.ensures))
    (the_call s.pkg.now s.func.now v g (λ (h : SigRecord). IsInRegister (measure s) h.results v.int) c.requires.named (sym c.in-Some.ensures))

pub returns-in-None : goal.returns-in-None
returns-in-None c =
    let s = c.args.scope.now in
    let v = c.args.value.now in (
      (λ t. absurd (false≢true t)),
      (λ h. absurd (no_call s.pkg.now s.func.now v (λ (g : SigRecord). IsInRegister (measure s) g.results v.int) c.requires.named (sym c.in-None.ensures) h)),
    )
