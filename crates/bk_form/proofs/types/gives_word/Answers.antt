use Rattle.std.proofs.Common.{rules, ℤ, ◌∙◌, ◌↔◌, sym, ap, subst}
use Rattle.std.specs.Bool.{IsTrue}
use Rattle.bk_func.specs.Records.{ValueRecord}
use Rattle.bk_func.specs.Form.Shapes.{IsData, FitsPlaceOf, FitsWordOf}
use Rattle.bk_form.specs.Names.{measure}
use Rattle.bk_form.proofs.Families.{argument_word, result_word, argument_register, result_register}
use Rattle.bk_form.proofs.Signatures.{passed}
use Rattle.bk_form.proofs.Tables.{through}
use Rattle.bk_form.proofs.types.gives_word.Goals as goal

pub returns-in-ArgWord : goal.returns-in-ArgWord
returns-in-ArgWord c =
    let s = measure c.args.scope.now in
    let f = c.args.scope.now.func.now in
    let v = c.args.value.now in
    let is = sym (ap (λ v. v.op.family) c.value.view_is) ∙ c.in-ArgWord.is in
    through (subst (λ (w : ValueRecord). IsTrue c.fits_own_word.result ↔ (IsData s w.ty × FitsWordOf s f.sig w.int w.ty)) c.value.view_is
    (passed (λ (z : ℤ). IsTrue c.fits_own_word.result ↔ (IsData s c.value.inside.ty × FitsWordOf s f.sig z c.value.inside.ty)) c.value.inside.int (search rules) c.fits_own_word.ensures))
    (argument_word s f v v.op.family is)

pub returns-in-ResWord : goal.returns-in-ResWord
returns-in-ResWord c =
    let s = measure c.args.scope.now in
    let f = c.args.scope.now.func.now in
    let v = c.args.value.now in
    through c.gives_result_word.ensures (result_word s f v v.op.family (sym (ap (λ v. v.op.family) c.value.view_is) ∙ c.in-ResWord.is))

pub returns-in-ArgReg : goal.returns-in-ArgReg
returns-in-ArgReg c =
    let s = measure c.args.scope.now in
    let f = c.args.scope.now.func.now in
    let v = c.args.value.now in
    let is = sym (ap (λ v. v.op.family) c.value.view_is) ∙ c.in-ArgReg.is in
    through (subst (λ (w : ValueRecord). IsTrue c.fits_own_register.result ↔ (IsData s w.ty × FitsPlaceOf s f.sig.args w.int w.ty)) c.value.view_is
    (passed (λ (z : ℤ). IsTrue c.fits_own_register.result ↔ (IsData s c.value.inside.ty × FitsPlaceOf s f.sig.args z c.value.inside.ty)) c.value.inside.int (search rules) c.fits_own_register.ensures))
    (argument_register s f v v.op.family is)

pub returns-in-ResReg : goal.returns-in-ResReg
returns-in-ResReg c =
    let s = measure c.args.scope.now in
    let f = c.args.scope.now.func.now in
    let v = c.args.value.now in
    through c.gives_result_register.ensures (result_register s f v v.op.family (sym (ap (λ v. v.op.family) c.value.view_is) ∙ c.in-ResReg.is))
