use Rattle.std.proofs.Common.{rules, ◌↔◌, sym, subst, ℤ}
use Rattle.std.specs.Bool.{IsTrue}
use Rattle.bk_func.specs.Records.{ValueRecord}
use Rattle.bk_func.specs.Form.Shapes.{FitsWordOf}
use Rattle.bk_form.specs.Names.{measure, seen_callee}
use Rattle.bk_form.proofs.Sending.{misfit_is}
use Rattle.bk_form.proofs.Signatures.{passed}
use Rattle.bk_form.proofs.sent.is_misfit.Goals as goal

pub returns-in-Some : goal.returns-in-Some
returns-in-Some c =
    let s = measure c.args.scope.now in
    let g = seen_callee c.args.callee in
    let v = c.args.word.now in
    let u = c.in-Some.held.now in
    misfit_is c.args.scope.now.func.now v u c.fits_word.result (λ (x : ValueRecord). FitsWordOf s g v.int x.ty) (sym c.in-Some.ensures)
    (subst (λ (w : ValueRecord). IsTrue c.fits_word.result ↔ FitsWordOf s g w.int u.ty) c.word.view_is
    (subst (λ (x : ValueRecord). IsTrue c.fits_word.result ↔ FitsWordOf s g c.word.inside.int x.ty) c.held.view_is
    (passed (λ (z : ℤ). IsTrue c.fits_word.result ↔ FitsWordOf s g z c.held.inside.ty) c.word.inside.int (search rules) c.fits_word.ensures)))
