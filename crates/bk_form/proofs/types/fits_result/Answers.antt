use Rattle.std.proofs.Common.{rules, ℤ, ◌↔◌, sym, subst, refl}
use Rattle.std.specs.Bool.{IsTrue}
use Rattle.bk_func.specs.Records.{ValueRecord, SigRecord}
use Rattle.bk_func.specs.Form.Shapes.{FitsPlaceOf}
use Rattle.bk_form.specs.Names.{measure, seen_callee}
use Rattle.bk_form.proofs.Named.{each_call, without_call}
use Rattle.bk_form.proofs.Signatures.{passed}
use Rattle.bk_form.proofs.Tables.{through}
use Rattle.bk_form.proofs.types.fits_result.Goals as goal

pub returns-in-Some : goal.returns-in-Some
returns-in-Some c =
    let s = c.args.scope.now in
    let v = c.args.value.now in
    let g = seen_callee c.in-Some.callee in
    through (subst (λ (w : ValueRecord). IsTrue c.fits_place.result ↔ FitsPlaceOf (measure s) g.results w.int w.ty) c.value.view_is
    (passed (λ (z : ℤ). IsTrue c.fits_place.result ↔ FitsPlaceOf (measure s) g.results z c.value.inside.ty) c.value.inside.int (search rules) c.fits_place.ensures))
    (each_call s.pkg.now s.func.now v g (λ (h : SigRecord). FitsPlaceOf (measure s) h.results v.int v.ty) c.requires.named (sym c.in-Some.ensures))

pub returns-in-None : goal.returns-in-None
returns-in-None c =
    let s = c.args.scope.now in
    let v = c.args.value.now in
    ((λ t. without_call s.pkg.now s.func.now v (λ (g : SigRecord). FitsPlaceOf (measure s) g.results v.int v.ty) c.requires.named (sym c.in-None.ensures)), (λ h. refl))
