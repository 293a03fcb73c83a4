use Rattle.std.proofs.Common.{◌↔◌, subst, ap, List, ℤ, to_z, of_z, w64}
use Rattle.std.specs.Bool.{IsTrue}
use Rattle.bk_ops.specs.declared.types.Ty.{Ty}
use Rattle.bk_func.specs.Form.Shapes.{FitsPlaceOf}
use Rattle.bk_form.specs.Names.{measure}
use Rattle.bk_form.proofs.Signatures.{passed}
use Rattle.bk_form.proofs.types.fits_own_register.Goals as goal

pub returns-then-is_data : goal.returns-then-is_data
returns-then-is_data c =
    let s = measure c.args.scope.now in
    let f = c.args.scope.now.func.now in
    let (to, from) = passed (λ (z : ℤ). IsTrue c.fits_place.result ↔ FitsPlaceOf s f.sig.args z c.args.ty) c.args.int c.ranges.int
    (subst (λ (ts : List Ty). IsTrue c.fits_place.result ↔ FitsPlaceOf s ts (to_z w64 (of_z w64 c.args.int)) c.args.ty) (ap (λ g. g.args) c.own.ensures) c.fits_place.ensures) in
    ((λ t. (c.is_data.ensures.0 c.if-is_data.true, to t)), (λ (is, fits). from fits))
