use Rattle.std.proofs.Common.{◌≡◌, sym, subst, refl, ◌↔◌, ℤ, pos}
use Rattle.std.specs.Bool.{IsTrue}
use Rattle.bk_func.specs.Form.Shapes.{FitsPlaceOf}
use Rattle.bk_form.specs.Names.{measure}
use Rattle.bk_form.proofs.Signatures.{no_such_place, passed}
use Rattle.bk_form.proofs.words.fits_place.Goals as goal

pub returns-in-Some : goal.returns-in-Some
returns-in-Some c =
    let int : c.args.int ≡ pos c.in-Some.place = passed (λ (z : ℤ). z ≡ pos c.in-Some.place) c.args.int c.ranges.int c.in-Some.ensures in
    subst (λ (z : ℤ). IsTrue c.fits_at.result ↔ FitsPlaceOf (measure c.args.scope.now) c.args.types.now z c.args.ty) (sym int) c.fits_at.ensures

pub returns-in-None : goal.returns-in-None
returns-in-None c =
    let s = measure c.args.scope.now in
    ((λ t. no_such_place s c.args.types.now c.args.int c.args.ty (λ k e. passed (λ (z : ℤ). z ≡ pos k → ⊥) c.args.int c.ranges.int (c.in-None.ensures k) e)), (λ h. refl))
