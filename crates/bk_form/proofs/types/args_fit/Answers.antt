use Rattle.std.proofs.Common.{◌≡◌, ◌∙◌, ◌≤◌, sym, ap, refl, length, get_or, Some}
use Rattle.std.specs.List.{slice_get}
use Rattle.std.proofs.lemmas.Bool.{false≢true}
use Rattle.std.proofs.lemmas.Option.{slice_get-get_or}
use Rattle.bk_form.specs.Names.{measure}
use Rattle.bk_form.proofs.Asked.{fit_more, fit_all, fit_here}
use Rattle.bk_form.proofs.Named.{argument_named}
use Rattle.bk_form.proofs.types.args_fit.Goals as goal

pub arg_fits-requires-clause-named : goal.arg_fits-requires-clause-named
arg_fits-requires-clause-named c =
    let f = c.args.scope.now.func.now in
    let v = c.args.value.now in
    let xs = c.as_slice-args.result.now in
    let i = c.loop-place.place in
    let same = c.as_slice-args.ensures ∙ ap (λ v. v.args) c.value.view_is in
    let at : slice_get v.args i ≡ Some (get_or xs i 0) = ap (λ ys. slice_get ys i) (sym same) ∙ slice_get-get_or xs i 0 c.loop-place-test.true in
    argument_named f v.args i (get_or xs i 0) c.requires.named at

pub arg_fits-requires-clause-at : goal.arg_fits-requires-clause-at
arg_fits-requires-clause-at c =
    let xs = c.as_slice-args.result.now in
    let i = c.loop-place.place in
    let same = c.as_slice-args.ensures ∙ ap (λ v. v.args) c.value.view_is in
    ap (λ ys. slice_get ys i) (sym same) ∙ slice_get-get_or xs i 0 c.loop-place-test.true

pub returns-then-not-arg_fits : goal.returns-then-not-arg_fits
returns-then-not-arg_fits c =
    let s = measure c.args.scope.now in
    let f = c.args.scope.now.func.now in
    let v = c.args.value.now in
    let xs = c.as_slice-args.result.now in
    let i = c.loop-place.place in
    let same = c.as_slice-args.ensures ∙ ap (λ v. v.args) c.value.view_is in
    let at : slice_get v.args i ≡ Some (get_or xs i 0) = ap (λ ys. slice_get ys i) (sym same) ∙ slice_get-get_or xs i 0 c.loop-place-test.true in (
      (λ t. absurd (false≢true t)),
      (λ all. absurd (false≢true (sym c.if-not-arg_fits.true ∙ c.arg_fits.ensures.1 (fit_here s f v i (get_or xs i 0) at all)))),
    )

pub loop-place-preserved : goal.loop-place-preserved
loop-place-preserved c =
    let s = measure c.args.scope.now in
    let f = c.args.scope.now.func.now in
    let v = c.args.value.now in
    let xs = c.as_slice-args.result.now in
    let i = c.loop-place.place in
    let same = c.as_slice-args.ensures ∙ ap (λ v. v.args) c.value.view_is in
    let at : slice_get v.args i ≡ Some (get_or xs i 0) = ap (λ ys. slice_get ys i) (sym same) ∙ slice_get-get_or xs i 0 c.loop-place-test.true in
    fit_more s f v i (get_or xs i 0) c.loop-place.invariant at (c.arg_fits.ensures.0 c.if-not-arg_fits.false)

pub returns : goal.returns
returns c =
    let s = measure c.args.scope.now in
    let f = c.args.scope.now.func.now in
    let v = c.args.value.now in
    let same = c.as_slice-args.ensures ∙ ap (λ v. v.args) c.value.view_is in
    let over : length v.args ≤ c.loop-place.place = rw (← same) c.loop-place-test.false in
    ((λ t. fit_all s f v c.loop-place.place c.loop-place.invariant over), (λ h. refl))
