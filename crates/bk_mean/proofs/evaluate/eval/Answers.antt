use Rattle.std.proofs.Common.{rules, ◌≡◌, ap, sym, ◌∙◌, subst, Some, get_or, true, false}
use Rattle.std.specs.Prelude.{slice_get, slice_index}
use Rattle.std.proofs.lemmas.Option.{slice_get-get_or}
use Rattle.std.proofs.lemmas.List.Quantifiers.{position-Some}
use Rattle.bk_func.specs.Records.{PackageRecord}
use Rattle.bk_func.specs.Arguments.{fit}
use Rattle.bk_func.specs.Meaning.{meaning}
use Rattle.bk_mean.specs.Eval.{function_named, is_name, fit_at, fit_in, program, EntersNone}
use Rattle.bk_mean.proofs.evaluate.eval.Goals as goal

pub returns-in-Ok-clause-meant : goal.returns-in-Ok-clause-meant
returns-in-Ok-clause-meant c = λ i e formed.
    let k : function_named c.args.pkg.now c.args.name.now ≡ Some c.in-Some.place = sym c.in-Some.ensures in
    let same : c.in-Some.place ≡ i = (let q = sym k ∙ e in cc) in
    c.in-Ok.ensures.meant formed ∙ ap (λ x. meaning (program c.args.pkg.now c.args.target c.args.frames.now) x c.args.args.now c.args.window.now c.args.stack c.args.bound) same

pub returns-in-Ok-clause-none_entered : goal.returns-in-Ok-clause-none_entered
returns-in-Ok-clause-none_entered c = λ i e h.
    let k : function_named c.args.pkg.now c.args.name.now ≡ Some c.in-Some.place = sym c.in-Some.ensures in
    let same : c.in-Some.place ≡ i = (let q = sym k ∙ e in cc) in
    c.in-Ok.ensures.none_entered (subst (λ x. EntersNone c.args.bound c.args.stack (slice_index c.args.frames.now x)) (sym same) h)
    ∙ ap (λ x. meaning (program c.args.pkg.now c.args.target c.args.frames.now) x c.args.args.now c.args.window.now c.args.stack c.args.bound) same

pub returns-in-Err-clause-bad_args : goal.returns-in-Err-clause-bad_args
returns-in-Err-clause-bad_args c =
    let k : function_named c.args.pkg.now c.args.name.now ≡ Some c.in-Some.place = sym c.in-Some.ensures in
    let here = position-Some (λ f. is_name (slice_get c.args.pkg.now.names f.name) c.args.name.now) c.args.pkg.now.funcs c.in-Some.place c.index-func.result.now k in
    let w : get_or c.args.pkg.now.funcs c.in-Some.place c.index-func.result.now ≡ c.index-func.result.now =
    sym (c.index-func.ensures ∙ ap (λ (p : PackageRecord). get_or p.funcs c.in-Some.place c.index-func.result.now) c.pkg.view_is) in
    let g : slice_get c.args.pkg.now.funcs c.in-Some.place ≡ Some c.index-func.result.now =
    slice_get-get_or c.args.pkg.now.funcs c.in-Some.place c.index-func.result.now here.0 ∙ ap Some w in
    let z : c.deref.result.now ≡ c.index-func.result.now.sig.args = search rules in
    let t : fit_at c.args.pkg.now c.args.target (function_named c.args.pkg.now c.args.name.now) c.args.args.now ≡ true =
    ap (λ o. fit_at c.args.pkg.now c.args.target o c.args.args.now) k ∙ ap (λ o. fit_in c.args.target o c.args.args.now) g
    ∙ ap (λ ts. fit c.args.target ts c.args.args.now) (sym z) ∙ sym c.fit.ensures ∙ c.if-not-fit.false in
    ((λ h. absurd cc), (λ h. absurd (let q : true ≡ false = sym t ∙ h in cc)))
