use Rattle.std.proofs.Common.{rules, ◌≡◌, ℕ, refl, ap, sym, ◌∙◌, subst, arith, length, Some, get_or}
use Rattle.std.specs.Prelude.{slice_get}
use Rattle.std.proofs.lemmas.Grind.{common_steps}
use Rattle.std.proofs.lemmas.Option.{slice_get-get_or}
use Rattle.bk_func.specs.Records.{PackageRecord}
use Rattle.bk_func.specs.Words.{fitted}
use Rattle.bk_func.specs.Numbers.{Program}
use Rattle.bk_mean.specs.Eval.{program, fitted_outcome}
use Rattle.bk_mean.specs.Seen.{seen_outcome}
use Rattle.bk_mean.specs.Running.{NoneReady}
use Rattle.bk_mean.proofs.Ending.{run_meant, run_none, learns_so, none_are}
use Rattle.bk_mean.proofs.evaluate.run.Goals as goal

pub returns-clause-meant : goal.returns-clause-meant
returns-clause-meant c = λ formed.
    let p : Program = program c.args.pkg.now c.args.target c.args.frames.now in
    let e : c.len.result ≡ length c.args.pkg.now.funcs = grind (arith, common_steps) in
    let none : NoneReady (length c.args.pkg.now.funcs) c.in_ok-readies.readies.items = subst (λ (n : ℕ). NoneReady n c.in_ok-readies.readies.items) e c.in_ok-readies.ensures in
    let w : get_or c.args.pkg.now.funcs c.args.place c.index-func.result.now ≡ c.index-func.result.now =
    sym (c.index-func.ensures ∙ ap (λ (p : PackageRecord). get_or p.funcs c.args.place c.index-func.result.now) c.pkg.view_is) in
    let g : slice_get c.args.pkg.now.funcs c.args.place ≡ Some c.index-func.result.now = slice_get-get_or c.args.pkg.now.funcs c.args.place c.index-func.result.now c.requires ∙ ap Some w in
    let hand : c.in_ok-hand.hand.items ≡ fitted c.args.target c.index-func.result.now.sig.args c.args.args.now = search rules in
    let told : seen_outcome c.in_ok-told.told ≡ fitted_outcome c.args.target c.index-func.result.now.sig.results (seen_outcome c.in_ok-outcome.outcome) = search rules in
    run_meant p c.args.place c.args.stack c.args.bound _ _ _ _ c.in_ok-outcome.ensures c.new-3.ensures.items c.new-2.ensures.items c.index-func.result.now g none.size c.requires
    c.args.args.now c.args.window.now (seen_outcome c.in_ok-told.told) hand (c.in_ok-to_vec.ensures.items_if_clones_equal (λ x y d. d)) told (learns_so p refl formed) (none_are c.args.pkg.now _ none)

pub returns-clause-none_entered : goal.returns-clause-none_entered
returns-clause-none_entered c = λ h.
    let p : Program = program c.args.pkg.now c.args.target c.args.frames.now in
    let e : c.len.result ≡ length c.args.pkg.now.funcs = grind (arith, common_steps) in
    let none : NoneReady (length c.args.pkg.now.funcs) c.in_ok-readies.readies.items = subst (λ (n : ℕ). NoneReady n c.in_ok-readies.readies.items) e c.in_ok-readies.ensures in
    let w : get_or c.args.pkg.now.funcs c.args.place c.index-func.result.now ≡ c.index-func.result.now =
    sym (c.index-func.ensures ∙ ap (λ (p : PackageRecord). get_or p.funcs c.args.place c.index-func.result.now) c.pkg.view_is) in
    let g : slice_get c.args.pkg.now.funcs c.args.place ≡ Some c.index-func.result.now = slice_get-get_or c.args.pkg.now.funcs c.args.place c.index-func.result.now c.requires ∙ ap Some w in
    let hand : c.in_ok-hand.hand.items ≡ fitted c.args.target c.index-func.result.now.sig.args c.args.args.now = search rules in
    let told : seen_outcome c.in_ok-told.told ≡ fitted_outcome c.args.target c.index-func.result.now.sig.results (seen_outcome c.in_ok-outcome.outcome) = search rules in
    run_none p c.args.place c.args.stack c.args.bound _ _ _ _ c.in_ok-outcome.ensures c.new-3.ensures.items c.new-2.ensures.items c.index-func.result.now g none.size c.requires
    c.args.args.now c.args.window.now (seen_outcome c.in_ok-told.told) hand (c.in_ok-to_vec.ensures.items_if_clones_equal (λ x y d. d)) told h
