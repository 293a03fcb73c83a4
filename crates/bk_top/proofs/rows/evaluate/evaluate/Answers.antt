use Rattle.std.proofs.Common.{rules, ◌≡◌, ◌<◌, length, get_or, map, string_bytes, ap, ◌∙◌, sym, subst, true}
use Rattle.std.specs.Prelude.{slice_get, Some}
use Rattle.bk_func.specs.Records.{SigRecord, FuncRecord, PackageRecord}
use Rattle.bk_func.specs.Arguments.{fit}
use Rattle.bk_mean.specs.Eval.{function_named, fit_in, fit_at}
use Rattle.bk_top.specs.Arguments.{Gives}
use Rattle.bk_top.specs.Evaluating.{line_of, told, ending}
use Rattle.bk_top.proofs.Calls.{gives_fit}
use Rattle.bk_top.proofs.Named.{got}
use Rattle.bk_top.proofs.Told.{read_formed}
use Rattle.bk_top.proofs.rows.evaluate.evaluate.Goals as goal

pub line-requires-clause-fit : goal.line-requires-clause-fit
line-requires-clause-fit c =
    let pkg = c.in_ok-pkg.pkg in
    let place = c.in-Some.place in
    let func = c.index.result.now in
    let numbers = c.deref-2.result.now in
    let funcs = ap (λ (p : PackageRecord). p.funcs) c.pkg.view_is in
    let inside : place < length pkg.funcs = search rules in
    let found : slice_get pkg.funcs place ≡ Some func = got pkg.funcs place func inside (c.index.ensures ∙ ap (λ fs. get_or fs place func) funcs) in
    let types : c.deref.result.now ≡ func.sig.args = c.deref.ensures.value ∙ ap (λ (g : SigRecord). g.args) c.sig.view_is ∙ ap (λ (f : FuncRecord). f.sig.args) c.behind-pkg.view_is in
    let given = rw c.in-Ok-Some.field-0-is at c.in-Ok-Some.ensures.found in
    let fits : fit c.args.target func.sig.args numbers ≡ true =
    ap (λ ts. fit c.args.target ts numbers) (sym types)
    ∙ ap (fit c.args.target c.deref.result.now) c.deref-2.ensures.value
    ∙ gives_fit c.args.target c.deref.result.now (map string_bytes c.args.call.args.now) c.in-Ok-Some.args.items given in
    ap (λ o. fit_at pkg c.args.target o numbers) (sym c.in-Some.ensures) ∙ ap (λ o. fit_in c.args.target o numbers) found ∙ fits

pub returns-in-Ok-clause-made : goal.returns-in-Ok-clause-made
returns-in-Ok-clause-made c =
    let pkg = c.in_ok-pkg.pkg in
    let place = c.in-Some.place in
    let func = c.index.result.now in
    let funcs = ap (λ (p : PackageRecord). p.funcs) c.pkg.view_is in
    let inside : place < length pkg.funcs = search rules in
    let types : c.deref.result.now ≡ func.sig.args = c.deref.ensures.value ∙ ap (λ (g : SigRecord). g.args) c.sig.view_is ∙ ap (λ (f : FuncRecord). f.sig.args) c.behind-pkg.view_is in
    record {
      pkg = pkg;
      reads = c.in_ok-pkg.ensures.read;
      frames = c.in_ok-frames.frames.items;
      framed = c.in_ok-frames.ensures.frames;
      place = place;
      func = func;
      named = sym (c.in-Some.ensures ∙ ap (function_named pkg) c.as_str-name.ensures.value);
      found = got pkg.funcs place func inside (c.index.ensures ∙ ap (λ fs. get_or fs place func) funcs);
      args = c.in-Ok-Some.args.items;
      given = subst (λ ts. Gives c.args.target ts (map string_bytes c.args.call.args.now) c.in-Ok-Some.args.items) types (rw c.in-Ok-Some.field-0-is at c.in-Ok-Some.ensures.found);
      tells =
          ap (λ v. v.items) c.into_bytes.ensures.value
          ∙ c.in-Ok.ensures place (sym c.in-Some.ensures) (read_formed c.args.text.now c.args.target pkg c.in_ok-pkg.ensures.read)
          ∙ ap (λ (f : FuncRecord). line_of c.args.target f.sig (told (ending pkg c.args.target c.deref-3.result.now place c.deref-2.result.now c.args.call.bound))) c.behind-pkg.view_is
          ∙ ap (λ fs. line_of c.args.target func.sig (told (ending pkg c.args.target fs place c.deref-2.result.now c.args.call.bound))) c.deref-3.ensures.value
          ∙ ap (λ ns. line_of c.args.target func.sig (told (ending pkg c.args.target c.in_ok-frames.frames.items place ns c.args.call.bound))) c.deref-2.ensures.value;
    }
