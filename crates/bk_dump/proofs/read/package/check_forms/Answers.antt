use Rattle.std.proofs.Common.{◌≡◌, ◌<◌, arith, length, ap, ◌∙◌, subst, get_or}
use Rattle.std.specs.Prelude.{All}
use Rattle.std.proofs.lemmas.List.{take_all}
use Rattle.bk_func.specs.Records.{PackageRecord}
use Rattle.bk_dump.specs.Views.{IsFormed}
use Rattle.bk_dump.proofs.Judged.{formed_more, blamed}
use Rattle.bk_dump.proofs.read.package.check_forms.Goals as goal

pub loop-func-preserved : goal.loop-func-preserved
loop-func-preserved c =
    let i = c.loop-func.func-index in
    let f = c.func-item.result in
    let same = c.deref-func-items.ensures.value ∙ ap (λ (p : PackageRecord). p.funcs) c.pkg.view_is in
    let long : i < length c.args.pkg.now.funcs = omega (arith, ap length same) in
    let here : f ≡ get_or c.args.pkg.now.funcs i f = cc (c.func-item.is, same) in
    formed_more c.args.pkg.now c.args.target i f f long here c.loop-func.invariant c.in-Ok.ensures.ok

pub returns-in-Err-clause-blames : goal.returns-in-Err-clause-blames
returns-in-Err-clause-blames c =
    let i = c.loop-func.func-index in
    let f = c.func-item.result in
    let same = c.deref-func-items.ensures.value ∙ ap (λ (p : PackageRecord). p.funcs) c.pkg.view_is in
    let long : i < length c.args.pkg.now.funcs = omega (arith, ap length same) in
    let here : f ≡ get_or c.args.pkg.now.funcs i f = cc (c.func-item.is, same) in
    blamed c.in-Err.error c.blamed.result c.args.pkg.now c.args.target i f f long here c.loop-func.invariant c.in-Err.ensures.fault c.blamed.ensures

pub returns-clause-formed : goal.returns-clause-formed
returns-clause-formed c =
    let same = c.deref-func-items.ensures.value ∙ ap (λ (p : PackageRecord). p.funcs) c.pkg.view_is in
    subst (All (IsFormed c.args.pkg.now c.args.target)) (take_all c.loop-func.func-index c.args.pkg.now.funcs (omega (arith, ap length same))) c.loop-func.invariant
