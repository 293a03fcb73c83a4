use Rattle.std.proofs.Common.{◌≡◌, map, string_bytes, ap, ◌∙◌, sym, subst, true}
use Rattle.std.specs.Prelude.{Some}
use Rattle.std.specs.Option.{IsSomeAnd}
use Rattle.bk_func.specs.Records.{SigRecord}
use Rattle.bk_func.specs.Arguments.{fit}
use Rattle.bk_elf.specs.Records.{ObjectRecord}
use Rattle.bk_elf.specs.Functions.{function_of}
use Rattle.bk_top.specs.Arguments.{Gives, DoNotFit}
use Rattle.bk_top.proofs.Calls.{gives_fit}
use Rattle.bk_top.proofs.rows.run.run.Goals as goal

pub returns-in-Ok-None-clause-cause : goal.returns-in-Ok-None-clause-cause
returns-in-Ok-None-clause-cause c =
    let image = c.in_ok-image.image in
    let found : function_of image (string_bytes c.args.call.name.now) ≡ Some (c.in-Some.field-0-0, c.in-Some.sig.now) = sym (c.in-Some.ensures.value ∙ ap (function_of image) c.as_str-name.ensures.value) in
    let types : c.deref.result.now ≡ c.in-Some.sig.now.args = c.deref.ensures.value ∙ ap (λ (g : SigRecord). g.args) c.sig.view_is in
    let target = ap (λ (o : ObjectRecord). o.target) c.image.view_is in
    let none = subst (λ t. DoNotFit t c.deref.result.now (map string_bytes c.args.call.args.now)) target (rw c.in-Ok-None.field-0-is at c.in-Ok-None.ensures.none) in
    (image, (c.in-Some.field-0-0, c.in-Some.sig.now), c.in_ok-image.ensures.loads, found, subst (λ ts. DoNotFit image.target ts (map string_bytes c.args.call.args.now)) types none)

pub line-requires-clause-fit : goal.line-requires-clause-fit
line-requires-clause-fit c =
    let image = c.in_ok-image.image in
    let types : c.deref.result.now ≡ c.in-Some.sig.now.args = c.deref.ensures.value ∙ ap (λ (g : SigRecord). g.args) c.sig.view_is in
    let target = ap (λ (o : ObjectRecord). o.target) c.image.view_is in
    let given = subst (λ t. Gives t c.deref.result.now (map string_bytes c.args.call.args.now) c.in-Ok-Some.args.items) target (rw c.in-Ok-Some.field-0-is at c.in-Ok-Some.ensures.found) in
    let fits : fit image.target c.in-Some.sig.now.args c.deref-2.result.now ≡ true =
    ap (λ ts. fit image.target ts c.deref-2.result.now) (sym types)
    ∙ ap (fit image.target c.deref.result.now) c.deref-2.ensures.value
    ∙ gives_fit image.target c.deref.result.now (map string_bytes c.args.call.args.now) c.in-Ok-Some.args.items given in
    subst (λ o. IsSomeAnd o (λ f. fit image.target f.1.args c.deref-2.result.now ≡ true)) c.in-Some.ensures.value fits
