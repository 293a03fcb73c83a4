use Rattle.std.proofs.Common.{◌≡◌, ◌∙◌, ◌↔◌, sym, ap, subst, Some}
use Rattle.std.specs.Bool.{IsTrue}
use Rattle.bk_func.specs.Records.{BlockRecord}
use Rattle.bk_func.specs.Form.Parts.{IsValueNumber}
use Rattle.bk_func.specs.Form.Shapes.{FitsControl}
use Rattle.bk_form.specs.Names.{measure}
use Rattle.bk_form.proofs.Asked.{control_is}
use Rattle.bk_form.proofs.Named.{value_stands, no_value_named}
use Rattle.bk_form.proofs.Tables.{through}
use Rattle.bk_form.proofs.types.control_fits.Goals as goal

pub kind_fits-requires-clause-there : goal.kind_fits-requires-clause-there
kind_fits-requires-clause-there c =
    let f = c.args.scope.now.func.now in
    let b = c.args.block.now in
    let control : b.control ≡ Some c.in-Some.control = sym (ap (λ v. v.control) c.block.view_is) ∙ c.in-Some.is in
    let one : IsValueNumber f c.in-Some.control = rw control at (c.requires.named.controls b c.requires.block) in
    let (home, stands, same) = value_stands f c.in-Some.control c.in-Some-value.value.now one (sym c.in-Some-value.ensures) in
    (home, stands)

pub returns-in-Some-value : goal.returns-in-Some-value
returns-in-Some-value c =
    let s = measure c.args.scope.now in
    let f = c.args.scope.now.func.now in
    let b = c.args.block.now in
    let v = c.in-Some-value.value.now in
    let control : b.control ≡ Some c.in-Some.control = sym (ap (λ v. v.control) c.block.view_is) ∙ c.in-Some.is in
    let one : IsValueNumber f c.in-Some.control = rw control at (c.requires.named.controls b c.requires.block) in
    through (subst (λ (w : BlockRecord). IsTrue c.kind_fits.result ↔ FitsControl s f v w.kind) c.block.view_is c.kind_fits.ensures)
    (control_is s f b c.in-Some.control v control one (sym c.in-Some-value.ensures))

pub returns-in-None-value : goal.returns-in-None-value
returns-in-None-value c =
    let f = c.args.scope.now.func.now in
    let b = c.args.block.now in
    let control : b.control ≡ Some c.in-Some.control = sym (ap (λ v. v.control) c.block.view_is) ∙ c.in-Some.is in
    let one : IsValueNumber f c.in-Some.control = rw control at (c.requires.named.controls b c.requires.block) in
    absurd (no_value_named f c.in-Some.control one (sym c.in-None-value.ensures))
