use Rattle.std.proofs.Common.{◌≡◌, ◌∙◌, ◌↔◌, sym, ap, subst, Some, None}
use Rattle.std.specs.Bool.{IsTrue}
use Rattle.std.proofs.lemmas.Bool.{false≢true}
use Rattle.bk_ops.specs.declared.types.Ty.TheVariants.{Mem}
use Rattle.bk_func.specs.Records.{ValueRecord}
use Rattle.bk_form.specs.Places.{root_with}
use Rattle.bk_form.proofs.Sending.{are_values, root_memory, root_nothing, with_unit}
use Rattle.bk_form.proofs.Tables.{through}
use Rattle.bk_form.proofs.types.is_memory.Goals as goal

pub returns-in-Some : goal.returns-in-Some
returns-in-Some c =
    let f = c.args.scope.now.func.now in
    let rs = c.args.roots.now in
    let v = c.args.value.now in
    let (b, has) = c.requires.there in
    let id = ap (λ v. v.id) c.value.view_is in
    let root : root_with f rs v.id ≡ Some c.in-Some.root.now = sym (c.in-Some.ensures ∙ ap (root_with f rs) id) in
    through (with_unit (subst (λ (u : ValueRecord). IsTrue c.is_mem.result ↔ (u.ty ≡ Mem)) c.root.view_is c.is_mem.ensures))
    (root_memory f (are_values f c.requires.named) rs c.requires.roots b v c.in-Some.root.now (λ (u : ValueRecord). Unit {0}) has root)

pub returns-in-None : goal.returns-in-None
returns-in-None c =
    let f = c.args.scope.now.func.now in
    let rs = c.args.roots.now in
    let v = c.args.value.now in
    let (b, has) = c.requires.there in
    let id = ap (λ v. v.id) c.value.view_is in
    let none : root_with f rs v.id ≡ None = sym (c.in-None.ensures ∙ ap (root_with f rs) id) in
    ((λ t. absurd (false≢true t)), (λ h. absurd (root_nothing f (are_values f c.requires.named) rs c.requires.roots b v (λ (u : ValueRecord). Unit {0}) has none h)))
