use Rattle.std.proofs.Common.{◌∙◌, sym, ap, subst, ℕ}
use Rattle.std.specs.List.{slice_get}
use Rattle.std.proofs.lemmas.Bool.{false≢true}
use Rattle.std.proofs.lemmas.Option.{none-some, same_Some}
use Rattle.bk_ops.specs.Families.{is_call_result}
use Rattle.bk_func.specs.Form.Text.{Defines}
use Rattle.bk_places.proofs.Elements.{lent}
use Rattle.bk_form.specs.Memories.{func_of}
use Rattle.bk_form.specs.Names.{measure}
use Rattle.bk_form.proofs.Copied.{values_named}
use Rattle.bk_form.proofs.Remembered.{yes}
use Rattle.bk_form.proofs.memory.Memories.is_with_call.Goals as goal

pub returns-then-not-is_call_result : goal.returns-then-not-is_call_result
returns-then-not-is_call_result c = λ b eb. yes (λ alt n g. absurd (false≢true (sym c.if-not-is_call_result.true ∙ (c.is_call_result.ensures ∙ (ap (λ v. is_call_result v.op.family) c.value.view_is ∙ alt)))))

pub returns-in_default : goal.returns-in_default
returns-in_default c = λ b eb. yes (λ alt n g. absurd (none-some n (sym c.in_default.is ∙ ((c.copied-first.ensures ∙ (lent c.as_slice-args.result.now 0 c.get.result c.get.ensures.lookup ∙ ap (λ us. slice_get us 0) (c.as_slice-args.ensures ∙ ap (λ v. v.args) c.value.view_is))) ∙ g))))

pub stands_in-requires-clause-number : goal.stands_in-requires-clause-number
stands_in-requires-clause-number c = let (b, has) = c.requires.value in (values_named (measure c.args.self.now.flow.now.scope) (func_of c.args.self.now) c.requires.memories.flow.named).argument b c.args.value.now 0 c.in-Some.id has (sym (c.copied-first.ensures ∙ (lent c.as_slice-args.result.now 0 c.get.result c.get.ensures.lookup ∙ ap (λ us. slice_get us 0) (c.as_slice-args.ensures ∙ ap (λ v. v.args) c.value.view_is))) ∙ c.in-Some.is)

pub returns : goal.returns
returns c = λ b eb.
    let (to, from) = c.stands_in.ensures b eb in (
      λ t alt n g. subst (λ (k : ℕ). Defines b k) (same_Some c.in-Some.id n (sym c.in-Some.is ∙ ((c.copied-first.ensures ∙ (lent c.as_slice-args.result.now 0 c.get.result c.get.ensures.lookup ∙ ap (λ us. slice_get us 0) (c.as_slice-args.ensures ∙ ap (λ v. v.args) c.value.view_is))) ∙ g))) (to t),
      λ h. from (h (sym (c.is_call_result.ensures ∙ ap (λ v. is_call_result v.op.family) c.value.view_is) ∙ c.if-not-is_call_result.false) c.in-Some.id (sym (c.copied-first.ensures ∙ (lent c.as_slice-args.result.now 0 c.get.result c.get.ensures.lookup ∙ ap (λ us. slice_get us 0) (c.as_slice-args.ensures ∙ ap (λ v. v.args) c.value.view_is))) ∙ c.in-Some.is)),
    )
