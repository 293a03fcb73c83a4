use Rattle.std.proofs.Common.{◌∙◌, sym, ap, subst, ℕ, List}
use Rattle.std.specs.List.{All}
use Rattle.std.proofs.lemmas.Bool.{false≢true}
use Rattle.bk_func.specs.Form.Parts.{IsValueNumber}
use Rattle.bk_form.specs.Memories.{TakesBefore, func_of}
use Rattle.bk_form.proofs.Remembered.{yes}
use Rattle.bk_form.proofs.memory.Memories.takes_last_states.Goals as goal

pub returns-then-not-is_memory_phi : goal.returns-then-not-is_memory_phi
returns-then-not-is_memory_phi c = yes (λ phi mem. absurd (false≢true (sym c.if-not-is_memory_phi.true ∙ c.is_memory_phi.ensures.1 (phi, mem))))

pub takes_before-requires-clause-ids : goal.takes_before-requires-clause-ids
takes_before-requires-clause-ids c = subst (λ (us : List ℕ). All (IsValueNumber (func_of c.args.self.now)) us) (sym (c.as_slice-args.ensures ∙ ap (λ v. v.args) c.value.view_is)) (((c.requires.memories.flow.named c.args.block.now c.requires.value.0).value c.args.value.now c.requires.value.1).args)

pub returns : goal.returns
returns c = (
  λ t phi mem. subst (λ (us : List ℕ). TakesBefore (func_of c.args.self.now) c.args.block.now.preds us) (c.as_slice-args.ensures ∙ ap (λ v. v.args) c.value.view_is) (subst (λ (us : List ℕ). TakesBefore (func_of c.args.self.now) us c.as_slice-args.result.now) (c.deref-preds.ensures.value ∙ ap (λ v. v.preds) c.block.view_is) (c.takes_before.ensures.0 t)),
  λ h. c.takes_before.ensures.1 (subst (λ (us : List ℕ). TakesBefore (func_of c.args.self.now) us c.as_slice-args.result.now) (sym (c.deref-preds.ensures.value ∙ ap (λ v. v.preds) c.block.view_is)) (subst (λ (us : List ℕ). TakesBefore (func_of c.args.self.now) c.args.block.now.preds us) (sym (c.as_slice-args.ensures ∙ ap (λ v. v.args) c.value.view_is)) (h (c.is_memory_phi.ensures.0 c.if-not-is_memory_phi.false).0 (c.is_memory_phi.ensures.0 c.if-not-is_memory_phi.false).1))),
)
