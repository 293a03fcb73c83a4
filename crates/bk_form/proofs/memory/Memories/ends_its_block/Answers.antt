use Rattle.std.proofs.Common.{◌∙◌, sym, ap}
use Rattle.std.proofs.lemmas.Bool.{false≢true}
use Rattle.bk_places.proofs.Elements.{contains_at}
use Rattle.bk_form.specs.Memories.{func_of}
use Rattle.bk_form.specs.Names.{measure}
use Rattle.bk_form.specs.Numbers.{value_ids, sole}
use Rattle.bk_form.proofs.Copied.{values_named}
use Rattle.bk_form.proofs.Remembered.{yes, no, rootless, ends_only}
use Rattle.bk_form.proofs.Used.{are_named}
use Rattle.bk_form.proofs.memory.Memories.ends_its_block.Goals as goal

pub returns-then-not-is_results : goal.returns-then-not-is_results
returns-then-not-is_results c = yes (λ mk tuple. absurd (false≢true (sym c.if-not-is_results.true ∙ c.is_results.ensures.1 (mk, tuple))))

pub returns-then-not-is_control : goal.returns-then-not-is_control
returns-then-not-is_control c = no (λ h. false≢true (sym c.if-not-is_control.true ∙ c.is_control.ensures.1 (h (c.is_results.ensures.0 c.if-not-is_results.false).0 (c.is_results.ensures.0 c.if-not-is_results.false).1).0))

pub returns-in_default : goal.returns-in_default
returns-in_default c = absurd (rootless (func_of c.args.self.now) c.args.value.now.id ((values_named (measure c.args.self.now.flow.now.scope) (func_of c.args.self.now) c.requires.memories.flow.named).own c.args.block.now c.args.value.now (contains_at (func_of c.args.self.now).blocks c.args.at c.args.block.now c.requires.block, c.requires.value)) (sym (ap (sole (value_ids (func_of c.args.self.now))) (ap (λ v. v.id) c.value.view_is)) ∙ (sym (c.value-found.ensures ∙ c.requires.memories.flow.scope.numbers.value c.value.inside.id) ∙ c.in_default.is)))

pub returns : goal.returns
returns c = let (to, from) = ends_only (func_of c.args.self.now) (are_named (measure c.args.self.now.flow.now.scope) (func_of c.args.self.now) c.requires.memories.flow.named) (values_named (measure c.args.self.now.flow.now.scope) (func_of c.args.self.now) c.requires.memories.flow.named) c.args.self.now.controlled c.requires.memories.controlled c.args.at c.in-Some.place c.args.block.now c.args.value.now c.requires.block (contains_at (func_of c.args.self.now).blocks c.args.at c.args.block.now c.requires.block, c.requires.value)
    (c.is_control.ensures.0 c.if-not-is_control.false) (sym (ap (sole (value_ids (func_of c.args.self.now))) (ap (λ v. v.id) c.value.view_is)) ∙ (sym (c.value-found.ensures ∙ c.requires.memories.flow.scope.numbers.value c.value.inside.id) ∙ c.in-Some.is)) c.behind-places.result.now c.behind-places.ensures in
    ((λ t mk tuple. to (c.are_all.ensures.0 t)), (λ h. c.are_all.ensures.1 (from (h (c.is_results.ensures.0 c.if-not-is_results.false).0 (c.is_results.ensures.0 c.if-not-is_results.false).1))))
