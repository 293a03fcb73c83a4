use Rattle.std.proofs.Common.{◌≡◌, ◌∙◌, ◌↔◌, ◌⊎◌, sym, ap, subst, ℕ, Option, [], ◌∷◌, ◌++◌, Some, true, ⊎_elim}
use Rattle.std.proofs.lemmas.Bool.{false≢true}
use Rattle.std.proofs.lemmas.Option.{none-some}
use Rattle.bk_ops.specs.Families.{is_word_call}
use Rattle.bk_func.specs.Form.Text.{IsPhi}
use Rattle.bk_func.specs.Records.{ValueRecord}
use Rattle.bk_form.specs.Places.{NodeRecord}
use Rattle.bk_form.specs.Sent.{LeadsTo}
use Rattle.bk_form.proofs.Sending.{nothing_there, stepped_none, stepped_one}
use Rattle.bk_form.proofs.sent.step.Goals as goal

pub returns-in_default : goal.returns-in_default
returns-in_default c =
    let f = c.args.flow.now.scope.func.now in
    stepped_none f c.args.node.now c.new.result.items c.new.ensures.items
    (λ q (phi, other, leads). none-some q (sym (nothing_there c.named_beside-before.result c.in_default.not-Some) ∙ (c.named_beside-before.ensures q).1 leads))

pub returns-then-ends : goal.returns-then-ends
returns-then-ends c =
    let f = c.args.flow.now.scope.func.now in
    let ends = subst (λ (v : ValueRecord). IsPhi v ⊎ (is_word_call v.op.family ≡ true)) (ap (λ (m : NodeRecord). m.value) c.node.view_is) (c.ends_search-ends.ensures.0 c.if-ends.true) in
    stepped_none f c.args.node.now c.new-then-ends.result.items c.new-then-ends.ensures.items
    (λ q (phi, other, leads). ⊎_elim (λ is. phi is) (λ is. false≢true (sym other ∙ is)) ends)

pub returns : goal.returns
returns c =
    let f = c.args.flow.now.scope.func.now in
    stepped_one f c.args.node.now c.push.new.self.items c.in-Some.place
    (c.in_ok-push.ensures.items ∙ ap (λ xs. xs ++ c.in-Some.place ∷ []) c.in_ok-places.ensures.items)
    (subst (λ (x : Option ℕ). (q : ℕ) → (x ≡ Some q) ↔ LeadsTo f c.args.node.now q) c.in-Some.is c.named_beside-before.ensures)
    (λ ends. false≢true (sym c.if-ends.false ∙ c.ends_search-ends.ensures.1
    (subst (λ (v : ValueRecord). IsPhi v ⊎ (is_word_call v.op.family ≡ true)) (sym (ap (λ (m : NodeRecord). m.value) c.node.view_is)) ends)))
