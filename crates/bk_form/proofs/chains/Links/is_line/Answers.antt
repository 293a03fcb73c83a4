use Rattle.std.proofs.Common.{rules, ◌≡◌, ◌∙◌, sym, ℕ, get_or, None, Some, []}
use Rattle.std.specs.List.{slice_get}
use Rattle.std.proofs.lemmas.Bool.{false≢true}
use Rattle.std.proofs.lemmas.List.Elements.{Contains-get_or}
use Rattle.bk_form.proofs.Filling.{number_none, number_more, number_all}
use Rattle.bk_form.proofs.chains.Links.is_line.Goals as goal

pub loop-place-init : goal.loop-place-init
loop-place-init c =
    number_none (λ (p : ℕ). (q : ℕ) → get_or c.args.self.now.befores.items p None ≡ Some q → slice_get (get_or c.args.self.now.after q []) 0 ≡ Some p) c.args.places.now

pub returns-then-not-is_next : goal.returns-then-not-is_next
returns-then-not-is_next c = (
  λ t. absurd (false≢true t),
  λ h. absurd (false≢true (sym c.if-not-is_next.true ∙ c.is_next-is_next.ensures.1 (λ q e. h _ q (Contains-get_or c.args.places.now c.loop-place.place-index 0 c.loop-place-test.true) e))),
)

pub loop-place-preserved : goal.loop-place-preserved
loop-place-preserved c = number_more c.loop-place.invariant c.loop-place-test.true (c.is_next-is_next.ensures.0 c.if-not-is_next.false)

pub returns : goal.returns
returns c = ((λ t p q m. number_all c.loop-place.invariant c.loop-place-test.false p m q), (λ h. search rules))
