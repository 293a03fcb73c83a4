use Rattle.std.proofs.Common.{rules, ◌≡◌, ◌∙◌, sym, ℕ, get_or, None, Some}
use Rattle.std.proofs.lemmas.Bool.{false≢true}
use Rattle.std.proofs.lemmas.List.Elements.{Contains-get_or}
use Rattle.bk_form.proofs.Filling.{number_none, number_more, number_all}
use Rattle.bk_form.proofs.chains.Links.are_from.Goals as goal

pub loop-place-init : goal.loop-place-init
loop-place-init c = number_none (λ (p : ℕ). get_or c.args.self.now.firsts.items p None ≡ Some c.args.first) c.args.places.now

pub returns-then-not-is_from : goal.returns-then-not-is_from
returns-then-not-is_from c = (
  λ t. absurd (false≢true t),
  λ h. absurd (false≢true (sym c.if-not-is_from.true ∙ c.is_from-is_from.ensures.1 (h _ (Contains-get_or c.args.places.now c.loop-place.place-index 0 c.loop-place-test.true)))),
)

pub loop-place-preserved : goal.loop-place-preserved
loop-place-preserved c = number_more c.loop-place.invariant c.loop-place-test.true (c.is_from-is_from.ensures.0 c.if-not-is_from.false)

pub returns : goal.returns
returns c = ((λ t. number_all c.loop-place.invariant c.loop-place-test.false), (λ h. search rules))
