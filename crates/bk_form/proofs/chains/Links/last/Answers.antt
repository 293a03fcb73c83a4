use Rattle.std.proofs.Common.{◌≡◌, ◌∙◌, sym, ℕ, get_or, []}
use Rattle.std.proofs.lemmas.Bool.{false≢true}
use Rattle.std.proofs.lemmas.List.Elements.{Contains-get_or}
use Rattle.bk_form.proofs.Filling.{number_none, number_more, number_all}
use Rattle.bk_form.proofs.chains.Links.last.Goals as goal

pub loop-place-init : goal.loop-place-init
loop-place-init c = number_none (λ (p : ℕ). ¬ (get_or c.args.self.now.after p [] ≡ [])) c.args.places.now

pub returns-then-is_last : goal.returns-then-is_last
returns-then-is_last c = (Contains-get_or c.args.places.now c.loop-place.place-index 0 c.loop-place-test.true, c.is_last-is_last.ensures.0 c.if-is_last.true)

pub loop-place-preserved : goal.loop-place-preserved
loop-place-preserved c = number_more c.loop-place.invariant c.loop-place-test.true (λ h. false≢true (sym c.if-is_last.false ∙ c.is_last-is_last.ensures.1 h))

pub returns : goal.returns
returns c = number_all c.loop-place.invariant c.loop-place-test.false
