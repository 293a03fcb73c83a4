use Rattle.std.proofs.Common.{◌≡◌, ℕ}
use Rattle.std.proofs.lemmas.List.Elements.{Contains-get_or}
use Rattle.bk_form.proofs.Filling.{number_none, number_more, number_all}
use Rattle.bk_form.proofs.Remembered.{yes, no}
use Rattle.bk_form.proofs.memory.are_all.Goals as goal

pub loop-place-init : goal.loop-place-init
loop-place-init c = number_none (λ (p : ℕ). p ≡ c.args.at) c.args.places.now

pub returns-then-place-at : goal.returns-then-place-at
returns-then-place-at c = no (λ h. c.if-place-at.true (h _ (Contains-get_or c.args.places.now c.loop-place.place-index 0 c.loop-place-test.true)))

pub loop-place-preserved : goal.loop-place-preserved
loop-place-preserved c = number_more c.loop-place.invariant c.loop-place-test.true c.if-place-at.false

pub returns : goal.returns
returns c = yes (number_all c.loop-place.invariant c.loop-place-test.false)
