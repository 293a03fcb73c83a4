use Rattle.std.proofs.Common.{◌≡◌, ◌∙◌, sym, ℕ, get_or, None}
use Rattle.std.proofs.lemmas.Bool.{false≢true}
use Rattle.bk_form.proofs.Gathering.{gathers_none, gathers_past, gathers_more, gathers_all}
use Rattle.bk_form.proofs.carried.push_differing.Goals as goal

pub loop-place-init : goal.loop-place-init
loop-place-init c = gathers_none (λ (y : ℕ). ¬ (get_or c.args.noted.now y None ≡ c.args.state)) c.args.places.now c.args.differing.now.items

pub loop-place-preserved-then-is_noted : goal.loop-place-preserved-then-is_noted
loop-place-preserved-then-is_noted c = gathers_past c.loop-place.invariant (λ other. other (c.is_noted-is_noted.ensures.0 c.if-is_noted.true))

pub loop-place-preserved : goal.loop-place-preserved
loop-place-preserved c = gathers_more c.loop-place.invariant c.loop-place-test.true (λ same. false≢true (sym c.if-is_noted.false ∙ c.is_noted-is_noted.ensures.1 same)) c.push.new.self.items c.in_ok-push.ensures.items

pub returns : goal.returns
returns c = gathers_all c.loop-place.invariant c.loop-place-test.false
