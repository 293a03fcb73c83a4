use Rattle.std.proofs.Common.{◌∙◌, ap, None, get_or, arith}
use Rattle.bk_places.proofs.Filling.{filled_none, filled_more}
use Rattle.bk_form.specs.Carried.{unmarked}
use Rattle.bk_form.proofs.Carrying.{unmarked_all}
use Rattle.bk_form.proofs.carried.states_of.Goals as goal

pub loop-place-init : goal.loop-place-init
loop-place-init c = filled_none _ None c.in_ok-states.states.items c.in_ok-states.ensures.items

pub loop-place-preserved : goal.loop-place-preserved
loop-place-preserved c = filled_more c.loop-place.invariant c.unmarked-state.result c.push.new.self.items
    (c.unmarked-state.ensures ∙ (ap (λ m. unmarked m c.entry-found.result) c.entry-mark.ensures ∙ ap (unmarked (get_or c.args.marks.now c.loop-place.place None)) c.entry-found.ensures)) c.in_ok-push.ensures.items

pub returns : goal.returns
returns c = unmarked_all c.args.noted.now c.args.marks.now c.loop-place.states.items c.loop-place.place (omega arith) c.loop-place.invariant
