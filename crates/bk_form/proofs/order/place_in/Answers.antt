use Rattle.std.proofs.Common.{◌∙◌, sym}
use Rattle.std.proofs.lemmas.Bool.{false≢true}
use Rattle.bk_form.proofs.Placing.{no_place, placed, not_placed}
use Rattle.bk_form.proofs.Sending.{nothing_there}
use Rattle.bk_form.proofs.order.place_in.Goals as goal

pub returns-in_default : goal.returns-in_default
returns-in_default c =
    no_place c.args.flow.now.scope.func.now c.args.home c.args.id c.requires.number
    (sym (c.value-found.ensures ∙ c.requires.flow.scope.numbers.value c.args.id) ∙ nothing_there c.value-found.result c.in_default.not-Some)

pub returns-then-is_home : goal.returns-then-is_home
returns-then-is_home c =
    placed c.args.flow.now.scope.func.now c.args.home c.args.id c.in-Some.place c.requires.number
    (sym (c.value-found.ensures ∙ c.requires.flow.scope.numbers.value c.args.id) ∙ c.in-Some.is) (c.is_home.ensures.0 c.if-is_home.true)

pub returns-else-is_home : goal.returns-else-is_home
returns-else-is_home c =
    not_placed c.args.flow.now.scope.func.now c.args.home c.args.id c.in-Some.place c.requires.number
    (sym (c.value-found.ensures ∙ c.requires.flow.scope.numbers.value c.args.id) ∙ c.in-Some.is) (λ h. false≢true (sym c.if-is_home.false ∙ c.is_home.ensures.1 h))
