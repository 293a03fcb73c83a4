use Rattle.std.proofs.Common.{◌∙◌, ◌<◌, sym, ap, get_or, Bool, arith}
use Rattle.std.proofs.lemmas.Result.{IfOk-weaker}
use Rattle.bk_form.specs.Names.{measure}
use Rattle.bk_form.proofs.Copied.{values_named}
use Rattle.bk_form.proofs.Rounding.{no_round, round_found, is_placed}
use Rattle.bk_form.proofs.StateNames.{nothing_is}
use Rattle.bk_form.proofs.rounds.comes_round.Goals as goal

pub returns-in_default : goal.returns-in_default
returns-in_default c = λ b has.
    let f = c.args.flow.now.scope.func.now in
    absurd (is_placed f (values_named (measure c.args.flow.now.scope) f c.requires.flow.named) b c.args.value.now has c.value.inside.id (ap (λ v. v.id) c.value.view_is)
    (sym (c.value-found.ensures ∙ c.requires.flow.scope.numbers.value c.value.inside.id) ∙ nothing_is c.value-found.result c.in_default.not-Some))

pub returns-then-settled-gt0 : goal.returns-then-settled-gt0
returns-then-settled-gt0 c = λ b has.
    let f = c.args.flow.now.scope.func.now in
    let ranked : 0 < get_or c.args.ranks.now c.in-Some.place 0 = omega arith in
    no_round f (values_named (measure c.args.flow.now.scope) f c.requires.flow.named) c.args.edges.now c.requires.order c.args.ranks.now c.requires.ranks c.value.inside.id c.in-Some.place
    c.args.value.now (ap (λ v. v.id) c.value.view_is) (sym (c.value-found.ensures ∙ c.requires.flow.scope.numbers.value c.value.inside.id) ∙ c.in-Some.is) ranked b has

pub returns : goal.returns
returns c =
    let f = c.args.flow.now.scope.func.now in
    IfOk-weaker c.leads_back.result _ _
    (λ (back : Bool) h. round_found f (values_named (measure c.args.flow.now.scope) f c.requires.flow.named) c.args.edges.now c.requires.order c.value.inside.id c.in-Some.place c.args.value.now
    (ap (λ v. v.id) c.value.view_is) (sym (c.value-found.ensures ∙ c.requires.flow.scope.numbers.value c.value.inside.id) ∙ c.in-Some.is) back h)
    c.leads_back.ensures
