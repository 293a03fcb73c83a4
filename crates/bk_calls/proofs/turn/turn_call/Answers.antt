use Rattle.std.proofs.Common.{◌≡◌, ◌∙◌, ap, ℕ, Option, Some}
use Rattle.bk_func.specs.Records.{ValueRecord}
use Rattle.bk_calls.specs.Chains.{trap_of, called}
use Rattle.bk_calls.specs.Plans.{seen_plan}
use Rattle.bk_calls.proofs.turn.turn_call.Goals as goal

pub returns-in_ok-turn_to_trap-in-Some-clause-value : goal.returns-in_ok-turn_to_trap-in-Some-clause-value
returns-in_ok-turn_to_trap-in-Some-clause-value c =
    let v = c.args.value.now in
    let seen = ap (λ (u : ValueRecord). trap_of u.aux) c.value.view_is in
    let is : Some c.in-Some.number ≡ trap_of v.aux = cc in
    c.in_ok-turn_to_trap-in-Some.ensures (seen_plan c.args.plan.now) c.args.next ∙ ap (λ (o : Option ℕ). called o (seen_plan c.args.plan.now) c.args.next v) is
