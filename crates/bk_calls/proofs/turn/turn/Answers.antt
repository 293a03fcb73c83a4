use Rattle.std.proofs.Common.{◌≡◌, ◌∙◌, ap}
use Rattle.bk_func.specs.Records.{ValueRecord}
use Rattle.bk_calls.specs.Chains.{role, turned_by}
use Rattle.bk_calls.specs.Plans.{seen_plan}
use Rattle.bk_calls.specs.declared.role.Role.{Role}
use Rattle.bk_calls.specs.declared.role.Role.TheVariants.{Argument}
use Rattle.bk_calls.proofs.turn.turn.Goals as goal

pub returns-in_ok-turn_argument-in-Argument-clause-value : goal.returns-in_ok-turn_argument-in-Argument-clause-value
returns-in_ok-turn_argument-in-Argument-clause-value c =
    let v = c.args.value.now in
    let p = seen_plan c.args.plan.now in
    let seen = ap (λ (u : ValueRecord). role u) c.value.view_is in
    let is : Argument ≡ role v = cc in
    c.in_ok-turn_argument-in-Argument.ensures c.args.next ∙ ap (λ (r : Role). turned_by r p c.args.next v) is
