use Rattle.std.proofs.Common.{◌≡◌, ◌∙◌, ap, Bool, true}
use Rattle.bk_func.specs.Numbers.{is_mem}
use Rattle.bk_func.specs.Records.{ValueRecord}
use Rattle.bk_calls.specs.Chains.{selected}
use Rattle.bk_calls.specs.Plans.{seen_plan}
use Rattle.bk_calls.proofs.turn.turn_selection.Goals as goal

pub returns-then-is_memory : goal.returns-then-is_memory
returns-then-is_memory c =
    let v = c.args.value.now in
    let p = seen_plan c.args.plan.now in
    let seen = ap (λ (u : ValueRecord). is_mem u.ty) c.value.view_is in
    let is : true ≡ is_mem v.ty = cc in
    c.turn_to_memory.ensures p ∙ ap (λ (b : Bool). selected b p v) is
