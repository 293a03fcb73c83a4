use Rattle.std.proofs.Common.{◌≡◌, ◌+◌, ◌++◌, take, drop, sum_by, flat_map}
use Rattle.bk_calls.specs.Areas.{numbered, made_for}
use Rattle.bk_calls.specs.Chains.{turned, chained}
use Rattle.bk_calls.specs.Plans.{seen_plan}
use Rattle.bk_calls.proofs.areas.turn_values.Given as goal

abbrev pub invariant-loop-value : goal.invariant-loop-value
invariant-loop-value l = record {
  left : drop l.value-index l.values ≡ drop l.value-index l.fn.values;
  values : take l.value-index l.values ++ numbered (turned (seen_plan l.plan)) (made_for l.plan.registers) l.next (drop l.value-index l.fn.values)
      ≡ numbered (turned (seen_plan l.plan)) (made_for l.plan.registers) l.first l.fn.values;
  made : l.made.items ++ flat_map (λ ws. ws) (numbered (chained (seen_plan l.plan)) (made_for l.plan.registers) l.next (drop l.value-index l.fn.values))
      ≡ l.initial.made.items ++ flat_map (λ ws. ws) (numbered (chained (seen_plan l.plan)) (made_for l.plan.registers) l.first l.fn.values);
  next : l.next + sum_by (made_for l.plan.registers) (drop l.value-index l.fn.values) ≡ l.first + sum_by (made_for l.plan.registers) l.fn.values;
}
