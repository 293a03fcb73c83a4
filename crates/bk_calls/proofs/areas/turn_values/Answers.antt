use Rattle.std.proofs.Common.{◌+◌, ◌<◌, ◌++◌, length, get_or, flat_map, sum_by, arith}
use Rattle.bk_calls.specs.Areas.{numbered, made_for}
use Rattle.bk_calls.specs.Chains.{turned, chained}
use Rattle.bk_calls.specs.Plans.{seen_plan}
use Rattle.bk_calls.proofs.Renumbered.{at_element, left_after, changed_next, changed_all, listed_next, listed_all, number_next}
use Rattle.bk_calls.proofs.areas.turn_values.Goals as goal

pub loop-value-preserved : goal.loop-value-preserved
loop-value-preserved c =
    let p = seen_plan c.args.plan.now in
    let xs = c.loop-value.values in
    let ys = c.args.values.now in
    let i = c.loop-value.value-index in
    let n = c.loop-value.next in
    let m = c.in_ok-next.next in
    let x = get_or xs i c.value-item.result in
    let y = c.turn.new.value in
    let before = c.loop-value.invariant in
    let is = c.in_ok-next.ensures in
    let l : i < length xs = omega arith in
    let k : i < length ys = omega arith in
    let e = at_element xs ys i c.value-item.result l k before.left in
    record {
      left = left_after xs ys i x y l k before.left;
      values = changed_next (turned p) (made_for c.args.plan.now.registers) xs ys (numbered (turned p) (made_for c.args.plan.now.registers) c.args.first ys) i n m x y l e is.value is.next before.values;
      made = listed_next (chained p) (made_for c.args.plan.now.registers) ys c.loop-value.made.items c.turn.new.made.items
          (c.args.made.now.items ++ flat_map (λ ws. ws) (numbered (chained p) (made_for c.args.plan.now.registers) c.args.first ys)) i n m x e is.made is.next before.made;
      next = number_next (made_for c.args.plan.now.registers) ys i n m (c.args.first + sum_by (made_for c.args.plan.now.registers) ys) x e is.next before.next;
    }

pub returns-clause-values : goal.returns-clause-values
returns-clause-values c =
    let p = seen_plan c.args.plan.now in
    let ys = c.args.values.now in
    changed_all (turned p) (made_for c.args.plan.now.registers) c.loop-value.values ys (numbered (turned p) (made_for c.args.plan.now.registers) c.args.first ys) c.loop-value.value-index c.loop-value.next
    (omega arith) (omega arith) c.loop-value.invariant.values

pub returns-clause-made : goal.returns-clause-made
returns-clause-made c =
    let p = seen_plan c.args.plan.now in
    let ys = c.args.values.now in
    listed_all (chained p) (made_for c.args.plan.now.registers) ys c.loop-value.made.items
    (c.args.made.now.items ++ flat_map (λ ws. ws) (numbered (chained p) (made_for c.args.plan.now.registers) c.args.first ys)) c.loop-value.value-index c.loop-value.next
    (omega arith) c.loop-value.invariant.made
