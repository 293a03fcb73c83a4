use Rattle.std.proofs.Common.{◌+◌, ◌<◌, ◌++◌, length, get_or, arith}
use Rattle.bk_dec64.specs.Decomposed.{changed, listed, made_for, turned}
use Rattle.bk_dec64.specs.Named.{seen_plan}
use Rattle.bk_dec64.proofs.Changed.{at_element, left_after, changed_next, changed_all, listed_next, listed_all, number_next, number_all}
use Rattle.bk_dec64.proofs.decomposed.turn_values.Goals as goal

pub loop-value-preserved : goal.loop-value-preserved
loop-value-preserved c =
    let make = made_for (seen_plan c.args.plan.now) c.args.home.now.block c.args.home.now.preds.now in
    let change = turned (seen_plan c.args.plan.now) c.args.home.now.preds.now in
    let xs = c.loop-value.values in
    let ys = c.args.values.now in
    let i = c.loop-value.value-index in
    let n = c.loop-value.growth.next in
    let m = c.turn.new.growth.next in
    let first = c.args.growth.now.next in
    let x = get_or xs i c.value-item.result in
    let y = c.turn.new.value in
    let before = c.loop-value.invariant in
    let is = c.in_ok-turn.ensures in
    let l : i < length xs = omega arith in
    let k : i < length ys = omega arith in
    let e = at_element xs ys i c.value-item.result l k before.left in
    record {
      left = left_after xs ys i x y l k before.left;
      values = changed_next make change xs ys (changed make change first ys) i n m x y l e is.value is.next before.values;
      made = listed_next make ys c.loop-value.growth.made.items c.turn.new.growth.made.items (c.args.growth.now.made.items ++ listed make first ys) i n m x e is.made is.next before.made;
      next = number_next make ys i n m (first + length (listed make first ys)) x e is.next before.next;
    }

pub returns-clause-values : goal.returns-clause-values
returns-clause-values c =
    let make = made_for (seen_plan c.args.plan.now) c.args.home.now.block c.args.home.now.preds.now in
    let change = turned (seen_plan c.args.plan.now) c.args.home.now.preds.now in
    let ys = c.args.values.now in
    changed_all make change c.loop-value.values ys (changed make change c.args.growth.now.next ys) c.loop-value.value-index c.loop-value.growth.next
    (omega arith) (omega arith) c.loop-value.invariant.values

pub returns-clause-made : goal.returns-clause-made
returns-clause-made c =
    let make = made_for (seen_plan c.args.plan.now) c.args.home.now.block c.args.home.now.preds.now in
    let ys = c.args.values.now in
    listed_all make ys c.loop-value.growth.made.items (c.args.growth.now.made.items ++ listed make c.args.growth.now.next ys) c.loop-value.value-index c.loop-value.growth.next
    (omega arith) c.loop-value.invariant.made

pub returns-clause-next : goal.returns-clause-next
returns-clause-next c =
    let make = made_for (seen_plan c.args.plan.now) c.args.home.now.block c.args.home.now.preds.now in
    let ys = c.args.values.now in
    number_all make ys c.loop-value.value-index c.loop-value.growth.next (c.args.growth.now.next + length (listed make c.args.growth.now.next ys)) (omega arith) c.loop-value.invariant.next
