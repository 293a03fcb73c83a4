use Rattle.std.proofs.Common.{◌≡◌, ◌+◌, ◌++◌, length, take, drop}
use Rattle.bk_dec64.specs.Decomposed.{changed, listed, made_for, turned}
use Rattle.bk_dec64.specs.Named.{seen_plan}
use Rattle.bk_dec64.proofs.decomposed.turn_values.Given as goal

abbrev pub invariant-loop-value : goal.invariant-loop-value
invariant-loop-value l =
    let make = made_for (seen_plan l.plan) l.home.block l.home.preds.now in
    let change = turned (seen_plan l.plan) l.home.preds.now in record {
      left : drop l.value-index l.values ≡ drop l.value-index l.fn.values;
      values : take l.value-index l.values ++ changed make change l.growth.next (drop l.value-index l.fn.values) ≡ changed make change l.initial.growth.next l.fn.values;
      made : l.growth.made.items ++ listed make l.growth.next (drop l.value-index l.fn.values) ≡ l.initial.growth.made.items ++ listed make l.initial.growth.next l.fn.values;
      next : l.growth.next + length (listed make l.growth.next (drop l.value-index l.fn.values)) ≡ l.initial.growth.next + length (listed make l.initial.growth.next l.fn.values);
    }
