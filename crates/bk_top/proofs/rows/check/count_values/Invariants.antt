use Rattle.std.proofs.Common.{◌≡◌, ◌≤◌, ◌*◌, ◌^◌, take}
use Rattle.std.specs.Prelude.{sum_by}
use Rattle.bk_top.proofs.rows.check.count_values.Given as goal

abbrev pub invariant-loop-func : goal.invariant-loop-func
invariant-loop-func l = record {
  so_far : l.count ≡ sum_by (λ f. f.given) (take l.func-index l.funcs);
  small : l.count ≤ l.func-index * 2 ^ 32;
}
