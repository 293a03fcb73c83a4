use Rattle.std.proofs.Common.{◌≡◌, ◌++◌, drop, map}
use Rattle.bk_func.specs.Records.{ValueRecord}
use Rattle.bk_rewrite.proofs.passing.push_ids.Given as goal

abbrev pub invariant-loop-value : goal.invariant-loop-value
invariant-loop-value l = l.ids.items ++ map (λ (v : ValueRecord). v.id) (drop l.value-index l.values) ≡ l.initial.ids.items ++ map (λ (v : ValueRecord). v.id) l.values
