use Rattle.std.proofs.Common.{◌≡◌, ◌%◌, sum_by, take}
use Rattle.bk_func.specs.Edits.{value_uses}
use Rattle.bk_func.proofs.edits.count_values.Given as goal

abbrev pub invariant-loop-value : goal.invariant-loop-value
invariant-loop-value l = l.uses ≡ sum_by (value_uses l.id) (take l.value-index l.values) % 18446744073709551616
