use Rattle.std.proofs.Common.{◌≡◌, ◌++◌, map, take, drop}
use Rattle.bk_func.specs.Edits.{renamed_value}
use Rattle.bk_func.proofs.edits.replace_in_values.Given as goal

abbrev pub invariant-loop-value : goal.invariant-loop-value
invariant-loop-value l = l.values ≡ map (renamed_value l.old l.new) (take l.value-index l.fn.values) ++ drop l.value-index l.fn.values
