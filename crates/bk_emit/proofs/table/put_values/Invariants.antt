use Rattle.std.proofs.Common.{drop}
use Rattle.bk_emit.specs.Tables.{look, IsPut}
use Rattle.bk_emit.proofs.table.put_values.Given as goal

abbrev pub invariant-loop-value : goal.invariant-loop-value
invariant-loop-value l = IsPut l.values (drop l.value-index l.values) l.keys l.rest (look l.initial.entries) (look l.entries)
