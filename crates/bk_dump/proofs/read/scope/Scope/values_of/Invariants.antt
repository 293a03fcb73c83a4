use Rattle.std.proofs.Common.{◌≡◌, length}
use Rattle.std.specs.Vec.Iter.{into_iter_items, into_iter_len}
use Rattle.bk_dump.specs.Resolved.{each, value_of}
use Rattle.bk_dump.proofs.Each.{before}
use Rattle.bk_dump.proofs.read.scope.Scope.values_of.Given as goal

abbrev pub invariant-loop-line : goal.invariant-loop-line
invariant-loop-line l = record {
  same : before l.values.items (each (value_of l.self) (into_iter_items l.line-iterator)) ≡ each (value_of l.self) l.fn.lines.items;
  counted : into_iter_len l.line-iterator ≡ length (into_iter_items l.line-iterator);
}
