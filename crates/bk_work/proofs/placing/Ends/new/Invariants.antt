use Rattle.std.proofs.Common.{◌≡◌, ◌++◌}
use Rattle.bk_work.specs.Placed.{AreEnds}
use Rattle.bk_work.proofs.placing.Ends.new.Given as goal

abbrev pub invariant-loop-slot : goal.invariant-loop-slot
invariant-loop-slot l = record {
  all : l.fn.slots.items ≡ l.yielded ++ l.slot-iterator.rest.items;
  made : AreEnds 0 l.yielded l.ends.pieces.items l.ends.refusals.items;
}
