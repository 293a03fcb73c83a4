use Rattle.std.proofs.Common.{◌≡◌, ◌++◌}
use Rattle.bk_work.specs.Placed.{AreFirsts}
use Rattle.bk_work.proofs.placing.Firsts.new.Given as goal

abbrev pub invariant-loop-slot : goal.invariant-loop-slot
invariant-loop-slot l = record {
  all : l.fn.slots.items ≡ l.yielded ++ l.slot-iterator.rest.items;
  made : AreFirsts l.yielded l.firsts.lowered.items l.firsts.causes.items;
}
