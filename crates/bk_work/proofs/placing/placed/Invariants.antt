use Rattle.std.proofs.Common.{◌≡◌, ◌++◌, length}
use Rattle.bk_work.specs.Placed.{ArePlaced}
use Rattle.bk_work.proofs.placing.placed.Given as goal

abbrev pub invariant-loop-func : goal.invariant-loop-func
invariant-loop-func l = record {
  all : l.fn.items.items ≡ l.yielded ++ l.func-iterator.rest.items;
  long : length l.after.items ≡ length l.fn.slots.items;
  placed : ArePlaced l.yielded l.fn.slots.items l.after.items;
}
