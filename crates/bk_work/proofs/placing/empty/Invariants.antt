use Rattle.std.proofs.Common.{◌≡◌, None, length}
use Rattle.std.specs.List.{All}
use Rattle.bk_work.proofs.placing.empty.Given as goal

abbrev pub invariant-loop-place : goal.invariant-loop-place
invariant-loop-place l = record {
  long : length l.slots.items ≡ l.place;
  empty : All (λ s. s ≡ None) l.slots.items;
}
