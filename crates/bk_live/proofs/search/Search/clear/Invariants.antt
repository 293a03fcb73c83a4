use Rattle.std.proofs.Common.{◌≡◌}
use Rattle.std.specs.BinaryHeap.{heap_items}
use Rattle.bk_live.proofs.Clearing.{Forgotten}
use Rattle.bk_live.proofs.search.Search.clear.Given as goal

abbrev pub invariant-loop-index : goal.invariant-loop-index
invariant-loop-index l = record {
  same : l.self.reached.items ≡ l.fn.self.reached.items;
  queue : heap_items l.self.queue ≡ heap_items l.fn.self.queue;
  forgotten : Forgotten l.fn.self.distances.items l.fn.self.reached.items l.index l.self.distances.items;
}
