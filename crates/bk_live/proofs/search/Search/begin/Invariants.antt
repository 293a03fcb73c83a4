use Rattle.bk_live.specs.Search.{Marks, Waits}
use Rattle.bk_live.proofs.Searching.{Begun}
use Rattle.bk_live.proofs.search.Search.begin.Given as goal

abbrev pub invariant-loop-start : goal.invariant-loop-start
invariant-loop-start l = record {
  marks : Marks l.self.distances.items l.self.reached.items;
  begun : Begun l.starts l.start-index l.initial.self.distances.items (Waits l.initial.self) l.self.distances.items (Waits l.self);
}
