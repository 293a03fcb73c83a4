use Rattle.std.proofs.Common.{[], get_or}
use Rattle.bk_live.specs.Search.{Marks, Waits}
use Rattle.bk_live.proofs.Searching.{LeftUpTo}
use Rattle.bk_live.proofs.search.Search.leave.Given as goal

abbrev pub invariant-loop-next : goal.invariant-loop-next
invariant-loop-next l = record {
  marks : Marks l.self.distances.items l.self.reached.items;
  left : LeftUpTo (get_or l.roads.edges.now l.place []) l.roads.lengths.now l.roads.avoided l.distance l.initial.self.distances.items (Waits l.initial.self) l.next-index
      l.self.distances.items (Waits l.self);
}
