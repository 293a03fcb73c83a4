use Rattle.bk_live.specs.Search.{Spreading, Waits}
use Rattle.bk_live.proofs.search.Search.spread.Given as goal

abbrev pub invariant-loop : goal.invariant-loop
invariant-loop l = Spreading l.roads.edges.now l.roads.lengths.now l.roads.avoided l.starts l.self.distances.items l.self.reached.items (Waits l.self)
