use Rattle.std.proofs.Common.{length}
use Rattle.std.specs.BTreeMap.{get}
use Rattle.std.specs.Ordering.{nat_cmp}
use Rattle.bk_live.specs.Homes.{home}
use Rattle.bk_live.specs.Prepared.{FoundFor, listed_at}
use Rattle.bk_live.specs.Search.{IsReady}
use Rattle.bk_live.proofs.Entering.{RowsSoFar}
use Rattle.bk_live.proofs.live.reached_rows.Given as goal

abbrev pub invariant-loop-value : goal.invariant-loop-value
invariant-loop-value l = record {
  ready : IsReady (length l.ways.edges.now) l.search;
  rows : RowsSoFar (λ n. FoundFor (home l.ways.homes.now) l.ways.edges.now l.ways.lengths.now (listed_at (get nat_cmp l.starts n)) n) (length l.ways.edges.now) l.starts.entries l.value-iterator l.rows;
}
