use Rattle.std.proofs.Common.{◌≡◌, ◌∙◌, sym, ap, subst, ℕ, List, [], length, replicate}
use Rattle.std.specs.BTreeMap.{get}
use Rattle.std.specs.Map.Iter.{deref_pair}
use Rattle.std.specs.Ordering.{nat_cmp}
use Rattle.std.proofs.lemmas.Map.Iter.{rest_more, rest_all}
use Rattle.bk_live.specs.declared.rows.LiveValue.{LiveValue}
use Rattle.bk_live.specs.declared.search.Start.{Start}
use Rattle.bk_live.specs.Homes.{home}
use Rattle.bk_live.specs.Prepared.{FoundFor, listed_at}
use Rattle.bk_live.specs.Search.{Finds, IsReady}
use Rattle.bk_live.proofs.Entering.{rows_first, rows_next, rows_last}
use Rattle.bk_live.proofs.Rowing.{clear_ready}
use Rattle.bk_live.proofs.live.reached_rows.Goals as goal

pub loop-value-init : goal.loop-value-init
loop-value-init c =
    let ways = c.args.ways.now in
    let m = c.args.starts.now in
    record {
      ready = subst (λ (k : ℕ). IsReady k c.in_ok-search.search) c.len.ensures (clear_ready c.len.result c.in_ok-search.search c.in_ok-search.ensures);
      rows = rows_first (λ n. FoundFor (home ways.homes.now) ways.edges.now ways.lengths.now (listed_at (get nat_cmp m n)) n) (length ways.edges.now) m.entries c.into_iter-value-iterator.result c.in_ok-rows.rows
          c.into_iter-value-iterator.ensures.into_iter_gives.0 (c.in_ok-rows.ensures ∙ ap (λ (k : ℕ). replicate {A = List LiveValue} k []) c.len-2.ensures);
    }

pub loop-value-preserved : goal.loop-value-preserved
loop-value-preserved c =
    let h = home c.args.ways.now.homes.now in
    let es = c.args.ways.now.edges.now in
    let ws = c.args.ways.now.lengths.now in
    let m = c.args.starts.now in
    let n = c.in-Some.value.now in
    let v = c.in-Some.begun.now in
    let g = c.into_iter-value-iterator.ensures.into_iter_gives in
    let finds = c.in_ok-add_reached.ensures.finds in
    let step = rest_more deref_pair c.loop-value.value-iterator c.next.new.self c.next.result (c.in-Some.value, c.in-Some.begun) c.in-Some.is c.next.ensures.steps in
    record {
      ready = record { size = finds.size; marks = finds.marks; queue = finds.queue };
      rows = rows_next (λ n. FoundFor h es ws (listed_at (get nat_cmp m n)) n) (length es) m.entries c.loop-value.value-iterator c.next.new.self n v
          c.add_reached.new.search c.loop-value.rows c.add_reached.new.rows g.5 step c.loop-value.invariant.rows (λ k. get nat_cmp m k) g.6
          (λ at.
          let same : c.deref.result.now ≡ listed_at (get nat_cmp m n) = c.deref.ensures.value ∙ ap listed_at (sym at) in
          subst (λ (ss : List Start). Finds (FoundFor h es ws ss n) (length es) c.add_reached.new.search) same finds)
          c.in_ok-add_reached.ensures.adds;
    }

pub returns : goal.returns
returns c =
    let ways = c.args.ways.now in
    let m = c.args.starts.now in
    rows_last (λ n. FoundFor (home ways.homes.now) ways.edges.now ways.lengths.now (listed_at (get nat_cmp m n)) n) (length ways.edges.now) m.entries c.loop-value.value-iterator c.loop-value.rows
    (rest_all deref_pair c.loop-value.value-iterator c.next.new.self c.next.result c.in-None.is c.next.ensures.steps) c.loop-value.invariant.rows
