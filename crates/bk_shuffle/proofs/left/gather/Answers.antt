use Rattle.std.proofs.Common.{◌<◌, arith, length}
use Rattle.bk_shuffle.proofs.Gathered.{left_none, free_none, entries_more, left_more, free_more, entries_all}
use Rattle.bk_shuffle.proofs.left.gather.Goals as goal

pub loop-edge-init : goal.loop-edge-init
loop-edge-init c = record {
  entries = c.requires.none;
  left = left_none c.args.left.now c.requires.none;
  free = free_none c.args.free.now c.args.left.now (λ p. 0) c.requires.none_free c.requires.none;
}

pub loop-edge-preserved : goal.loop-edge-preserved
loop-edge-preserved c =
    let h : c.loop-edge.edge-index < length c.args.moves.now = omega arith in
    record {
      entries = entries_more c.args.moves.now c.loop-edge.edge-index _ c.loop-edge.left.entries c.insert.new.self.entries c.place_of-place.result h c.loop-edge.invariant.entries c.place_of-place.ensures c.in_ok-insert.ensures.entries;
      left = left_more c.args.moves.now c.loop-edge.edge-index _ c.loop-edge.left c.insert.new.self c.place_of-place.result h c.requires.places c.loop-edge.invariant.left c.place_of-place.ensures c.in_ok-insert.ensures.ordered
          c.in_ok-insert.ensures.entries;
      free = free_more c.loop-edge.free c.insert-in-loop-edge.new.self c.loop-edge.left c.insert.new.self c.place_of-place.result _ c.loop-edge.invariant.free c.in_ok-insert-2.ensures.updates.0 c.in_ok-insert.ensures.updates.0;
    }

pub returns-clause-entries : goal.returns-clause-entries
returns-clause-entries c = entries_all c.args.moves.now c.loop-edge.edge-index c.loop-edge.left.entries (omega arith) c.loop-edge.invariant.entries
