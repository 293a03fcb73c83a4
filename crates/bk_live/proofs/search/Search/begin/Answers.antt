use Rattle.std.proofs.Common.{get_or}
use Rattle.std.proofs.lemmas.List.{get_or_default}
use Rattle.bk_live.specs.declared.search.Start.{Start}
use Rattle.bk_live.specs.Search.{Waits}
use Rattle.bk_live.proofs.Searching.{begun_more, begun_near}
use Rattle.bk_live.proofs.search.Search.begin.Goals as goal

pub loop-start-preserved : goal.loop-start-preserved
loop-start-preserved c =
    let starts = c.args.starts.now in
    let i = c.loop-start.start-index in
    let zero : Start = record { place = 0; distance = 0 } in
    let s = get_or starts i zero in
    record {
      marks = c.in_ok-near.ensures.marks;
      begun = begun_more starts i c.args.self.now.distances.items c.loop-start.self.distances.items c.near.new.self.distances.items (Waits c.args.self.now) (Waits c.loop-start.self)
          (Waits c.near.new.self) s c.loop-start-test.true (get_or_default starts i zero s c.loop-start-test.true) c.loop-start.invariant.begun
          c.in_ok-near.ensures.moves c.in_ok-near.ensures.near;
    }

pub returns-clause-near : goal.returns-clause-near
returns-clause-near c =
    begun_near c.args.starts.now c.loop-start.start-index c.args.self.now.distances.items c.loop-start.self.distances.items (Waits c.args.self.now) (Waits c.loop-start.self)
    c.loop-start-test.false c.loop-start.invariant.begun

pub returns-clause-moves : goal.returns-clause-moves
returns-clause-moves c = c.loop-start.invariant.begun.moves
