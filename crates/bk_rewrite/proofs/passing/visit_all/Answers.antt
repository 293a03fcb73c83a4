use Rattle.std.proofs.Common.{◌≡◌, sym, arith, get_or, slice_index_or, Some}
use Rattle.std.specs.Prelude.{slice_get}
use Rattle.std.proofs.lemmas.Option.{get_or_from_slice_get, slice_get-get_or}
use Rattle.bk_func.specs.Records.{FuncRecord}
use Rattle.bk_rewrite.specs.Passes.{StopsAmong, VisitsEach}
use Rattle.bk_rewrite.proofs.Turns.{visits_on, stops_on}
use Rattle.bk_rewrite.proofs.passing.visit_all.Goals as goal

pub loop-id-preserved : goal.loop-id-preserved
loop-id-preserved c =
    let t = c.args.target in
    let rules = c.args.ruled.now.rules.now in
    let ids = c.args.ids.now in
    let i = c.loop-id.id-index in
    let id = slice_index_or ids i 0 in
    let here : slice_get ids i ≡ Some id = slice_get-get_or ids i 0 (omega arith) in
    let is : id ≡ get_or ids i id = sym (get_or_from_slice_get ids i id id here) in
    record {
      room = c.in_ok-counts.ensures.room;
      counted = λ k. c.in_ok-counts.ensures.counted (c.loop-id.invariant.counted k);
      visits = λ k. visits_on t rules ids i id c.loop-id.func c.visit.new.func (λ (g : FuncRecord). VisitsEach t rules ids c.args.func.now g) (c.loop-id.invariant.visits k) (omega arith) is
          (c.in_ok-counts.ensures.visits (c.loop-id.invariant.counted k));
      stops = λ k. stops_on t rules ids i id c.loop-id.func c.visit.new.func (StopsAmong t rules ids c.args.func.now) (c.loop-id.invariant.stops k) (omega arith) is
          (c.in_ok-counts.ensures.visits (c.loop-id.invariant.counted k));
    }
