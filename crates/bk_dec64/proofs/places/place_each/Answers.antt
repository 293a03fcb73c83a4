use Rattle.std.proofs.Common.{◌∙◌, sym, ap, List}
use Rattle.bk_func.specs.Records.{BlockRecord}
use Rattle.bk_dec64.specs.declared.made.Made.{Made}
use Rattle.bk_dec64.specs.Decomposed.{placed}
use Rattle.bk_dec64.proofs.places.place_each.Goals as goal

pub loop-one-preserved : goal.loop-one-preserved
loop-one-preserved c =
    let step = c.in-Some.ensures.steps in
    let is = c.in_ok-place.ensures in
    let before = c.loop-one.invariant in
    record {
      places = is.places;
      blocks = ap (λ (bs : List BlockRecord). placed c.next.new.self.rest.items bs) is.blocks ∙ (ap (λ (ms : List Made). placed ms c.loop-one.blocks) (sym step.0) ∙ before.blocks);
    }
