use Rattle.std.proofs.Common.{ap, ◌∙◌, arith}
use Rattle.bk_func.specs.Records.{ValueRecord}
use Rattle.bk_rewrite.proofs.Standings.{not_here, nowhere}
use Rattle.bk_rewrite.proofs.spots.place_in.Goals as goal

pub loop-place-preserved : goal.loop-place-preserved
loop-place-preserved c =
    not_here c.args.values.now c.args.id c.loop-place.place c.index-values-place.result c.index-values-place.is
    (λ q. c.if-value-id.false (ap (λ (v : ValueRecord). v.id) c.value.view_is ∙ q)) c.loop-place.invariant

pub returns : goal.returns
returns c = nowhere c.args.values.now c.args.id c.loop-place.place (omega arith) c.loop-place.invariant
