use Rattle.std.proofs.Common.{◌<◌, length, arith}
use Rattle.std.proofs.lemmas.Option.{slice_get_within}
use Rattle.bk_graph.proofs.Joining.{agrees_more}
use Rattle.bk_graph.proofs.joined.agree.Goals as goal

pub loop-place-preserved : goal.loop-place-preserved
loop-place-preserved c = λ p b below there.
    agrees_more c.args.blocks.now c.loop-place.place p c.index-blocks-place.result b c.loop-place.invariant c.loop-place-test.true c.index-blocks-place.is
    (c.agrees.ensures c.if-not-agrees.false) below there

pub returns : goal.returns
returns c = λ t p b there.
    c.loop-place.invariant p b (let l : p < length c.args.blocks.now = slice_get_within c.args.blocks.now p b there in omega (arith, c.loop-place-test.false)) there
