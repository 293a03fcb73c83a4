use Rattle.std.proofs.Common.{List, ap, sym, subst, ◌∙◌, arith}
use Rattle.bk_func.specs.Records.{ValueRecord, BlockRecord}
use Rattle.bk_rewrite.specs.Places.{StandsAmong}
use Rattle.bk_rewrite.proofs.Standings.{not_in_this, in_none}
use Rattle.bk_rewrite.proofs.spots.search.Goals as goal

pub loop-block-preserved : goal.loop-block-preserved
loop-block-preserved c =
    not_in_this c.args.blocks.now c.args.id c.loop-block.block c.index-blocks-block.result (omega arith) c.index-blocks-block.is
    (λ p s. c.in_default.ensures p (subst (λ (vs : List ValueRecord). StandsAmong vs c.args.id p) (sym (c.deref.ensures.value ∙ ap (λ (b : BlockRecord). b.values) c.each.view_is)) s))
    c.loop-block.invariant

pub returns : goal.returns
returns c = in_none c.args.blocks.now c.args.id c.loop-block.block (omega arith) c.loop-block.invariant
