use Rattle.std.proofs.Common.{◌∙◌, ap, ◌||◌, false, get_or, arith}
use Rattle.std.specs.List.{list_any}
use Rattle.bk_func.specs.Records.{BlockRecord}
use Rattle.bk_calls.specs.Arguments.{names}
use Rattle.bk_calls.proofs.Entry.{any_more}
use Rattle.bk_calls.proofs.arguments.named_places.Goals as goal

pub loop-block-preserved : goal.loop-block-preserved
loop-block-preserved c =
    let before = c.loop-block.invariant in
    let noted = c.note_names.ensures in
    record {
      len = noted.len ∙ before.len;
      named = λ i l. any_more (λ (b : BlockRecord). list_any (names i) b.values) c.args.blocks.now c.loop-block.block-index c.block-item.result false
          (get_or c.loop-block.named.items i false) (get_or c.note_names.new.named.items i false) (omega arith) c.block-item.is (before.named i l)
          (noted.named i (omega (arith, l, before.len)) ∙ ap (λ vs. get_or c.loop-block.named.items i false || list_any (names i) vs)
          (c.deref.ensures.value ∙ ap (λ (b : BlockRecord). b.values) c.block.view_is));
    }
