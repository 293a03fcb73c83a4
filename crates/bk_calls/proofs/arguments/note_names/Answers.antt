use Rattle.std.proofs.Common.{◌∙◌, false, get_or, arith}
use Rattle.bk_calls.specs.Arguments.{names}
use Rattle.bk_calls.proofs.Entry.{any_more}
use Rattle.bk_calls.proofs.arguments.note_names.Goals as goal

pub loop-value-preserved : goal.loop-value-preserved
loop-value-preserved c =
    let before = c.loop-value.invariant in
    let noted = c.note_name.ensures in
    record {
      len = noted.len ∙ before.len;
      named = λ i l. any_more (names i) c.args.values.now c.loop-value.value-index c.value-item.result (get_or c.args.named.now.items i false)
          (get_or c.loop-value.named.items i false) (get_or c.note_name.new.named.items i false) (omega arith) c.value-item.is (before.named i l)
          (noted.named i (omega (arith, l, before.len)));
    }
