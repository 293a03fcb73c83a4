use Rattle.std.proofs.Common.{◌∙◌, ap, ◌==◌, ◌&&◌, List, option_map, arith}
use Rattle.std.specs.BTreeMap.{get}
use Rattle.std.specs.Option.{option_or}
use Rattle.std.specs.Ordering.{nat_cmp}
use Rattle.bk_func.specs.Records.{ValueRecord, BlockRecord}
use Rattle.bk_calls.specs.Areas.{result_word, call_named}
use Rattle.bk_calls.specs.Chains.{role, is_call}
use Rattle.bk_callees.proofs.Found.{found_in_more}
use Rattle.bk_calls.proofs.plan.result_words.Goals as goal

pub loop-block-preserved : goal.loop-block-preserved
loop-block-preserved c = λ n.
    let word = result_word c.args.pkg.now c.args.target in
    found_in_more word (λ (v : ValueRecord). is_call (role v) && v.id == n) (λ (b : BlockRecord). b.values) c.args.blocks.now c.loop-block.block-index
    c.block-item.result (get nat_cmp c.loop-block.words n) (get nat_cmp c.note_calls.new.map n) (omega arith) c.block-item.is (c.loop-block.invariant n)
    (c.in_ok-note_calls.ensures n ∙ ap (λ (vs : List ValueRecord). option_or (get nat_cmp c.loop-block.words n) (option_map word (call_named vs n)))
    (c.deref.ensures.value ∙ ap (λ (b : BlockRecord). b.values) c.block.view_is))
