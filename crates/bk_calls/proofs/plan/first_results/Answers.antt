use Rattle.std.proofs.Common.{◌∙◌, ap, List, option_map, arith}
use Rattle.std.specs.BTreeMap.{get}
use Rattle.std.specs.Option.{option_or}
use Rattle.bk_func.specs.Records.{ValueRecord, BlockRecord}
use Rattle.bk_calls.specs.Areas.{is_key, result_named}
use Rattle.bk_calls.specs.Chains.{result_key}
use Rattle.bk_calls.specs.Plans.{pair_cmp}
use Rattle.bk_callees.proofs.Found.{found_in_more}
use Rattle.bk_calls.proofs.plan.first_results.Goals as goal

pub loop-block-preserved : goal.loop-block-preserved
loop-block-preserved c = λ k.
    let old = get pair_cmp c.loop-block.firsts k in
    found_in_more (λ (v : ValueRecord). v.id) (λ (v : ValueRecord). is_key (result_key c.args.registers v) k) (λ (b : BlockRecord). b.values)
    c.args.blocks.now c.loop-block.block-index c.block-item.result old (get pair_cmp c.note_results.new.map k) (omega arith) c.block-item.is
    (c.loop-block.invariant k)
    (c.in_ok-note_results.ensures k ∙ ap (λ (vs : List ValueRecord). option_or old (option_map (λ (v : ValueRecord). v.id) (result_named c.args.registers vs k)))
    (c.deref.ensures.value ∙ ap (λ (b : BlockRecord). b.values) c.block.view_is))
