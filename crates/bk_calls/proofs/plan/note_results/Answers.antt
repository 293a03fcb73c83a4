use Rattle.std.proofs.Common.{arith}
use Rattle.std.specs.BTreeMap.{get}
use Rattle.bk_func.specs.Records.{ValueRecord}
use Rattle.bk_calls.specs.Areas.{is_key}
use Rattle.bk_calls.specs.Chains.{result_key}
use Rattle.bk_calls.specs.Plans.{pair_cmp}
use Rattle.bk_callees.proofs.Found.{found_more}
use Rattle.bk_calls.proofs.plan.note_results.Goals as goal

pub loop-value-preserved : goal.loop-value-preserved
loop-value-preserved c = λ k.
    found_more (λ (v : ValueRecord). v.id) (λ (v : ValueRecord). is_key (result_key c.args.registers v) k) c.args.values.now c.loop-value.value-index
    c.value-item.result (get pair_cmp c.args.map.now k) (get pair_cmp c.loop-value.map k) (get pair_cmp c.note_result.new.map k) (omega arith) c.value-item.is
    (c.loop-value.invariant k) (c.in_ok-note_result.ensures k)
