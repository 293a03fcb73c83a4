use Rattle.std.proofs.Common.{◌==◌, ◌&&◌, arith}
use Rattle.std.specs.BTreeMap.{get}
use Rattle.std.specs.Ordering.{nat_cmp}
use Rattle.bk_func.specs.Records.{ValueRecord}
use Rattle.bk_calls.specs.Areas.{result_word}
use Rattle.bk_calls.specs.Chains.{role, is_call}
use Rattle.bk_callees.proofs.Found.{found_more}
use Rattle.bk_calls.proofs.plan.note_calls.Goals as goal

pub loop-value-preserved : goal.loop-value-preserved
loop-value-preserved c = λ n.
    found_more (result_word c.args.pkg.now c.args.target) (λ (v : ValueRecord). is_call (role v) && v.id == n) c.args.values.now c.loop-value.value-index
    c.value-item.result (get nat_cmp c.args.map.now n) (get nat_cmp c.loop-value.map n) (get nat_cmp c.note_call.new.map n) (omega arith) c.value-item.is
    (c.loop-value.invariant n) (c.in_ok-note_call.ensures n)
