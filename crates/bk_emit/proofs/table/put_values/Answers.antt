use Rattle.bk_emit.specs.Tables.{look}
use Rattle.bk_emit.proofs.Entries.{put_one, all_rest, all_entries}
use Rattle.bk_emit.proofs.table.put_values.Goals as goal

pub loop-value-preserved : goal.loop-value-preserved
loop-value-preserved c =
    put_one c.args.values.now c.loop-value.value-index c.value-item.result c.args.keys.now c.loop-value.rest.now c.left_by-rest.result.now c.handle_of-handle.result (look c.args.entries.now) (look c.loop-value.entries) (look c.put_first.new.entries) c.loop-value-test.true c.value-item.is
    c.handle_of-handle.ensures c.left_by-rest.ensures c.in_ok-put_first.ensures c.loop-value.invariant

pub returns-clause-entries : goal.returns-clause-entries
returns-clause-entries c =
    all_entries c.args.values.now c.loop-value.value-index c.args.keys.now c.loop-value.rest.now (look c.args.entries.now) (look c.loop-value.entries) c.loop-value-test.false c.loop-value.invariant

pub returns-clause-rest : goal.returns-clause-rest
returns-clause-rest c =
    all_rest c.args.values.now c.loop-value.value-index c.args.keys.now c.loop-value.rest.now (look c.args.entries.now) (look c.loop-value.entries) c.loop-value-test.false c.loop-value.invariant
