use Rattle.std.proofs.Common.{◌∙◌, ap}
use Rattle.bk_func.specs.Records.{BlockRecord}
use Rattle.bk_emit.specs.Tables.{look}
use Rattle.bk_emit.proofs.Entries.{put_block, blocks_rest, blocks_entries}
use Rattle.bk_emit.proofs.table.put_blocks.Goals as goal

pub loop-block-preserved : goal.loop-block-preserved
loop-block-preserved c =
    put_block c.args.blocks.now c.loop-block.block-index c.block-item.result c.deref.result.now c.args.keys.now c.loop-block.rest.now c.in_ok-rest.rest.now (look c.args.entries.now) (look c.loop-block.entries) (look c.put_values.new.entries) c.loop-block-test.true c.block-item.is
    (c.deref.ensures.value ∙ ap (λ (b : BlockRecord). b.values) c.block.view_is) c.in_ok-rest.ensures.rest c.in_ok-rest.ensures.entries c.loop-block.invariant

pub returns-clause-entries : goal.returns-clause-entries
returns-clause-entries c =
    blocks_entries c.args.blocks.now c.loop-block.block-index c.args.keys.now c.loop-block.rest.now (look c.args.entries.now) (look c.loop-block.entries) c.loop-block-test.false c.loop-block.invariant

pub returns-clause-rest : goal.returns-clause-rest
returns-clause-rest c =
    blocks_rest c.args.blocks.now c.loop-block.block-index c.args.keys.now c.loop-block.rest.now (look c.args.entries.now) (look c.loop-block.entries) c.loop-block-test.false c.loop-block.invariant
