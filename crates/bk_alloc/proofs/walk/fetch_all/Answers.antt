use Rattle.std.proofs.Common.{arith}
use Rattle.bk_alloc.specs.Ahead.{uses_from}
use Rattle.bk_alloc.specs.Seen.{seen}
use Rattle.bk_alloc.proofs.Loops.{fetch_more, loads_end, with_end}
use Rattle.bk_alloc.proofs.walk.fetch_all.Goals as goal

pub loop-value-preserved : goal.loop-value-preserved
loop-value-preserved c =
    fetch_more (uses_from c.args.ahead.now) c.args.values.now c.args.values.now c.loop-value.value-index c.loop-value.registers c.fetch.new.registers _ (seen c.loop-value.acts.items) _ _ (omega arith)
    c.in_ok-fetch.ensures.registers c.in_ok-fetch.ensures.acts c.loop-value.invariant

pub returns-clause-registers : goal.returns-clause-registers
returns-clause-registers c =
    with_end (uses_from c.args.ahead.now) c.args.values.now c.args.values.now c.loop-value.value-index c.loop-value.registers _ (omega arith) c.loop-value.invariant.registers

pub returns-clause-acts : goal.returns-clause-acts
returns-clause-acts c =
    loads_end (uses_from c.args.ahead.now) c.args.values.now c.args.values.now c.loop-value.value-index c.loop-value.registers _ _ (omega arith) c.loop-value.invariant.acts
