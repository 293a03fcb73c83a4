use Rattle.std.proofs.Common.{arith}
use Rattle.bk_rule_text.proofs.GroupLoops.{one_more_expanded, all_expanded}
use Rattle.bk_rule_text.proofs.read.group.expanded.Goals as goal

pub loop-bit-preserved : goal.loop-bit-preserved
loop-bit-preserved c =
    let l = c.loop-bit in
    one_more_expanded c.args.bits.now l.bit-index c.args.place c.bit-item.result l.text.items c.write_bit.new.text.items _ l.invariant (omega arith) c.bit-item.is c.in_ok-write_bit.ensures

pub returns : goal.returns
returns c =
    let l = c.loop-bit in
    all_expanded c.args.bits.now l.bit-index c.args.place l.text.items _ l.invariant (omega arith)
