use Rattle.std.proofs.Common.{arith}
use Rattle.bk_dump.proofs.Pairs.{pairs_goes_on, pairs_ends}
use Rattle.bk_dump.proofs.read.declare.pairs.Goals as goal

pub loop-pair-preserved : goal.loop-pair-preserved
loop-pair-preserved c =
    pairs_goes_on c.args.hex.now c.loop-pair.pair c.hex_value.result c.hex_value-in-loop-pair.result c.loop-pair.bytes.items c.push.new.self.items _ (omega arith) c.hex_value.ensures.value c.hex_value-in-loop-pair.ensures.value c.in_ok-push.ensures.items c.loop-pair.invariant

pub returns : goal.returns
returns c = pairs_ends c.args.hex.now c.loop-pair.pair c.loop-pair.bytes.items _ (omega arith) c.loop-pair.invariant
