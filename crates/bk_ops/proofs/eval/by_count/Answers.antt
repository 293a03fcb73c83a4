use Rattle.std.proofs.Common.{arith, w64}
use Rattle.std.proofs.lemmas.Int.{to_z-of_z}
use Rattle.bk_ops.proofs.Answered.{answered, empty, single, pair, triple, quadruple}
use Rattle.bk_ops.proofs.eval.by_count.Goals as goal

pub returns-in-empty : goal.returns-in-empty
returns-in-empty c = answered c.args.op c.args.int _ c.args.target c.args.args.now _ _ (to_z-of_z w64 c.args.int c.ranges.int) (empty c.args.args.now (omega arith)) c.nullary.ensures

pub returns-in-len1 : goal.returns-in-len1
returns-in-len1 c = answered c.args.op c.args.int _ c.args.target c.args.args.now _ _ (to_z-of_z w64 c.args.int c.ranges.int) (single c.args.args.now (omega arith) (omega arith)) c.unary.ensures

pub returns-in-len2 : goal.returns-in-len2
returns-in-len2 c = answered c.args.op c.args.int _ c.args.target c.args.args.now _ _ (to_z-of_z w64 c.args.int c.ranges.int) (pair c.args.args.now (omega arith) (omega arith)) c.binary.ensures

pub returns-in-len3 : goal.returns-in-len3
returns-in-len3 c = answered c.args.op c.args.int _ c.args.target c.args.args.now _ _ (to_z-of_z w64 c.args.int c.ranges.int) (triple c.args.args.now (omega arith) (omega arith)) c.ternary.ensures

pub returns-in-len4 : goal.returns-in-len4
returns-in-len4 c = answered c.args.op c.args.int _ c.args.target c.args.args.now _ _ (to_z-of_z w64 c.args.int c.ranges.int) (quadruple c.args.args.now (omega arith) (omega arith)) c.quaternary.ensures
