use Rattle.std.proofs.Common.{◌≡◌, ◌∙◌, ap, sym, map, length, arith, rules}
use Rattle.bk_rule_text.specs.Views.{bit_of}
use Rattle.bk_rule_text.proofs.GroupLoops.{group_is_first, byte_is_passed, no_group}
use Rattle.bk_rule_text.proofs.Keys.{length_map}
use Rattle.bk_rule_text.proofs.read.group.first_count.Goals as goal

pub returns-in-Group : goal.returns-in-Group
returns-in-Group c =
    (let e : c.len.result ≡ length c.in-Group.parts.items = search rules in e) ∙ sym (length_map (λ part. part.now) c.in-Group.parts.items) ∙ group_is_first c.args.bits.now c.loop-bit.bit-index c.bit-item.result (map (λ part. part.now) c.in-Group.parts.items) _ c.loop-bit.invariant (omega arith) c.bit-item.is (ap bit_of c.in-Group.is)

pub loop-bit-preserved : goal.loop-bit-preserved
loop-bit-preserved c = byte_is_passed c.args.bits.now c.loop-bit.bit-index c.bit-item.result c.in_default.field-0 _ c.loop-bit.invariant (omega arith) c.bit-item.is (ap bit_of c.in_default.is)

pub returns : goal.returns
returns c = no_group c.args.bits.now c.loop-bit.bit-index _ c.loop-bit.invariant (omega arith)
