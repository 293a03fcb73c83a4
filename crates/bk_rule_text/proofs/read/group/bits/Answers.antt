use Rattle.std.proofs.Common.{◌∙◌, ◌+◌, ◌-◌, ◌++◌, [], ◌∷◌, ap, refl, map, length, arith}
use Rattle.bk_rule_text.specs.Groups.{group_at, bits, bits_at}
use Rattle.bk_rule_text.specs.Views.{bit_of}
use Rattle.bk_rule_text.proofs.GroupLoops.{bits_done, bits_end, one_bit_more, pushed}
use Rattle.bk_rule_text.proofs.read.group.bits.Goals as goal

pub returns-in_default : goal.returns-in_default
unfolding bits
returns-in_default c =
    let l = c.loop-turn in
    bits_done (length c.args.line.now - l.turn) (map bit_of l.bits.items) l.rest.now _ l.invariant c.in_default.ensures.cases

pub loop-turn-preserved : goal.loop-turn-preserved
loop-turn-preserved c =
    let l = c.loop-turn in
    let n = length c.args.line.now in
    ap (λ t. map bit_of c.push.new.self.items ++ bits_at (n - (l.turn + 1)) t) (ap (λ x. x.1) c.in_ok-bit.ensures)
    ∙ one_bit_more n l.turn (map bit_of l.bits.items) (map bit_of c.push.new.self.items) l.rest.now c.in-Some.first.now c.in-Some.behind.now (group_at l.rest.now) _ l.invariant (omega arith) c.in-Some.ensures.cases.0 refl
    (pushed bit_of l.bits.items c.push.new.self.items c.in_ok-bit.bit c.in_ok-push.ensures.items ∙ ap (λ b. map bit_of l.bits.items ++ b ∷ []) (ap (λ x. x.0) c.in_ok-bit.ensures))

pub returns : goal.returns
unfolding bits
returns c =
    let l = c.loop-turn in
    bits_end (length c.args.line.now) l.turn (map bit_of l.bits.items) l.rest.now _ l.invariant (omega arith)
