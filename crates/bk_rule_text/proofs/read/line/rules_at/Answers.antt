use Rattle.std.proofs.Common.{◌∙◌, ap, sym, map, arith}
use Rattle.bk_rule.specs.declared.trees.Rule.{Rule}
use Rattle.bk_rule_text.specs.Rules.{rule_at}
use Rattle.bk_rule_text.specs.Views.{bit_of}
use Rattle.bk_rule_text.proofs.LineLoops.{rule_fails, rules_go_on, rules_end}
use Rattle.bk_rule_text.proofs.Reading.{erred}
use Rattle.bk_rule_text.proofs.read.line.rules_at.Goals as goal

pub returns-in_err-one : goal.returns-in_err-one
returns-in_err-one c =
    let l = c.loop-place in
    erred {W = Rule} (λ rules. rules.items) (λ rule. rule) c.from_residual-in_err-one.result c.in_err-one.field-0.0 (rule_at c.deref.result.now) _ c.from_residual-in_err-one.ensures.1 c.in_err-one.ensures
    (λ n. rule_fails (map bit_of c.args.bits.now) c.args.count l.place l.rules.items _ l.invariant (omega arith) (ap rule_at (sym (c.deref.ensures.value ∙ c.in_ok-text.ensures)) ∙ n))

pub loop-place-preserved : goal.loop-place-preserved
loop-place-preserved c =
    let l = c.loop-place in
    rules_go_on (map bit_of c.args.bits.now) c.args.count l.place l.rules.items c.push.new.self.items c.in_ok-one.one _ l.invariant (omega arith) (ap rule_at (sym (c.deref.ensures.value ∙ c.in_ok-text.ensures)) ∙ c.in_ok-one.ensures) c.in_ok-push.ensures.items

pub returns : goal.returns
returns c =
    let l = c.loop-place in
    rules_end (map bit_of c.args.bits.now) c.args.count l.place l.rules.items _ l.invariant (omega arith)
