use Rattle.std.proofs.Common.{◌∙◌, ap, arith, rules, Vec, Global}
use Rattle.bk_rule.specs.declared.trees.Rule.{Rule}
use Rattle.bk_rule_text.specs.Texts.{lines, at_line, followed, rules_of_line, rules_of_lines, rules_of}
use Rattle.bk_rule_text.proofs.Cuts.{nothing_before, one_line_read, line_at_fault, all_lines_read}
use Rattle.bk_rule_text.proofs.Reading.{failed}
use Rattle.bk_rule_text.proofs.read.text.read_rules.Goals as goal

pub loop-rest-init : goal.loop-rest-init
unfolding rules_of
loop-rest-init c = record {
  read = ap (λ xs. followed xs (rules_of_lines c.args.extra 1 (lines c.args.bytes.now))) c.new-rules.ensures.items ∙ nothing_before (rules_of_lines c.args.extra 1 (lines c.args.bytes.now));
  counted = omega arith;
}

pub returns-in_err-more : goal.returns-in_err-more
returns-in_err-more c =
    let l = c.loop-rest in
    let line = c.split_line.result.0.now in
    let next = c.split_line.result.1.now in
    failed {W = Vec Rule Global} (λ rules. rules.items) (λ rules. rules.items) c.from_residual.result c.in_err-more.field-0.0 (at_line l.number (rules_of_line c.args.extra line)) _ c.from_residual.ensures.1 c.in_err-more.ensures
    (λ f e. line_at_fault c.args.extra l.number (lines l.rest.now) line (lines next) l.rules.items f _ l.invariant.read c.split_line.ensures.split e)

pub loop-rest-preserved : goal.loop-rest-preserved
loop-rest-preserved c =
    let l = c.loop-rest in
    let line = c.split_line.result.0.now in
    let next = c.split_line.result.1.now in
    record {
      read = one_line_read c.args.extra l.number (lines l.rest.now) line (lines next) l.rules.items c.in_ok-more.more.items c.append.new.self.items _ l.invariant.read c.split_line.ensures.split c.in_ok-more.ensures c.in_ok-append.ensures.items;
      counted = omega (arith, c.split_line.ensures.shorter);
    }

pub returns : goal.returns
returns c =
    let l = c.loop-rest in
    all_lines_read c.args.extra l.number l.rules.items l.rest.now _ l.invariant.read (search rules)
