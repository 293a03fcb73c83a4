use Rattle.std.proofs.Common.{◌≡◌, ◌∙◌, ◌^◌, ◌<◌, ap, length, false, arith, rules}
use Rattle.bk_rule_text.specs.Layout.{rules_text}
use Rattle.bk_rule_text.specs.Texts.{rules_of}
use Rattle.bk_rule_text.proofs.PrintedTexts.{read_again}
use Rattle.bk_rule_text.proofs.printer.print_rules.Goals as goal

pub returns-clause-again : goal.returns-clause-again
returns-clause-again c =
    λ extra bytes e.
    let t : c.into_bytes.result.items ≡ rules_text c.args.rules.now = search rules in
    let same_length = ap length t in
    let counted = c.into_bytes.result.ok in
    let small = c.into_bytes.result.small in
    let short : length (rules_text c.args.rules.now) < 2 ^ 64 = omega arith in
    ap (rules_of false) t ∙ read_again extra bytes c.args.rules.now short e
