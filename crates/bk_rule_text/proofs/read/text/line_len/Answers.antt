use Rattle.std.proofs.Common.{rules, sym, arith}
use Rattle.std.specs.Prelude.{not}
use Rattle.std.proofs.lemmas.List.Sums.{prefix_len_is}
use Rattle.std.proofs.lemmas.Bool.Decides.{nat_tests}
use Rattle.std.proofs.lemmas.Grind.{common_steps}
use Rattle.bk_rule_text.specs.Texts.{is_lf}
use Rattle.bk_rule_text.proofs.read.text.line_len.Goals as goal

pub returns-clause-value : goal.returns-clause-value
returns-clause-value c = sym (prefix_len_is (λ b. not (is_lf b)) c.args.text.now c.unwrap_or.result 0 (search rules) (λ k h. grind (arith, nat_tests, common_steps)) (λ h. grind (arith, nat_tests, common_steps)))
