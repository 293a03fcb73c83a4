use Rattle.std.proofs.Common.{rules, sym, arith}
use Rattle.bk_dump.specs.Words.{is_word_byte}
use Rattle.std.proofs.lemmas.List.Sums.{prefix_len_is}
use Rattle.std.proofs.lemmas.Bool.Decides.{nat_tests}
use Rattle.std.proofs.lemmas.Grind.{common_steps}
use Rattle.bk_dump.proofs.read.name.word_len.Goals as goal

pub returns-clause-value : goal.returns-clause-value
returns-clause-value c = sym (prefix_len_is is_word_byte c.args.text.now c.unwrap_or.result 0 (search rules) (λ k h. grind (arith, nat_tests, common_steps)) (λ h. grind (arith, nat_tests, common_steps)))
