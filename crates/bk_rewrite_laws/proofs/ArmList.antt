-- The variables of the rules of arm are numbered in order.
use Rattle.std.proofs.Common.{refl}
use Rattle.bk_rule.proofs.Opened.{opened}
use Rattle.bk_rules_words.specs.Lines as words
use Rattle.bk_rules_arm.specs.Lines.{arithmetic, shifts, comparisons, conversions, accesses, immediates, arm_list}
use Rattle.bk_rewrite_laws.specs.Numbered.{RulesNumbered}
use Rattle.bk_rewrite_laws.proofs.Deciding.{rules_numbered}

pub arm_numbered : RulesNumbered arm_list
unfolding opened words.family words.pairs words.rules_of arithmetic shifts comparisons conversions accesses immediates arm_list
arm_numbered = rules_numbered arm_list refl
