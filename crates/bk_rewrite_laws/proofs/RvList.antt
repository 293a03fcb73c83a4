-- The variables of the rules of rv are numbered in order.
use Rattle.std.proofs.Common.{refl}
use Rattle.bk_rule.proofs.Opened.{opened}
use Rattle.bk_rules_words.specs.Lines as words
use Rattle.bk_rules_rv.specs.Lines.{arithmetic, shifts, comparisons, conversions, accesses, immediates, rv_list}
use Rattle.bk_rewrite_laws.specs.Numbered.{RulesNumbered}
use Rattle.bk_rewrite_laws.proofs.Deciding.{rules_numbered}

pub rv_numbered : RulesNumbered rv_list
unfolding opened words.family words.pairs words.rules_of arithmetic shifts comparisons conversions accesses immediates rv_list
rv_numbered = rules_numbered rv_list refl
