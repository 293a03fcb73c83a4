-- The variables of the generic rules are numbered in order.
use Rattle.std.proofs.Common.{refl}
use Rattle.bk_rule.proofs.Opened.{opened}
use Rattle.bk_rules_generic.specs.Lines.{family, pairs, rules_of, arithmetic, bits, comparisons, conversions, generic_list}
use Rattle.bk_rewrite_laws.specs.Numbered.{RulesNumbered}
use Rattle.bk_rewrite_laws.proofs.Deciding.{rules_numbered}

pub generic_numbered : RulesNumbered generic_list
unfolding opened family pairs rules_of arithmetic bits comparisons conversions generic_list
generic_numbered = rules_numbered generic_list refl
