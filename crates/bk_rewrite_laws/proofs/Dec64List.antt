-- The variables of the rules that take numbers of 64 bits apart are numbered in order.
use Rattle.std.proofs.Common.{refl}
use Rattle.bk_rule.proofs.Opened.{opened}
use Rattle.bk_rules_dec64.specs.Lines.{family, widths_of, rules_of, arithmetic, comparisons, conversions, shifts, dec64_list}
use Rattle.bk_rewrite_laws.specs.Numbered.{RulesNumbered}
use Rattle.bk_rewrite_laws.proofs.Deciding.{rules_numbered}

pub dec64_numbered : RulesNumbered dec64_list
unfolding opened family widths_of rules_of arithmetic comparisons conversions shifts dec64_list
dec64_numbered = rules_numbered dec64_list refl
