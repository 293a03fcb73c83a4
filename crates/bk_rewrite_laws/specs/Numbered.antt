-- Rules whose variables are numbered in the order in which they come.
use Rattle.std.specs.Prelude.{List, All}
use Rattle.bk_rule.specs.declared.trees.Rule.{Rule}
use Rattle.bk_rewrite.specs.First.{IsNumbered}

abbrev pub IsRuleNumbered : Rule → Type 0
IsRuleNumbered r = IsNumbered 0 r.left

abbrev pub RulesNumbered : List Rule → Type 0
RulesNumbered rules = All IsRuleNumbered rules
