-- What `rules` tells: the lists of rewrite rules, each under its name.
use Rattle.std.specs.Prelude.{ℕ, List, ◌++◌, codes}
use Rattle.bk_rule.specs.declared.trees.Rule.{Rule}
use Rattle.bk_rule_text.specs.Layout.{rules_text}
use Rattle.bk_rules_arm.specs.Lines.{arm_list}
use Rattle.bk_rules_dec64.specs.Lines.{dec64_list}
use Rattle.bk_rules_generic.specs.Lines.{generic_list}
use Rattle.bk_rules_rv.specs.Lines.{rv_list}

-- a list under its name
abbrev pub under : List ℕ → List Rule → List ℕ
under name rules = name ++ rules_text rules

unfoldable pub listing : List ℕ
listing = ((under (codes "# generic\n") generic_list ++ under (codes "# dec64\n") dec64_list) ++ under (codes "# arm\n") arm_list) ++ under (codes "# riscv64\n") rv_list
