-- What has to unfold, so that a tree that is written out computes.
use denote.Hole.Carrier.{roll, hidden}
use Rattle.bk_rule.specs.declared.trees.Pattern.{roll-Pattern}
use Rattle.bk_rule.specs.declared.trees.Pattern.TheBlock.{hidden-the_row-Pattern-0}
use Rattle.bk_rule.specs.declared.trees.Build.{roll-Build}
use Rattle.bk_rule.specs.declared.trees.Build.TheBlock.{hidden-the_row-Build-0}
use Rattle.bk_rule.specs.declared.trees.Expr.{roll-Expr}
use Rattle.bk_rule.specs.declared.trees.Expr.TheBlock.{hidden-the_row-Expr-0}

unfoldable pub opened : Unit {0}
unfolding roll hidden roll-Pattern hidden-the_row-Pattern-0 roll-Build hidden-the_row-Build-0 roll-Expr hidden-the_row-Expr-0
opened = tt
