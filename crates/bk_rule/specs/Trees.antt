-- How the trees of rules are written in definitions. Variables are numbers.
use Rattle.std.specs.Prelude.{ℕ, List, [], Some, None, ℤ}
use Rattle.bk_ops.specs.declared.family.Family.{Family}
use Rattle.bk_ops.specs.declared.table.Op.{Op}
use Rattle.bk_rule.specs.declared.trees.IntPart.TheVariants as part
use Rattle.bk_rule.specs.declared.trees.Pattern.{Pattern, roll-Pattern}
use Rattle.bk_rule.specs.declared.trees.Pattern.TheOpen.{Pattern-F}
use Rattle.bk_rule.specs.declared.trees.Build.{Build, roll-Build}
use Rattle.bk_rule.specs.declared.trees.Build.TheOpen.{Build-F}
use Rattle.bk_rule.specs.declared.trees.Expr.{Expr, roll-Expr}
use Rattle.bk_rule.specs.declared.trees.Expr.TheOpen.{Expr-F}
use Rattle.bk_rule.specs.declared.trees.Fun.{Fun}
use Rattle.bk_rule.specs.declared.trees.Rule.{Rule}

abbrev pub op : Family → ℕ → ℕ → Op
op f a b = record { family = f; a = a; b = b }

-- ---- left trees
-- `_`
abbrev pub any : Pattern
any = roll-Pattern Pattern-F.Any

-- a variable
abbrev pub var : ℕ → Pattern
var i = roll-Pattern (Pattern-F.Var i)

-- (o args)
abbrev pub node : Op → List Pattern → Pattern
node o args = roll-Pattern (Pattern-F.Node None o None None None args)

-- (o [c] args), c a variable
abbrev pub node_with : Op → ℕ → List Pattern → Pattern
node_with o c args = roll-Pattern (Pattern-F.Node None o None (Some (part.Var c)) None args)

-- (o [k] args), k a number
abbrev pub node_at : Op → ℤ → List Pattern → Pattern
node_at o k args = roll-Pattern (Pattern-F.Node None o None (Some (part.Number k)) None args)

-- ---- right trees
-- what a variable names
abbrev pub named : ℕ → Build
named i = roll-Build (Build-F.Var i)

-- (o args)
abbrev pub make : Op → List Build → Build
make o args = roll-Build (Build-F.Node o None None None args)

-- (o [e] args)
abbrev pub make_with : Op → Expr → List Build → Build
make_with o e args = roll-Build (Build-F.Node o None (Some e) None args)

-- ---- expressions
abbrev pub number : ℤ → Expr
number k = roll-Expr (Expr-F.Number k)

-- what a variable names
abbrev pub held : ℕ → Expr
held i = roll-Expr (Expr-F.Var i)

abbrev pub call : Fun → List Expr → Expr
call f args = roll-Expr (Expr-F.Call f args)

-- ---- rules
-- left => right
abbrev pub rule : Pattern → Build → Rule
rule l r = record { left = l; conds = []; right = r }

-- left && conds => right
abbrev pub rule_if : Pattern → List Expr → Build → Rule
rule_if l cs r = record { left = l; conds = cs; right = r }
