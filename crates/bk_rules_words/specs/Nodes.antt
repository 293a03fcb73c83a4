-- Parts of trees that many families share.
use Rattle.std.specs.Prelude.{ℕ, List, [], ◌∷◌, Some, None, ℤ, pos}
use Rattle.bk_ops.specs.declared.family.Family.{Family}
use Rattle.bk_ops.specs.declared.table.Op.{Op}
use Rattle.bk_rule.specs.declared.trees.Pattern.{Pattern, roll-Pattern}
use Rattle.bk_rule.specs.declared.trees.Pattern.TheOpen.{Pattern-F}
use Rattle.bk_rule.specs.declared.trees.Build.{Build, roll-Build}
use Rattle.bk_rule.specs.declared.trees.Build.TheOpen.{Build-F}
use Rattle.bk_rule.specs.declared.trees.Expr.{Expr}
use Rattle.bk_rule.specs.declared.trees.Fun.TheVariants as fun
use Rattle.bk_rule.specs.Trees.{op, make, make_with, number, held, call}
use Rattle.bk_rules_words.specs.declared.lines.Fits.{Fits}
use Rattle.bk_rules_words.specs.declared.lines.Fits.TheVariants.{Is12, ArmImm, Below, FromOne}

-- the op without a width in its name
abbrev pub machine : Family → Op
machine m = op m 0 0

-- (m args)
abbrev pub unit : Family → List Build → Build
unit m args = make (machine m) args

-- (m [n] x)
abbrev pub unit_at : Family → ℤ → Build → Build
unit_at m n x = make_with (machine m) (number n) (x ∷ [])

-- (k [e])
abbrev pub constant_at : Family → Expr → Build
constant_at k e = make_with (machine k) e []

-- (ewtov x), e an extension
abbrev pub wide : Family → ℕ → ℕ → Build → Build
wide e w v x = make (op e w v) (x ∷ [])

-- (o {s} args) of a left tree, s a variable
abbrev pub node_beside : Op → ℕ → List Pattern → Pattern
node_beside o s args = roll-Pattern (Pattern-F.Node None o None None (Some s) args)

-- (o <t> args) of a left tree, t a variable
abbrev pub node_typed : Op → ℕ → List Pattern → Pattern
node_typed o t args = roll-Pattern (Pattern-F.Node None o (Some t) None None args)

-- (o {s} args) of a right tree, s a variable
abbrev pub make_beside : Op → ℕ → List Build → Build
make_beside o s args = roll-Build (Build-F.Node o None None (Some s) args)

-- the sum of two variables
abbrev pub sum : ℕ → ℕ → Expr
sum i j = call fun.Add (held i ∷ held j ∷ [])

-- that a number fits
abbrev pub condition : Fits → Expr → Expr
condition Is12 e = call fun.Is12 (e ∷ [])
condition ArmImm e = call fun.ArmImm (e ∷ [])
condition (Below n) e = call fun.Ult (e ∷ number n ∷ [])
condition (FromOne n) e = call fun.Ult (call fun.Sub (e ∷ number (pos 1) ∷ []) ∷ number n ∷ [])
