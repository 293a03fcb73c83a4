-- Parts of trees that many families share.
use Rattle.std.specs.Prelude.{ℕ, [], ◌∷◌, Some, None}
use Rattle.bk_ops.specs.declared.types.Ty.TheVariants as ty
use Rattle.bk_ops.specs.declared.family.Family.{Family}
use Rattle.bk_ops.specs.declared.family.Family.TheVariants as op'
use Rattle.bk_rule.specs.declared.trees.Pattern.{Pattern, roll-Pattern}
use Rattle.bk_rule.specs.declared.trees.Pattern.TheOpen.{Pattern-F}
use Rattle.bk_rule.specs.declared.trees.Build.{Build, roll-Build}
use Rattle.bk_rule.specs.declared.trees.Build.TheOpen.{Build-F}
use Rattle.bk_rule.specs.declared.trees.TyPart.TheVariants as ty_part
use Rattle.bk_rule.specs.declared.trees.Expr.{Expr}
use Rattle.bk_rule.specs.Trees.{op, var, node, named, make, make_with}

-- the halves of what a variable names
abbrev pub high : ℕ → Build
high i = make (op op'.Int64Hi 64 0) (named i ∷ [])

abbrev pub low : ℕ → Build
low i = make (op op'.Int64Lo 64 0) (named i ∷ [])

-- the number of 64 bits with these halves
abbrev pub pair : Build → Build → Build
pair h l = make (op op'.Int64Make 64 0) (h ∷ l ∷ [])

-- (f x), an op without a width in its name
abbrev pub plain : Family → Build → Build
plain f x = make (op f 0 0) (x ∷ [])

-- (f32 x y)
abbrev pub word : Family → Build → Build → Build
word f x y = make (op f 32 0) (x ∷ y ∷ [])

-- (Const32 [e])
abbrev pub constant_at : Expr → Build
constant_at e = make_with (op op'.Const 32 0) e []

-- (fax32 x y), a shift of a bits
abbrev pub shift : Family → ℕ → Build → Build → Build
shift f a x y = make (op f a 32) (x ∷ y ∷ [])

-- (f64 x y) of a left tree
abbrev pub whole : Family → Pattern
whole f = node (op f 64 0) (var 0 ∷ var 1 ∷ [])

-- (CondSelect <t> x y c) of a left tree, t the first variable
abbrev pub chosen : Pattern
chosen = roll-Pattern (Pattern-F.Node None (op op'.CondSelect 0 0) (Some 0) None None (var 1 ∷ var 2 ∷ var 3 ∷ []))

-- (CondSelect <uint32> x y c), c the fourth variable
abbrev pub choice : Build → Build → Build
choice x y = roll-Build (Build-F.Node (op op'.CondSelect 0 0) (Some (ty_part.Is ty.Uint32)) None None (x ∷ y ∷ named 3 ∷ []))
