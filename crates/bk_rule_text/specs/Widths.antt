-- Widths in extra rules.
use Rattle.std.specs.Prelude.{ℕ, ◌+◌, ◌==◌, ◌&&◌, Bool, true, false, not, if◌then◌else◌, List, [], ◌∷◌, ◌++◌, Option, Some, None}
use Rattle.bk_ops.specs.declared.table.Op.{Op}
use Rattle.bk_ops.specs.declared.table.Class.{Class}
use Rattle.bk_ops.specs.declared.table.Class.TheVariants as class
use Rattle.bk_ops.specs.declared.family.Family.{Family}
use Rattle.bk_ops.specs.declared.family.Family.TheVariants as family
use Rattle.bk_ops.specs.declared.types.Ty.{Ty}
use Rattle.bk_ops.specs.declared.types.Ty.TheVariants as ty
use Rattle.bk_ops.specs.declared.types.Target.TheVariants.{Arm, Riscv64}
use Rattle.bk_ops.specs.Table.{info_of}
use Rattle.bk_ops.specs.Types.{width_of}
use Rattle.bk_rule.specs.declared.trees.TyPart.{TyPart}
use Rattle.bk_rule.specs.declared.trees.TyPart.TheVariants as ty_part
use Rattle.bk_rule.specs.declared.trees.Pattern.{Pattern, Row_of-Pattern, end_of-Pattern, more_of-Pattern}
use Rattle.bk_rule.specs.declared.trees.Pattern as pattern
use Rattle.bk_rule.specs.declared.trees.Build.{Build, Row_of-Build, end_of-Build, more_of-Build}
use Rattle.bk_rule.specs.declared.trees.Build as build
use Rattle.bk_rule.specs.declared.trees.Rule.{Rule}
use Rattle.bk_rule_text.specs.Stands.{said, agree, variable_of_type}

-- the families whose widths stand in their names or that are on bool, and that both targets have at this width
unfoldable pub may_be_extra : Family → ℕ → Bool
may_be_extra family.Const a = true
may_be_extra family.ConstBool a = true
may_be_extra family.Add a = true
may_be_extra family.Sub a = true
may_be_extra family.Mul a = true
may_be_extra family.And a = true
may_be_extra family.Or a = true
may_be_extra family.Xor a = true
may_be_extra family.Neg a = true
may_be_extra family.Com a = true
may_be_extra family.Div a = not (a == 64)
may_be_extra family.Divu a = not (a == 64)
may_be_extra family.Mod a = not (a == 64)
may_be_extra family.Modu a = not (a == 64)
may_be_extra family.Hmul a = a == 32
may_be_extra family.Hmulu a = a == 32
may_be_extra family.Lsh a = true
may_be_extra family.Rsh a = true
may_be_extra family.RshU a = true
may_be_extra family.Eq a = true
may_be_extra family.Neq a = true
may_be_extra family.Less a = true
may_be_extra family.LessU a = true
may_be_extra family.Leq a = true
may_be_extra family.LeqU a = true
may_be_extra family.EqB a = true
may_be_extra family.NeqB a = true
may_be_extra family.AndB a = true
may_be_extra family.OrB a = true
may_be_extra family.Not a = true
may_be_extra family.SignExt a = true
may_be_extra family.ZeroExt a = true
may_be_extra family.Trunc a = true
may_be_extra family.CvtBoolToUint8 a = true
may_be_extra _ a = false

-- what the place of an argument takes, by the family of its op and the widths in its name
abbrev pub class_in : Family → ℕ → ℕ → ℕ → Class
class_in family.EqB a b k = class.Bool
class_in family.NeqB a b k = class.Bool
class_in family.AndB a b k = class.Bool
class_in family.OrB a b k = class.Bool
class_in family.Not a b k = class.Bool
class_in family.CvtBoolToUint8 a b k = class.Bool
class_in family.Lsh a b k = if k == 1 then class.Number b else class.Number a
class_in family.Rsh a b k = if k == 1 then class.Number b else class.Number a
class_in family.RshU a b k = if k == 1 then class.Number b else class.Number a
class_in _ a b k = class.Number a

unfoldable pub class_at : Op → ℕ → Class
class_at o k = class_in o.family o.a o.b k

abbrev pub is_bool : Ty → Bool
is_bool ty.Bool = true
is_bool _ = false

-- a type that has on both targets the width of a class
unfoldable pub type_fits : Ty → Class → Bool
type_fits t class.Bool = is_bool t
type_fits t (class.Number bits) = not (is_bool t) && (width_of t Arm == bits && width_of t Riscv64 == bits)
type_fits t _ = false

abbrev pub same_class : Class → Class → Bool
same_class (class.Number a) (class.Number b) = a == b
same_class class.Word class.Word = true
same_class class.Bool class.Bool = true
same_class class.Mem class.Mem = true
same_class class.Void class.Void = true
same_class class.Tuple class.Tuple = true
same_class class.ByType class.ByType = true
same_class _ _ = false

-- an op that an extra rule may have, whose result is of the class that its place takes
unfoldable pub op_fits : Op → Class → Bool
op_fits o c = may_be_extra o.family o.a && same_class (info_of o).result c

abbrev mutual
  -- each op of the tree fits the place where it stands
  pub pattern_fits : Pattern → Class → Bool
  pattern_fits pattern.Any c = true
  pattern_fits (pattern.Var i) c = true
  pattern_fits (pattern.Node' name o ty int aux shape ps) c = op_fits o c && row_fits ps o 0

  pub row_fits : {m : _} → Row_of-Pattern m → Op → ℕ → Bool
  row_fits end_of-Pattern o k = true
  row_fits (more_of-Pattern p ps) o k = pattern_fits p (class_at o k) && row_fits ps o (k + 1)

unfoldable pub patterns_fit : Op → ℕ → List Pattern → Bool
patterns_fit o k [] = true
patterns_fit o k (p ∷ ps) = pattern_fits p (class_at o k) && patterns_fit o (k + 1) ps

abbrev mutual
  -- the classes of the variables of values and types
  pub pattern_classes : Pattern → Class → List (ℕ × Class)
  pattern_classes pattern.Any c = []
  pattern_classes (pattern.Var i) c = (i, c) ∷ []
  pattern_classes (pattern.Node' name o ty int aux shape ps) c = said name c ++ (said ty c ++ row_classes ps o 0)

  pub row_classes : {m : _} → Row_of-Pattern m → Op → ℕ → List (ℕ × Class)
  row_classes end_of-Pattern o k = []
  row_classes (more_of-Pattern p ps) o k = pattern_classes p (class_at o k) ++ row_classes ps o (k + 1)

unfoldable pub patterns_classes : Op → ℕ → List Pattern → List (ℕ × Class)
patterns_classes o k [] = []
patterns_classes o k (p ∷ ps) = pattern_classes p (class_at o k) ++ patterns_classes o (k + 1) ps

abbrev pub type_part_fits : Option TyPart → Class → Bool
type_part_fits None c = true
type_part_fits (Some (ty_part.Is t)) c = type_fits t c
type_part_fits (Some (ty_part.Var i)) c = true

abbrev pub head_fits : Op → Option TyPart → Class → Bool
head_fits o ty c = op_fits o c && type_part_fits ty c

abbrev mutual
  pub build_fits : Build → Class → Bool
  build_fits (build.Var i) c = true
  build_fits (build.Node' o ty int aux shape bs) c = head_fits o ty c && made_row_fits bs o 0

  pub made_row_fits : {m : _} → Row_of-Build m → Op → ℕ → Bool
  made_row_fits end_of-Build o k = true
  made_row_fits (more_of-Build b bs) o k = build_fits b (class_at o k) && made_row_fits bs o (k + 1)

unfoldable pub builds_fit : Op → ℕ → List Build → Bool
builds_fit o k [] = true
builds_fit o k (b ∷ bs) = build_fits b (class_at o k) && builds_fit o (k + 1) bs

abbrev mutual
  pub build_classes : Build → Class → List (ℕ × Class)
  build_classes (build.Var i) c = (i, c) ∷ []
  build_classes (build.Node' o ty int aux shape bs) c = said (variable_of_type ty) c ++ made_row_classes bs o 0

  pub made_row_classes : {m : _} → Row_of-Build m → Op → ℕ → List (ℕ × Class)
  made_row_classes end_of-Build o k = []
  made_row_classes (more_of-Build b bs) o k = build_classes b (class_at o k) ++ made_row_classes bs o (k + 1)

unfoldable pub builds_classes : Op → ℕ → List Build → List (ℕ × Class)
builds_classes o k [] = []
builds_classes o k (b ∷ bs) = build_classes b (class_at o k) ++ builds_classes o (k + 1) bs

-- the class of what a left tree as a whole stands for
abbrev pub class_of : Pattern → Class
class_of pattern.Any = class.ByType
class_of (pattern.Var i) = class.ByType
class_of (pattern.Node' name o ty int aux shape ps) = (info_of o).result

-- all widths of an extra rule fit: each op gives what its place takes, and each variable has one width
unfoldable pub fits : Rule → Bool
fits r =
    pattern_fits r.left (class_of r.left)
    && (build_fits r.right (class_of r.left) && agree same_class (pattern_classes r.left (class_of r.left) ++ build_classes r.right (class_of r.left)))
