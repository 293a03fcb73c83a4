-- The text of rules.
use Rattle.std.specs.Prelude.{ℕ, suc, ◌+◌, ◌==◌, Bool, true, false, if◌then◌else◌, List, [], ◌∷◌, ◌++◌, Option, Some, None, codes}
use Rattle.std.specs.Fmt.{decimal, signed_decimal}
use Rattle.bk_ops.specs.declared.table.Op.{Op}
use Rattle.bk_ops.specs.declared.types.Ty.{Ty}
use Rattle.bk_ops.specs.declared.types.Ty.TheVariants as ty
use Rattle.bk_ops.specs.Names.{name_of}
use Rattle.bk_rule.specs.declared.trees.Fun.{Fun}
use Rattle.bk_rule.specs.declared.trees.Fun.TheVariants as fun
use Rattle.bk_rule.specs.declared.trees.Expr.{Expr, Row_of-Expr, end_of-Expr, more_of-Expr}
use Rattle.bk_rule.specs.declared.trees.Expr as expr
use Rattle.bk_rule.specs.declared.trees.IntPart.{IntPart}
use Rattle.bk_rule.specs.declared.trees.IntPart.TheVariants as int_part
use Rattle.bk_rule.specs.declared.trees.TyPart.{TyPart}
use Rattle.bk_rule.specs.declared.trees.TyPart.TheVariants as ty_part
use Rattle.bk_rule.specs.declared.trees.Pattern.{Pattern, Row_of-Pattern, end_of-Pattern, more_of-Pattern}
use Rattle.bk_rule.specs.declared.trees.Pattern as pattern
use Rattle.bk_rule.specs.declared.trees.Build.{Build, Row_of-Build, end_of-Build, more_of-Build}
use Rattle.bk_rule.specs.declared.trees.Build as build
use Rattle.bk_rule.specs.declared.trees.Rule.{Rule}

-- the name of a type; a list of types has none
unfoldable pub type_name : Ty → List ℕ
type_name ty.Bool = codes "bool"
type_name ty.Int8 = codes "int8"
type_name ty.Uint8 = codes "uint8"
type_name ty.Int16 = codes "int16"
type_name ty.Uint16 = codes "uint16"
type_name ty.Int32 = codes "int32"
type_name ty.Uint32 = codes "uint32"
type_name ty.Int64 = codes "int64"
type_name ty.Uint64 = codes "uint64"
type_name ty.Int = codes "int"
type_name ty.Uint = codes "uint"
type_name ty.Uintptr = codes "uintptr"
type_name ty.Ptr = codes "ptr"
type_name ty.Mem = codes "mem"
type_name ty.Void = codes "void"
type_name ty.Tuple = []

-- how an operator or a function is written
unfoldable pub symbol : Fun → List ℕ
symbol fun.Neg = codes "-"
symbol fun.Com = codes "^"
symbol fun.Mul = codes "*"
symbol fun.Shl = codes "<<"
symbol fun.Shr = codes ">>"
symbol fun.And = codes "&"
symbol fun.Add = codes "+"
symbol fun.Sub = codes "-"
symbol fun.Or = codes "|"
symbol fun.Xor = codes "^"
symbol fun.Eq = codes "=="
symbol fun.Ne = codes "!="
symbol fun.Lt = codes "<"
symbol fun.Le = codes "<="
symbol fun.IsPowerOfTwo = codes "isPowerOfTwo"
symbol fun.Log2 = codes "log2"
symbol fun.Ult = codes "ult"
symbol fun.Ule = codes "ule"
symbol fun.Zext8 = codes "zext8"
symbol fun.Zext16 = codes "zext16"
symbol fun.Zext32 = codes "zext32"
symbol fun.Is12 = codes "is12"
symbol fun.ArmImm = codes "armimm"
symbol fun.Size = codes "size"
symbol fun.IsBool = codes "isBool"
symbol fun.Uses = codes "Uses"

-- a variable
unfoldable pub variable : ℕ → List ℕ
variable i = codes "x" ++ decimal i

-- ---- expressions
unfoldable pub is_prefix : Fun → Bool
is_prefix fun.Neg = true
is_prefix fun.Com = true
is_prefix _ = false

unfoldable pub is_infix : Fun → Bool
is_infix fun.Mul = true
is_infix fun.Shl = true
is_infix fun.Shr = true
is_infix fun.And = true
is_infix fun.Add = true
is_infix fun.Sub = true
is_infix fun.Or = true
is_infix fun.Xor = true
is_infix fun.Eq = true
is_infix fun.Ne = true
is_infix fun.Lt = true
is_infix fun.Le = true
is_infix _ = false

unfoldable pub is_uses : Fun → Bool
is_uses fun.Uses = true
is_uses _ = false

-- whether a call of so many operands is a use of an operator
unfoldable pub operates : Fun → ℕ → Bool
operates f n = if n == 1 then is_prefix f else if n == 2 then is_infix f else false

-- an expression inside another one stands in brackets where it is a use of an operator
abbrev pub in_brackets : Bool → List ℕ → List ℕ
in_brackets operates text = if operates then codes "(" ++ (text ++ codes ")") else text

unfoldable pub separator : ℕ → List ℕ
separator k = if k == 0 then [] else codes ","

-- texts parted by commas, the first standing at place k
unfoldable pub joined : ℕ → List (List ℕ) → List ℕ
joined k [] = []
joined k (x ∷ xs) = (separator k ++ x) ++ joined (k + 1) xs

unfoldable pub function_text : Fun → List (List ℕ) → List ℕ
function_text f xs = symbol f ++ (codes "(" ++ (joined 0 xs ++ codes ")"))

unfoldable pub one_text : Fun → List ℕ → List ℕ
one_text f x =
    if is_prefix f then symbol f ++ (codes " " ++ x)
    else if is_uses f then x ++ codes ".Uses"
    else symbol f ++ (codes "(" ++ (x ++ codes ")"))

unfoldable pub two_text : Fun → List ℕ → List ℕ → List ℕ
two_text f x y = if is_infix f then x ++ (codes " " ++ (symbol f ++ (codes " " ++ y))) else function_text f (x ∷ y ∷ [])

abbrev pub call_text : Fun → List (List ℕ) → List ℕ
call_text f [] = function_text f []
call_text f (x ∷ []) = one_text f x
call_text f (x ∷ y ∷ []) = two_text f x y
call_text f (x ∷ y ∷ z ∷ zs) = function_text f (x ∷ y ∷ z ∷ zs)

abbrev pub count : {m : _} → Row_of-Expr m → ℕ
count end_of-Expr = 0
count (more_of-Expr x xs) = suc (count xs)

abbrev pub is_operation : Expr → Bool
is_operation (expr.Number k) = false
is_operation (expr.Var i) = false
is_operation (expr.Call' f shape row) = operates f (count row)

abbrev mutual
  pub expr_text : Expr → List ℕ
  expr_text (expr.Number k) = signed_decimal k
  expr_text (expr.Var i) = variable i
  expr_text (expr.Call' f shape row) = call_text f (operand_texts row)

  pub operand_texts : {m : _} → Row_of-Expr m → List (List ℕ)
  operand_texts end_of-Expr = []
  operand_texts (more_of-Expr x xs) = in_brackets (is_operation x) (expr_text x) ∷ operand_texts xs

-- inside another expression
abbrev pub inner_text : Expr → List ℕ
inner_text x = in_brackets (is_operation x) (expr_text x)

-- conditions
unfoldable pub conditions_text : List Expr → List ℕ
conditions_text [] = []
conditions_text (x ∷ xs) = (codes " && " ++ expr_text x) ++ conditions_text xs

-- ---- left trees
abbrev pub name_text : Option ℕ → List ℕ
name_text None = []
name_text (Some i) = variable i ++ codes ":"

abbrev pub type_variable_text : Option ℕ → List ℕ
type_variable_text None = []
type_variable_text (Some i) = codes " <" ++ (variable i ++ codes ">")

abbrev pub int_part_text : Option IntPart → List ℕ
int_part_text None = []
int_part_text (Some (int_part.Number k)) = codes " [" ++ (signed_decimal k ++ codes "]")
int_part_text (Some (int_part.Var i)) = codes " [" ++ (variable i ++ codes "]")

abbrev pub aux_text : Option ℕ → List ℕ
aux_text None = []
aux_text (Some i) = codes " {" ++ (variable i ++ codes "}")

unfoldable pub front_text : Op → Option ℕ → Option IntPart → Option ℕ → List ℕ
front_text o ty int aux = codes "(" ++ (name_of o ++ (type_variable_text ty ++ (int_part_text int ++ aux_text aux)))

abbrev mutual
  pub pattern_text : Pattern → List ℕ
  pattern_text pattern.Any = codes "_"
  pattern_text (pattern.Var i) = variable i
  pattern_text (pattern.Node' name o ty int aux shape ps) = name_text name ++ (front_text o ty int aux ++ (arguments_text ps ++ codes ")"))

  pub arguments_text : {m : _} → Row_of-Pattern m → List ℕ
  arguments_text end_of-Pattern = []
  arguments_text (more_of-Pattern p ps) = (codes " " ++ pattern_text p) ++ arguments_text ps

unfoldable pub patterns_text : List Pattern → List ℕ
patterns_text [] = []
patterns_text (p ∷ ps) = (codes " " ++ pattern_text p) ++ patterns_text ps

-- ---- right trees
abbrev pub type_text : Option TyPart → List ℕ
type_text None = []
type_text (Some (ty_part.Is t)) = codes " <" ++ (type_name t ++ codes ">")
type_text (Some (ty_part.Var i)) = codes " <" ++ (variable i ++ codes ">")

abbrev pub int_text : Option Expr → List ℕ
int_text None = []
int_text (Some x) = codes " [" ++ (expr_text x ++ codes "]")

unfoldable pub made_text : Op → Option TyPart → Option Expr → Option ℕ → List ℕ
made_text o ty int aux = codes "(" ++ (name_of o ++ (type_text ty ++ (int_text int ++ aux_text aux)))

abbrev mutual
  pub build_text : Build → List ℕ
  build_text (build.Var i) = variable i
  build_text (build.Node' o ty int aux shape bs) = made_text o ty int aux ++ (made_arguments_text bs ++ codes ")")

  pub made_arguments_text : {m : _} → Row_of-Build m → List ℕ
  made_arguments_text end_of-Build = []
  made_arguments_text (more_of-Build b bs) = (codes " " ++ build_text b) ++ made_arguments_text bs

unfoldable pub builds_text : List Build → List ℕ
builds_text [] = []
builds_text (b ∷ bs) = (codes " " ++ build_text b) ++ builds_text bs

-- ---- rules, one a line
unfoldable pub rule_text : Rule → List ℕ
rule_text r = pattern_text r.left ++ (conditions_text r.conds ++ (codes " => " ++ (build_text r.right ++ codes "\n")))

unfoldable pub rules_text : List Rule → List ℕ
rules_text [] = []
rules_text (r ∷ rs) = rule_text r ++ rules_text rs
