-- Whether the ops of a rule stand as they may.
use Rattle.std.specs.Prelude.{ℕ, suc, ◌==◌, ◌&&◌, ◌||◌, Bool, true, false, not, List, [], ◌∷◌, ◌++◌, Option, Some, None}
use Rattle.std.specs.List.{list_all}
use Rattle.std.specs.Option.{is_some}
use Rattle.bk_ops.specs.declared.table.Op.{Op}
use Rattle.bk_ops.specs.declared.table.AuxKind.{AuxKind}
use Rattle.bk_ops.specs.declared.table.AuxKind.TheVariants as kind
use Rattle.bk_ops.specs.declared.family.Family.{Family}
use Rattle.bk_ops.specs.declared.family.Family.TheVariants as family
use Rattle.bk_ops.specs.Table.{info_of}
use Rattle.bk_rule.specs.declared.trees.Fun.{Fun}
use Rattle.bk_rule.specs.declared.trees.Fun.TheVariants as fun
use Rattle.bk_rule.specs.declared.trees.Expr.{Expr, Row_of-Expr, end_of-Expr, more_of-Expr}
use Rattle.bk_rule.specs.declared.trees.Expr as expr
use Rattle.bk_rule.specs.declared.trees.IntPart.{IntPart}
use Rattle.bk_rule.specs.declared.trees.IntPart.TheVariants as int_part
use Rattle.bk_rule.specs.declared.trees.TyPart.{TyPart}
use Rattle.bk_rule.specs.declared.trees.TyPart.TheVariants as ty_part
use Rattle.bk_rule.specs.declared.trees.Pattern.{Pattern, Row_of-Pattern, end_of-Pattern, more_of-Pattern}
use Rattle.bk_rule.specs.declared.trees.Pattern as pattern
use Rattle.bk_rule.specs.declared.trees.Build.{Build, Row_of-Build, end_of-Build, more_of-Build}
use Rattle.bk_rule.specs.declared.trees.Build as build
use Rattle.bk_rule.specs.declared.trees.Rule.{Rule}
use Rattle.bk_rule_text.specs.declared.stands.sort.Sort.{Sort}
use Rattle.bk_rule_text.specs.declared.stands.sort.Sort.TheVariants as sort

-- ---- ops, their parts and their counts of arguments
abbrev pub is_left_out : Family → Bool
is_left_out family.Phi = true
is_left_out family.Copy = true
is_left_out _ = false

abbrev pub fits_count : Option ℕ → ℕ → Bool
fits_count None n = true
fits_count (Some arity) n = arity == n

abbrev pub fits_parts : AuxKind → Bool → Bool → Bool
fits_parts kind.None int aux = not int && not aux
fits_parts kind.Int int aux = not aux
fits_parts kind.Name int aux = not int
fits_parts kind.Ty int aux = not int

-- an op with so many arguments, with an AuxInt and with something in braces or without
unfoldable pub may_stand : Op → ℕ → Bool → Bool → Bool
may_stand o n int aux = not (is_left_out o.family) && (fits_count (info_of o).arity n && fits_parts (info_of o).aux int aux)

abbrev pub count : {m : _} → Row_of-Pattern m → ℕ
count end_of-Pattern = 0
count (more_of-Pattern p ps) = suc (count ps)

abbrev mutual
  pub pattern_stands : Pattern → Bool
  pattern_stands pattern.Any = true
  pattern_stands (pattern.Var i) = true
  pattern_stands (pattern.Node' name o ty int aux shape ps) = may_stand o (count ps) (is_some int) (is_some aux) && row_stands ps

  pub row_stands : {m : _} → Row_of-Pattern m → Bool
  row_stands end_of-Pattern = true
  row_stands (more_of-Pattern p ps) = pattern_stands p && row_stands ps

abbrev pub made_count : {m : _} → Row_of-Build m → ℕ
made_count end_of-Build = 0
made_count (more_of-Build b bs) = suc (made_count bs)

abbrev mutual
  pub build_stands : Build → Bool
  build_stands (build.Var i) = true
  build_stands (build.Node' o ty int aux shape bs) = may_stand o (made_count bs) (is_some int) (is_some aux) && made_row_stands bs

  pub made_row_stands : {m : _} → Row_of-Build m → Bool
  made_row_stands end_of-Build = true
  made_row_stands (more_of-Build b bs) = build_stands b && made_row_stands bs

unfoldable pub has_its_parts : Rule → Bool
has_its_parts r = pattern_stands r.left && build_stands r.right

-- ---- what variables stand for
abbrev pub of_argument : Family → Sort
of_argument family.Arg = sort.Argument
of_argument _ = sort.Symbol

abbrev pub of_aux : AuxKind → Family → Sort
of_aux kind.Ty f = sort.Type
of_aux _ f = of_argument f

unfoldable pub sort_of_aux : Op → Sort
sort_of_aux o = of_aux (info_of o).aux o.family

-- what is said of a variable, where one stands
abbrev pub said : {A : Type 0} → Option ℕ → A → List (ℕ × A)
said None what = []
said (Some i) what = (i, what) ∷ []

-- all that is said of one variable is the same
unfoldable pub agree : {A : Type 0} → (A → A → Bool) → List (ℕ × A) → Bool
agree same xs = list_all (λ x. list_all (λ y. not (x.0 == y.0) || same x.1 y.1) xs) xs

abbrev pub variable_of_int : Option IntPart → Option ℕ
variable_of_int None = None
variable_of_int (Some (int_part.Number k)) = None
variable_of_int (Some (int_part.Var i)) = Some i

abbrev pub variable_of_type : Option TyPart → Option ℕ
variable_of_type None = None
variable_of_type (Some (ty_part.Is t)) = None
variable_of_type (Some (ty_part.Var i)) = Some i

abbrev mutual
  pub pattern_sorts : Pattern → List (ℕ × Sort)
  pattern_sorts pattern.Any = []
  pattern_sorts (pattern.Var i) = (i, sort.Value) ∷ []
  pattern_sorts (pattern.Node' name o ty int aux shape ps) =
      said name sort.Value ++ (said ty sort.Type ++ (said (variable_of_int int) sort.Int ++ (said aux (sort_of_aux o) ++ row_sorts ps)))

  pub row_sorts : {m : _} → Row_of-Pattern m → List (ℕ × Sort)
  row_sorts end_of-Pattern = []
  row_sorts (more_of-Pattern p ps) = pattern_sorts p ++ row_sorts ps

unfoldable pub patterns_sorts : List Pattern → List (ℕ × Sort)
patterns_sorts [] = []
patterns_sorts (p ∷ ps) = pattern_sorts p ++ patterns_sorts ps

unfoldable pub sort_of_operand : Fun → Sort
sort_of_operand fun.Size = sort.Type
sort_of_operand fun.IsBool = sort.Type
sort_of_operand fun.Uses = sort.Value
sort_of_operand _ = sort.Int

abbrev mutual
  -- of an expression where this sort is asked for
  pub expr_sorts : Expr → Sort → List (ℕ × Sort)
  expr_sorts (expr.Number k) s = []
  expr_sorts (expr.Var i) s = (i, s) ∷ []
  expr_sorts (expr.Call' f shape row) s = operand_sorts row (sort_of_operand f)

  pub operand_sorts : {m : _} → Row_of-Expr m → Sort → List (ℕ × Sort)
  operand_sorts end_of-Expr s = []
  operand_sorts (more_of-Expr x xs) s = expr_sorts x s ++ operand_sorts xs s

unfoldable pub exprs_sorts : List Expr → Sort → List (ℕ × Sort)
exprs_sorts [] s = []
exprs_sorts (x ∷ xs) s = expr_sorts x s ++ exprs_sorts xs s

abbrev pub int_sorts : Option Expr → List (ℕ × Sort)
int_sorts None = []
int_sorts (Some x) = expr_sorts x sort.Int

abbrev mutual
  pub build_sorts : Build → List (ℕ × Sort)
  build_sorts (build.Var i) = (i, sort.Value) ∷ []
  build_sorts (build.Node' o ty int aux shape bs) =
      said (variable_of_type ty) sort.Type ++ (int_sorts int ++ (said aux (sort_of_aux o) ++ made_row_sorts bs))

  pub made_row_sorts : {m : _} → Row_of-Build m → List (ℕ × Sort)
  made_row_sorts end_of-Build = []
  made_row_sorts (more_of-Build b bs) = build_sorts b ++ made_row_sorts bs

unfoldable pub builds_sorts : List Build → List (ℕ × Sort)
builds_sorts [] = []
builds_sorts (b ∷ bs) = build_sorts b ++ builds_sorts bs

unfoldable pub rule_sorts : Rule → List (ℕ × Sort)
rule_sorts r = pattern_sorts r.left ++ (exprs_sorts r.conds sort.Int ++ build_sorts r.right)

abbrev pub same_sort : Sort → Sort → Bool
same_sort sort.Value sort.Value = true
same_sort sort.Int sort.Int = true
same_sort sort.Type sort.Type = true
same_sort sort.Symbol sort.Symbol = true
same_sort sort.Argument sort.Argument = true
same_sort _ _ = false
