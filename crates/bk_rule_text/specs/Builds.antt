-- Right trees at the front of a text.
use Rattle.std.specs.Prelude.{ℕ, zero, suc, List, length, Option, Some, None, codes}
use Rattle.std.specs.Option.{option_map_or}
use Rattle.bk_rule.specs.declared.trees.Expr.{Expr}
use Rattle.bk_rule.specs.declared.trees.TyPart.{TyPart}
use Rattle.bk_rule.specs.declared.trees.TyPart.TheVariants as part
use Rattle.bk_rule.specs.declared.trees.Build.{Build, roll-Build}
use Rattle.bk_rule.specs.declared.trees.Build.TheOpen.{Build-F}
use Rattle.bk_rule.specs.Trees.{named}
use Rattle.bk_rule_text.specs.Front.{◌>>=◌, Read, mark_at, closed, where_marked, until_bracket}
use Rattle.bk_rule_text.specs.Names.{Variables, in_scope}
use Rattle.bk_rule_text.specs.Words.{name_at, variable_at, type_of_name}
use Rattle.bk_rule_text.specs.Exprs.{expr_at}
use Rattle.bk_rule_text.specs.Patterns.{op_at}

-- the type, or the variable of a type, that a name stands for
unfoldable pub type_named : Variables → List ℕ → Option TyPart
type_named s name = option_map_or (λ t. Some (part.Is t)) (type_of_name name) (in_scope s name >>= λ i. Some (part.Var i))

unfoldable pub type_in : Variables → Read (Option TyPart)
type_in s text = do
  n ← closed (codes ">") name_at text
  t ← type_named s n.0
  Some (Some t, n.1)

unfoldable pub type_part_at : Variables → Read (Option TyPart)
type_part_at s text = where_marked (mark_at (codes "<") text) (type_in s) (Some (None, text))

unfoldable pub int_part_at : Variables → ℕ → Read (Option Expr)
int_part_at s n text = where_marked (mark_at (codes "[") text) (λ r. closed (codes "]") (expr_at s n) r >>= λ x. Some (Some x.0, x.1)) (Some (None, text))

unfoldable pub aux_in : Variables → Read (Option ℕ)
aux_in s text = do
  n ← closed (codes "}") variable_at text
  i ← in_scope s n.0
  Some (Some i, n.1)

unfoldable pub aux_part_at : Variables → Read (Option ℕ)
aux_part_at s text = where_marked (mark_at (codes "{") text) (aux_in s) (Some (None, text))

-- a node, whose bracket is open; its expression goes so many levels deep at most
unfoldable pub node_at : Variables → ℕ → Read Build → Read Build
node_at s n read text = do
  o ← op_at text
  t ← type_part_at s o.1
  i ← int_part_at s n t.1
  x ← aux_part_at s i.1
  bs ← until_bracket read (length x.1) x.1
  Some (roll-Build (Build-F.Node o.0 t.0 i.0 x.0 bs.0), bs.1)

unfoldable pub bound_at : Variables → Read Build
bound_at s text = do
  n ← variable_at text
  i ← in_scope s n.0
  Some (named i, n.1)

-- a node or a variable
unfoldable pub build_in : Variables → ℕ → Read Build → Read Build
build_in s n read text = where_marked (mark_at (codes "(") text) (node_at s n read) (bound_at s text)

-- a right tree, so many levels deep at most
unfoldable pub build_at : Variables → ℕ → Read Build
build_at s zero text = None
build_at s (suc n) text = build_in s n (build_at s n) text
