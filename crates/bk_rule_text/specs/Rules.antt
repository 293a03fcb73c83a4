-- What a rule without groups reads as.
use Rattle.std.specs.Prelude.{ℕ, zero, suc, if◌then◌else◌, List, [], ◌∷◌, length, map, Option, Some, None, codes}
use Rattle.std.specs.Option.{option_map_or}
use Rattle.bk_ops.specs.declared.table.Op.{Op}
use Rattle.bk_ops.specs.declared.table.AuxKind.{AuxKind}
use Rattle.bk_ops.specs.declared.table.AuxKind.TheVariants as kind
use Rattle.bk_ops.specs.Table.{info_of}
use Rattle.bk_rule.specs.declared.trees.Expr.{Expr}
use Rattle.bk_rule.specs.declared.trees.IntPart.{IntPart}
use Rattle.bk_rule.specs.declared.trees.IntPart.TheVariants as part
use Rattle.bk_rule.specs.declared.trees.Pattern.{Pattern, roll-Pattern}
use Rattle.bk_rule.specs.declared.trees.Pattern as pattern
use Rattle.bk_rule.specs.declared.trees.Pattern.TheOpen.{Pattern-F}
use Rattle.bk_rule.specs.declared.trees.Build.{Build, roll-Build}
use Rattle.bk_rule.specs.declared.trees.Build.TheOpen.{Build-F}
use Rattle.bk_rule.specs.declared.trees.Rule.{Rule}
use Rattle.bk_rule.specs.Trees.{var, named, held}
use Rattle.bk_rule_text.specs.Front.{◌>>=◌, Read, is_done, mark_at, where_marked, onto}
use Rattle.bk_rule_text.specs.Names.{Variables}
use Rattle.bk_rule_text.specs.Exprs.{expr_at}
use Rattle.bk_rule_text.specs.Patterns.{no_op, op_at, left_at}
use Rattle.bk_rule_text.specs.Builds.{build_at}

-- ---- `sexpr [&& conditions] => sexpr`
-- the conditions, as many as stand here, each behind `&&`; a text holds at most as many as it has bytes
unfoldable pub conditions : Read Expr → ℕ → Read (List Expr)
conditions read zero text = Some ([], text)
conditions read (suc n) text = where_marked (mark_at (codes "&&") text) (λ r. read r >>= λ x. onto x.0 (conditions read n x.1)) (Some ([], text))

-- the right tree behind `=>`, which ends the rule
unfoldable pub right_at : Variables → ℕ → List ℕ → Option Build
right_at s n text = do
  r ← mark_at (codes "=>") text
  b ← build_at s n r
  if is_done b.1 then Some b.0 else None

abbrev pub past_name : Option ℕ → ℕ
past_name None = 0
past_name (Some i) = 1

-- the first variable that a right tree may name: the one that names the root of the left tree, which is the first of
-- all, may not be named there
abbrev pub first_in_right : Pattern → ℕ
first_in_right pattern.Any = 0
first_in_right (pattern.Var i) = 0
first_in_right (pattern.Node' name o ty int x shape ps) = past_name name

unfoldable pub written_at : List ℕ → Option Rule
written_at text = do
  l ← left_at (length text) [] text
  c ← conditions (expr_at (record { names = l.1; first = 0 }) (length text)) (length l.2) l.2
  r ← right_at (record { names = l.1; first = first_in_right l.0 }) (length text) c.1
  Some (record { left = l.0; conds = c.0; right = r })

-- ---- `(Op ...) => (Op2 ...)`
unfoldable pub whole_op_at : Read Op
whole_op_at text = do
  a ← mark_at (codes "(") text
  o ← op_at a
  b ← mark_at (codes "...") o.1
  r ← mark_at (codes ")") b
  Some (o.0, r)

unfoldable pub whole_at : List ℕ → Option (Op × Op)
whole_at text = do
  from ← whole_op_at text
  a ← mark_at (codes "=>") from.1
  to ← whole_op_at a
  if is_done to.1 then Some (from.0, to.0) else None

-- an op without a fixed count of arguments may not stand so
abbrev pub if_fixed : Op → Option ℕ → Op
if_fixed o None = no_op
if_fixed o (Some n) = o

unfoldable pub fixed : Op → Op
fixed o = if_fixed o (info_of o).arity

abbrev pub count_or_none : Option ℕ → ℕ
count_or_none None = 0
count_or_none (Some n) = n

-- the variables of the parts that an op has, and then those of its arguments
abbrev pub int_of : AuxKind → Option IntPart
int_of kind.Int = Some (part.Var 0)
int_of _ = None

abbrev pub made_int : AuxKind → Option Expr
made_int kind.Int = Some (held 0)
made_int _ = None

abbrev pub aux_of : AuxKind → Option ℕ
aux_of kind.Name = Some 0
aux_of kind.Ty = Some 0
aux_of _ = None

abbrev pub first_argument : AuxKind → ℕ
first_argument kind.None = 0
first_argument _ = 1

-- so many numbers from this one on
unfoldable pub numbers_from : ℕ → ℕ → List ℕ
numbers_from first zero = []
numbers_from first (suc n) = first ∷ numbers_from (suc first) n

unfoldable pub arguments : Op → List ℕ
arguments o = numbers_from (first_argument (info_of o).aux) (count_or_none (info_of o).arity)

-- the rule that replaces an op by another, whose parts are those of the first
unfoldable pub whole_rule : Op → Op → Rule
whole_rule from to = record {
  left = roll-Pattern (Pattern-F.Node None (fixed from) None (int_of (info_of from).aux) (aux_of (info_of from).aux) (map var (arguments from)));
  conds = [];
  right = roll-Build (Build-F.Node (fixed to) None (made_int (info_of from).aux) (aux_of (info_of from).aux) (map named (arguments from)));
}

-- ---- a rule
unfoldable pub rule_at : List ℕ → Option Rule
rule_at text = option_map_or (λ w. Some (whole_rule w.0 w.1)) (whole_at text) (written_at text)
