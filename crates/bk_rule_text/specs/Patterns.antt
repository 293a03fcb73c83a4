-- Left trees at the front of a text. Their variables are numbered as they appear.
use Rattle.std.specs.Prelude.{ℕ, zero, suc, Bool, true, false, if◌then◌else◌, List, [], ◌∷◌, length, Option, Some, None, codes}
use Rattle.bk_ops.specs.declared.table.Op.{Op}
use Rattle.bk_ops.specs.declared.family.Family.TheVariants as family
use Rattle.bk_ops.specs.Reading.{read as op_named}
use Rattle.bk_rule.specs.declared.trees.IntPart.{IntPart}
use Rattle.bk_rule.specs.declared.trees.IntPart.TheVariants as part
use Rattle.bk_rule.specs.declared.trees.Pattern.{Pattern, roll-Pattern}
use Rattle.bk_rule.specs.declared.trees.Pattern as pattern
use Rattle.bk_rule.specs.declared.trees.Pattern.TheOpen.{Pattern-F}
use Rattle.bk_rule.specs.Trees.{op, any, var}
use Rattle.bk_rule_text.specs.declared.read.pattern.Front.{Front}
use Rattle.bk_rule_text.specs.Front.{◌>>=◌, Read, unblanked, mark_at, closed, where_marked}
use Rattle.bk_rule_text.specs.Names.{numbered}
use Rattle.bk_rule_text.specs.Numbers.{begins_number, number_at}
use Rattle.bk_rule_text.specs.Words.{name_at, variable_at, any_at}

-- a reader that numbers variables: it gives what it reads, the names then, and the text behind
abbrev pub Numbers : Type 0 → Type 0
Numbers A = List (List ℕ) → List ℕ → Option (A × List (List ℕ) × List ℕ)

-- what an op in no table is read as: `Copy`, which no rule may have either
abbrev pub no_op : Op
no_op = op family.Copy 0 0

abbrev pub or_no_op : Option Op → Op
or_no_op None = no_op
or_no_op (Some o) = o

unfoldable pub op_of : List ℕ → Op
op_of name = or_no_op (op_named name)

unfoldable pub op_at : Read Op
op_at text = name_at text >>= λ n. Some (op_of n.0, n.1)

-- what a variable's number is put into
abbrev pub with_number : {A : Type 0} → (ℕ → A) → List (List ℕ) → List ℕ × List ℕ → A × List (List ℕ) × List ℕ
with_number f names n = (f (numbered names n.0).0, (numbered names n.0).1, n.1)

-- a variable between these marks, where the first of them stands
unfoldable pub marked_at : List ℕ → List ℕ → Numbers (Option ℕ)
marked_at opening closing names text =
    where_marked (mark_at opening text) (λ r. closed closing variable_at r >>= λ n. Some (with_number Some names n)) (Some (None, names, text))

-- a number or a variable, and the bracket that closes it
unfoldable pub int_at : Numbers (Option IntPart)
int_at names text =
    if begins_number text then (closed (codes "]") number_at text >>= λ n. Some (Some (part.Number n.0), names, n.1))
    else (closed (codes "]") variable_at text >>= λ n. Some (with_number (λ i. Some (part.Var i)) names n))

unfoldable pub int_part_at : Numbers (Option IntPart)
int_part_at names text = where_marked (mark_at (codes "[") text) (λ r. int_at names (unblanked r)) (Some (None, names, text))

-- a node up to its arguments, its bracket being open
unfoldable pub front_at : Numbers Front
front_at names text = do
  o ← op_at text
  t ← marked_at (codes "<") (codes ">") names o.1
  i ← int_part_at t.1 t.2
  x ← marked_at (codes "{") (codes "}") i.1 i.2
  Some (record { op = o.0; ty = t.0; int = i.0; aux = x.0 }, x.1, x.2)

abbrev pub in_front : {A : Type 0} → A → Option (List A × List (List ℕ) × List ℕ) → Option (List A × List (List ℕ) × List ℕ)
in_front x None = None
in_front x (Some more) = Some (x ∷ more.0, more.1, more.2)

-- arguments and the bracket that closes them; a text holds at most as many as it has bytes
unfoldable pub patterns_at : Numbers Pattern → ℕ → Numbers (List Pattern)
patterns_at read zero names text = None
patterns_at read (suc n) names text =
    where_marked (mark_at (codes ")") text) (λ r. Some ([], names, r)) (read names text >>= λ p. in_front p.0 (patterns_at read n p.1 p.2))

-- a node, whose bracket is open
unfoldable pub node_at : Numbers Pattern → Option ℕ → Numbers Pattern
node_at read name names text = do
  f ← front_at names text
  ps ← patterns_at read (length f.2) f.1 f.2
  Some (roll-Pattern (Pattern-F.Node name f.0.op f.0.ty f.0.int f.0.aux ps.0), ps.1, ps.2)

-- the node that a variable names, its bracket included
unfoldable pub named_node_at : Numbers Pattern → ℕ → Numbers Pattern
named_node_at read i names text = mark_at (codes "(") text >>= node_at read (Some i) names

-- a variable, or the node that it names
unfoldable pub variable_or_node_at : Numbers Pattern → Numbers Pattern
variable_or_node_at read names text = do
  n ← variable_at text
  where_marked (mark_at (codes ":") n.1) (named_node_at read (numbered names n.0).0 (numbered names n.0).1) (Some (with_number var names n))

-- `_`, a node, or a variable and the node that it names
unfoldable pub pattern_in : Numbers Pattern → Numbers Pattern
pattern_in read names text =
    where_marked (any_at text) (λ r. Some (any, names, r))
    (where_marked (mark_at (codes "(") text) (node_at read None names) (variable_or_node_at read names text))

-- a left tree, so many levels deep at most
unfoldable pub pattern_at : ℕ → Numbers Pattern
pattern_at zero names text = None
pattern_at (suc n) names text = pattern_in (pattern_at n) names text

abbrev pub is_node : Pattern → Bool
is_node pattern.Any = false
is_node (pattern.Var i) = false
is_node (pattern.Node' name o ty int x shape ps) = true

-- the left tree of a rule, which is a node
unfoldable pub left_at : ℕ → Numbers Pattern
left_at n names text = pattern_at n names text >>= λ p. if is_node p.0 then Some p else None
