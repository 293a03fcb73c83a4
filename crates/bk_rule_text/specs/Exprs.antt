-- Expressions at the front of a text.
use Rattle.std.specs.Prelude.{ℕ, zero, suc, if◌then◌else◌, List, [], ◌∷◌, length, Option, Some, None, codes}
use Rattle.std.specs.List.{find}
use Rattle.std.specs.Option.{option_map_or, is_some}
use Rattle.std.specs.Str.{bytes_eq}
use Rattle.bk_rule.specs.declared.trees.Expr.{Expr}
use Rattle.bk_rule.specs.declared.trees.Fun.{Fun}
use Rattle.bk_rule.specs.declared.trees.Fun.TheVariants as fun
use Rattle.bk_rule.specs.Trees.{number, held, call}
use Rattle.bk_rule_text.specs.declared.read.operator.Level.{Level}
use Rattle.bk_rule_text.specs.declared.read.operator.Level.TheVariants as level
use Rattle.bk_rule_text.specs.declared.read.operator.Operands.{Operands}
use Rattle.bk_rule_text.specs.declared.read.operator.Operands.TheVariants as operands
use Rattle.bk_rule_text.specs.Front.{◌>>=◌, Read, or_else, unblanked, after, closed, where_marked}
use Rattle.bk_rule_text.specs.Layout.{symbol}
use Rattle.bk_rule_text.specs.Names.{Variables, in_scope}
use Rattle.bk_rule_text.specs.Numbers.{begins_number, number_at}
use Rattle.bk_rule_text.specs.Words.{run_at, name_at, variable_at}

-- ---- operators
unfoldable pub products : List Fun
products = fun.Mul ∷ fun.Shl ∷ fun.Shr ∷ []

unfoldable pub sums : List Fun
sums = fun.Add ∷ fun.Sub ∷ fun.Or ∷ fun.Xor ∷ []

-- `<=` stands before `<`, with which it begins
unfoldable pub comparisons : List Fun
comparisons = fun.Eq ∷ fun.Ne ∷ fun.Le ∷ fun.Lt ∷ []

unfoldable pub prefixes : List Fun
prefixes = fun.Neg ∷ fun.Com ∷ []

unfoldable pub functions : List Fun
functions = fun.IsPowerOfTwo ∷ fun.Log2 ∷ fun.Ult ∷ fun.Ule ∷ fun.Zext8 ∷ fun.Zext16 ∷ fun.Zext32 ∷ fun.Is12 ∷ fun.ArmImm ∷ fun.Size ∷ fun.IsBool ∷ []

-- the first of these whose symbol stands here
unfoldable pub first_of : List Fun → List ℕ → Option Fun
first_of funs text = find (λ f. is_some (after (symbol f) text)) funs

unfoldable pub symbol_at : List Fun → Read Fun
symbol_at funs text = do
  f ← first_of funs text
  r ← after (symbol f) text
  Some (f, r)

-- `&`, where it is not the first byte of `&&`
unfoldable pub and_at : Read Fun
and_at text = after (codes "&") text >>= λ r. if is_some (after (codes "&") r) then None else Some (fun.And, r)

-- the operator of this level
unfoldable pub operator_at : Level → Read Fun
operator_at level.Product text = or_else (symbol_at products (unblanked text)) (and_at (unblanked text))
operator_at level.Sum text = symbol_at sums (unblanked text)
operator_at level.Comparison text = symbol_at comparisons (unblanked text)

-- ---- operators between operands, which group from the left
unfoldable pub chain : Read Fun → Read Expr → ℕ → Expr → Read Expr
chain operator operand zero left text = Some (left, text)
chain operator operand (suc n) left text =
    option_map_or (λ f. operand f.1 >>= λ y. chain operator operand n (call f.0 (left ∷ y.0 ∷ [])) y.1) (operator text) (Some (left, text))

unfoldable pub chained : Read Fun → Read Expr → Read Expr
chained operator operand text = operand text >>= λ x. chain operator operand (length x.1) x.0 x.1

-- the operands of the operators of a level
abbrev pub tighter_at : Read Expr → Level → Read Expr
tighter_at operand level.Product = operand
tighter_at operand level.Sum = chained (operator_at level.Product) operand
tighter_at operand level.Comparison = chained (operator_at level.Sum) (chained (operator_at level.Product) operand)

abbrev pub level_at : Read Expr → Level → Read Expr
level_at operand l = chained (operator_at l) (tighter_at operand l)

-- an expression whose operands this reader reads
abbrev pub whole_at : Read Expr → Read Expr
whole_at operand = level_at operand level.Comparison

-- ---- operands
unfoldable pub literal_at : Read Expr
literal_at text = number_at text >>= λ n. Some (number n.0, n.1)

-- the text behind `.Uses`, before which no blank stands
unfoldable pub uses_at : List ℕ → Option (List ℕ)
uses_at text = after (codes ".") text >>= λ r. if bytes_eq (run_at r).0 (codes "Uses") then Some (run_at r).1 else None

-- `x.Uses` or a variable
unfoldable pub about_variable_at : Variables → Read Expr
about_variable_at s text = do
  n ← variable_at text
  i ← in_scope s n.0
  where_marked (uses_at n.1) (λ r. Some (call fun.Uses (held i ∷ []), r)) (Some (held i, n.1))

-- the variable of a type, which is given to a function
unfoldable pub of_type_at : Variables → Fun → Read Expr
of_type_at s f text = do
  n ← closed (codes ")") variable_at text
  i ← in_scope s n.0
  Some (call f (held i ∷ []), n.1)

unfoldable pub one_at : Read Expr → Fun → Read Expr
one_at read f text = closed (codes ")") read text >>= λ x. Some (call f (x.0 ∷ []), x.1)

unfoldable pub two_at : Read Expr → Fun → Read Expr
two_at read f text = do
  x ← closed (codes ",") read text
  y ← closed (codes ")") read x.1
  Some (call f (x.0 ∷ y.0 ∷ []), y.1)

unfoldable pub function_named : List ℕ → Option Fun
function_named name = find (λ f. bytes_eq (symbol f) name) functions

unfoldable pub operands_of : Fun → Operands
operands_of fun.Ult = operands.Two
operands_of fun.Ule = operands.Two
operands_of fun.Size = operands.Type
operands_of fun.IsBool = operands.Type
operands_of _ = operands.One

abbrev pub given_at : Variables → Read Expr → Operands → Fun → Read Expr
given_at s read operands.One f = one_at read f
given_at s read operands.Two f = two_at read f
given_at s read operands.Type f = of_type_at s f

-- a call of the function of this name, whose bracket is open
unfoldable pub function_at : Variables → Read Expr → List ℕ → Read Expr
function_at s read name text = function_named name >>= λ f. given_at s read (operands_of f) f text

-- the name of a function, and its bracket
unfoldable pub opened_at : Read (List ℕ)
opened_at text = closed (codes "(") name_at text

unfoldable pub prefixed_at : Read Expr → Fun → Read Expr
prefixed_at operand f text = operand text >>= λ x. Some (call f (x.0 ∷ []), x.1)

-- a number, an operator before its operand, an expression in brackets, a call of a function, or a variable
unfoldable pub operand_in : Variables → Read Expr → Read Expr
operand_in s operand text =
    if begins_number text then literal_at text
    else option_map_or (λ f. prefixed_at operand f.0 f.1) (symbol_at prefixes text)
    (where_marked (after (codes "(") text) (closed (codes ")") (whole_at operand))
    (option_map_or (λ n. function_at s (whole_at operand) n.0 n.1) (opened_at text) (about_variable_at s text)))

-- an operand, so many levels deep at most
unfoldable pub operand_at : Variables → ℕ → Read Expr
operand_at s zero text = None
operand_at s (suc n) text = operand_in s (operand_at s n) (unblanked text)

unfoldable pub expr_at : Variables → ℕ → Read Expr
expr_at s n = whole_at (operand_at s n)
