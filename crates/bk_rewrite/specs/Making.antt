-- The values that a right tree makes, and what stands there once a rule is applied.
use Rattle.std.specs.Prelude.{ℕ, ◌+◌, ◌-◌, ◌<◌, nat_le, ◌==◌, ◌&&◌, if◌then◌else◌, List, [], ◌∷◌, ◌++◌, length, Option, Some, None, ℤ, pos, slice_get}
use Rattle.bk_num.specs.Word.{signed, residue}
use Rattle.bk_ops.specs.declared.types.Target.{Target}
use Rattle.bk_ops.specs.declared.types.Ty.{Ty}
use Rattle.bk_ops.specs.declared.types.Ty.TheVariants as ty
use Rattle.bk_ops.specs.declared.family.Family.{Family}
use Rattle.bk_ops.specs.declared.family.Family.TheVariants.{Const, ConstBool, Copy}
use Rattle.bk_ops.specs.declared.table.Class.{Class}
use Rattle.bk_ops.specs.declared.table.Class.TheVariants as class
use Rattle.bk_ops.specs.declared.table.Op.{Op}
use Rattle.bk_ops.specs.Table.{info_of}
use Rattle.bk_func.specs.declared.parts.Aux.{Aux}
use Rattle.bk_func.specs.declared.parts.Aux.TheVariants as aux
use Rattle.bk_func.specs.Records.{ValueRecord, FuncRecord}
use Rattle.bk_func.specs.Edits.{value_of, greatest_value}
use Rattle.bk_func.specs.declared.RewriteError.{RewriteError}
use Rattle.bk_func.specs.declared.RewriteError.TheVariants as error
use Rattle.bk_rewrite.specs.declared.making.Stop.{Stop}
use Rattle.bk_rewrite.specs.declared.making.Stop.TheVariants as stop
use Rattle.bk_rule.specs.declared.trees.Bound.{Bound}
use Rattle.bk_rule.specs.declared.trees.Bound.TheVariants as bound
use Rattle.bk_rule.specs.declared.trees.TyPart.{TyPart}
use Rattle.bk_rule.specs.declared.trees.TyPart.TheVariants as part
use Rattle.bk_rule.specs.declared.trees.Expr.{Expr}
use Rattle.bk_rule.specs.declared.trees.Build.{Build, Row_of-Build, end_of-Build, more_of-Build}
use Rattle.bk_rule.specs.declared.trees.Build as build
use Rattle.bk_rule.specs.Trees.{op}
use Rattle.bk_rule.specs.Bindings.{value_in, type_in, bound_env}
use Rattle.bk_rule.specs.Expressions.{expr_value}
use Rattle.bk_rewrite.specs.Places.{value_limit, count_values, with_block, with_made}

-- what a right tree is made from: the function as it is at the match, the bindings and the target
pub record Source : Type 0 where
  pub func : FuncRecord
  pub binds : List Bound
  pub target : Target

abbrev pub source : FuncRecord → List Bound → Target → Source
source f bs t = record { func = f; binds = bs; target = t }

-- ---- types
abbrev pub unsigned : ℕ → Ty
unsigned n = if n == 8 then ty.Uint8 else if n == 16 then ty.Uint16 else if n == 32 then ty.Uint32 else ty.Uint64

-- of a result for which none is written
abbrev pub type_by : Class → Ty
type_by (class.Number n) = unsigned n
type_by class.Word = ty.Ptr
type_by class.Bool = ty.Bool
type_by class.Mem = ty.Mem
type_by class.Void = ty.Void
type_by class.Tuple = ty.Tuple
type_by class.ByType = ty.Ptr

-- the type that is written, else the other one
abbrev pub type_made : List Bound → Option TyPart → Ty → Ty
type_made bs None other = other
type_made bs (Some (part.Is t)) other = t
type_made bs (Some (part.Var i)) other = type_in (slice_get bs i)

-- ---- AuxInts and auxs
-- a number as the op keeps it: a constant of w bits sign-extended, a truth value as 0 or 1
abbrev pub kept_as : Family → ℕ → ℤ → ℤ
kept_as Const w k = if nat_le 1 w && nat_le w 64 then signed w (residue w k) else k
kept_as ConstBool w k = pos (residue 1 k)
kept_as _ w k = k

abbrev pub int_as : Op → Option ℤ → ℤ
int_as o None = pos 0
int_as o (Some k) = kept_as o.family o.a k

-- what is not written is 0
abbrev pub int_made : Source → Op → Option Expr → ℤ
int_made s o None = pos 0
int_made s o (Some x) = int_as o (expr_value s.target (bound_env s.func s.binds) x)

abbrev pub aux_in : Option Bound → Aux
aux_in (Some (bound.Sym i)) = aux.Sym i
aux_in (Some (bound.Ty t)) = aux.Ty t
aux_in (Some (bound.Arg i)) = aux.Arg i
aux_in _ = aux.Nothing

abbrev pub aux_made : List Bound → Option ℕ → Aux
aux_made bs None = aux.Nothing
aux_made bs (Some i) = aux_in (slice_get bs i)

-- ---- trees below the root
-- the value of a node under this number, with these arguments; the type is for where none is written
abbrev pub node_made : Source → ℕ → Ty → Op → Option TyPart → Option Expr → Option ℕ → List ℕ → ValueRecord
node_made s id other o t x a args = value_of id o (type_made s.binds t other) args (int_made s o x) (aux_made s.binds a)

abbrev pub result_type : Op → Ty
result_type o = type_by (info_of o).result

abbrev mutual
  -- the values that a tree makes, from left to right, arguments first, where the first has the number n
  pub values_made : Source → Build → ℕ → List ValueRecord
  values_made s (build.Var i) n = []
  values_made s (build.Node' o t x a shape args) n =
      row_made s args n ++ node_made s (n + length (row_made s args n)) (result_type o) o t x a (row_names s args n) ∷ []

  pub row_made : Source → {m : _} → Row_of-Build m → ℕ → List ValueRecord
  row_made s end_of-Build n = []
  row_made s (more_of-Build b bs) n = values_made s b n ++ row_made s bs (n + length (values_made s b n))

  -- the number that names the tree
  pub name_made : Source → Build → ℕ → ℕ
  name_made s (build.Var i) n = value_in (slice_get s.binds i)
  name_made s (build.Node' o t x a shape args) n = n + length (row_made s args n)

  pub row_names : Source → {m : _} → Row_of-Build m → ℕ → List ℕ
  row_names s end_of-Build n = []
  row_names s (more_of-Build b bs) n = name_made s b n ∷ row_names s bs (n + length (values_made s b n))

-- the same of trees in a list
unfoldable pub each_made : Source → List Build → ℕ → List ValueRecord
each_made s [] n = []
each_made s (b ∷ bs) n = values_made s b n ++ each_made s bs (n + length (values_made s b n))

unfoldable pub each_name : Source → List Build → ℕ → List ℕ
each_name s [] n = []
each_name s (b ∷ bs) n = name_made s b n ∷ each_name s bs (n + length (values_made s b n))

-- ---- the root
abbrev pub inner_made : Source → Build → ℕ → List ValueRecord
inner_made s (build.Var i) n = []
inner_made s (build.Node' o t x a shape args) n = row_made s args n

-- a variable is copied; a node keeps the type where none is written
abbrev pub root_made : Source → ℕ → Ty → Build → ℕ → ValueRecord
root_made s id t (build.Var i) n = value_of id (op Copy 0 0) t (value_in (slice_get s.binds i) ∷ []) (pos 0) aux.Nothing
root_made s id t (build.Node' o u x a shape args) n = node_made s id t o u x a (row_names s args n)

-- ---- the function
-- the number of the first value that is made
abbrev pub next_number : FuncRecord → ℕ
next_number f = greatest_value f + 1

-- the inner values of the right tree
abbrev pub inner : Source → Build → List ValueRecord
inner s r = inner_made s r (next_number s.func)

-- the function after the tree was made in place of the value v, which stands at place p of block b
abbrev pub applied : Source → Build → ℕ → ℕ → ValueRecord → FuncRecord
applied s r b p v = with_block s.func b (with_made p (root_made s v.id v.ty r (next_number s.func)) (inner s r))

-- more values are asked for than there may be
abbrev pub Grows : Source → Build → Type 0
Grows s r = value_limit - count_values s.func < length (inner s r)

-- what a caller is told of it
abbrev pub refused : Stop → RewriteError
refused stop.Grown = error.Grown 32769
refused stop.Memory = error.Memory
