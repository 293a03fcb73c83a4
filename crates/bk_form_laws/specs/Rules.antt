-- Rules as they are read: which ops and variables stand in them, and how many arguments.
use Rattle.std.specs.Prelude.{ℕ, suc, ◌≡◌, ◌⊎◌, true, false, Option, Some, None, MatchBool}
use Rattle.bk_ops.specs.Table.{info_of, is_op}
use Rattle.bk_ops.specs.declared.table.Op.{Op}
use Rattle.bk_ops.specs.declared.table.AuxKind.{AuxKind}
use Rattle.bk_ops.specs.declared.table.AuxKind.TheVariants as kind
use Rattle.bk_ops.specs.declared.family.Family.{Family}
use Rattle.bk_ops.specs.declared.family.Family.TheVariants as op
use Rattle.bk_func.specs.Numbers.{origin_of}
use Rattle.bk_func.specs.Effects.{is_load, is_check}
use Rattle.bk_func.specs.Form.Parts.{IsSigned, IsBetween, Symbol, nothing, variable, symbol_of}
use Rattle.bk_rule.specs.declared.trees.Expr.{Expr, Row_of-Expr, end_of-Expr, more_of-Expr}
use Rattle.bk_rule.specs.declared.trees.IntPart.TheVariants as part
use Rattle.bk_rule.specs.Expressions.{asks}
use Rattle.bk_rule.specs.declared.trees.Expr as expr
use Rattle.bk_rule.specs.declared.trees.Pattern.{Pattern, Row_of-Pattern, end_of-Pattern, more_of-Pattern}
use Rattle.bk_rule.specs.declared.trees.Pattern as pattern
use Rattle.bk_rule.specs.declared.trees.Build.{Build, Row_of-Build, end_of-Build, more_of-Build}
use Rattle.bk_rule.specs.declared.trees.Build as build
use Rattle.bk_rule.specs.declared.trees.Rule.{Rule}
use Rattle.bk_refine_laws.specs.Trees.{NamesBelow}
use Rattle.bk_form_laws.specs.Fits.{is_special}

-- ---- variables of the left tree
abbrev mutual
  -- the variable names what stands beside an op that names a variable of the package
  pub NamesSymbol : ℕ → Pattern → Type 0
  NamesSymbol i pattern.Any = ⊥
  NamesSymbol i (pattern.Var j) = ⊥
  NamesSymbol i (pattern.Node' name o ty int x shape ps) = ((x ≡ Some i) × (symbol_of o.family ≡ variable)) ⊎ NamesSymbolAmong i ps

  pub NamesSymbolAmong : ℕ → {m : _} → Row_of-Pattern m → Type 0
  NamesSymbolAmong i end_of-Pattern = ⊥
  NamesSymbolAmong i (more_of-Pattern p ps) = NamesSymbol i p ⊎ NamesSymbolAmong i ps

abbrev mutual
  -- the variable names the AuxInt of a value of the tree
  pub NamesInt : ℕ → Pattern → Type 0
  NamesInt i pattern.Any = ⊥
  NamesInt i (pattern.Var j) = ⊥
  NamesInt i (pattern.Node' name o ty int x shape ps) = (int ≡ Some (part.Var i)) ⊎ NamesIntAmong i ps

  pub NamesIntAmong : ℕ → {m : _} → Row_of-Pattern m → Type 0
  NamesIntAmong i end_of-Pattern = ⊥
  NamesIntAmong i (more_of-Pattern p ps) = NamesInt i p ⊎ NamesIntAmong i ps

abbrev mutual
  -- the numbers of the expression have 64 bits, and its variables name AuxInts of the tree; what a function asks of a variable aside
  pub IsWritten : Pattern → Expr → Type 0
  IsWritten l (expr.Number k) = IsSigned 64 k
  IsWritten l (expr.Var i) = NamesInt i l
  IsWritten l (expr.Call' f shape xs) = MatchBool (asks f) (Unit {0}) (AreWritten l xs)

  pub AreWritten : Pattern → {m : _} → Row_of-Expr m → Type 0
  AreWritten l end_of-Expr = Unit {0}
  AreWritten l (more_of-Expr x xs) = IsWritten l x × AreWritten l xs

-- the op is no copy, and of no family that says what a value is to others
pub record IsPlainOp (o : Op) : Type 0 where
  pub family : is_special o.family ≡ false
  pub copy : ¬ (o.family ≡ op.Copy)

abbrev mutual
  -- no op of the tree is a copy, or of a family that says what a value is to others
  pub IsPlain : Pattern → Type 0
  IsPlain pattern.Any = Unit {0}
  IsPlain (pattern.Var i) = Unit {0}
  IsPlain (pattern.Node' name o ty int x shape ps) = IsPlainOp o × ArePlain ps

  pub ArePlain : {m : _} → Row_of-Pattern m → Type 0
  ArePlain end_of-Pattern = Unit {0}
  ArePlain (more_of-Pattern p ps) = IsPlain p × ArePlain ps

-- ---- nodes of the right tree
-- an AuxInt is written for an op that has one alone, and one of a trap is that of a trap
abbrev pub FitsInt : Pattern → AuxKind → Family → Option Expr → Type 0
FitsInt l kind.Int op.Trap (Some (expr.Number k)) = IsBetween k 1 7
FitsInt l kind.Int op.Trap _ = ⊥
FitsInt l kind.Int _ None = Unit {0}
FitsInt l kind.Int _ (Some x) = IsWritten l x
FitsInt l _ o None = Unit {0}
FitsInt l _ o (Some x) = ⊥

-- a symbol is written for an op that names a variable of the package alone, and it is one that the left tree has beside such an op
abbrev pub FitsName : Pattern → Symbol → Option ℕ → Type 0
FitsName l nothing None = Unit {0}
FitsName l variable (Some i) = NamesSymbol i l
FitsName l _ _ = ⊥

-- the node has the parts and the count of arguments of its op, which may stand in a rule
pub record IsMade (l : Pattern) (o : Op) (n : ℕ) (int : Option Expr) (aux : Option ℕ) : Type 0 where
  pub is_one : is_op o.family o.a o.b ≡ true
  pub plain : is_special o.family ≡ false
  pub copy : ¬ (o.family ≡ op.Copy)
  pub store : ¬ (o.family ≡ op.Store)
  pub arity : (info_of o).arity ≡ Some n
  pub number : FitsInt l (info_of o).aux o.family int
  pub symbol : FitsName l (symbol_of o.family) aux

abbrev pub made_count : {m : _} → Row_of-Build m → ℕ
made_count end_of-Build = 0
made_count (more_of-Build b bs) = suc (made_count bs)

abbrev mutual
  -- each op has its parts and its arguments, and each variable names a value below the root of the left tree
  pub IsBuilt : Pattern → Build → Type 0
  IsBuilt l (build.Var i) = NamesBelow i l
  IsBuilt l (build.Node' o ty int aux shape bs) = IsMade l o (made_count bs) int aux × AreBuilt l bs

  pub AreBuilt : Pattern → {m : _} → Row_of-Build m → Type 0
  AreBuilt l end_of-Build = Unit {0}
  AreBuilt l (more_of-Build b bs) = IsBuilt l b × AreBuilt l bs

abbrev pub IsNode : Pattern → Type 0
IsNode (pattern.Node' name o ty int x shape ps) = Unit {0}
IsNode _ = ⊥

-- A rule as it is read: its left tree is a node, no op of it is a copy or of the families that say what a value is to others, and its
-- right tree is made as said above.
pub record IsRead (r : Rule) : Type 0 where
  pub node : IsNode r.left
  pub left : IsPlain r.left
  pub right : IsBuilt r.left r.right

-- ---- roots and memory
abbrev pub AtRoot : Pattern → (Op → Type 0) → Type 0
AtRoot (pattern.Node' name o ty int x shape ps) P = P o
AtRoot _ P = ⊥

abbrev pub AtMade : Build → (Op → Type 0) → Type 0
AtMade (build.Var i) P = Unit {0}
AtMade (build.Node' o ty int x shape bs) P = P o

-- neither root takes or gives memory
pub record IsPure (r : Rule) : Type 0 where
  pub left : AtRoot r.left (λ o. (info_of o).memory ≡ false)
  pub right : AtMade r.right (λ o. (info_of o).memory ≡ false)

-- ---- roots that take memory
abbrev pub IsVar : ℕ → Pattern → Type 0
IsVar i (pattern.Var j) = j ≡ i
IsVar i _ = ⊥

-- the last of the trees is the variable
abbrev pub EndsWith : ℕ → Pattern → {m : _} → Row_of-Pattern m → Type 0
EndsWith i p end_of-Pattern = IsVar i p
EndsWith i p (more_of-Pattern q ps) = EndsWith i q ps

abbrev pub RowEnds : ℕ → {m : _} → Row_of-Pattern m → Type 0
RowEnds i end_of-Pattern = ⊥
RowEnds i (more_of-Pattern p ps) = EndsWith i p ps

abbrev pub IsName : ℕ → Build → Type 0
IsName i (build.Var j) = j ≡ i
IsName i _ = ⊥

abbrev pub MadeEndsWith : ℕ → Build → {m : _} → Row_of-Build m → Type 0
MadeEndsWith i b end_of-Build = IsName i b
MadeEndsWith i b (more_of-Build c bs) = MadeEndsWith i c bs

abbrev pub MadeEnds : ℕ → {m : _} → Row_of-Build m → Type 0
MadeEnds i end_of-Build = ⊥
MadeEnds i (more_of-Build b bs) = MadeEndsWith i b bs

abbrev pub TakesState : ℕ → Pattern → Type 0
TakesState i (pattern.Node' name o ty int x shape ps) = ((info_of o).memory ≡ true) × ((info_of o).commutative ≡ false) × RowEnds i ps
TakesState i _ = ⊥

abbrev pub MakesState : ℕ → Build → Type 0
MakesState i (build.Node' o ty int x shape bs) = ((info_of o).memory ≡ true) × MadeEnds i bs
MakesState i _ = ⊥

-- both roots take memory, and it is one variable, the last argument
pub record KeepsState (r : Rule) : Type 0 where
  pub variable : ℕ
  pub left : TakesState variable r.left
  pub right : MakesState variable r.right

-- a value of the one family loads where one of the other does, and checks where one of it does
abbrev pub KeepsRole : Family → Family → Type 0
KeepsRole o q = (is_load (origin_of q) ≡ true → is_load (origin_of o) ≡ true) × (is_check (origin_of q) ≡ true → is_check (origin_of o) ≡ true)

-- a right root that loads stands for a left root that loads, and one that checks for one that checks
abbrev pub KeepsRoles : Rule → Type 0
KeepsRoles r = AtRoot r.left (λ o. AtMade r.right (λ q. KeepsRole o.family q.family))
