-- Where a rule matches: its left tree stands at a value of a function under bindings, its conditions hold, and the expressions
-- of its right tree have values.
use Rattle.std.specs.Prelude.{ℕ, ◌≡◌, ◌+◌, max, Bool, true, false, if◌then◌else◌, List, [], ◌∷◌, length, drop, Option, Some, None, ℤ, slice_get}
use Rattle.bk_ops.specs.declared.types.Target.{Target}
use Rattle.bk_ops.specs.declared.types.Ty.{Ty}
use Rattle.bk_ops.specs.declared.table.Op.{Op}
use Rattle.bk_ops.specs.Table.{info_of}
use Rattle.bk_func.specs.declared.parts.Aux.{Aux}
use Rattle.bk_func.specs.declared.parts.Aux.TheVariants as aux
use Rattle.bk_func.specs.Records.{ValueRecord, FuncRecord}
use Rattle.bk_func.specs.Numbers.{value_of}
use Rattle.bk_rule.specs.declared.trees.Bound.{Bound}
use Rattle.bk_rule.specs.declared.trees.Bound.TheVariants as bound
use Rattle.bk_rule.specs.declared.trees.IntPart.{IntPart}
use Rattle.bk_rule.specs.declared.trees.IntPart.TheVariants as part
use Rattle.bk_rule.specs.declared.trees.Pattern.{Pattern, Row_of-Pattern, end_of-Pattern, more_of-Pattern}
use Rattle.bk_rule.specs.declared.trees.Pattern as pattern
use Rattle.bk_rule.specs.declared.trees.Rule.{Rule}
use Rattle.bk_rule.specs.Bindings.{bound_env}
use Rattle.bk_rule.specs.Expressions.{hold_each}
use Rattle.bk_rule.specs.Sound.{HasInts}

-- ---- the parts of a node
-- the variable is bound to this
abbrev pub IsBound : List Bound → ℕ → Bound → Type 0
IsBound bs i b = slice_get bs i ≡ Some b

abbrev pub NameMatches : List Bound → Option ℕ → ℕ → Type 0
NameMatches bs None id = Unit {0}
NameMatches bs (Some i) id = IsBound bs i (bound.Value id)

abbrev pub TypeMatches : List Bound → Option ℕ → Ty → Type 0
TypeMatches bs None t = Unit {0}
TypeMatches bs (Some i) t = IsBound bs i (bound.Ty t)

abbrev pub IntMatches : List Bound → Option IntPart → ℤ → Type 0
IntMatches bs None k = Unit {0}
IntMatches bs (Some (part.Number n)) k = k ≡ n
IntMatches bs (Some (part.Var i)) k = IsBound bs i (bound.Int k)

abbrev pub AuxIs : List Bound → ℕ → Aux → Type 0
AuxIs bs i aux.Nothing = ⊥
AuxIs bs i (aux.Sym s) = IsBound bs i (bound.Sym s)
AuxIs bs i (aux.Ty t) = IsBound bs i (bound.Ty t)
AuxIs bs i (aux.Arg a) = IsBound bs i (bound.Arg a)

abbrev pub AuxMatches : List Bound → Option ℕ → Aux → Type 0
AuxMatches bs None x = Unit {0}
AuxMatches bs (Some i) x = AuxIs bs i x

-- ---- orders of arguments
-- Each commutative op of a left tree takes its arguments as they are written, or swapped. A list says which, for the ops in the
-- order of the tree, each before its arguments; true swaps. Of two such lists the one that is false first stands first.
abbrev pub swapped : List ℕ → List ℕ
swapped (x ∷ y ∷ []) = y ∷ x ∷ []
swapped xs = xs

abbrev pub is_commutative : Op → Bool
is_commutative o = (info_of o).commutative

abbrev pub first_is : List Bool → Bool
first_is [] = false
first_is (c ∷ cs) = c

-- the arguments in the order that the first of the list says, and the rest of the list
abbrev pub ordered : Op → List Bool → List ℕ → List ℕ
ordered o cs xs = if is_commutative o then (if first_is cs then swapped xs else xs) else xs

abbrev pub order_of : Op → ℕ
order_of o = if is_commutative o then 1 else 0

abbrev mutual
  -- how many commutative ops the tree has
  pub orders : Pattern → ℕ
  orders pattern.Any = 0
  orders (pattern.Var i) = 0
  orders (pattern.Node' name o ty int x shape ps) = order_of o + orders_each ps

  pub orders_each : {m : _} → Row_of-Pattern m → ℕ
  orders_each end_of-Pattern = 0
  orders_each (more_of-Pattern p ps) = orders p + orders_each ps

-- ---- variables
abbrev pub past : Option ℕ → ℕ
past None = 0
past (Some i) = i + 1

abbrev pub past_int : Option IntPart → ℕ
past_int None = 0
past_int (Some (part.Number n)) = 0
past_int (Some (part.Var i)) = i + 1

abbrev mutual
  -- one more than the greatest variable of the tree, 0 where it has none
  pub variables : Pattern → ℕ
  variables pattern.Any = 0
  variables (pattern.Var i) = i + 1
  variables (pattern.Node' name o ty int x shape ps) =
      max (past name) (max (past ty) (max (past_int int) (max (past x) (variables_each ps))))

  pub variables_each : {m : _} → Row_of-Pattern m → ℕ
  variables_each end_of-Pattern = 0
  variables_each (more_of-Pattern p ps) = max (variables p) (variables_each ps)

-- ---- the tree
abbrev pub IsNone : List ℕ → Type 0
IsNone [] = Unit {0}
IsNone (x ∷ xs) = ⊥

abbrev pub AtFirst : List ℕ → (ℕ → List ℕ → Type 0) → Type 0
AtFirst [] P = ⊥
AtFirst (x ∷ xs) P = P x xs

abbrev mutual
  -- the tree stands at the value with this number, with the arguments of its commutative ops in these orders
  pub Matches : FuncRecord → List Bound → Pattern → ℕ → List Bool → Type 0
  Matches f bs pattern.Any id cs = Unit {0}
  Matches f bs (pattern.Var i) id cs = IsBound bs i (bound.Value id)
  Matches f bs (pattern.Node' name o ty int x shape ps) id cs =
      NameMatches bs name id ×
      ((v : ValueRecord) × (value_of f id ≡ Some v) × (v.op ≡ o) × TypeMatches bs ty v.ty × IntMatches bs int v.int × AuxMatches bs x v.aux ×
      MatchesEach f bs ps (ordered o cs v.args) (drop (order_of o) cs))

  pub MatchesEach : FuncRecord → List Bound → {m : _} → Row_of-Pattern m → List ℕ → List Bool → Type 0
  MatchesEach f bs end_of-Pattern ids cs = IsNone ids
  MatchesEach f bs (more_of-Pattern p ps) ids cs = AtFirst ids (λ id ids. Matches f bs p id cs × MatchesEach f bs ps ids (drop (orders p) cs))

-- the rule matches at the value under the bindings, one for each variable of its left tree
pub record IsMatch (t : Target) (f : FuncRecord) (r : Rule) (bs : List Bound) (id : ℕ) (cs : List Bool) : Type 0 where
  pub one_each : length bs ≡ variables r.left
  pub one_order_each : length cs ≡ orders r.left
  pub stands : Matches f bs r.left id cs
  pub holds : hold_each t (bound_env f bs) r.conds ≡ true
  pub has_ints : HasInts t (bound_env f bs) r.right
