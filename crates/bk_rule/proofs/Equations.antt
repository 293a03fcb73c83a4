-- The recursive definitions at a node whose arguments are a list.
use Rattle.std.proofs.Common.{◌≡◌, ℕ, suc, ◌+◌, ◌<◌, ◌≤◌, Bool, true, false, if◌then◌else◌, add-one, drop, drop-cons, refl, ap, sym, ◌∙◌, arith, List, [], ◌∷◌, map, length, get_or, Option, None}
use Rattle.std.proofs.lemmas.List.{drop_all}
use Rattle.bk_ops.specs.declared.types.Target.{Target}
use Rattle.bk_rule.specs.declared.trees.Fun.{Fun}
use Rattle.bk_rule.specs.declared.trees.Expr.{Expr, roll-Expr}
use Rattle.bk_rule.specs.declared.trees.Expr.TheOpen.{Expr-F}
use Rattle.bk_rule.specs.declared.trees.Expr.TheBlock.{hidden-the_row-Expr-0}
use Rattle.bk_ops.specs.declared.table.Op.{Op}
use Rattle.bk_ops.specs.Values.{op_value}
use Rattle.bk_func.specs.Records.{FuncRecord}
use Rattle.bk_rule.specs.declared.trees.Bound.{Bound}
use Rattle.bk_rule.specs.declared.trees.IntPart.{IntPart}
use Rattle.bk_rule.specs.declared.trees.TyPart.{TyPart}
use Rattle.bk_rule.specs.declared.trees.Pattern.{Pattern, roll-Pattern}
use Rattle.bk_rule.specs.declared.trees.Pattern.TheOpen.{Pattern-F}
use Rattle.bk_rule.specs.declared.trees.Pattern.TheBlock.{hidden-the_row-Pattern-0}
use Rattle.bk_rule.specs.declared.trees.Build.{Build, roll-Build}
use Rattle.bk_rule.specs.declared.trees.Build.TheOpen.{Build-F}
use Rattle.bk_rule.specs.declared.trees.Build.TheBlock.{hidden-the_row-Build-0}
use Rattle.bk_rule.specs.Sound.{built, built_each, with_all, all_some, with_int}
use Rattle.bk_rule.specs.Match.{Matches, MatchesEach, IsNone, AtFirst, orders, orders_each, order_of}
use Rattle.bk_rule.specs.Expressions.{Env, Operand, variable_of, applied, expr_value, operands, is_true, hold_each}
use Rattle.bk_rule.proofs.Opened.{opened}

abbrev pub operand : Target → Env → Expr → Operand
operand t e x = (variable_of x, expr_value t e x)

pub value_of_call : (t : Target) (e : Env) (f : Fun) (xs : List Expr) → expr_value t e (roll-Expr (Expr-F.Call f xs)) ≡ applied t e f (map (operand t e) xs)
unfolding opened
value_of_call t e f xs = ap (applied t e f) (each xs)
  where
    each : (ys : List Expr) → operands t e (hidden-the_row-Expr-0 ys) ≡ map (operand t e) ys
    each [] = refl
    each (y ∷ ys) = ap (λ zs. operand t e y ∷ zs) (each ys)

-- a list of one or two elements
sole : (s : List Expr) (x : Expr) → 1 ≤ length s → length s < 2 → x ≡ get_or s 0 x → s ≡ x ∷ []
sole [] x l h e = absurd (omega arith)
sole (y ∷ []) x l h e = ap (λ z. z ∷ []) (sym e)
sole (y ∷ z ∷ s) x l h e = absurd (omega arith)

pair : (s : List Expr) (x y : Expr) → 2 ≤ length s → length s < 3 → x ≡ get_or s 0 x → y ≡ get_or s 1 y → s ≡ x ∷ y ∷ []
pair [] x y l h e d = absurd (omega arith)
pair (z ∷ []) x y l h e d = absurd (omega arith)
pair (z ∷ u ∷ []) x y l h e d = cc
pair (z ∷ u ∷ v ∷ s) x y l h e d = absurd (omega arith)

-- the value of a call whose operands are the elements of a slice
pub of_one : (t : Target) (e : Env) (f : Fun) (c : Expr) (args s : List Expr) (x : Expr) → c ≡ roll-Expr (Expr-F.Call f args) → s ≡ args →
    1 ≤ length s → length s < 2 → x ≡ get_or s 0 x → expr_value t e c ≡ applied t e f (operand t e x ∷ [])
of_one t e f c args s x is same l h g =
    ap (expr_value t e) is ∙ (value_of_call t e f args ∙ ap (λ xs. applied t e f (map (operand t e) xs)) (sym same ∙ sole s x l h g))

pub of_two : (t : Target) (e : Env) (f : Fun) (c : Expr) (args s : List Expr) (x y : Expr) → c ≡ roll-Expr (Expr-F.Call f args) → s ≡ args →
    2 ≤ length s → length s < 3 → x ≡ get_or s 0 x → y ≡ get_or s 1 y → expr_value t e c ≡ applied t e f (operand t e x ∷ operand t e y ∷ [])
of_two t e f c args s x y is same l h g k =
    ap (expr_value t e) is ∙ (value_of_call t e f args ∙ ap (λ xs. applied t e f (map (operand t e) xs)) (sym same ∙ pair s x y l h g k))

nothing : (t : Target) (e : Env) (f : Fun) (s : List Expr) → (length s ≡ 1 → ⊥) → (length s ≡ 2 → ⊥) → None ≡ applied t e f (map (operand t e) s)
nothing t e f [] h k = refl
nothing t e f (x ∷ []) h k = absurd (h (omega arith))
nothing t e f (x ∷ y ∷ []) h k = absurd (k (omega arith))
nothing t e f (x ∷ y ∷ z ∷ s) h k = refl

pub of_others : (t : Target) (e : Env) (f : Fun) (c : Expr) (args s : List Expr) → c ≡ roll-Expr (Expr-F.Call f args) → s ≡ args →
    (length s ≡ 1 → ⊥) → (length s ≡ 2 → ⊥) → None ≡ expr_value t e c
of_others t e f c args s is same h k =
    nothing t e f s h k ∙ sym (ap (expr_value t e) is ∙ (value_of_call t e f args ∙ ap (λ xs. applied t e f (map (operand t e) xs)) (sym same)))

-- ---- conditions one after the other
pub condition_holds : (t : Target) (e : Env) (xs : List Expr) (i : ℕ) (x : Expr) (r : Bool) → hold_each t e (drop i xs) ≡ r → i < length xs →
    x ≡ get_or xs i x → is_true (expr_value t e x) ≡ true → hold_each t e (drop (i + 1) xs) ≡ r
condition_holds t e xs i x r h l is p =
    rw add-one (ap (λ b. if b then hold_each t e (drop (suc i) xs) else false) (sym p) ∙ (ap (hold_each t e) (ap (λ y. y ∷ drop (suc i) xs) is ∙ sym (drop-cons xs i x l)) ∙ h))

pub condition_fails : (t : Target) (e : Env) (xs : List Expr) (i : ℕ) (x : Expr) (r : Bool) → hold_each t e (drop i xs) ≡ r → i < length xs →
    x ≡ get_or xs i x → is_true (expr_value t e x) ≡ false → false ≡ r
condition_fails t e xs i x r h l is p =
    ap (λ b. if b then hold_each t e (drop (suc i) xs) else false) (sym p) ∙ (ap (hold_each t e) (ap (λ y. y ∷ drop (suc i) xs) is ∙ sym (drop-cons xs i x l)) ∙ h)

pub conditions_end : (t : Target) (e : Env) (xs : List Expr) (i : ℕ) (r : Bool) → hold_each t e (drop i xs) ≡ r → length xs ≤ i → true ≡ r
conditions_end t e xs i r h l = ap (hold_each t e) (sym (drop_all i xs l)) ∙ h

-- ---- right trees
pub built_of_node : (t : Target) (e : Env) (o : Op) (ty : Option TyPart) (int : Option Expr) (aux : Option ℕ) (xs : List Build) →
    built t e (roll-Build (Build-F.Node o ty int aux xs)) ≡ with_all (all_some (map (built t e) xs)) (λ vs. with_int t e int (λ k. op_value o k vs t))
unfolding opened
built_of_node t e o ty int aux xs = ap (λ ys. with_all (all_some ys) (λ vs. with_int t e int (λ k. op_value o k vs t))) (each xs)
  where
    each : (ys : List Build) → built_each t e (hidden-the_row-Build-0 ys) ≡ map (built t e) ys
    each [] = refl
    each (y ∷ ys) = ap (λ zs. built t e y ∷ zs) (each ys)

-- ---- left trees
abbrev pub sum_orders : List Pattern → ℕ
sum_orders [] = 0
sum_orders (p ∷ ps) = orders p + sum_orders ps

pub orders_of_node : (name : Option ℕ) (o : Op) (ty : Option ℕ) (int : Option IntPart) (aux : Option ℕ) (ps : List Pattern) →
    orders (roll-Pattern (Pattern-F.Node name o ty int aux ps)) ≡ order_of o + sum_orders ps
unfolding opened
orders_of_node name o ty int aux ps = ap (λ n. order_of o + n) (each ps)
  where
    each : (qs : List Pattern) → orders_each (hidden-the_row-Pattern-0 qs) ≡ sum_orders qs
    each [] = refl
    each (q ∷ qs) = ap (λ n. orders q + n) (each qs)

abbrev pub ArgsMatch : FuncRecord → List Bound → List Pattern → List ℕ → List Bool → Type 0
ArgsMatch f bs [] ids cs = IsNone ids
ArgsMatch f bs (p ∷ ps) ids cs = AtFirst ids (λ id ids. Matches f bs p id cs × ArgsMatch f bs ps ids (drop (orders p) cs))

-- a list of patterns at a list of values
pub args_match : (f : FuncRecord) (bs : List Bound) (ps : List Pattern) (ids : List ℕ) (cs : List Bool) →
    MatchesEach f bs (hidden-the_row-Pattern-0 ps) ids cs → ArgsMatch f bs ps ids cs
unfolding opened
args_match f bs [] ids cs h = h
args_match f bs (p ∷ ps) [] cs h = h
args_match f bs (p ∷ ps) (id ∷ ids) cs (a, h) = (a, args_match f bs ps ids (drop (orders p) cs) h)

pub match_args : (f : FuncRecord) (bs : List Bound) (ps : List Pattern) (ids : List ℕ) (cs : List Bool) →
    ArgsMatch f bs ps ids cs → MatchesEach f bs (hidden-the_row-Pattern-0 ps) ids cs
unfolding opened
match_args f bs [] ids cs h = h
match_args f bs (p ∷ ps) [] cs h = h
match_args f bs (p ∷ ps) (id ∷ ids) cs (a, h) = (a, match_args f bs ps ids (drop (orders p) cs) h)
