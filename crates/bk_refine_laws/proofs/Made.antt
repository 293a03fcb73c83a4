-- The values that a right tree makes have the numbers of the tree.
use Rattle.std.proofs.Common.{◌≡◌, ℕ, ◌+◌, nat_le, refl, ap, sym, ◌∙◌, arith, List, [], ◌∷◌, ◌++◌, length, map, Option, Some, None, Bool, true, false, inl, inr, ℤ, pos}
use Rattle.std.specs.Prelude.{slice_get, if◌then◌else◌, ◌&&◌, unwrap_or}
use Rattle.std.proofs.Math.Nat.{mod-eq_of_lt}
use Rattle.bk_num.proofs.Signs.{residue_below}
use Rattle.bk_num.specs.Word.{signed, residue}
use Rattle.bk_ops.specs.declared.types.Target.{Target}
use Rattle.bk_ops.specs.declared.types.Ty.{Ty}
use Rattle.bk_ops.specs.declared.table.Op.{Op}
use Rattle.bk_ops.specs.declared.family.Family.{Family}
use Rattle.bk_ops.specs.declared.family.Family.TheVariants.{Const, ConstBool}
use Rattle.bk_ops.specs.Formulas.{formula}
use Rattle.bk_ops.specs.Values.{op_value, valued}
use Rattle.bk_ops.proofs.LowBits.{residue-wrapped}
use Rattle.bk_func.specs.Records.{ValueRecord, FuncRecord}
use Rattle.bk_func.specs.Numbers.{Program, Env as Numbers, Origin, computed, origin_of, number_by}
use Rattle.bk_func.proofs.Faults.{In}
use Rattle.bk_rule.specs.declared.trees.Bound.{Bound}
use Rattle.bk_rule.specs.declared.trees.TyPart.{TyPart}
use Rattle.bk_rule.specs.declared.trees.Expr.{Expr}
use Rattle.bk_rule.specs.declared.trees.Build.{Build, Row_of-Build, end_of-Build, more_of-Build}
use Rattle.bk_rule.specs.declared.trees.Build as build
use Rattle.bk_rule.specs.Bindings.{value_in, bound_env}
use Rattle.bk_rule.specs.Expressions.{expr_value}
use Rattle.bk_rule.specs.Sound.{built, built_each, all_some, in_front, with_all, with_int, at_int}
use Rattle.bk_rewrite.specs.Making.{Source, source, kept_as, int_as, int_made, node_made, result_type, values_made, row_made, name_made, row_names, inner_made, root_made}
use Rattle.bk_refine_laws.specs.Trees.{IsBuilt, AreBuilt, env_by}
use Rattle.bk_refine_laws.proofs.Expressions.{expr_same}

-- ---- a constant is kept with its sign
kept_residue : (a : ℕ) (k : ℤ) (c : Bool) → residue a (if c then signed a (residue a k) else k) ≡ residue a k
kept_residue a k true = residue-wrapped a a k (omega arith)
kept_residue a k false = refl

pub kept_value : (f : Family) (a b : ℕ) (k : ℤ) (xs : List ℕ) (t : Target) → valued (formula f a b (kept_as f a k) t) xs ≡ valued (formula f a b k t) xs
unfolding formula
kept_value Const a b k xs t = rw (kept_residue a k (nat_le 1 a && nat_le a 64)) refl
kept_value ConstBool a b k xs t = (let d : residue 1 (pos (residue 1 k)) ≡ residue 1 k = mod-eq_of_lt (residue_below 1 k) in rw d refl)
kept_value _ a b k xs t = refl

abbrev Sourced : Program → FuncRecord → List Bound → Source
Sourced p f bs = source f bs p.target

-- the number beside an op of the right tree
int_value : (o : Op) (int : Option Expr) (p : Program) (f : FuncRecord) (bs : List Bound) (m : ℕ → ℕ) (vs : List ℕ) (x : ℕ) →
    with_int p.target (env_by f m bs) int (λ k. op_value o k vs p.target) ≡ Some x → op_value o (int_made (Sourced p f bs) o int) vs p.target ≡ Some x
int_value o None p f bs m vs x h = h
int_value o (Some y) p f bs m vs x h = go (expr_value p.target (env_by f m bs) y) refl h
  where
    go : (u : Option ℤ) → expr_value p.target (env_by f m bs) y ≡ u → at_int u (λ k. op_value o k vs p.target) ≡ Some x → op_value o (int_made (Sourced p f bs) o (Some y)) vs p.target ≡ Some x
    go None e d = absurd cc
    go (Some k) e d =
        let q : expr_value p.target (bound_env f bs) y ≡ Some k = sym (expr_same y p.target (bound_env f bs) (λ i. m (value_in (slice_get bs i)))) ∙ e in
        ap (λ z. op_value o (int_as o z) vs p.target) q ∙ (kept_value o.family o.a o.b k vs p.target ∙ d)

-- m has the numbers of these values of g
abbrev pub AreExact : Program → FuncRecord → Numbers → (ℕ → ℕ) → List ValueRecord → Type 0
AreExact p g e m ws = (w : ValueRecord) → In w ws → m w.id ≡ number_by (origin_of w.op.family) p g e m w

pub in_left : {A : Type 0} (x : A) (xs ys : List A) → In x xs → In x (xs ++ ys)
in_left x [] ys i = elim i [ ]
in_left x (z ∷ xs) ys (inl e) = inl e
in_left x (z ∷ xs) ys (inr i) = inr (in_left x xs ys i)

pub in_right : {A : Type 0} (x : A) (xs ys : List A) → In x ys → In x (xs ++ ys)
in_right x [] ys i = i
in_right x (z ∷ xs) ys i = inr (in_right x xs ys i)

-- a variable of the right tree has its number in both functions
abbrev pub Agrees : (ℕ → ℕ) → (ℕ → ℕ) → List Bound → ℕ → Type 0
Agrees m n bs i = n (value_in (slice_get bs i)) ≡ m (value_in (slice_get bs i))

-- a node has the number of its op
node_value : (p : Program) (f g : FuncRecord) (e : Numbers) (m n : ℕ → ℕ) (bs : List Bound) (id : ℕ) (other : Ty) (o : Op) (ty : Option TyPart) (int : Option Expr) (a : Option ℕ) (ids vs : List ℕ) (x : ℕ) →
    origin_of o.family ≡ computed → map n ids ≡ vs → with_int p.target (env_by f m bs) int (λ k. op_value o k vs p.target) ≡ Some x →
    n id ≡ number_by (origin_of o.family) p g e n (node_made (Sourced p f bs) id other o ty int a ids) → n id ≡ x
node_value p f g e m n bs id other o ty int a ids vs x c q h d =
    d
    ∙ ap (λ (u : Origin). number_by u p g e n (node_made (Sourced p f bs) id other o ty int a ids)) c
    ∙ ap (λ zs. unwrap_or (op_value o (int_made (Sourced p f bs) o int) zs p.target) 0) q
    ∙ ap (λ z. unwrap_or z 0) (int_value o int p f bs m vs x h)

-- one more tree in front
abbrev front_of : Option ℕ → Option (List ℕ) → Option (List ℕ)
front_of None u = None
front_of (Some v) u = in_front v u

front_is : (o : Option ℕ) (us : List (Option ℕ)) → all_some (o ∷ us) ≡ front_of o (all_some us)
front_is None us = refl
front_is (Some v) us = refl

-- a node, where the names of its arguments have the numbers of their trees
of_node : (p : Program) (f g : FuncRecord) (e : Numbers) (m n : ℕ → ℕ) (bs : List Bound) (id : ℕ) (other : Ty) (o : Op) (ty : Option TyPart) (int : Option Expr) (a : Option ℕ) (ids : List ℕ) (x : ℕ) (u : Option (List ℕ)) →
    origin_of o.family ≡ computed → ((vs : List ℕ) → u ≡ Some vs → map n ids ≡ vs) → with_all u (λ vs. with_int p.target (env_by f m bs) int (λ k. op_value o k vs p.target)) ≡ Some x →
    n id ≡ number_by (origin_of o.family) p g e n (node_made (Sourced p f bs) id other o ty int a ids) → n id ≡ x
of_node p f g e m n bs id other o ty int a ids x None c h q d = absurd cc
of_node p f g e m n bs id other o ty int a ids x (Some vs) c h q d = node_value p f g e m n bs id other o ty int a ids vs x c (h vs refl) q d

-- a row of trees, where the first has its number and the others have theirs
of_row : (first : ℕ) (others : List ℕ) (o : Option ℕ) (u : Option (List ℕ)) (xs : List ℕ) → ((v : ℕ) → o ≡ Some v → first ≡ v) → ((vs : List ℕ) → u ≡ Some vs → others ≡ vs) →
    front_of o u ≡ Some xs → first ∷ others ≡ xs
of_row first others None u xs h k q = absurd cc
of_row first others (Some v) None xs h k q = absurd cc
of_row first others (Some v) (Some vs) xs h k q = (let a = h v refl in let b = k vs refl in let c : v ∷ vs ≡ xs = cc in ap (λ y. y ∷ others) a ∙ (ap (λ ys. v ∷ ys) b ∙ c))

mutual
  made : (b : Build) (p : Program) (f g : FuncRecord) (e : Numbers) (m n : ℕ → ℕ) (bs : List Bound) (first : ℕ) → IsBuilt (Agrees m n bs) b →
      AreExact p g e n (values_made (Sourced p f bs) b first) → (x : ℕ) → built p.target (env_by f m bs) b ≡ Some x → n (name_made (Sourced p f bs) b first) ≡ x
  made (build.Var i) p f g e m n bs first k h x q = k ∙ (let d : m (value_in (slice_get bs i)) ≡ x = cc in d)
  made (build.Node' o ty int a shape args) p f g e m n bs first (c, ks) h x q =
      let s : Source = Sourced p f bs in
      let w : ValueRecord = node_made s (first + length (row_made s args first)) (result_type o) o ty int a (row_names s args first) in
      of_node p f g e m n bs (first + length (row_made s args first)) (result_type o) o ty int a (row_names s args first) x (all_some (built_each p.target (env_by f m bs) args)) c
      (λ vs d. made_each args p f g e m n bs first ks (λ y i. h y (in_left y (row_made s args first) (w ∷ []) i)) vs d)
      q
      (h w (in_right w (row_made s args first) (w ∷ []) (inl refl)))

  made_each : {c : _} (rs : Row_of-Build c) (p : Program) (f g : FuncRecord) (e : Numbers) (m n : ℕ → ℕ) (bs : List Bound) (first : ℕ) → AreBuilt (Agrees m n bs) rs →
      AreExact p g e n (row_made (Sourced p f bs) rs first) → (xs : List ℕ) → all_some (built_each p.target (env_by f m bs) rs) ≡ Some xs →
      map n (row_names (Sourced p f bs) rs first) ≡ xs
  made_each end_of-Build p f g e m n bs first k h xs q = (let d : [] ≡ xs = cc in d)
  made_each (more_of-Build b rs) p f g e m n bs first (k, ks) h xs q =
      let s : Source = Sourced p f bs in
      let next : ℕ = first + length (values_made s b first) in
      of_row (n (name_made s b first)) (map n (row_names s rs next)) (built p.target (env_by f m bs) b) (all_some (built_each p.target (env_by f m bs) rs)) xs
      (λ v d. made b p f g e m n bs first k (λ y i. h y (in_left y (values_made s b first) (row_made s rs next) i)) v d)
      (λ vs d. made_each rs p f g e m n bs next ks (λ y i. h y (in_right y (values_made s b first) (row_made s rs next) i)) vs d)
      (sym (front_is (built p.target (env_by f m bs) b) (built_each p.target (env_by f m bs) rs)) ∙ q)

-- the root has the number of the right tree
pub root_value : (r : Build) (p : Program) (f g : FuncRecord) (e : Numbers) (m n : ℕ → ℕ) (bs : List Bound) (id : ℕ) (ty : Ty) (first : ℕ) → IsBuilt (Agrees m n bs) r →
    AreExact p g e n (inner_made (Sourced p f bs) r first) →
    n id ≡ number_by (origin_of (root_made (Sourced p f bs) id ty r first).op.family) p g e n (root_made (Sourced p f bs) id ty r first) →
    (x : ℕ) → built p.target (env_by f m bs) r ≡ Some x → n id ≡ x
root_value (build.Var i) p f g e m n bs id ty first k h d x q = d ∙ k ∙ (let c : m (value_in (slice_get bs i)) ≡ x = cc in c)
root_value (build.Node' o u int a shape args) p f g e m n bs id ty first (c, ks) h d x q =
    of_node p f g e m n bs id ty o u int a (row_names (Sourced p f bs) args first) x (all_some (built_each p.target (env_by f m bs) args)) c
    (λ vs y. made_each args p f g e m n bs first ks h vs y) q d

mutual
  each_variable : (b : Build) (P Q : ℕ → Type 0) → ((i : ℕ) → P i → Q i) → IsBuilt P b → (same_universe : Type 0) → IsBuilt Q b
  each_variable (build.Var i) P Q h k z = h i k
  each_variable (build.Node' o ty int a shape bs) P Q h (c, k) z = (c, all_variables bs P Q h k z)

  all_variables : {c : _} (bs : Row_of-Build c) (P Q : ℕ → Type 0) → ((i : ℕ) → P i → Q i) → AreBuilt P bs → (same_universe : Type 0) → AreBuilt Q bs
  all_variables end_of-Build P Q h k z = tt
  all_variables (more_of-Build b bs) P Q h (k, ks) z = (each_variable b P Q h k z, all_variables bs P Q h ks z)

-- what holds of each variable of a right tree, weakened
pub each_built : (b : Build) (P Q : ℕ → Type 0) → ((i : ℕ) → P i → Q i) → IsBuilt P b → IsBuilt Q b
each_built b P Q h k = each_variable b P Q h k (Unit {0})
