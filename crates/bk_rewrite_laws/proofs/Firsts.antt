-- The first match at a value is one: of one rule, under one list of bindings, in one list of orders.
use Rattle.std.proofs.Common.{◌≡◌, ℕ, ◌<◌, refl, ap, sym, subst, ◌∙◌, arith, Bool, true, false, List, [], ◌∷◌, length, Option, Some, inl, inr, ◌⊎◌}
use Rattle.std.specs.Prelude.{slice_get}
use Rattle.std.proofs.lemmas.Bool.{cases_lt}
use Rattle.std.proofs.lemmas.Option.{slice_get_within, get_or_from_slice_get}
use Rattle.bk_ops.specs.declared.types.Target.{Target}
use Rattle.bk_func.specs.Records.{ValueRecord, FuncRecord}
use Rattle.bk_rule.specs.declared.trees.Bound.{Bound}
use Rattle.bk_rule.specs.declared.trees.Rule.{Rule}
use Rattle.bk_rule.specs.Match.{IsMatch, orders}
use Rattle.bk_rewrite.specs.First.{IsNumbered, Before, IsFirst, NoneMatches}
use Rattle.bk_rewrite.specs.Making.{source, applied, Grows}
use Rattle.bk_rewrite.specs.Passes.{Applies, Exceeds, Tries}
use Rattle.bk_rewrite_laws.specs.Numbered.{IsRuleNumbered, RulesNumbered}
use Rattle.bk_rewrite_laws.proofs.Matching.{same_bindings}

pub some_same : {A : Type 0} (o : Option A) (x y : A) → o ≡ Some x → o ≡ Some y → x ≡ y
some_same o x y e h = (let q : Some x ≡ Some y = sym e ∙ h in cc)

numbered_at : (rules : List Rule) (k : ℕ) (r : Rule) → RulesNumbered rules → slice_get rules k ≡ Some r → IsNumbered 0 r.left
numbered_at rules k r n e = subst IsRuleNumbered (get_or_from_slice_get rules k r r e) (n k r (slice_get_within rules k r e))

-- of two lists of one length one comes before the other, or they are equal
abbrev Ordered : List Bool → List Bool → Type 0
Ordered cs ds = (cs ≡ ds) ⊎ (Before cs ds ⊎ Before ds cs)

two_orders : (cs ds : List Bool) → length cs ≡ length ds → Ordered cs ds
two_orders [] [] e = inl refl
two_orders [] (d ∷ ds) e = absurd (omega (arith, e))
two_orders (c ∷ cs) [] e = absurd (omega (arith, e))
two_orders (true ∷ cs) (false ∷ ds) e = inr (inr tt)
two_orders (false ∷ cs) (true ∷ ds) e = inr (inl tt)
two_orders (true ∷ cs) (true ∷ ds) e = elim (two_orders cs ds (omega (arith, e))) as (λ z. Ordered (true ∷ cs) (true ∷ ds)) [
  | inl q ↦ inl (ap (λ zs. true ∷ zs) q)
  | inr q ↦ inr q
]
two_orders (false ∷ cs) (false ∷ ds) e = elim (two_orders cs ds (omega (arith, e))) as (λ z. Ordered (false ∷ cs) (false ∷ ds)) [
  | inl q ↦ inl (ap (λ zs. false ∷ zs) q)
  | inr q ↦ inr q
]

module _ (t : Target) (f : FuncRecord) (rules : List Rule) (id : ℕ) (n : RulesNumbered rules) where
  not_before : (i j : ℕ) (xs ys : List Bound) (cs ds : List Bool) → IsFirst t f rules id i xs cs → IsFirst t f rules id j ys ds → i < j → ⊥
  not_before i j xs ys cs ds x y l = y.before i x.rule l x.stands (numbered_at rules i x.rule n x.stands) xs cs x.matches

  pub same_place : (i j : ℕ) (xs ys : List Bound) (cs ds : List Bool) → IsFirst t f rules id i xs cs → IsFirst t f rules id j ys ds → i ≡ j
  same_place i j xs ys cs ds x y = elim (cases_lt i j) [
    | inl l ↦ absurd (not_before i j xs ys cs ds x y l)
    | inr l ↦ elim (cases_lt j i) [
      | inl m ↦ absurd (not_before j i ys xs ds cs y x m)
      | inr m ↦ omega (arith, l, m)
    ]
  ]

  pub same_rule : (i j : ℕ) (xs ys : List Bound) (cs ds : List Bool) (x : IsFirst t f rules id i xs cs) (y : IsFirst t f rules id j ys ds) → x.rule ≡ y.rule
  same_rule i j xs ys cs ds x y = some_same (slice_get rules j) x.rule y.rule (ap (slice_get rules) (sym (same_place i j xs ys cs ds x y)) ∙ x.stands) y.stands

  pub same_orders : (i j : ℕ) (xs ys : List Bound) (cs ds : List Bool) → IsFirst t f rules id i xs cs → IsFirst t f rules id j ys ds → cs ≡ ds
  same_orders i j xs ys cs ds x y =
      let e : x.rule ≡ y.rule = same_rule i j xs ys cs ds x y in
      let l : length cs ≡ length ds = x.matches.one_order_each ∙ (ap (λ (r : Rule). orders r.left) e ∙ sym y.matches.one_order_each) in
      elim (two_orders cs ds l) [
        | inl q ↦ q
        | inr (inl b) ↦ absurd (y.in_order (numbered_at rules j y.rule n y.stands) xs cs b (subst (λ r. IsMatch t f r xs id cs) e x.matches))
        | inr (inr b) ↦ absurd (x.in_order (numbered_at rules i x.rule n x.stands) ys ds b (subst (λ r. IsMatch t f r ys id ds) (sym e) y.matches))
      ]

  pub same_binds : (i j : ℕ) (xs ys : List Bound) (cs ds : List Bool) → IsFirst t f rules id i xs cs → IsFirst t f rules id j ys ds → xs ≡ ys
  same_binds i j xs ys cs ds x y =
      let e : x.rule ≡ y.rule = same_rule i j xs ys cs ds x y in
      let d : cs ≡ ds = same_orders i j xs ys cs ds x y in
      let m : IsMatch t f y.rule xs id ds = subst (λ r. IsMatch t f r xs id ds) e (subst (λ zs. IsMatch t f x.rule xs id zs) d x.matches) in
      same_bindings t f y.rule id ds xs ys (numbered_at rules j y.rule n y.stands) m y.matches

  pub matches_once : (i j : ℕ) (xs ys : List Bound) (cs ds : List Bool) → IsFirst t f rules id i xs cs → IsFirst t f rules id j ys ds → (i ≡ j) × (xs ≡ ys) × (cs ≡ ds)
  matches_once i j xs ys cs ds x y = (same_place i j xs ys cs ds x y, same_binds i j xs ys cs ds x y, same_orders i j xs ys cs ds x y)

  -- ---- what comes of it
  some_matches : (i : ℕ) (xs : List Bound) (cs : List Bool) → IsFirst t f rules id i xs cs → NoneMatches t f rules id → ⊥
  some_matches i xs cs x h = h i x.rule x.stands (numbered_at rules i x.rule n x.stands) xs cs x.matches

  -- where the first match is one, so is what is made of it
  same_made : (b p : ℕ) (v : ValueRecord) (g h : FuncRecord) → Applies t rules f id b p v g → Applies t rules f id b p v h → g ≡ h
  same_made b p v g h x y =
      let e : x.first.rule ≡ y.first.rule = same_rule x.place y.place x.binds y.binds x.orders y.orders x.first y.first in
      let d : x.binds ≡ y.binds = same_binds x.place y.place x.binds y.binds x.orders y.orders x.first y.first in
      x.gives ∙ (ap (λ (r : Rule). applied (source f x.binds t) r.right b p v) e ∙ (ap (λ zs. applied (source f zs t) y.first.rule.right b p v) d ∙ sym y.gives))

  pub same_tries : (b p : ℕ) (v : ValueRecord) (g h : FuncRecord) → Tries t rules f id b p v g → Tries t rules f id b p v h → g ≡ h
  same_tries b p v g h (inl x) (inl y) = x.1 ∙ sym y.1
  same_tries b p v g h (inl x) (inr y) = absurd (some_matches y.place y.binds y.orders y.first x.0)
  same_tries b p v g h (inr x) (inl y) = absurd (some_matches x.place x.binds x.orders x.first y.0)
  same_tries b p v g h (inr x) (inr y) = same_made b p v g h x y

  -- where the first match makes too many values
  pub exceeded : (b p : ℕ) (v : ValueRecord) (g : FuncRecord) → Exceeds t rules f id → Tries t rules f id b p v g → (x : Applies t rules f id b p v g) × Grows (source f x.binds t) x.first.rule.right
  exceeded b p v g x (inl y) = absurd (some_matches x.place x.binds x.orders x.first y.0)
  exceeded b p v g x (inr y) =
      let e : x.first.rule ≡ y.first.rule = same_rule x.place y.place x.binds y.binds x.orders y.orders x.first y.first in
      let d : x.binds ≡ y.binds = same_binds x.place y.place x.binds y.binds x.orders y.orders x.first y.first in
      (y, subst (λ (zs : List Bound). Grows (source f zs t) y.first.rule.right) d (subst (λ (r : Rule). Grows (source f x.binds t) r.right) e x.grows))
