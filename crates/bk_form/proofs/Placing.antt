-- The values of a block by their numbers.
use Rattle.std.proofs.Common.{◌≡◌, ◌∙◌, sym, ap, subst, ℕ, ◌+◌, ◌<◌, ◌≤◌, ◌⊎◌, ◌↔◌, List, [], length, get_or, take, Option, None, Some, inl, inr, ⊎_elim, arith}
use Rattle.std.specs.List.{Contains, slice_get}
use Rattle.std.proofs.lemmas.List.{take_all}
use Rattle.std.proofs.lemmas.Option.{none-some, same_Some, slice_get_within}
use Rattle.bk_func.specs.Records.{FuncRecord}
use Rattle.bk_func.specs.Form.Text.{IsPhi}
use Rattle.bk_func.specs.Form.Parts.{IsValueNumber}
use Rattle.bk_places.proofs.Adding.{first_members}
use Rattle.bk_places.proofs.Elements.{none_in, at_contains}
use Rattle.bk_places.proofs.Filling.{Filled}
use Rattle.bk_form.specs.Arranged.{AreTakes, TakesTo}
use Rattle.bk_form.specs.Numbers.{value_ids, sole}
use Rattle.bk_form.specs.Places.{NodeRecord, nodes_of}
use Rattle.bk_form.proofs.Copied.{AreValues, stands_at}
use Rattle.bk_form.proofs.Standing.{node_of, node_alone}

-- the value with the number stands at the place and in the block
abbrev pub IsPlaceIn : FuncRecord → ℕ → ℕ → ℕ → Type 0
IsPlaceIn f home id q = (o : NodeRecord) × (slice_get (nodes_of f) q ≡ Some o) × (home ≡ o.home) × (o.value.id ≡ id)

pub no_place : (f : FuncRecord) (home id : ℕ) → IsValueNumber f id → sole (value_ids f) id ≡ None → (q : ℕ) → (None ≡ Some q) ↔ IsPlaceIn f home id q
no_place f home id one none q = (
  (λ e. absurd (none-some q e)),
  (λ h. let (p, m, s, e, i) = node_of f id one in absurd (none-some p (sym none ∙ s))),
)

pub placed : (f : FuncRecord) (home id p : ℕ) → IsValueNumber f id → sole (value_ids f) id ≡ Some p → ((o : NodeRecord) × (slice_get (nodes_of f) p ≡ Some o) × (home ≡ o.home))
    → (q : ℕ) → (Some p ≡ Some q) ↔ IsPlaceIn f home id q
placed f home id p one place (o, e, here) q = (
  (λ s.
      let (r, m, t, g, i) = node_of f id one in
      let same : r ≡ p = same_Some r p (sym t ∙ place) in
      let node : m ≡ o = same_Some m o (sym g ∙ (ap (slice_get (nodes_of f)) same ∙ e)) in
      let q_is : p ≡ q = same_Some p q s in
      (o, ap (slice_get (nodes_of f)) (sym q_is) ∙ e, here, sym (ap (λ (x : NodeRecord). x.value.id) node) ∙ i)),
  (λ (w, g, h, i). sym place ∙ node_alone f id q w one g i),
)

pub not_placed : (f : FuncRecord) (home id p : ℕ) → IsValueNumber f id → sole (value_ids f) id ≡ Some p → ¬ ((o : NodeRecord) × (slice_get (nodes_of f) p ≡ Some o) × (home ≡ o.home))
    → (q : ℕ) → (None ≡ Some q) ↔ IsPlaceIn f home id q
not_placed f home id p one place other q = (
  (λ s. absurd (none-some q s)),
  (λ (w, g, h, i).
      let same : p ≡ q = same_Some p q (sym place ∙ node_alone f id q w one g i) in
      absurd (other (w, ap (slice_get (nodes_of f)) same ∙ g, h))),
)

-- the places of the first i numbers of a list
pub record PlacedUpTo (f : FuncRecord) (home : ℕ) (ids : List ℕ) (i : ℕ) (ps : List ℕ) : Type 0 where
  pub each : (q : ℕ) → Contains ps q ↔ ((o : NodeRecord) × (slice_get (nodes_of f) q ≡ Some o) × (home ≡ o.home) × Contains (take i ids) o.value.id)

pub placed_none : (f : FuncRecord) (home : ℕ) (ids ps : List ℕ) → ps ≡ [] → PlacedUpTo f home ids 0 ps
placed_none f home ids ps none = record {
  each = λ q. ((λ c. absurd (none_in q (subst (λ (us : List ℕ). Contains us q) none c))), (λ (o, e, h, c). absurd (none_in o.value.id c)));
}

pub placed_more : (f : FuncRecord) (home : ℕ) (ids : List ℕ) (i : ℕ) (ps rs : List ℕ) (place : Option ℕ) → i < length ids → PlacedUpTo f home ids i ps
    → ((q : ℕ) → (place ≡ Some q) ↔ IsPlaceIn f home (get_or ids i 0) q) → ((q : ℕ) → Contains rs q ↔ (Contains ps q ⊎ (place ≡ Some q))) → PlacedUpTo f home ids (i + 1) rs
placed_more f home ids i ps rs place l placed here more = record { each = λ q. (to q, from q) }
  where
    to : (q : ℕ) → Contains rs q → (o : NodeRecord) × (slice_get (nodes_of f) q ≡ Some o) × (home ≡ o.home) × Contains (take (i + 1) ids) o.value.id
    to q c = ⊎_elim
        (λ d. let (o, e, h, m) = (placed.each q).0 d in (o, e, h, (first_members ids i o.value.id l).1 (inl m)))
        (λ s. let (o, e, h, id) = (here q).0 s in (o, e, h, (first_members ids i o.value.id l).1 (inr id)))
        ((more q).0 c)

    from : (q : ℕ) → ((o : NodeRecord) × (slice_get (nodes_of f) q ≡ Some o) × (home ≡ o.home) × Contains (take (i + 1) ids) o.value.id) → Contains rs q
    from q (o, e, h, m) =
        (more q).1 (⊎_elim (λ d. inl ((placed.each q).1 (o, e, h, d))) (λ id. inr ((here q).1 (o, e, h, id))) ((first_members ids i o.value.id l).0 m))

pub placed_all : (f : FuncRecord) (home : ℕ) (ids : List ℕ) (i : ℕ) (ps : List ℕ) → length ids ≤ i → PlacedUpTo f home ids i ps
    → (q : ℕ) → Contains ps q ↔ ((o : NodeRecord) × (slice_get (nodes_of f) q ≡ Some o) × (home ≡ o.home) × Contains ids o.value.id)
placed_all f home ids i ps over placed q =
    subst (λ (us : List ℕ). Contains ps q ↔ ((o : NodeRecord) × (slice_get (nodes_of f) q ≡ Some o) × (home ≡ o.home) × Contains us o.value.id)) (take_all i ids over) (placed.each q)

-- one more place, if there is one
pub pushed_none : (ps : List ℕ) (place : Option ℕ) → place ≡ None → (q : ℕ) → Contains ps q ↔ (Contains ps q ⊎ (place ≡ Some q))
pushed_none ps place none q = ((λ c. inl c), (λ h. ⊎_elim (λ c. c) (λ e. absurd (none-some q (sym none ∙ e))) h))

-- what a value takes
pub takes_phi : (f : FuncRecord) (m : NodeRecord) (ps : List ℕ) → ps ≡ [] → IsPhi m.value → (q : ℕ) → Contains ps q ↔ TakesTo f m q
takes_phi f m ps none phi q = ((λ c. absurd (none_in q (subst (λ (us : List ℕ). Contains us q) none c))), (λ (o, e, h, other, c). absurd (other phi)))

pub takes_args : (f : FuncRecord) (m : NodeRecord) (home : ℕ) (ids ps : List ℕ) → home ≡ m.home → ids ≡ m.value.args → ¬ IsPhi m.value
    → ((q : ℕ) → Contains ps q ↔ ((o : NodeRecord) × (slice_get (nodes_of f) q ≡ Some o) × (home ≡ o.home) × Contains ids o.value.id)) → (q : ℕ) → Contains ps q ↔ TakesTo f m q
takes_args f m home ids ps at args other each q = (
  (λ c. let (o, e, h, d) = (each q).0 c in (o, e, sym at ∙ h, other, subst (λ (us : List ℕ). Contains us o.value.id) args d)),
  (λ (o, e, h, n, d). (each q).1 (o, e, at ∙ h, subst (λ (us : List ℕ). Contains us o.value.id) (sym args) d)),
)

pub takes_all : (f : FuncRecord) (es : List (List ℕ)) (i : ℕ) → i ≡ length (nodes_of f)
    → Filled (λ (p : ℕ) (ps : List ℕ). (m : NodeRecord) → slice_get (nodes_of f) p ≡ Some m → (q : ℕ) → Contains ps q ↔ TakesTo f m q) [] es i → AreTakes f es
takes_all f es i all filled = record {
  size = filled.size ∙ all;
  edge = λ p m e q. filled.each p (omega (arith, all, slice_get_within (nodes_of f) p m e)) m e q;
}

-- the arguments of a value name values
pub ids_named : (f : FuncRecord) → AreValues f → (m : NodeRecord) → Contains (nodes_of f) m → (ids : List ℕ) → ids ≡ m.value.args → (n : ℕ) → Contains ids n → IsValueNumber f n
ids_named f values m inside ids same n c =
    let (p, e) = at_contains (nodes_of f) m inside in
    let (b, has) = stands_at f p m e in
    let (k, at) = at_contains m.value.args n (subst (λ (us : List ℕ). Contains us n) same c) in
    values.argument b m.value k n has at
