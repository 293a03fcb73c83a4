-- What stands for the arguments that are seen so far.
use Rattle.std.proofs.Common.{◌≡◌, ◌≢◌, ℕ, ◌<◌, ◌≤◌, ◌+◌, refl, ap, sym, ◌∙◌, subst, arith, ◌⊎◌, inl, inr, List, length, Some, Bool, true, false}
use Rattle.std.specs.Prelude.{slice_get, if◌then◌else◌}
use Rattle.std.proofs.lemmas.Bool.{cases_lt}
use Rattle.std.proofs.lemmas.Option.{slice_get_within}
use Rattle.bk_graph.specs.declared.graph.Edge.{Edge}
use Rattle.bk_graph.specs.Facts.{Facts, edge_stays}
use Rattle.bk_graph.specs.Known.{stays_there}
use Rattle.bk_graph.specs.Settling.{root_over, IsOther}

pub record Seen (F : Facts) (es : List Edge) (xs : List ℕ) (own i found : ℕ) : Type 0 where
  pub all : (j y : ℕ) → j < i → slice_get xs j ≡ Some y → (root_over F es own j y ≡ own) ⊎ (root_over F es own j y ≡ found)
  pub there : (found ≡ own) ⊎ ((k x : ℕ) × (slice_get xs k ≡ Some x) × (root_over F es own k x ≡ found))

pub seen_first : (F : Facts) (es : List Edge) (xs : List ℕ) (own : ℕ) → Seen F es xs own 0 own
seen_first F es xs own = record { all = λ j y l e. absurd (omega (arith, l)); there = inl refl }

-- over an edge that does not stay stands `own`
over_stays : (F : Facts) (es : List Edge) (own k x : ℕ) → root_over F es own k x ≢ own → (stays_there (edge_stays F) (slice_get es k) ≡ true) × (root_over F es own k x ≡ F.root x)
over_stays F es own k x n = go (stays_there (edge_stays F) (slice_get es k)) refl n
  where
    go : (z : Bool) → stays_there (edge_stays F) (slice_get es k) ≡ z → (if z then F.root x else own) ≢ own → (z ≡ true) × ((if z then F.root x else own) ≡ F.root x)
    go true e m = (refl, refl)
    go false e m = absurd (m refl)

over_there : (F : Facts) (es : List Edge) (own k x : ℕ) → stays_there (edge_stays F) (slice_get es k) ≡ true → root_over F es own k x ≡ F.root x
over_there F es own k x e = ap (λ (z : Bool). if z then F.root x else own) e

module _ (F : Facts) (es : List Edge) (xs : List ℕ) (own i found x r : ℕ) (s : Seen F es xs own i found) (at : slice_get xs i ≡ Some x) (is : r ≡ root_over F es own i x) where
  with_root : (next : ℕ) → ((z : ℕ) → (z ≡ own) ⊎ (z ≡ found) → (z ≡ own) ⊎ (z ≡ next)) → (r ≡ own) ⊎ (r ≡ next)
      → (next ≡ own) ⊎ ((k y : ℕ) × (slice_get xs k ≡ Some y) × (root_over F es own k y ≡ next)) → Seen F es xs own (i + 1) next
  with_root next kept one there = record { all = λ j y l e. go j y e (cases_lt j i) l; there = there }
    where
      go : (j y : ℕ) → slice_get xs j ≡ Some y → (j < i) ⊎ (i ≤ j) → j < i + 1 → (root_over F es own j y ≡ own) ⊎ (root_over F es own j y ≡ next)
      go j y e (inl b) l = kept (root_over F es own j y) (s.all j y b e)
      go j y e (inr b) l =
          let z : j ≡ i = omega (arith, b, l) in
          let d : Some x ≡ Some y = sym at ∙ ap (slice_get xs) (sym z) ∙ e in
          let w : x ≡ y = cc in
          let P : ℕ → Type 0 = λ t. (t ≡ own) ⊎ (t ≡ next) in
          subst P (is ∙ ap (root_over F es own i) w ∙ ap (λ (n : ℕ). root_over F es own n y) (sym z)) one

  pub seen_own : r ≡ own → Seen F es xs own (i + 1) found
  seen_own e = with_root found (λ z q. q) (inl e) s.there

  pub seen_again : r ≡ found → Seen F es xs own (i + 1) found
  seen_again e = with_root found (λ z q. q) (inr e) s.there

  pub seen_new : found ≡ own → Seen F es xs own (i + 1) r
  seen_new e = with_root r (λ z q. pick z q) (inr refl) (inr (i, x, at, sym is))
    where
      pick : (z : ℕ) → (z ≡ own) ⊎ (z ≡ found) → (z ≡ own) ⊎ (z ≡ r)
      pick z (inl a) = inl a
      pick z (inr a) = inl (a ∙ e)

  pub seen_two : r ≢ own → found ≢ own → found ≢ r → (other : ℕ) → ¬ IsOther F es xs own other
  seen_two a b c other one = go s.there
    where
      over_other : (k y : ℕ) → slice_get xs k ≡ Some y → root_over F es own k y ≢ own → root_over F es own k y ≡ other
      over_other k y e n = pick (one.all k y e (over_stays F es own k y n).0)
        where
          pick : (F.root y ≡ own) ⊎ (F.root y ≡ other) → root_over F es own k y ≡ other
          pick (inl q) = absurd (n ((over_stays F es own k y n).1 ∙ q))
          pick (inr q) = (over_stays F es own k y n).1 ∙ q

      go : (found ≡ own) ⊎ ((k y : ℕ) × (slice_get xs k ≡ Some y) × (root_over F es own k y ≡ found)) → ⊥
      go (inl e) = b e
      go (inr (k, y, e, d)) = c (sym d ∙ over_other k y e (λ q. b (sym d ∙ q)) ∙ sym (over_other i x at (λ q. a (is ∙ q))) ∙ sym is)

pub seen_one : (F : Facts) (es : List Edge) (xs : List ℕ) (own i found : ℕ) → Seen F es xs own i found → length xs ≤ i → found ≢ own → IsOther F es xs own found
seen_one F es xs own i found s l n = go s.there
  where
    go : (found ≡ own) ⊎ ((k x : ℕ) × (slice_get xs k ≡ Some x) × (root_over F es own k x ≡ found)) → IsOther F es xs own found
    go (inl e) = absurd (n e)
    go (inr (k, x, e, d)) = record {
      apart = n;
      place = k;
      arg = x;
      there = e;
      edge = (over_stays F es own k x (λ q. n (sym d ∙ q))).0;
      root = sym (over_stays F es own k x (λ q. n (sym d ∙ q))).1 ∙ d;
      all = λ j y a b. (let P : ℕ → Type 0 = λ z. (z ≡ own) ⊎ (z ≡ found) in let w = slice_get_within xs j y a in subst P (over_there F es own j y b) (s.all j y (omega (arith, w, l)) a));
    }

pub seen_none : (F : Facts) (es : List Edge) (xs : List ℕ) (own i found : ℕ) → Seen F es xs own i found → length xs ≤ i → found ≡ own → (other : ℕ) → ¬ IsOther F es xs own other
seen_none F es xs own i found s l e other one =
    let w = slice_get_within xs one.place one.arg one.there in
    go (s.all one.place one.arg (omega (arith, w, l)) one.there)
  where
    root : root_over F es own one.place one.arg ≡ other
    root = over_there F es own one.place one.arg one.edge ∙ one.root

    go : (root_over F es own one.place one.arg ≡ own) ⊎ (root_over F es own one.place one.arg ≡ found) → ⊥
    go (inl z) = one.apart (sym root ∙ z)
    go (inr z) = one.apart (sym root ∙ z ∙ e)
