-- Starts that are listed by number.
use Rattle.std.proofs.Common.{◌≡◌, sym, subst, ℕ, ◌≤◌, ◌⊎◌, ◌↔◌, List, [], ◌∷◌, ◌++◌, length, Option, inl, inr, ⊎_elim, arith}
use Rattle.std.specs.List.{Contains}
use Rattle.std.proofs.lemmas.Bool.{cases_eq}
use Rattle.std.proofs.lemmas.List.Elements.{Contains-append_left, Contains-push, Contains-push_cases}
use Rattle.bk_live.specs.declared.homes.Spot.{Spot}
use Rattle.bk_live.specs.declared.search.Start.{Start}
use Rattle.bk_live.specs.declared.uses.Use.{Use}
use Rattle.bk_live.specs.Adds.{Adds, Some_of, Some_before}
use Rattle.bk_live.specs.Homes.{IsBehind}
use Rattle.bk_live.specs.Prepared.{Gives, IsStartOf, start_of}
use Rattle.bk_live.proofs.Adding.{adds_none, adds_same, before_all}
use Rattle.bk_live.proofs.Alone.{contains_at, at_contains}

-- one more start for a number
pub lists_more : (old new : ℕ → List Start) (n : ℕ) (s : Start) → new n ≡ old n ++ s ∷ [] → ((m : ℕ) → (n ≡ m → ⊥) → new m ≡ old m)
    → Adds (λ (e : ℕ × Start). Contains (old e.0) e.1) (λ (e : ℕ × Start). (n ≡ e.0) × (s ≡ e.1)) (λ (e : ℕ × Start). Contains (new e.0) e.1)
lists_more old new n s here' others = record { each = λ e. (to e.0 e.1, back e.0 e.1) }
  where
    to : (m : ℕ) (t : Start) → Contains (new m) t → Contains (old m) t ⊎ ((n ≡ m) × (s ≡ t))
    to m t c = ⊎_elim
        (λ (same : n ≡ m). ⊎_elim
        (λ kept. inl (subst (λ (k : ℕ). Contains (old k) t) same kept))
        (λ (is : s ≡ t). inr (same, is))
        (Contains-push_cases (old n) s t (subst (λ (us : List Start). Contains us t) here' (subst (λ (k : ℕ). Contains (new k) t) (sym same) c))))
        (λ (apart : n ≡ m → ⊥). inl (subst (λ (us : List Start). Contains us t) (others m apart) c))
        (cases_eq n m)

    back : (m : ℕ) (t : Start) → Contains (old m) t ⊎ ((n ≡ m) × (s ≡ t)) → Contains (new m) t
    back m t h = ⊎_elim
        (λ (same : n ≡ m).
        subst (λ (k : ℕ). Contains (new k) t) same
        (subst (λ (us : List Start). Contains us t) (sym here')
        (⊎_elim
        (λ old_one. Contains-append_left (old n) (s ∷ []) t (subst (λ (k : ℕ). Contains (old k) t) (sym same) old_one))
        (λ (a, is). subst (λ (u : Start). Contains (old n ++ s ∷ []) u) is (Contains-push (old n) s))
        h)))
        (λ (apart : n ≡ m → ⊥). subst (λ (us : List Start). Contains us t) (sym (others m apart)) (⊎_elim (λ old_one. old_one) (λ (same, is). absurd (apart same)) h))
        (cases_eq n m)

-- no starts at first
pub starts_none : (counts : List (List ℕ)) (lists : ℕ → List Start) (us : List Use) (h : ℕ → Option Spot) → ((n : ℕ) → lists n ≡ [])
    → Adds (λ (e : ℕ × Start). ⊥) (Some_before us (Gives counts (IsBehind h)) 0) (λ (e : ℕ × Start). Contains (lists e.0) e.1)
starts_none counts lists us h none = record {
  each = λ e. (
    (λ c. absurd (nothing e.1 (subst (λ (ss : List Start). Contains ss e.1) (none e.0) c))),
    (λ x. ⊎_elim (λ no. absurd no) (λ (k, u, l, at, g). absurd (omega arith)) x),
  );
}
  where
    nothing : (s : Start) → Contains [] s → ⊥
    nothing s (k, l, e) = absurd (omega arith)

-- all starts once all uses are seen
pub starts_are : (counts : List (List ℕ)) (h : ℕ → Option Spot) (us : List Use) (i : ℕ) (lists : ℕ → List Start) → length us ≤ i
    → Adds (λ (e : ℕ × Start). ⊥) (Some_before us (Gives counts (IsBehind h)) i) (λ (e : ℕ × Start). Contains (lists e.0) e.1)
    → (n : ℕ) (s : Start) → Contains (lists n) s ↔ IsStartOf h counts us n s
starts_are counts h us i lists over a n s = (
  (λ c. ⊎_elim
      (λ none. absurd none)
      (λ (k, u, at, (value, is, ahead)). (u, contains_at us k u at, value, subst (λ (m : ℕ). ¬ IsBehind h m u.spot) value ahead, is))
      ((all.each (n, s)).0 c)),
  (λ (u, c, value, ahead, is).
      let (k, at) = at_contains us u c in
      (all.each (n, s)).1 (inr (k, u, at, (value, is, subst (λ (m : ℕ). ¬ IsBehind h m u.spot) (sym value) ahead)))),
)
  where
    all : Adds (λ (e : ℕ × Start). ⊥) (Some_of us (Gives counts (IsBehind h))) (λ (e : ℕ × Start). Contains (lists e.0) e.1)
    all = before_all (λ (e : ℕ × Start). ⊥) (λ (e : ℕ × Start). Contains (lists e.0) e.1) us (Gives counts (IsBehind h)) i over a

-- a use that is behind the definition gives none
pub gives_none : (counts : List (List ℕ)) (h : ℕ → Option Spot) (k : ℕ) (u : Use) (P : ℕ × Start → Type 0) → IsBehind h u.value u.spot → Adds P (Gives counts (IsBehind h) k u) P
gives_none counts h k u P behind = adds_none P (Gives counts (IsBehind h) k u) (λ e (value, is, ahead). ahead behind)

pub gives_one : (counts : List (List ℕ)) (h : ℕ → Option Spot) (k : ℕ) (u : Use) (P Q : ℕ × Start → Type 0) → ¬ IsBehind h u.value u.spot
    → Adds P (λ (e : ℕ × Start). (u.value ≡ e.0) × (start_of counts u.spot ≡ e.1)) Q → Adds P (Gives counts (IsBehind h) k u) Q
gives_one counts h k u P Q ahead a =
    adds_same P (λ (e : ℕ × Start). (u.value ≡ e.0) × (start_of counts u.spot ≡ e.1)) (Gives counts (IsBehind h) k u) Q
    (λ e. ((λ (value, is). (value, is, ahead)), (λ (value, is, other). (value, is)))) a
