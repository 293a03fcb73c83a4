-- Lists that are made one element after the other.
use Rattle.std.proofs.Common.{◌≡◌, ◌∙◌, sym, refl, ap, subst, ℕ, ◌+◌, ◌<◌, ◌≤◌, List, [], ◌∷◌, ◌++◌, map, length, get_or, set, replicate, ⊎_elim, arith, Some}
use Rattle.std.specs.List.{slice_get}
use Rattle.std.proofs.lemmas.Bool.{cases_lt}
use Rattle.std.proofs.lemmas.List.{get_or_append_left, get_or_push, length_push, get_or-map, map-append, map-set, replicate-append-replicate}
use Rattle.std.proofs.lemmas.Option.{slice_get_read}

-- each of the n elements is as its place asks
pub record Filled {A : Type 0} (P : ℕ → A → Type 0) (d : A) (xs : List A) (n : ℕ) : Type 0 where
  pub size : length xs ≡ n
  pub each : (k : ℕ) → k < n → P k (get_or xs k d)

pub filled_none : {A : Type 0} (P : ℕ → A → Type 0) (d : A) (xs : List A) → xs ≡ [] → Filled P d xs 0
filled_none {A} P d xs none = record { size = ap length none; each = λ k b. absurd (omega arith) }

pub filled_more : {A : Type 0} {P : ℕ → A → Type 0} {d : A} {xs : List A} {n : ℕ} → Filled P d xs n → (x : A) (ys : List A) → P n x → ys ≡ xs ++ x ∷ [] → Filled P d ys (n + 1)
filled_more {A} {P} {d} {xs} {n} filled x ys here more = record {
  size = ap length more ∙ (length_push xs x ∙ ap (λ k. k + 1) filled.size);
  each = λ k b. ⊎_elim
      (λ (low : k < n). subst (P k) (sym (ap (λ us. get_or us k d) more ∙ get_or_append_left xs (x ∷ []) d k (omega (arith, filled.size)))) (filled.each k low))
      (λ (high : n ≤ k).
      let last : k ≡ n = omega arith in
      let at : get_or ys k d ≡ x = ap (λ us. get_or us k d) more ∙ get_or_push xs x d k (omega (arith, filled.size)) in
      subst (P k) (sym at) (subst (λ (j : ℕ). P j x) (sym last) here))
      (cases_lt k n);
}

pub item_at : {A : Type 0} {xs ys : List A} → xs ≡ ys → (i : ℕ) (x : A) → i < length xs → x ≡ get_or xs i x → slice_get ys i ≡ Some x
item_at {A} {xs} {ys} same i x l e = subst (λ (zs : List A). slice_get zs i ≡ Some x) same (slice_get_read xs (length xs) i x refl l e)

pub lists_more : {A B : Type 0} (h : A → B) (old new : List A) (v : A) (n : ℕ) (e : B) → map h old ≡ replicate n e → new ≡ old ++ v ∷ [] → h v ≡ e → map h new ≡ replicate (n + 1) e
lists_more h old new v n e before after is =
    ap (map h) after ∙ (map-append h old (v ∷ []) ∙ (ap (λ us. us ++ h v ∷ []) before ∙ (ap (λ x. replicate n e ++ x ∷ []) is ∙ replicate-append-replicate n 1 e)))

pub edge_more : {A : Type 0} (h : A → List ℕ) (ls : List A) (i to : ℕ) (old new : A) (es : List (List ℕ)) → map h ls ≡ es → i < length ls → old ≡ get_or ls i old → h new ≡ h old ++ to ∷ []
    → map h (set ls i new) ≡ set es i (get_or es i [] ++ to ∷ [])
edge_more h ls i to old new es view within e grown =
    let here : h old ≡ get_or (map h ls) i [] = ap h e ∙ sym (get_or-map h ls i old [] within) in
    map-set h ls i new ∙ (ap (set (map h ls) i) (grown ∙ ap (λ us. us ++ to ∷ []) here) ∙ ap (λ us. set us i (get_or us i [] ++ to ∷ [])) view)
