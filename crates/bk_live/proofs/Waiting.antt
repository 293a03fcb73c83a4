-- The queue of a search.
use Rattle.std.proofs.Common.{◌≡◌, ◌∙◌, sym, refl, ap, subst, ℕ, ◌<◌, ◌≤◌, ◌⊎◌, List, [], ◌∷◌, length, get_or, Option, None, Some, inl, inr, ⊎_elim, arith}
use Rattle.std.specs.List.{Contains}
use Rattle.std.specs.List.Sorted.{IsPermutation}
use Rattle.std.proofs.lemmas.Bool.{cases_lt}
use Rattle.std.proofs.lemmas.List.Elements.{Contains-append_right, Contains-append_cases}
use Rattle.std.proofs.lemmas.List.Sorted.{Contains-permutation}
use Rattle.std.proofs.lemmas.Option.{none-some, same_Some}
use Rattle.std.specs.declared.cmp.Reverse.{Reverse}
use Rattle.bk_live.specs.Search.{HasUpTo, WaitsIn}

first_in : {A : Type 0} (x : A) (xs : List A) → Contains (x ∷ xs) x
first_in x xs = (0, omega arith, refl)

alone_in : {A : Type 0} (x y : A) → Contains (x ∷ []) y → x ≡ y
alone_in x y (k, l, e) = let z : k ≡ 0 = omega arith in subst (λ (j : ℕ). get_or (x ∷ []) j y ≡ y) z e

-- one more waits
pub waits_more : (xs ys : List (Reverse (ℕ × ℕ))) (x : Reverse (ℕ × ℕ)) → IsPermutation (x ∷ xs) ys → (p d : ℕ) → WaitsIn xs p d → WaitsIn ys p d
waits_more xs ys x perm p d (y, c, e) = (y, Contains-permutation (x ∷ xs) ys y perm (Contains-append_right (x ∷ []) xs y c), e)

pub waits_here : (xs ys : List (Reverse (ℕ × ℕ))) (x : Reverse (ℕ × ℕ)) (p d : ℕ) → IsPermutation (x ∷ xs) ys → x.0 ≡ (d, p) → WaitsIn ys p d
waits_here xs ys x p d perm e = (x, Contains-permutation (x ∷ xs) ys x perm (first_in x xs), e)

-- one waits no more
pub waits_less : (xs ys : List (Reverse (ℕ × ℕ))) (x : Reverse (ℕ × ℕ)) (place distance : ℕ) → IsPermutation xs (x ∷ ys) → x.0 ≡ (distance, place) → (p d : ℕ) → WaitsIn xs p d
    → ((p ≡ place) × (d ≡ distance)) ⊎ WaitsIn ys p d
waits_less xs ys x place distance perm is p d (y, c, e) = ⊎_elim
    (λ first.
    let same : x ≡ y = alone_in x y first in
    let pair : (d, p) ≡ (distance, place) = sym e ∙ (ap (λ (z : Reverse (ℕ × ℕ)). z.0) (sym same) ∙ is) in
    inl (ap (λ (q : ℕ × ℕ). q.1) pair, ap (λ (q : ℕ × ℕ). q.0) pair))
    (λ later. inr (y, later, e))
    (Contains-append_cases (x ∷ []) ys y (Contains-permutation xs (x ∷ ys) y perm c))

-- none waits
pub waits_none : (xs : List (Reverse (ℕ × ℕ))) → xs ≡ [] → (p d : ℕ) → ¬ WaitsIn xs p d
waits_none xs none p d (y, c, e) = nothing y (subst (λ (us : List (Reverse (ℕ × ℕ))). Contains us y) none c)
  where
    nothing : (y : Reverse (ℕ × ℕ)) → Contains [] y → ⊥
    nothing y (k, l, h) = absurd (omega arith)

-- a place that a distance is no smaller for
pub not_nearer : (ls : List (Option ℕ)) (place distance : ℕ) → ¬ (place < length ls × ((b : ℕ) → get_or ls place None ≡ Some b → distance < b)) → place < length ls → HasUpTo ls place distance
not_nearer ls place distance not within = go (get_or ls place None) refl
  where
    go : (o : Option ℕ) → get_or ls place None ≡ o → HasUpTo ls place distance
    go None e = absurd (not (within, λ b h. absurd (none-some b (sym e ∙ h))))
    go (Some b) e = ⊎_elim
        (λ (l : distance < b). absurd (not (within, λ c h. let same : b ≡ c = same_Some b c (sym e ∙ h) in omega arith)))
        (λ (l : b ≤ distance). (b, e, l))
        (cases_lt distance b)
