-- The place of a number among others, and writes past the end.
use Rattle.std.proofs.Common.{◌≡◌, ◌≢◌, ℕ, ◌+◌, ◌-◌, ◌<◌, ◌≤◌, ◌==◌, if◌then◌else◌, List, [], ◌∷◌, length, drop, get_or, slice_set, refl, ◌∙◌, ap, arith, zero, suc}
use Rattle.std.proofs.lemmas.List.{drop_more}
use Rattle.std.proofs.lemmas.Bool.{eq-eqb, ne_eqb}
use Rattle.bk_func.specs.Edits.{nth_place}

pub set_past : (xs : List ℕ) (i x : ℕ) → length xs ≤ i → slice_set xs i x ≡ xs
set_past [] i x h = refl
set_past (y ∷ ys) zero x h = absurd (omega (arith, h))
set_past (y ∷ ys) (suc i) x h = ap (λ zs. y ∷ zs) (set_past ys i x (omega (arith, h)))

pub place_hit : (x k : ℕ) (xs : List ℕ) (i : ℕ) → i < length xs → get_or xs i 0 ≡ x → k ≡ 0 → nth_place x k (drop i xs) ≡ 0
unfolding nth_place
place_hit x k xs i l e z =
    ap (nth_place x k) (drop_more xs i 0 l)
    ∙ ap (λ t. if t then (if k == 0 then 0 else 1 + nth_place x (k - 1) (drop (i + 1) xs)) else 1 + nth_place x k (drop (i + 1) xs)) (eq-eqb _ _ e)
    ∙ ap (λ t. if t then 0 else 1 + nth_place x (k - 1) (drop (i + 1) xs)) (eq-eqb _ _ z)

pub place_more : (x k : ℕ) (xs : List ℕ) (i : ℕ) → i < length xs → get_or xs i 0 ≡ x → k ≢ 0
    → nth_place x k (drop i xs) ≡ 1 + nth_place x (k - 1) (drop (i + 1) xs)
unfolding nth_place
place_more x k xs i l e z =
    ap (nth_place x k) (drop_more xs i 0 l)
    ∙ ap (λ t. if t then (if k == 0 then 0 else 1 + nth_place x (k - 1) (drop (i + 1) xs)) else 1 + nth_place x k (drop (i + 1) xs)) (eq-eqb _ _ e)
    ∙ ap (λ t. if t then 0 else 1 + nth_place x (k - 1) (drop (i + 1) xs)) (ne_eqb _ _ z)

pub place_other : (x k : ℕ) (xs : List ℕ) (i : ℕ) → i < length xs → get_or xs i 0 ≢ x
    → nth_place x k (drop i xs) ≡ 1 + nth_place x k (drop (i + 1) xs)
unfolding nth_place
place_other x k xs i l e =
    ap (nth_place x k) (drop_more xs i 0 l)
    ∙ ap (λ t. if t then (if k == 0 then 0 else 1 + nth_place x (k - 1) (drop (i + 1) xs)) else 1 + nth_place x k (drop (i + 1) xs)) (ne_eqb _ _ e)

pub place_end : (x k : ℕ) (xs : List ℕ) (i : ℕ) → length xs ≤ i → nth_place x k (drop i xs) ≡ 0
unfolding nth_place
place_end x k [] zero h = refl
place_end x k [] (suc i) h = refl
place_end x k (y ∷ ys) zero h = absurd (omega (arith, h))
place_end x k (y ∷ ys) (suc i) h = place_end x k ys i (omega (arith, h))

pub ruleset place_rules = (place_hit, place_more, place_other, place_end)
