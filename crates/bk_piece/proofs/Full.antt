-- The words of cells that hold a key, and the keys of an area.
use Rattle.std.proofs.Common.{◌≡◌, ◌≢◌, ⊎_elim, ℕ, ◌<◌, Bool, true, false, cond, List, [], ◌∷◌, length, get_or, refl, sym, subst, arith}
use Rattle.std.specs.Prelude.{nat_lt}
use Rattle.std.specs.List.{All, Contains}
use Rattle.std.proofs.lemmas.Bool.Decides.{nat_tests}
use Rattle.std.proofs.lemmas.List.Elements.{All-contains, All-from_get_or, Contains-get_or}
use Rattle.bk_piece.specs.Rising.{full, keys_in}
use Rattle.bk_piece.proofs.Elements.{has_here, has_there, has_cases, has_none}
use Rattle.bk_piece.proofs.Rising.{in_rising, from_rising}

pub has_full : (xs : List ℕ) (x : ℕ) → x ≢ 0 → Contains xs x → Contains (full xs) x
has_full [] x ne h = absurd (has_none x h)
has_full (z ∷ xs) x ne h = ⊎_elim
    (λ (same : z ≡ x). let t : nat_lt 0 z ≡ true = grind (arith, nat_tests) in rw t (subst (λ (w : ℕ). Contains (w ∷ full xs) x) (sym same) (has_here x (full xs))))
    (λ rest. more (nat_lt 0 z) (has_full xs x ne rest))
    (has_cases z xs x h)
  where
    more : (b : Bool) → Contains (full xs) x → Contains (cond b (z ∷ full xs) (full xs)) x
    more true r = has_there z (full xs) x r
    more false r = r

pub from_full : (xs : List ℕ) (x : ℕ) → Contains (full xs) x → (x ≢ 0) × Contains xs x
from_full [] x h = absurd (has_none x h)
from_full (z ∷ xs) x h = by (from_full xs x) (nat_lt 0 z) refl h
  where
    by : (Contains (full xs) x → (x ≢ 0) × Contains xs x) → (b : Bool) → nat_lt 0 z ≡ b → Contains (cond b (z ∷ full xs) (full xs)) x → (x ≢ 0) × Contains (z ∷ xs) x
    by again true e r = ⊎_elim
        (λ (same : z ≡ x). (grind (arith, nat_tests), subst (λ (w : ℕ). Contains (z ∷ xs) w) same (has_here z xs)))
        (λ rest. let i = again rest in (i.0, has_there z xs x i.1))
        (has_cases z (full xs) x r)
    by again false e r = let i = again r in (i.0, has_there z xs x i.1)

-- the keys of an area are its words other than 0
pub in_keys : (words : List ℕ) (x : ℕ) → x ≢ 0 → Contains words x → Contains (keys_in words) x
in_keys words x ne h = in_rising (full words) x (has_full words x ne h)

pub from_keys : (words : List ℕ) (x : ℕ) → Contains (keys_in words) x → (x ≢ 0) × Contains words x
from_keys words x h = from_full words x (from_rising (full words) x h)

-- what holds of the words holds of the keys
pub all_keys : (P : ℕ → Type 0) (words : List ℕ) → All P words → All P (keys_in words)
all_keys P words h = All-from_get_or P (keys_in words) 0 (λ i lt. All-contains P words (get_or (keys_in words) i 0) h (from_keys words (get_or (keys_in words) i 0) (Contains-get_or (keys_in words) i 0 lt)).1)

pub keys_some : (words : List ℕ) → All (λ k. 0 < k) (keys_in words)
keys_some words = All-from_get_or (λ k. 0 < k) (keys_in words) 0 (λ i lt. let k = get_or (keys_in words) i 0 in let ne = (from_keys words k (Contains-get_or (keys_in words) i 0 lt)).0 in omega (arith, ne))
