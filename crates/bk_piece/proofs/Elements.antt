-- Elements of lists.
use Rattle.std.proofs.Common.{◌≡◌, ◌⊎◌, inl, inr, ⊎_elim, ℕ, zero, suc, ◌<◌, ◌==◌, Bool, true, false, true≢false, ◌||◌, List, [], ◌∷◌, length, get_or, refl, sym, subst, arith}
use Rattle.std.specs.List.{Contains, list_any}
use Rattle.std.proofs.lemmas.Bool.Decides.{nat_tests}

pub has_here : {X : Type 0} (x : X) (xs : List X) → Contains (x ∷ xs) x
has_here x xs = (0, omega arith, refl)

pub has_there : {X : Type 0} (y : X) (xs : List X) (x : X) → Contains xs x → Contains (y ∷ xs) x
has_there y xs x h = let lt = h.1 in (suc h.0, omega arith, h.2)

pub has_cases : {X : Type 0} (y : X) (xs : List X) (x : X) → Contains (y ∷ xs) x → (y ≡ x) ⊎ Contains xs x
has_cases {X} y xs x h = at h.0 h.1 h.2
  where
    at : (k : ℕ) → k < length (y ∷ xs) → get_or (y ∷ xs) k x ≡ x → (y ≡ x) ⊎ Contains xs x
    at zero lt is = inl is
    at (suc k) lt is = inr (k, omega arith, is)

pub has_none : {X : Type 0} (x : X) → ¬ (Contains [] x)
has_none x h = let lt : h.0 < 0 = h.1 in absurd (omega arith)

-- the test that finds a number
pub found : (xs : List ℕ) (q : ℕ) → Contains xs q → list_any (λ y. y == q) xs ≡ true
found [] q h = absurd (has_none q h)
found (z ∷ xs) q h = ⊎_elim
    (λ (same : z ≡ q). let t : (z == q) ≡ true = grind (arith, nat_tests) in rw t refl)
    (λ rest. or_right (z == q) (list_any (λ y. y == q) xs) (found xs q rest))
    (has_cases z xs q h)
  where
    or_right : (a b : Bool) → b ≡ true → (a || b) ≡ true
    or_right true b e = refl
    or_right false b e = e

pub from_found : (xs : List ℕ) (q : ℕ) → list_any (λ y. y == q) xs ≡ true → Contains xs q
from_found [] q e = absurd (true≢false (sym e))
from_found (z ∷ xs) q e = by (from_found xs q) (z == q) refl e
  where
    by : (list_any (λ y. y == q) xs ≡ true → Contains xs q) → (b : Bool) → (z == q) ≡ b → (b || list_any (λ y. y == q) xs) ≡ true → Contains (z ∷ xs) q
    by again true t r = let same : z ≡ q = grind (arith, nat_tests) in subst (λ (w : ℕ). Contains (z ∷ xs) w) same (has_here z xs)
    by again false t r = has_there z xs q (again r)

pub same_tests : (a b : Bool) → (a ≡ true → b ≡ true) → (b ≡ true → a ≡ true) → a ≡ b
same_tests true b f g = sym (f refl)
same_tests false true f g = g refl
same_tests false false f g = refl
