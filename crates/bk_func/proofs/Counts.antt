-- Sums modulo 2^64, and lists that are written element by element.
use Rattle.std.proofs.Common.{◌≡◌, ℕ, ◌+◌, ◌%◌, ◌<◌, ◌≤◌, List, [], ◌∷◌, ◌++◌, length, take, drop, map, sum_by, get_or, slice_set, ◌∙◌, ap, add-one, zero-add, suc, arith, take_all}
use Rattle.std.proofs.Math.Seq.{take-suc}
use Rattle.std.proofs.lemmas.List.Sums.{sum_by-append}
use Rattle.std.proofs.lemmas.List.Edits.{map_over_more}

pub sum_more : {X : Type 0} (f : X → ℕ) (xs : List X) (i : ℕ) (d : X) → i < length xs
    → sum_by f (take (i + 1) xs) ≡ sum_by f (take i xs) + f (get_or xs i d)
sum_more f xs i d h =
    let e : sum_by f (take (suc i) xs) ≡ sum_by f (take i xs) + sum_by f (get_or xs i d ∷ []) =
    ap (sum_by f) (take-suc xs i d h) ∙ sum_by-append f (take i xs) (get_or xs i d ∷ [])
    in
    ap (λ j. sum_by f (take j xs)) (add-one i) ∙ e ∙ ap (λ k. sum_by f (take i xs) + k) (zero-add (f (get_or xs i d)))

pub both : (a b u v : ℕ) → u ≡ a → v ≡ b % 18446744073709551616 → (u + v) % 18446744073709551616 ≡ (a + b) % 18446744073709551616
both a b u v p q = omega (arith, p, q)

pub counted : {X : Type 0} (f : X → ℕ) (xs : List X) (i u v : ℕ) (x : X) → i < length xs → x ≡ get_or xs i x
    → u ≡ sum_by f (take i xs) % 18446744073709551616 → v ≡ f x % 18446744073709551616
    → (u + v) % 18446744073709551616 ≡ sum_by f (take (i + 1) xs) % 18446744073709551616
counted f xs i u v x h g p q =
    let e : sum_by f (take (i + 1) xs) ≡ sum_by f (take i xs) + f (get_or xs i x) = sum_more f xs i x h in
    let k : f x ≡ f (get_or xs i x) = ap f g in
    omega (arith, e, k, p, q)

pub mapped : {X : Type 0} (f : X → X) (xs ys : List X) (i : ℕ) (x y : X) → i < length xs
    → ys ≡ map f (take i xs) ++ drop i xs → x ≡ get_or ys i x → y ≡ f x
    → slice_set ys i y ≡ map f (take (i + 1) xs) ++ drop (i + 1) xs
mapped f xs ys i x y h p g e = ap (slice_set ys i) e ∙ map_over_more f xs ys i x h p g

pub counted_all : {X : Type 0} (f : X → ℕ) (xs : List X) (i u : ℕ) → length xs ≤ i
    → u ≡ sum_by f (take i xs) % 18446744073709551616 → u ≡ sum_by f xs % 18446744073709551616
counted_all f xs i u h e = e ∙ ap (λ ys. sum_by f ys % 18446744073709551616) (take_all i xs h)
