-- How many of rising constants are below a number.
use Rattle.std.proofs.Common.{◌≡◌, ℕ, zero, suc, ◌<◌, ◌≤◌, List, [], ◌∷◌, length, get_or, arith}
use Rattle.std.specs.Prelude.{count_by, nat_lt, cond}
use Rattle.std.proofs.lemmas.Bool.Decides.{nat_tests}
use Rattle.std.proofs.lemmas.List.Sums.{sum_by-cons}

-- the numbers below w stand before the place, the others from it on
pub count_below : (xs : List ℕ) (w i : ℕ) → i ≤ length xs → ((k : ℕ) → k < i → get_or xs k 0 < w) → ((k : ℕ) → i ≤ k → k < length xs → w ≤ get_or xs k 0)
    → count_by (λ c. nat_lt c w) xs ≡ i
count_below [] w i l below above = omega (arith, l)
count_below (x ∷ xs) w zero l below above =
    let h : w ≤ x = above 0 (omega arith) (omega arith) in
    let t = count_below xs w 0 (omega arith) (λ k q. omega (arith, q)) (λ k _ q. above (suc k) (omega arith) (omega arith)) in
    grind (arith, nat_tests, sum_by-cons (λ (c : ℕ). cond (nat_lt c w) 1 0) x xs, h, t)
count_below (x ∷ xs) w (suc i) l below above =
    let h : x < w = below 0 (omega arith) in
    let t = count_below xs w i (omega arith) (λ k q. below (suc k) (omega arith)) (λ k q r. above (suc k) (omega arith) (omega arith)) in
    grind (arith, nat_tests, sum_by-cons (λ (c : ℕ). cond (nat_lt c w) 1 0) x xs, h, t)
