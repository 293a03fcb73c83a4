-- Keys that are sorted are the keys in rising order.
use Rattle.std.proofs.Common.{◌≡◌, ℕ, ◌+◌, ◌<◌, ◌≤◌, ◌==◌, ◌≢◌, List, length, get_or, ap, sym, subst, arith, ⊎_elim}
use Rattle.std.proofs.lemmas.Bool.{cases_lt}
use Rattle.std.specs.List.{AllPairs}
use Rattle.std.specs.List.Sorted.{IsPermutation, IsNonDecreasing, IsStrictlyIncreasing, IsBinarySearchResult, IsSortedByKey}
use Rattle.std.proofs.lemmas.Bool.Decides.{Decides-eqb, nat_tests}
use Rattle.std.proofs.lemmas.List.Kept.{AllPairs-from_increasing}
use Rattle.std.proofs.lemmas.Map.Keys.{IsDistinct-IsPermutation}
use Rattle.std.proofs.lemmas.Map.Made.{AllPairs-from_IsDistinct, IsDistinct-from_AllPairs}
use Rattle.std.specs.Prelude.{Result, Ok, Err, MatchResult, count_by, nat_lt, ◌↔◌}
use Rattle.std.specs.Ordering.{nat_cmp}
use Rattle.std.proofs.lemmas.List.Sorted.{searched, IsNonDecreasingBy-from_sort, Contains-permutation, IsPermutation-sym}
use Rattle.bk_piece.specs.Rising.{Rise, full, keys_in}
use Rattle.bk_piece.proofs.Rising.{rising_is}
use Rattle.bk_link.proofs.Below.{count_below}

flips : (x y : ℕ) → (x == y) ≡ (y == x)
flips x y = grind (arith, nat_tests)

-- numbers that differ, in order
strict : (xs ys : List ℕ) → IsPermutation xs ys → IsNonDecreasing ys → AllPairs (λ x y. x ≢ y) xs → Rise ys
strict xs ys p up d =
    let before = IsDistinct-from_AllPairs {eq = λ x y. x == y} Decides-eqb xs d in
    let apart = AllPairs-from_IsDistinct {eq = λ x y. x == y} Decides-eqb ys (IsDistinct-IsPermutation (λ x y. x == y) flips xs ys p before) in
    λ j k e l m. omega (arith, up j k e (omega (arith, l)) m, apart j k e l m)

-- what a sort of the words that hold a key gives
pub sorted_is : (words old new : List ℕ) → AllPairs (λ x y. x ≢ y) (full words) → old ≡ full words → IsPermutation old new → IsSortedByKey (λ x. x) nat_cmp new → new ≡ keys_in words
sorted_is words old new d e p s =
    let q = subst (λ l. IsPermutation l new) e p in
    rising_is (full words) new (strict (full words) new q (IsNonDecreasingBy-from_sort (λ x. x) new s) d)
    (λ x h. Contains-permutation (full words) new x q h) (λ x h. Contains-permutation new (full words) x (IsPermutation-sym (full words) new q) h)

-- a sort of the words that hold a key rises where these differ
pub rise_or_not : (words old new : List ℕ) → old ≡ full words → IsPermutation old new → IsSortedByKey (λ x. x) nat_cmp new → IsStrictlyIncreasing new ↔ AllPairs (λ x y. x ≢ y) (full words)
rise_or_not words old new e p s =
    let q = subst (λ l. IsPermutation l new) e p in
    let up = IsNonDecreasingBy-from_sort (λ x. x) new s in
    ((λ rise. apart (full words) new q rise), (λ d k l. strict (full words) new q up d k (k + 1) 0 (omega arith) l))
  where
    apart : (xs ys : List ℕ) → IsPermutation xs ys → IsStrictlyIncreasing ys → AllPairs (λ x y. x ≢ y) xs
    apart xs ys q rise =
        let differ : AllPairs (λ x y. x ≢ y) ys = λ i j d l m e. omega (arith, AllPairs-from_increasing ys rise i j d l m, e) in
        let distinct = IsDistinct-from_AllPairs {eq = λ x y. x == y} Decides-eqb ys differ in
        AllPairs-from_IsDistinct {eq = λ x y. x == y} Decides-eqb xs (IsDistinct-IsPermutation (λ x y. x == y) flips ys xs (IsPermutation-sym xs ys q) distinct)

rises : (xs : List ℕ) → Rise xs → (i j : ℕ) → i ≤ j → j < length xs → get_or xs i 0 ≤ get_or xs j 0
rises xs s i j l m = ⊎_elim (λ q. omega (arith, s i j 0 q m)) (λ q. omega (arith, ap (λ k. get_or xs k 0) (same i j l q))) (cases_lt i j)
  where
    same : (i j : ℕ) → i ≤ j → j ≤ i → i ≡ j
    same i j l q = omega (arith, l, q)

-- where a search among rising numbers ends
found : (xs : List ℕ) (w : ℕ) (r : Result ℕ ℕ) → IsBinarySearchResult (λ y. nat_cmp y w) xs r → Rise xs
    → MatchResult r (λ i. (count_by (λ c. nat_lt c w) xs ≡ i) × (i ≤ length xs)) (λ i. (count_by (λ c. nat_lt c w) xs ≡ i) × (i ≤ length xs))
found xs w (Ok i) h s =
    let (l, e) = searched xs w (Ok i) h (rises xs s) in
    (count_below xs w i (omega (arith, l)) (λ k q. omega (arith, s k i 0 q l, e)) (λ k q m. omega (arith, rises xs s i k q m, e)), omega (arith, l))
found xs w (Err i) h s =
    let (l, below, above) = searched xs w (Err i) h (rises xs s) in
    (count_below xs w i l below (λ k q m. omega (arith, above k q m)), l)

pub found_at : (xs : List ℕ) (w i : ℕ) → IsBinarySearchResult (λ y. nat_cmp y w) xs (Ok i) → Rise xs → i ≡ count_by (λ c. nat_lt c w) xs
found_at xs w i h s = let (e, _) = found xs w (Ok i) h s in sym e

pub not_found_at : (xs : List ℕ) (w i : ℕ) → IsBinarySearchResult (λ y. nat_cmp y w) xs (Err i) → Rise xs → i ≡ count_by (λ c. nat_lt c w) xs
not_found_at xs w i h s = let (e, _) = found xs w (Err i) h s in sym e
