-- Keys that are sorted, each once, are the keys in rising order.
use Rattle.std.proofs.Common.{◌≡◌, ℕ, ◌==◌, List, [], sym, subst}
use Rattle.std.specs.List.{Contains, dedup}
use Rattle.std.specs.List.Retain.{IsFiltered, DiffersFromLast}
use Rattle.std.specs.List.Sorted.{IsPermutation, IsSortedByKey}
use Rattle.std.specs.Ordering.{nat_cmp}
use Rattle.std.proofs.lemmas.List.Filters.{dedup_is}
use Rattle.std.proofs.lemmas.List.Kept.{AllPairs-from_increasing, Contains-dedup_nat, Contains-from_dedup}
use Rattle.std.proofs.lemmas.List.Sorted.{Contains-permutation, IsPermutation-sym}
use Rattle.std.proofs.lemmas.Map.Keys.{IsStrictlyIncreasing-dedup}
use Rattle.bk_piece.specs.Rising.{Rise, rising}
use Rattle.bk_piece.proofs.Rising.{rising_is}

pub distinct_is : (old sorted new : List ℕ) → IsPermutation old sorted → IsSortedByKey (λ x. x) nat_cmp sorted → IsFiltered (DiffersFromLast (λ x y. x == y)) [] sorted new → new ≡ rising old
distinct_is old sorted new p up f =
    let is : new ≡ dedup (λ x y. x == y) sorted = dedup_is (λ x y. x == y) sorted new f in
    let rises : Rise (dedup (λ x y. x == y) sorted) = λ i j d l m. AllPairs-from_increasing (dedup (λ x y. x == y) sorted) (IsStrictlyIncreasing-dedup sorted up) i j d l m in
    rising_is old new (subst Rise (sym is) rises)
    (λ x h. subst (λ l. Contains l x) (sym is) (Contains-dedup_nat sorted x (Contains-permutation old sorted x p h)))
    (λ x h. Contains-permutation sorted old x (IsPermutation-sym old sorted p) (Contains-from_dedup (λ x y. x == y) sorted x (subst (λ l. Contains l x) is h)))
