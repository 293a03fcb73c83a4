-- The order in which functions are claimed.
use Rattle.std.proofs.Common.{◌≡◌, ℕ, ◌+◌, ◌≤◌, false, List, map, arith, slice_index_or, subst}
use Rattle.std.specs.Ordering.{is_lt, ordering_then, nat_cmp}
use Rattle.std.specs.List.Sorted.{IsPermutation, IsSorted}
use Rattle.std.proofs.lemmas.Bool.Decides.{nat_tests}
use Rattle.bk_func.specs.Records.{FuncRecord}
use Rattle.bk_dump.specs.ClaimOrder.{Ranked, ranked_from, place_of, given_of, IsClaimOrder}

pub no_shorter : (a b p q : ℕ) → is_lt (ordering_then (nat_cmp a b) (nat_cmp q p)) ≡ false → b ≤ a
no_shorter a b p q h = grind (arith, nat_tests)

pub ties_rise : (a b p q : ℕ) → is_lt (ordering_then (nat_cmp a b) (nat_cmp q p)) ≡ false → a ≡ b → p ≤ q
ties_rise a b p q h e = grind (arith, nat_tests)

pub claimed : (fs : List FuncRecord) (xs ys : List Ranked) (order : List ℕ) → xs ≡ ranked_from 0 fs → IsPermutation xs ys → IsSorted (λ x y. ordering_then (nat_cmp y.0.0 x.0.0) (nat_cmp x.1 y.1)) ys → order ≡ map place_of ys → IsClaimOrder fs order
claimed fs xs ys order is same sorted places = record {
  sorted = ys;
  same = subst (λ (zs : List Ranked). IsPermutation zs ys) is same;
  falling = λ k d below. let h = sorted k d (omega arith) below in record {
    longer = no_shorter (given_of (slice_index_or ys k d)) (given_of (slice_index_or ys (k + 1) d)) (place_of (slice_index_or ys k d)) (place_of (slice_index_or ys (k + 1) d)) h;
    ties = ties_rise (given_of (slice_index_or ys k d)) (given_of (slice_index_or ys (k + 1) d)) (place_of (slice_index_or ys k d)) (place_of (slice_index_or ys (k + 1) d)) h;
  };
  places = places;
}
