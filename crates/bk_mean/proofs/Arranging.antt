-- The order of a block's places as it is filled, with the set of those that are free.
use Rattle.std.proofs.Common.{◌≡◌, ℕ, zero, suc, ◌+◌, ◌<◌, ◌≤◌, refl, ap, sym, ◌∙◌, subst, arith, ◌⊎◌, ◌↔◌, inl, inr, List, [], ◌∷◌, ◌++◌, length, Option, Some, true, false, get_or, reverse}
use Rattle.std.specs.Prelude.{slice_index}
use Rattle.std.specs.List.{Contains, list_any, range_with_len}
use Rattle.std.specs.Ordering.{is_lt}
use Rattle.std.specs.BTreeSet.{BTreeSet}
use Rattle.std.specs.BTreeMap.{is_at}
use Rattle.std.proofs.lemmas.List.{reverse-append}
use Rattle.std.proofs.lemmas.Bool.{cases_eq, cases_lt}
use Rattle.bk_func.proofs.Faults.{In}
use Rattle.bk_places.specs.Counts.{count_in, total_in}
use Rattle.bk_places.proofs.Counting.{sum_range}
use Rattle.bk_places.proofs.Leaving.{Edge, behind, led_from, left_of, left_under, all_new, range_all, some_count, count_cut}
use Rattle.bk_mean.specs.declared.arrange.Due.{Due}
use Rattle.bk_mean.specs.Arranged as meant
use Rattle.bk_mean.specs.Arranged.{Later, Filled, none, put}
use Rattle.bk_mean.specs.Dues.{seen_due, coded_due, due_in, due_cmp, has_due, AllDue, DuesOfPlaces, FallsBy, StaysWithin, AreFree, Released, taken_in}
use Rattle.bk_places.proofs.Elements.{to_in, to_contains, in_either}
use Rattle.bk_places.proofs.Positions.{got_get_or}
use Rattle.bk_mean.proofs.Named.{got_in}
use Rattle.bk_mean.proofs.Freeing.{Filling, filling_start, filling_more, filling_end, HasFree, Freed, free_more, free_end}
use Rattle.bk_mean.proofs.Releasing.{due_later}

-- what is filled under one relation is filled under another that is the same
pub filled_as : (due : ℕ → Option meant.Due) (T S : ℕ → ℕ → Type 0) → ((x y : ℕ) → T x y → S x y) → ((x y : ℕ) → S x y → T x y) → (xs zs : List ℕ) → Filled due T xs zs → Filled due S xs zs
filled_as due T S to from _ _ none = none
filled_as due T S to from _ _ (put xs ys zs v d e free later g) =
    put xs ys zs v d e (λ x c s. free x c (from x v s))
    (λ y q c r. elim (later y q c r) as (λ _. ((x : ℕ) × Contains (xs ++ v ∷ ys) x × S x y) ⊎ Later d q) [ inl (x, i, t) ↦ inl (x, i, to x y t) | inr l ↦ inr l ])
    (filled_as due T S to from (xs ++ ys) zs g)

-- an order that is being filled, from its end
pub record State (dues : List (Option Due)) (takes : List (List ℕ)) (order uses : List ℕ) (free : BTreeSet Due) : Type 0 where
  pub filling : Filling (due_in dues) takes (length dues) order uses
  pub frees : HasFree (due_in dues) (left_of (length dues) order) uses (has_due free)
  pub low : (k : ℕ) → In k order → k < length dues

-- the start

pub state_start : (dues : List (Option Due)) (takes : List (List ℕ)) (uses : List ℕ) (free : BTreeSet Due) → length takes ≡ length dues → length uses ≡ length dues → StaysWithin (length dues) takes →
    ((y : ℕ) → slice_index uses y ≡ total_in takes y) → AreFree dues uses (length dues) free → State dues takes [] uses free
state_start dues takes uses free l size within counts are = record {
  filling = filling_start (due_in dues) takes (length dues) uses size
      (λ y h. counts y ∙ sym (sum_range (count_in y) [] takes 0 refl) ∙ ap (λ n. led_from takes (range_with_len 0 n) y) l)
      (λ x y h t. within.within x y (to_contains y (taken_in takes x) t));
  frees = λ d. (
    λ k.
        let q = (are.each d).0 k in
        let P : List ℕ → Type 0 = λ xs. In d.place xs in
        (subst P (sym (all_new (range_with_len 0 (length dues)))) (range_all 0 (length dues) d.place (omega arith) (let m = q.0 in omega (arith, m))), q.1, q.2),
    λ q. (are.each d).1 (left_under (length dues) [] d.place q.0, q.1, q.2),
  );
  low = λ k i. elim i [ ];
}

-- a place that is free

pub own_place : (dues : List (Option Due)) (takes : List (List ℕ)) (order uses : List ℕ) (free : BTreeSet Due) (last : Due) → State dues takes order uses free → has_due free (seen_due last) ≡ true → last.place < length dues
own_place dues takes order uses free last s e = left_under (length dues) order last.place ((s.frees (seen_due last)).0 e).0

past_end : (xs : List ℕ) (y : ℕ) → length xs ≤ y → slice_index xs y ≡ 0
past_end [] y l = refl
past_end (x ∷ xs) zero l = absurd (omega (arith, l))
past_end (x ∷ xs) (suc y) l = past_end xs y (omega (arith, l))

pub enough_uses : (dues : List (Option Due)) (takes : List (List ℕ)) (order uses : List ℕ) (free : BTreeSet Due) (last : Due) → StaysWithin (length dues) takes → State dues takes order uses free →
    has_due free (seen_due last) ≡ true → (y : ℕ) → count_in y (taken_in takes last.place) ≤ slice_index uses y
enough_uses dues takes order uses free last within s e y = go (cases_lt y (length dues))
  where
    go : (y < length dues) ⊎ (length dues ≤ y) → count_in y (taken_in takes last.place) ≤ slice_index uses y
    go (inl l) =
        let c = s.filling.counts y l in
        let k = count_cut takes (length dues) order last.place ((s.frees (seen_due last)).0 e).0 y in
        omega (arith, c, k)
    go (inr l) = by (cases_eq (count_in y (taken_in takes last.place)) 0)
      where
        by : (count_in y (taken_in takes last.place) ≡ 0) ⊎ (count_in y (taken_in takes last.place) ≡ 0 → ⊥) → count_in y (taken_in takes last.place) ≤ slice_index uses y
        by (inl z) = omega (arith, z)
        by (inr n) =
            let i = some_count y (taken_in takes last.place) (omega (arith, n)) in
            let m = within.within last.place y (to_contains y (taken_in takes last.place) i) in
            absurd (omega (arith, m, l))

-- it goes to the order, and what it takes is released
pub state_more : (dues : List (Option Due)) (takes : List (List ℕ)) (order uses rest : List ℕ) (free mid now : BTreeSet Due) (last : Due) → DuesOfPlaces dues → State dues takes order uses free →
    has_due free (seen_due last) ≡ true → ((e : meant.Due) → has_due free e ≡ true → is_lt (due_cmp last (coded_due e)) ≡ false) →
    ((e : meant.Due) → (has_due mid e ≡ true) ↔ ((has_due free e ≡ true) × ¬ (e ≡ seen_due last))) → length rest ≡ length dues →
    ((y : ℕ) → slice_index rest y + count_in y (taken_in takes last.place) ≡ slice_index uses y) → Released dues (taken_in takes last.place) rest mid now → State dues takes (order ++ last.place ∷ []) rest now
state_more dues takes order uses rest free mid now last places s e greatest popped size less r = record {
  filling = filling_more (due_in dues) takes (length dues) order uses rest last.place (seen_due last) s.filling own.0 own.1 own.2 latest size (λ y l. less y);
  frees = free_more (due_in dues) takes (length dues) order uses rest (has_due free) (has_due now) (seen_due last) places.own s.filling s.frees e (λ y l. less y) freed;
  low = λ k i. elim (in_either k order (last.place ∷ []) i) as (λ _. k < length dues) [
    | inl j ↦ s.low k j
    | inr j ↦ elim j as (λ _. k < length dues) [ inl q ↦ (let l = left_under (length dues) order last.place own.0 in omega (arith, l, q)) | inr x ↦ elim x [ ] ]
  ];
}
  where
    own : In last.place (left_of (length dues) order) × (due_in dues last.place ≡ Some (seen_due last)) × (slice_index uses last.place ≡ 0)
    own = (s.frees (seen_due last)).0 e

    latest : (y : ℕ) (d : meant.Due) → In y (left_of (length dues) order) → ¬ (y ≡ last.place) → due_in dues y ≡ Some d → slice_index uses y ≡ 0 → Later (seen_due last) d
    latest y d i n q z =
        let k = places.own y d q in
        let P : ℕ → Type 0 = λ x. In x (left_of (length dues) order) × (due_in dues x ≡ Some d) × (slice_index uses x ≡ 0) in
        let h = (s.frees d).1 (subst P (sym k) (i, q, z)) in
        due_later last (coded_due d) (greatest d h) (λ x. n (sym k ∙ ap (λ (c : Due). c.place) (sym x)))

    freed : Freed (due_in dues) (behind takes last.place) rest (has_due free) (has_due now) (seen_due last)
    freed = record {
      kept = λ q h n. (r.each q).1 (inl ((popped q).1 (h, n)));
      freed = λ q i t z. (r.each q).1 (inr (to_contains q.place (taken_in takes last.place) i, t, z));
      only = λ q h. elim ((r.each q).0 h) as (λ _. ((has_due free q ≡ true) × ¬ (q ≡ seen_due last)) ⊎ (In q.place (behind takes last.place) × (due_in dues q.place ≡ Some q) × (slice_index rest q.place ≡ 0))) [
        | inl k ↦ inl ((popped q).0 k)
        | inr k ↦ inr (to_in q.place (taken_in takes last.place) k.0, k.1, k.2)
      ];
    }

-- the end
pub state_end : (dues : List (Option Due)) (takes : List (List ℕ)) (order uses : List ℕ) (free : BTreeSet Due) → DuesOfPlaces dues → State dues takes order uses free → ((d : meant.Due) → has_due free d ≡ false) → AllDue dues →
    (r : ℕ → ℕ) → FallsBy r takes → Filled (due_in dues) (λ x y. Contains (taken_in takes x) y) (range_with_len 0 (length dues)) (reverse order)
state_end dues takes order uses free places s out all r falls =
    let e = free_end (due_in dues) takes (length dues) order uses (has_due free) s.filling s.frees places.own all r (λ x y t. falls x y (to_contains y (taken_in takes x) t)) out in
    let g = filling_end (due_in dues) takes (length dues) order uses s.filling e in
    filled_as (due_in dues) (Edge takes) (λ x y. Contains (taken_in takes x) y) (λ x y t. to_contains y (taken_in takes x) t) (λ x y c. to_in y (taken_in takes x) c) (range_with_len 0 (length dues)) (reverse order) g

in_reverse : (x : ℕ) (xs : List ℕ) → In x (reverse xs) → In x xs
in_reverse x [] i = elim i [ ]
in_reverse x (y ∷ ys) i =
    let P : List ℕ → Type 0 = λ zs. In x zs in
    elim (in_either x (reverse ys) (y ∷ []) (subst P (reverse-append (y ∷ []) ys) i)) as (λ _. In x (y ∷ ys)) [
      | inl j ↦ inr (in_reverse x ys j)
      | inr j ↦ elim j as (λ _. In x (y ∷ ys)) [ inl e ↦ inl e | inr k ↦ elim k [ ] ]
    ]

-- all places of the order are low
pub low_reverse : (n : ℕ) (order : List ℕ) → ((k : ℕ) → In k order → k < n) → (list : List ℕ) → list ≡ reverse order → (k d : ℕ) → k < length list → get_or list k d < n
low_reverse n order h list e k d l =
    let P : List ℕ → Type 0 = λ xs. In (get_or list k d) xs in
    h (get_or list k d) (in_reverse (get_or list k d) order (subst P e (got_in list k (get_or list k d) (got_get_or list k d l))))

-- a set without keys has no due
pub none_has : (free : BTreeSet Due) → free.keys ≡ [] → (d : meant.Due) → has_due free d ≡ false
none_has free e d = ap (λ ks. list_any (is_at (due_cmp (coded_due d))) ks) e
