-- The pairs of all moves are as many as the moves and their cycles.
use Rattle.std.proofs.Common.{◌≡◌, ℕ, zero, suc, ◌+◌, ◌*◌, ◌<◌, ◌≤◌, refl, ap, sym, ◌∙◌, subst, arith, List, [], ◌∷◌, length, Option, Some, None, Bool, false, cond, ◌==◌, eq-eqb}
use Rattle.std.specs.List.{AllByRecursion, find, fold}
use Rattle.std.specs.List.Sorted.{IsStrictlySortedBy}
use Rattle.std.specs.Map.{keys_of, values_of, lookup}
use Rattle.std.specs.Ordering.{nat_cmp, match_ordering}
use Rattle.std.specs.declared.cmp.Ordering.{Ordering}
use Rattle.std.specs.declared.cmp.Ordering.TheVariants.{Less, Equal, Greater}
use Rattle.std.specs.BTreeMap.{BTreeMap, is_at, insert_entry, values}
use Rattle.std.proofs.lemmas.Cmp.{ranked}
use Rattle.std.proofs.lemmas.List.Sums.{count_by-le-length}
use Rattle.std.proofs.lemmas.Map.Entries.{length-values_of}
use Rattle.std.proofs.lemmas.Map.Keys.{sorted_head, sorted_tail, IsDistinct-head, IsDistinct-tail}
use Rattle.bk_shuffle.specs.Sequence.{Move, place_of, with_move, by_place, sequenced, sequence_of}
use Rattle.bk_shuffle.specs.Left.{AreLeft}
use Rattle.bk_shuffle.specs.AtOnce.{goes_to, destinations}
use Rattle.bk_shuffle.specs.Cycles.{place_from, source_of, further, back, HeadsCycle, AreHeads}
use Rattle.bk_shuffle.proofs.Entries.{hit_same, hit_other}
use Rattle.bk_shuffle.proofs.Doing.{AreDistinct, from_a_place, weight}
use Rattle.bk_shuffle.proofs.Whole.{find_lookup, lookup_put, lookup_all, or_none, destinations_are, sorted_apart, places_apart}
use Rattle.bk_shuffle.proofs.Counting.{Rises, pairs_of_heads}

-- a move to a new place is one more

new_step : (k : ℕ) (v : Move) (e : ℕ × Move) (es rest : List (ℕ × Move)) → (lookup (is_at (nat_cmp k)) es ≡ None → length rest ≡ length es + 1) → cond (is_at (nat_cmp k) e.0) (Some e.1) (lookup (is_at (nat_cmp k)) es) ≡ None →
    (o : Ordering) → o ≡ nat_cmp k e.0 → length (match_ordering o ((k, v) ∷ e ∷ es) ((e.0, v) ∷ es) (e ∷ rest)) ≡ length (e ∷ es) + 1
new_step k v e es rest r h Less u = omega arith
new_step k v e es rest r h Equal u =
    let x : k ≡ e.0 = ranked k e.0 Equal u in
    let P : Bool → Type 0 = λ b. cond b (Some e.1) (lookup (is_at (nat_cmp k)) es) ≡ None in
    let y : Some e.1 ≡ None = subst P (hit_same k e.0 (sym x)) h in
    absurd cc
new_step k v e es rest r h Greater u =
    let x : e.0 < k = ranked k e.0 Greater u in
    let P : Bool → Type 0 = λ b. cond b (Some e.1) (lookup (is_at (nat_cmp k)) es) ≡ None in
    let y = r (subst P (hit_other k e.0 (λ q. absurd (omega (arith, x, q)))) h) in
    omega (arith, y)

new_length : (k : ℕ) (v : Move) (es : List (ℕ × Move)) → lookup (is_at (nat_cmp k)) es ≡ None → length (insert_entry nat_cmp es k v) ≡ length es + 1
new_length k v [] h = omega arith
new_length k v (e ∷ es) h = new_step k v e es (insert_entry nat_cmp es k v) (λ r. new_length k v es r) h (nat_cmp k e.0) refl

still_new : (m : Move) (es : List (ℕ × Move)) (ks : List ℕ) → AllByRecursion (λ y. (place_of m.1 == y) ≡ false) ks → AllByRecursion (λ y. lookup (is_at (nat_cmp y)) es ≡ None) ks → AllByRecursion (λ y. lookup (is_at (nat_cmp y)) (with_move es m) ≡ None) ks
still_new m es [] a b = tt
still_new m es (y ∷ ys) (p, a) (q, b) = (
  lookup_put y (place_of m.1) m es ∙ (ap (λ b. cond b (Some m) (lookup (is_at (nat_cmp y)) es)) (hit_other y (place_of m.1) (λ e. let x = eq-eqb (place_of m.1) y e in absurd cc)) ∙ q),
  still_new m es ys a b,
)

whole_length : (es : List (ℕ × Move)) (ms : List Move) → AreDistinct (destinations ms) → AllByRecursion (λ y. lookup (is_at (nat_cmp y)) es ≡ None) (destinations ms) → length (fold with_move es ms) ≡ length es + length ms
whole_length es [] a n = omega arith
whole_length es (m ∷ ms) a (p, n) =
    let x : length (with_move es m) ≡ length es + 1 = new_length (place_of m.1) m es p in
    let y = whole_length (with_move es m) ms (IsDistinct-tail (λ x y. x == y) (place_of m.1) (destinations ms) a)
    (still_new m es (destinations ms) (IsDistinct-head (λ x y. x == y) (place_of m.1) (destinations ms) a) n) in
    omega (arith, x, y)

abbrev no_entries : List (ℕ × Move)
no_entries = []

none_new : (ks : List ℕ) → AllByRecursion (λ y. lookup (is_at (nat_cmp y)) no_entries ≡ None) ks
none_new [] = tt
none_new (k ∷ ks) = (refl, none_new ks)

below : (k : ℕ) (ks : List ℕ) → AllByRecursion (λ y. nat_cmp k y ≡ Less) ks → AllByRecursion (λ y. k < y) ks
below k [] a = tt
below k (x ∷ xs) (h, a) = (ranked k x Less (sym h), below k xs a)

sorted_rises : (ks : List ℕ) → IsStrictlySortedBy nat_cmp ks → Rises ks
sorted_rises [] s = tt
sorted_rises (k ∷ ks) s = (below k ks (sorted_head nat_cmp k ks s), sorted_rises ks (sorted_tail nat_cmp k ks s))

-- the same sources are the same cycles

same_step : (xs ys : List Move) (n : ℕ) → ((e : ℕ) → back n xs e ≡ back n ys e) → (o : Option ℕ) → further o (back n xs) ≡ further o (back n ys)
same_step xs ys n r None = refl
same_step xs ys n r (Some q) = r q

same_back : (xs ys : List Move) → ((e : ℕ) → source_of xs e ≡ source_of ys e) → (n e : ℕ) → back n xs e ≡ back n ys e
same_back xs ys s zero e = refl
same_back xs ys s (suc n) e = ap (λ o. further o (back n xs)) (s e) ∙ same_step xs ys n (λ f. same_back xs ys s n f) (source_of ys e)

same_cycle : (xs ys : List Move) (p : ℕ) → ((e : ℕ) → source_of xs e ≡ source_of ys e) → HeadsCycle xs p → HeadsCycle ys p
same_cycle xs ys p s h = record {
  steps = h.steps;
  some = h.some;
  round = sym (same_back xs ys s h.steps p) ∙ h.round;
  others = λ t. h.others (s p ∙ t);
  least = λ n q b. h.least n q (same_back xs ys s n p ∙ b);
}

pub sequence_counts : (moves : List Move) (left : BTreeMap ℕ Move) → AreDistinct (destinations moves) → AreLeft left → left.entries ≡ by_place moves → (heads : List ℕ) → AreHeads moves heads → length (sequence_of moves) ≡ length moves + length heads
unfolding by_place
sequence_counts moves left apart a e heads h =
    let d : AreDistinct (destinations (values left)) = subst (λ (ks : List ℕ). AreDistinct ks) (sym (destinations_are left.entries a.placed)) (sorted_apart (keys_of left.entries) a.ordered) in
    let up : Rises (destinations (values left)) = subst (λ (ks : List ℕ). Rises ks) (sym (destinations_are left.entries a.placed)) (sorted_rises (keys_of left.entries) a.ordered) in
    let y : length (values left) ≡ length left.entries = length-values_of left.entries in
    let z1 : length left.entries ≡ 0 + length moves = ap length e ∙ whole_length [] moves apart (none_new (destinations moves)) in
    let z : length left.entries ≡ length moves = omega (arith, z1) in
    let w : weight (values left) ≤ length moves * 2 = (let x = count_by-le-length from_a_place (values left) in omega (arith, x, y, z)) in
    let s : (q : ℕ) → source_of (values left) q ≡ source_of moves q =
    λ q. ap place_from (find_lookup q left.entries a.placed ∙ (ap (lookup (is_at (nat_cmp q))) e ∙ (lookup_all q [] moves apart ∙ or_none (find (goes_to q) moves))))
    in
    let k : AreHeads (values left) heads = record {
      distinct = h.distinct;
      each = λ p. (λ t. same_cycle moves (values left) p (λ q. sym (s q)) ((h.each p).0 t), λ c. (h.each p).1 (same_cycle (values left) moves p s c));
    } in
    let t = pairs_of_heads (length moves * 2) (values left) heads w (record { distinct = d; places = places_apart left.entries a.placed }) up k in
    let u : length (sequence_of moves) ≡ length (sequenced (length moves * 2) (values left)) = ap (λ es. length (sequenced (length moves * 2) (values_of es))) (sym e) in
    omega (arith, t, u, y, z)
