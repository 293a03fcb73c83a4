-- The moves under the places of their destinations do what the moves do.
use Rattle.std.proofs.Common.{◌≡◌, ℕ, ◌+◌, ◌*◌, ◌<◌, ◌≤◌, refl, ap, sym, ◌∙◌, subst, arith, List, [], ◌∷◌, length, Option, Some, None, Bool, true, false, cond, ◌==◌, ne_eqb, eqb-true}
use Rattle.std.specs.List.{AllByRecursion, find, fold, IsDistinct}
use Rattle.std.specs.List.Sorted.{IsStrictlySortedBy}
use Rattle.std.specs.Map.{keys_of, values_of, lookup}
use Rattle.std.specs.Ordering.{nat_cmp, match_ordering}
use Rattle.std.specs.declared.cmp.Ordering.{Ordering}
use Rattle.std.specs.declared.cmp.Ordering.TheVariants.{Less, Equal, Greater}
use Rattle.std.specs.BTreeMap.{BTreeMap, is_at, insert_entry, values}
use Rattle.std.proofs.lemmas.Cmp.{ranked}
use Rattle.std.proofs.lemmas.List.Sums.{count_by-le-length}
use Rattle.std.proofs.lemmas.Map.Entries.{length-values_of}
use Rattle.std.proofs.lemmas.Map.Keys.{sorted_head, sorted_tail, IsDistinct-head, IsDistinct-tail, IsDistinct-cons}
use Rattle.bk_func.specs.declared.parts.Loc.TheVariants.{Swap}
use Rattle.bk_shuffle.specs.Sequence.{Move, place_of, with_move, by_place, sequenced, sequence_of}
use Rattle.bk_shuffle.specs.Left.{IsAtItsPlace, AreLeft}
use Rattle.bk_shuffle.specs.AtOnce.{after_each, goes_to, held_by, destinations, DoAll}
use Rattle.bk_shuffle.proofs.Entries.{hit_at}
use Rattle.bk_shuffle.proofs.Doing.{AreDistinct, none_goes, from_a_place, weight, does}

pub find_lookup : (q : ℕ) (es : List (ℕ × Move)) → AllByRecursion IsAtItsPlace es → find (goes_to q) (values_of es) ≡ lookup (is_at (nat_cmp q)) es
find_lookup q [] a = refl
find_lookup q (e ∷ es) (p, a) =
    let h : (place_of e.1.1 == q) ≡ is_at (nat_cmp q) e.0 = ap (λ n. n == q) p.0 ∙ sym (hit_at q e.0) in
    ap (λ b. cond b (Some e.1) (find (goes_to q) (values_of es))) h ∙ ap (λ o. cond (is_at (nat_cmp q) e.0) (Some e.1) o) (find_lookup q es a)

twice : (b : Bool) (v x : Move) (o : Option Move) → cond b (Some v) o ≡ cond b (Some v) (cond b (Some x) o)
twice true v x o = refl
twice false v x o = refl

both : (a b : Bool) (v x : Move) (o : Option Move) → (a ≡ true → b ≡ true → ⊥) → cond b (Some x) (cond a (Some v) o) ≡ cond a (Some v) (cond b (Some x) o)
both true true v x o n = absurd (n refl refl)
both true false v x o n = refl
both false b v x o n = refl

is_here : (q k : ℕ) → is_at (nat_cmp q) k ≡ true → k ≡ q
is_here q k h = eqb-true k q (sym (hit_at q k) ∙ h)

put_step : (q k : ℕ) (v : Move) (e : ℕ × Move) (es rest : List (ℕ × Move)) → lookup (is_at (nat_cmp q)) rest ≡ cond (is_at (nat_cmp q) k) (Some v) (lookup (is_at (nat_cmp q)) es) → (o : Ordering) → o ≡ nat_cmp k e.0 →
    lookup (is_at (nat_cmp q)) (match_ordering o ((k, v) ∷ e ∷ es) ((e.0, v) ∷ es) (e ∷ rest)) ≡ cond (is_at (nat_cmp q) k) (Some v) (lookup (is_at (nat_cmp q)) (e ∷ es))
put_step q k v e es rest r Less h = refl
put_step q k v e es rest r Equal h =
    let x : k ≡ e.0 = ranked k e.0 Equal h in
    twice (is_at (nat_cmp q) e.0) v e.1 (lookup (is_at (nat_cmp q)) es) ∙ ap (λ n. cond (is_at (nat_cmp q) n) (Some v) (lookup (is_at (nat_cmp q)) (e ∷ es))) (sym x)
put_step q k v e es rest r Greater h =
    let x : e.0 < k = ranked k e.0 Greater h in
    ap (λ o. cond (is_at (nat_cmp q) e.0) (Some e.1) o) r
    ∙ both (is_at (nat_cmp q) k) (is_at (nat_cmp q) e.0) v e.1 (lookup (is_at (nat_cmp q)) es) (λ a b. let y = is_here q k a in let z = is_here q e.0 b in absurd (omega (arith, x, y, z)))

pub lookup_put : (q k : ℕ) (v : Move) (es : List (ℕ × Move)) → lookup (is_at (nat_cmp q)) (insert_entry nat_cmp es k v) ≡ cond (is_at (nat_cmp q) k) (Some v) (lookup (is_at (nat_cmp q)) es)
lookup_put q k v [] = refl
lookup_put q k v (e ∷ es) = put_step q k v e es (insert_entry nat_cmp es k v) (lookup_put q k v es) (nat_cmp k e.0) refl

abbrev pub or_else : Option Move → Option Move → Option Move
or_else None o = o
or_else (Some x) o = Some x

pub or_none : (o : Option Move) → or_else o None ≡ o
or_none None = refl
or_none (Some x) = refl

all_step : (q : ℕ) (m : Move) (ms : List Move) (o : Option Move) → AllByRecursion (λ y. (place_of m.1 == y) ≡ false) (destinations ms) → (b : Bool) → (place_of m.1 == q) ≡ b →
    or_else (find (goes_to q) ms) (cond b (Some m) o) ≡ or_else (cond b (Some m) (find (goes_to q) ms)) o
all_step q m ms o a true u =
    let P : ℕ → Type 0 = λ n. AllByRecursion (λ y. (n == y) ≡ false) (destinations ms) in
    ap (λ x. or_else x (Some m)) (none_goes q ms (subst P (eqb-true (place_of m.1) q u) a))
all_step q m ms o a false u = refl

pub lookup_all : (q : ℕ) (es : List (ℕ × Move)) (ms : List Move) → AreDistinct (destinations ms) → lookup (is_at (nat_cmp q)) (fold with_move es ms) ≡ or_else (find (goes_to q) ms) (lookup (is_at (nat_cmp q)) es)
lookup_all q es [] a = refl
lookup_all q es (m ∷ ms) a =
    let o = lookup (is_at (nat_cmp q)) es in
    lookup_all q (with_move es m) ms (IsDistinct-tail (λ x y. x == y) (place_of m.1) (destinations ms) a)
    ∙ (ap (λ x. or_else (find (goes_to q) ms) x) (lookup_put q (place_of m.1) m es ∙ ap (λ b. cond b (Some m) (lookup (is_at (nat_cmp q)) es)) (hit_at q (place_of m.1)))
    ∙ all_step q m ms (lookup (is_at (nat_cmp q)) es) (IsDistinct-head (λ x y. x == y) (place_of m.1) (destinations ms) a) (place_of m.1 == q) refl)

length_step : (k : ℕ) (v : Move) (e : ℕ × Move) (es rest : List (ℕ × Move)) → length rest ≤ length es + 1 → (o : Ordering) → length (match_ordering o ((k, v) ∷ e ∷ es) ((e.0, v) ∷ es) (e ∷ rest)) ≤ length (e ∷ es) + 1
length_step k v e es rest l Less = omega arith
length_step k v e es rest l Equal = omega arith
length_step k v e es rest l Greater = omega (arith, l)

length_put : (k : ℕ) (v : Move) (es : List (ℕ × Move)) → length (insert_entry nat_cmp es k v) ≤ length es + 1
length_put k v [] = omega arith
length_put k v (e ∷ es) = length_step k v e es (insert_entry nat_cmp es k v) (length_put k v es) (nat_cmp k e.0)

length_all : (es : List (ℕ × Move)) (ms : List Move) → length (fold with_move es ms) ≤ length es + length ms
length_all es [] = omega arith
length_all es (m ∷ ms) =
    let a = length_all (with_move es m) ms in
    let b : length (with_move es m) ≤ length es + 1 = length_put (place_of m.1) m es in
    omega (arith, a, b)

pub destinations_are : (es : List (ℕ × Move)) → AllByRecursion IsAtItsPlace es → destinations (values_of es) ≡ keys_of es
destinations_are [] a = refl
destinations_are (e ∷ es) (p, a) = ap (λ n. n ∷ destinations (values_of es)) p.0 ∙ ap (λ ns. e.0 ∷ ns) (destinations_are es a)

below_apart : (k : ℕ) (ks : List ℕ) → AllByRecursion (λ y. nat_cmp k y ≡ Less) ks → AllByRecursion (λ y. (k == y) ≡ false) ks
below_apart k [] a = tt
below_apart k (x ∷ xs) (h, a) = (let l : k < x = ranked k x Less (sym h) in ne_eqb k x (omega (arith, l)), below_apart k xs a)

pub sorted_apart : (ks : List ℕ) → IsStrictlySortedBy nat_cmp ks → AreDistinct ks
unfolding IsDistinct
sorted_apart [] s = tt
sorted_apart (k ∷ ks) s = IsDistinct-cons (λ x y. x == y) k ks (below_apart k ks (sorted_head nat_cmp k ks s)) (sorted_apart ks (sorted_tail nat_cmp k ks s))

pub places_apart : (es : List (ℕ × Move)) → AllByRecursion IsAtItsPlace es → AllByRecursion (λ m. ¬ (place_of m.1 ≡ place_of Swap)) (values_of es)
places_apart [] a = tt
places_apart (e ∷ es) (p, a) = (λ h. p.1 (sym p.0 ∙ h), places_apart es a)

-- done one after the other, the pairs do the moves at once
pub sequence_does : (moves : List Move) (left : BTreeMap ℕ Move) → AreDistinct (destinations moves) → AreLeft left → left.entries ≡ by_place moves → DoAll moves (sequence_of moves)
unfolding by_place
sequence_does moves left apart a e s l k =
    let d : AreDistinct (destinations (values left)) = subst (λ (ks : List ℕ). AreDistinct ks) (sym (destinations_are left.entries a.placed)) (sorted_apart (keys_of left.entries) a.ordered) in
    let w : weight (values left) ≤ length moves * 2 =
    (let x = count_by-le-length from_a_place (values left) in
    let y = length-values_of left.entries in
    let z = length_all [] moves in
    let v : length left.entries ≡ length (by_place moves) = ap length e in
    omega (arith, x, y, z, v))
    in
    let f : find (goes_to (place_of l)) (values left) ≡ find (goes_to (place_of l)) moves =
    find_lookup (place_of l) left.entries a.placed ∙ (ap (lookup (is_at (nat_cmp (place_of l)))) e ∙ (lookup_all (place_of l) [] moves apart ∙ or_none (find (goes_to (place_of l)) moves)))
    in
    ap (λ es. after_each (sequenced (length moves * 2) (values_of es)) s l) (sym e)
    ∙ (does (length moves * 2) (values left) w (record { distinct = d; places = places_apart left.entries a.placed }) s l k ∙ ap (held_by s l) f)
