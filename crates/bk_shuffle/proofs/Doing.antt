-- Moves that are done one after the other do what they do at once.
use Rattle.std.proofs.Common.{◌≡◌, ℕ, zero, suc, ◌+◌, ◌≤◌, refl, ap, sym, ◌∙◌, subst, arith, ◌⊎◌, inl, inr, List, [], ◌∷◌, length, Option, Some, None, Bool, true, false, cond, ◌==◌, eq-eqb, ne_eqb, eqb-true}
use Rattle.std.specs.Prelude.{not, ◌&&◌, ◌||◌, count_by, map}
use Rattle.std.specs.List.{AllByRecursion, find, IsDistinct}
use Rattle.std.specs.Set.{is_member}
use Rattle.std.proofs.lemmas.Bool.{cases_eq}
use Rattle.std.proofs.lemmas.Cmp.{nat_eq_equiv}
use Rattle.std.proofs.lemmas.List.Sums.{sum_by-cons}
use Rattle.std.proofs.lemmas.Map.Keys.{IsDistinct-head, IsDistinct-tail, IsDistinct-cons}
use Rattle.std.proofs.lemmas.Map.Made.{length-le_from_is_member}
use Rattle.bk_func.specs.declared.parts.Loc.{Loc}
use Rattle.bk_func.specs.declared.parts.Loc.TheVariants.{Swap}
use Rattle.bk_shuffle.specs.Sequence.{Move, place_of, takes_from, is_free, without, sequenced}
use Rattle.bk_shuffle.specs.Left.{taker}
use Rattle.bk_shuffle.specs.AtOnce.{holding, after_each, goes_to, held_by, after_all, destinations, TakesFromAPlace}
use Rattle.bk_shuffle.proofs.Takers.{takers_cons}
use Rattle.bk_shuffle.proofs.Nexts.{next_free, next_swap, next_end, sequenced_more, sequenced_end}

abbrev pub AreDistinct : List ℕ → Type 0
AreDistinct ks = IsDistinct (λ x y. x == y) ks

-- the move that goes to a place

flip : (a b : ℕ) → (a == b) ≡ false → (b == a) ≡ false
flip a b h = ne_eqb b a (λ e. let x = eq-eqb a b (sym e) in absurd cc)

pub none_goes : (d : ℕ) (ms : List Move) → AllByRecursion (λ y. (d == y) ≡ false) (destinations ms) → find (goes_to d) ms ≡ None
none_goes d [] a = refl
none_goes d (m ∷ ms) (h, a) =
    let P : Bool → Type 0 = λ b. cond b (Some m) (find (goes_to d) ms) ≡ None in
    subst P (sym (flip d (place_of m.1) h)) (none_goes d ms a)

other_step : (q d : ℕ) (m : Move) (ms rest : List Move) → ¬ (q ≡ d) → find (goes_to q) rest ≡ find (goes_to q) ms → (b : Bool) → (place_of m.1 == d) ≡ b → find (goes_to q) (cond b ms (m ∷ rest)) ≡ find (goes_to q) (m ∷ ms)
other_step q d m ms rest n h true u =
    let p : place_of m.1 ≡ d = eqb-true (place_of m.1) d u in
    sym (ap (λ b. cond b (Some m) (find (goes_to q) ms)) (ne_eqb (place_of m.1) q (λ e. n (sym e ∙ p))))
other_step q d m ms rest n h false u = ap (λ o. cond (place_of m.1 == q) (Some m) o) h

pub others_go : (q d : ℕ) (ms : List Move) → ¬ (q ≡ d) → find (goes_to q) (without d ms) ≡ find (goes_to q) ms
others_go q d [] n = refl
others_go q d (m ∷ ms) n = other_step q d m ms (without d ms) n (others_go q d ms n) (place_of m.1 == d) refl

gone_step : (d : ℕ) (m : Move) (ms rest : List Move) → AllByRecursion (λ y. (place_of m.1 == y) ≡ false) (destinations ms) → find (goes_to d) rest ≡ None → (b : Bool) → (place_of m.1 == d) ≡ b →
    find (goes_to d) (cond b ms (m ∷ rest)) ≡ None
gone_step d m ms rest a h true u =
    let P : ℕ → Type 0 = λ n. AllByRecursion (λ y. (n == y) ≡ false) (destinations ms) in
    none_goes d ms (subst P (eqb-true (place_of m.1) d u) a)
gone_step d m ms rest a h false u = ap (λ b. cond b (Some m) (find (goes_to d) rest)) u ∙ h

pub one_gone : (d : ℕ) (ms : List Move) → AreDistinct (destinations ms) → find (goes_to d) (without d ms) ≡ None
one_gone d [] a = refl
one_gone d (m ∷ ms) a =
    gone_step d m ms (without d ms) (IsDistinct-head (λ x y. x == y) (place_of m.1) (destinations ms) a) (one_gone d ms (IsDistinct-tail (λ x y. x == y) (place_of m.1) (destinations ms) a)) (place_of m.1 == d) refl

passes_step : (ok : Move → Bool) (x m : Move) (o : Option Move) → (o ≡ Some x → ok x ≡ true) → (b : Bool) → ok m ≡ b → cond b (Some m) o ≡ Some x → ok x ≡ true
passes_step ok x m o r true u h = let q : m ≡ x = cc in sym (ap ok q) ∙ u
passes_step ok x m o r false u h = r h

pub found_passes : (ok : Move → Bool) (x : Move) (ms : List Move) → find ok ms ≡ Some x → ok x ≡ true
found_passes ok x [] h = absurd cc
found_passes ok x (m ∷ ms) h = passes_step ok x m (find ok ms) (λ r. found_passes ok x ms r) (ok m) refl h

all_step : (P : Move → Type 0) (x m : Move) (o : Option Move) → P m → (o ≡ Some x → P x) → (b : Bool) → cond b (Some m) o ≡ Some x → P x
all_step P x m o p r true h = let q : m ≡ x = cc in subst P q p
all_step P x m o p r false h = r h

pub found_in_all : (P : Move → Type 0) (ok : Move → Bool) (x : Move) (ms : List Move) → AllByRecursion P ms → find ok ms ≡ Some x → P x
found_in_all P ok x [] a h = absurd cc
found_in_all P ok x (m ∷ ms) (p, a) h = all_step P x m (find ok ms) p (λ r. found_in_all P ok x ms a r) (ok m) h

at_step : (ok : Move → Bool) (x m : Move) (ms : List Move) → AllByRecursion (λ y. (place_of m.1 == y) ≡ false) (destinations ms) → (find ok ms ≡ Some x → find (goes_to (place_of x.1)) ms ≡ Some x) → (b : Bool) →
    cond b (Some m) (find ok ms) ≡ Some x → find (goes_to (place_of x.1)) (m ∷ ms) ≡ Some x
at_step ok x m ms a r true h =
    let q : m ≡ x = cc in
    ap (λ b. cond b (Some m) (find (goes_to (place_of x.1)) ms)) (eq-eqb (place_of m.1) (place_of x.1) (ap (λ (y : Move). place_of y.1) q)) ∙ h
at_step ok x m ms a r false h = go (cases_eq (place_of m.1) (place_of x.1))
  where
    go : (place_of m.1 ≡ place_of x.1) ⊎ (place_of m.1 ≡ place_of x.1 → ⊥) → find (goes_to (place_of x.1)) (m ∷ ms) ≡ Some x
    go (inl e) =
        let P : ℕ → Type 0 = λ n. AllByRecursion (λ y. (n == y) ≡ false) (destinations ms) in
        let z = none_goes (place_of x.1) ms (subst P e a) in
        let y = r h in
        absurd cc
    go (inr n) = ap (λ b. cond b (Some m) (find (goes_to (place_of x.1)) ms)) (ne_eqb (place_of m.1) (place_of x.1) n) ∙ r h

pub found_at : (ok : Move → Bool) (x : Move) (ms : List Move) → AreDistinct (destinations ms) → find ok ms ≡ Some x → find (goes_to (place_of x.1)) ms ≡ Some x
found_at ok x [] a h = absurd cc
found_at ok x (m ∷ ms) a h =
    at_step ok x m ms (IsDistinct-head (λ x y. x == y) (place_of m.1) (destinations ms) a) (λ r. found_at ok x ms (IsDistinct-tail (λ x y. x == y) (place_of m.1) (destinations ms) a) r) (ok m) h

-- what takes from a place

test_none : (b : Bool) → ◌≡◌ {A = ℕ} (cond b 1 0) 0 → b ≡ false
test_none true h = absurd (omega (arith, h))
test_none false h = refl

pub none_take : (d : ℕ) (ms : List Move) → count_by (takes_from d) ms ≡ 0 → AllByRecursion (λ m. takes_from d m ≡ false) ms
none_take d [] h = tt
none_take d (m ∷ ms) h =
    let e = takers_cons m ms d in
    let x : taker m d ≡ 0 = omega (arith, e, h) in
    let y : count_by (takes_from d) ms ≡ 0 = omega (arith, e, h) in
    (test_none (takes_from d m) x, none_take d ms y)

and_false : (a b : Bool) → (a && not b) ≡ false → b ≡ false → a ≡ false
and_false true true h e = absurd cc
and_false true false h e = absurd cc
and_false false b h e = refl

kept_by : (s : Loc → ℕ) (d n : ℕ) (to l : Loc) (m : Move) → place_of to ≡ d → takes_from d m ≡ false → ¬ (place_of m.1 ≡ d) → holding s to n m.0 ≡ s m.0
kept_by s d n to l m e t a =
    let x : (place_of m.0 == d) ≡ false = and_false (place_of m.0 == d) (place_of m.1 == d) t (ne_eqb (place_of m.1) d a) in
    ap (λ k. cond (place_of m.0 == k) n (s m.0)) e ∙ ap (λ b. cond b n (s m.0)) x

-- a move to a free place is done

done_other : (s : Loc → ℕ) (x : Move) (l : Loc) (ms : List Move) → count_by (takes_from (place_of x.1)) ms ≡ 0 → ¬ (place_of l ≡ place_of x.1) → (o : Option Move) → find (goes_to (place_of l)) ms ≡ o →
    held_by (holding s x.1 (s x.0)) l o ≡ held_by s l o
done_other s x l ms z n None h = ap (λ b. cond b (s x.0) (s l)) (ne_eqb (place_of l) (place_of x.1) n)
done_other s x l ms z n (Some m) h =
    let t = found_in_all (λ m. takes_from (place_of x.1) m ≡ false) (goes_to (place_of l)) m ms (none_take (place_of x.1) ms z) h in
    let e : place_of m.1 ≡ place_of l = eqb-true (place_of m.1) (place_of l) (found_passes (goes_to (place_of l)) m ms h) in
    kept_by s (place_of x.1) (s x.0) x.1 l m refl t (λ q. n (sym e ∙ q))

pub done_all : (s : Loc → ℕ) (x : Move) (l : Loc) (ms : List Move) → AreDistinct (destinations ms) → find (is_free ms) ms ≡ Some x → after_all (without (place_of x.1) ms) (holding s x.1 (s x.0)) l ≡ after_all ms s l
done_all s x l ms a h = go (cases_eq (place_of l) (place_of x.1))
  where
    go : (place_of l ≡ place_of x.1) ⊎ (place_of l ≡ place_of x.1 → ⊥) → after_all (without (place_of x.1) ms) (holding s x.1 (s x.0)) l ≡ after_all ms s l
    go (inl e) =
        let g : find (goes_to (place_of l)) (without (place_of x.1) ms) ≡ None = ap (λ n. find (goes_to n) (without (place_of x.1) ms)) e ∙ one_gone (place_of x.1) ms a in
        let f : find (goes_to (place_of l)) ms ≡ Some x = ap (λ n. find (goes_to n) ms) e ∙ found_at (is_free ms) x ms a h in
        ap (held_by (holding s x.1 (s x.0)) l) g ∙ (ap (λ b. cond b (s x.0) (s l)) (eq-eqb (place_of l) (place_of x.1) e) ∙ sym (ap (held_by s l) f))
    go (inr n) =
        let z : count_by (takes_from (place_of x.1)) ms ≡ 0 = eqb-true (count_by (takes_from (place_of x.1)) ms) 0 (found_passes (is_free ms) x ms h) in
        ap (held_by (holding s x.1 (s x.0)) l) (others_go (place_of l) (place_of x.1) ms n) ∙ done_other s x l ms z n (find (goes_to (place_of l)) ms) refl

-- the source of the first move goes to the swap word

swapped_other : (s : Loc → ℕ) (n : ℕ) (l : Loc) (ms : List Move) → AllByRecursion TakesFromAPlace ms → ¬ (place_of l ≡ place_of Swap) → (o : Option Move) → find (goes_to (place_of l)) ms ≡ o → held_by (holding s Swap n) l o ≡ held_by s l o
swapped_other s n l ms a k None h = ap (λ b. cond b n (s l)) (ne_eqb (place_of l) (place_of Swap) k)
swapped_other s n l ms a k (Some m) h = ap (λ b. cond b n (s m.0)) (ne_eqb (place_of m.0) (place_of Swap) (found_in_all TakesFromAPlace (goes_to (place_of l)) m ms a h))

swap_step : (s : Loc → ℕ) (m : Move) (l : Loc) (o : Option Move) → held_by (holding s Swap (s m.0)) l o ≡ held_by s l o → (b : Bool) → held_by (holding s Swap (s m.0)) l (cond b (Some (Swap, m.1)) o) ≡ held_by s l (cond b (Some m) o)
swap_step s m l o h true = ap (λ b. cond b (s m.0) (s Swap)) (eq-eqb (place_of Swap) (place_of Swap) refl)
swap_step s m l o h false = h

pub swapped_all : (s : Loc → ℕ) (m : Move) (l : Loc) (ms : List Move) → AllByRecursion TakesFromAPlace ms → ¬ (place_of l ≡ place_of Swap) → after_all ((Swap, m.1) ∷ ms) (holding s Swap (s m.0)) l ≡ after_all (m ∷ ms) s l
swapped_all s m l ms a k =
    swap_step s m l (find (goes_to (place_of l)) ms) (swapped_other s (s m.0) l ms a k (find (goes_to (place_of l)) ms) refl) (place_of m.1 == place_of l)

-- where each destination is a source, the swap word is none

abbrev pub sources : List Move → List ℕ
sources ms = map (λ m. place_of m.0) ms

is_source_step : (d : ℕ) (m : Move) (b : Bool) → (place_of m.0 == d) ≡ b → (d == place_of m.0) ≡ false → taker m d ≡ 0
is_source_step d m b u h = ap (λ x. cond (x && not (place_of m.1 == d)) 1 0) (flip d (place_of m.0) h)

or_false : (a b : Bool) → (a || b) ≡ false → (a ≡ false) × (b ≡ false)
or_false true b h = absurd cc
or_false false b h = (refl, h)

pub no_source : (d : ℕ) (ms : List Move) → is_member (λ x y. x == y) (sources ms) d ≡ false → count_by (takes_from d) ms ≡ 0
no_source d [] h = refl
no_source d (m ∷ ms) h =
    let (x, y) = or_false (d == place_of m.0) (is_member (λ x y. x == y) (sources ms) d) h in
    let e = takers_cons m ms d in
    let a = is_source_step d m (place_of m.0 == d) refl x in
    let b = no_source d ms y in
    omega (arith, e, a, b)

source_by : (d : ℕ) (ms : List Move) → (count_by (takes_from d) ms == 0) ≡ false → (b : Bool) → is_member (λ x y. x == y) (sources ms) d ≡ b → b ≡ true
source_by d ms f true h = refl
source_by d ms f false h = let z = eq-eqb (count_by (takes_from d) ms) 0 (no_source d ms h) in absurd cc

-- each destination of some of the moves is a source of all
pub sources_have : (all ms : List Move) (q : ℕ) → AllByRecursion (λ m. is_free all m ≡ false) ms → is_member (λ x y. x == y) (destinations ms) q ≡ true → is_member (λ x y. x == y) (sources all) q ≡ true
sources_have all [] q a h = absurd cc
sources_have all (m ∷ ms) q (f, a) h = go (q == place_of m.1) refl (λ r. sources_have all ms q a r)
  where
    go : (b : Bool) → (q == place_of m.1) ≡ b → (is_member (λ x y. x == y) (destinations ms) q ≡ true → is_member (λ x y. x == y) (sources all) q ≡ true) → is_member (λ x y. x == y) (sources all) q ≡ true
    go true u r =
        let e : q ≡ place_of m.1 = eqb-true q (place_of m.1) u in
        let t : is_member (λ x y. x == y) (sources all) (place_of m.1) ≡ true = source_by (place_of m.1) all f (is_member (λ x y. x == y) (sources all) (place_of m.1)) refl in
        ap (is_member (λ x y. x == y) (sources all)) e ∙ t
    go false u r = r (subst (λ (b : Bool). (b || is_member (λ x y. x == y) (destinations ms) q) ≡ true) u h)

pub length-map : (f : Move → ℕ) (ms : List Move) → length (map f ms) ≡ length ms
length-map f [] = refl
length-map f (m ∷ ms) = ap suc (length-map f ms)

pub apart_each : (ms : List Move) → AllByRecursion (λ m. ¬ (place_of m.1 ≡ place_of Swap)) ms → AllByRecursion (λ y. (place_of Swap == y) ≡ false) (destinations ms)
apart_each [] a = tt
apart_each (m ∷ ms) (n, a) = (ne_eqb (place_of Swap) (place_of m.1) (λ e. n (sym e)), apart_each ms a)

no_swap : (ms : List Move) → AreDistinct (destinations ms) → AllByRecursion (λ m. ¬ (place_of m.1 ≡ place_of Swap)) ms → AllByRecursion (λ m. is_free ms m ≡ false) ms →
    is_member (λ x y. x == y) (sources ms) (place_of Swap) ≡ true → ⊥
no_swap ms a n f h =
    let all : AreDistinct (place_of Swap ∷ destinations ms) = IsDistinct-cons (λ x y. x == y) (place_of Swap) (destinations ms) (apart_each ms n) a in
    let l = length-le_from_is_member nat_eq_equiv (place_of Swap ∷ destinations ms) (sources ms) all each in
    let x : length (destinations ms) ≡ length ms = length-map (λ m. place_of m.1) ms in
    let y : length (sources ms) ≡ length ms = length-map (λ m. place_of m.0) ms in
    let z : suc (length (destinations ms)) ≤ length (sources ms) = l in
    omega (arith, x, y, z)
  where
    each : (q : ℕ) → is_member (λ x y. x == y) (place_of Swap ∷ destinations ms) q ≡ true → is_member (λ x y. x == y) (sources ms) q ≡ true
    each q t = go (q == place_of Swap) refl
      where
        go : (b : Bool) → (q == place_of Swap) ≡ b → is_member (λ x y. x == y) (sources ms) q ≡ true
        go true u = ap (is_member (λ x y. x == y) (sources ms)) (eqb-true q (place_of Swap) u) ∙ h
        go false u = sources_have ms ms q f (subst (λ (b : Bool). (b || is_member (λ x y. x == y) (destinations ms) q) ≡ true) u t)

take_from_places : (ms : List Move) → (is_member (λ x y. x == y) (sources ms) (place_of Swap) ≡ true → ⊥) → AllByRecursion TakesFromAPlace ms
take_from_places [] n = tt
take_from_places (m ∷ ms) n = (
  λ e. n (ap (λ b. b || is_member (λ x y. x == y) (sources ms) (place_of Swap)) (eq-eqb (place_of Swap) (place_of m.0) (sym e))),
  take_from_places ms (λ h. n (go (place_of Swap == place_of m.0) h)),
)
  where
    go : (b : Bool) → is_member (λ x y. x == y) (sources ms) (place_of Swap) ≡ true → (b || is_member (λ x y. x == y) (sources ms) (place_of Swap)) ≡ true
    go true h = refl
    go false h = h

none_step : (ok : Move → Bool) (m : Move) (o : Option Move) → (b : Bool) → ok m ≡ b → cond b (Some m) o ≡ None → (ok m ≡ false) × (o ≡ None)
none_step ok m o true u h = absurd cc
none_step ok m o false u h = (u, h)

pub none_passes : (ok : Move → Bool) (ms : List Move) → find ok ms ≡ None → AllByRecursion (λ m. ok m ≡ false) ms
none_passes ok [] h = tt
none_passes ok (m ∷ ms) h = let (x, y) = none_step ok m (find ok ms) (ok m) refl h in (x, none_passes ok ms y)

pub swap_is_no_source : (ms : List Move) → AreDistinct (destinations ms) → AllByRecursion (λ m. ¬ (place_of m.1 ≡ place_of Swap)) ms → find (is_free ms) ms ≡ None → AllByRecursion TakesFromAPlace ms
swap_is_no_source ms a n h = take_from_places ms (no_swap ms a n (none_passes (is_free ms) ms h))

-- how many pairs are enough

abbrev pub from_a_place : Move → Bool
from_a_place m = not (place_of m.0 == place_of Swap)

abbrev pub weight : List Move → ℕ
weight ms = length ms + count_by from_a_place ms

from_cons : (m : Move) (ms : List Move) → count_by from_a_place (m ∷ ms) ≡ cond (from_a_place m) 1 0 + count_by from_a_place ms
from_cons m ms = sum_by-cons (λ x. cond (from_a_place x) 1 0) m ms

less_step : (d : ℕ) (m x : Move) (ms : List Move) → (find (goes_to d) ms ≡ Some x → weight (without d ms) + 1 ≤ weight ms) → (b : Bool) → cond b (Some m) (find (goes_to d) ms) ≡ Some x → weight (cond b ms (m ∷ without d ms)) + 1 ≤ weight (m ∷ ms)
less_step d m x ms r true h = let e = from_cons m ms in omega (arith, e)
less_step d m x ms r false h = let e = from_cons m ms in let f = from_cons m (without d ms) in let l = r h in omega (arith, e, f, l)

pub weighs_less : (d : ℕ) (x : Move) (ms : List Move) → find (goes_to d) ms ≡ Some x → weight (without d ms) + 1 ≤ weight ms
weighs_less d x [] h = absurd cc
weighs_less d x (m ∷ ms) h = less_step d m x ms (λ r. weighs_less d x ms r) (place_of m.1 == d) h

pub swap_weighs : (m : Move) (ms : List Move) → TakesFromAPlace m → weight ((Swap, m.1) ∷ ms) + 1 ≤ weight (m ∷ ms)
swap_weighs m ms n =
    let e = from_cons m ms in
    let f = from_cons (Swap, m.1) ms in
    let x : ◌≡◌ {A = ℕ} (cond (from_a_place m) 1 0) 1 = ap (λ b. cond (not b) 1 0) (ne_eqb (place_of m.0) (place_of Swap) n) in
    let y : ◌≡◌ {A = ℕ} (cond (from_a_place (Swap, m.1)) 1 0) 0 = ap (λ b. cond (not b) 1 0) (eq-eqb (place_of Swap) (place_of Swap) refl) in
    omega (arith, e, f, x, y)

-- the moves that are left keep what is known

out_each : (P : ℕ → Type 0) (d : ℕ) (ms : List Move) → AllByRecursion P (destinations ms) → AllByRecursion P (destinations (without d ms))
out_each P d [] a = tt
out_each P d (m ∷ ms) (p, a) = go (place_of m.1 == d) (out_each P d ms a)
  where
    go : (b : Bool) → AllByRecursion P (destinations (without d ms)) → AllByRecursion P (destinations (cond b ms (m ∷ without d ms)))
    go true r = a
    go false r = (p, r)

pub out_distinct : (d : ℕ) (ms : List Move) → AreDistinct (destinations ms) → AreDistinct (destinations (without d ms))
out_distinct d [] a = a
out_distinct d (m ∷ ms) a = go (place_of m.1 == d) (out_distinct d ms (IsDistinct-tail (λ x y. x == y) (place_of m.1) (destinations ms) a))
  where
    go : (b : Bool) → AreDistinct (destinations (without d ms)) → AreDistinct (destinations (cond b ms (m ∷ without d ms)))
    go true r = IsDistinct-tail (λ x y. x == y) (place_of m.1) (destinations ms) a
    go false r =
        IsDistinct-cons (λ x y. x == y) (place_of m.1) (destinations (without d ms))
        (out_each (λ y. (place_of m.1 == y) ≡ false) d ms (IsDistinct-head (λ x y. x == y) (place_of m.1) (destinations ms) a)) r

pub out_all : (P : Move → Type 0) (d : ℕ) (ms : List Move) → AllByRecursion P ms → AllByRecursion P (without d ms)
out_all P d [] a = tt
out_all P d (m ∷ ms) (p, a) = go (place_of m.1 == d) (out_all P d ms a)
  where
    go : (b : Bool) → AllByRecursion P (without d ms) → AllByRecursion P (cond b ms (m ∷ without d ms))
    go true r = a
    go false r = (p, r)

-- all pairs

-- moves to different places, none of them the swap word
pub record AreMoves (ms : List Move) : Type 0 where
  pub distinct : AreDistinct (destinations ms)
  pub places : AllByRecursion (λ m. ¬ (place_of m.1 ≡ place_of Swap)) ms

abbrev Does : ℕ → Type 0
Does n = (ms : List Move) → weight ms ≤ n → AreMoves ms → (s : Loc → ℕ) (l : Loc) → ¬ (place_of l ≡ place_of Swap) → after_each (sequenced n ms) s l ≡ after_all ms s l

does_step : (n : ℕ) (m : Move) (ms : List Move) → Does n → weight (m ∷ ms) ≤ suc n → AreMoves (m ∷ ms) → (s : Loc → ℕ) (l : Loc) → ¬ (place_of l ≡ place_of Swap) → (o : Option Move) → find (is_free (m ∷ ms)) (m ∷ ms) ≡ o →
    after_each (sequenced (suc n) (m ∷ ms)) s l ≡ after_all (m ∷ ms) s l
does_step n m ms r w a s l k None h =
    let t = swap_is_no_source (m ∷ ms) a.distinct a.places h in
    let v = swap_weighs m ms t.0 in
    let e : sequenced (suc n) (m ∷ ms) ≡ (m.0, Swap) ∷ sequenced n ((Swap, m.1) ∷ ms) = sequenced_more n (m ∷ ms) ((Swap, m.1) ∷ ms) (m.0, Swap) (next_swap m ms h) in
    ap (λ ps. after_each ps s l) e
    ∙ (r ((Swap, m.1) ∷ ms) (omega (arith, v, w)) (record { distinct = a.distinct; places = a.places }) (holding s Swap (s m.0)) l k ∙ swapped_all s m l ms t.1 k)
does_step n m ms r w a s l k (Some x) h =
    let f = found_at (is_free (m ∷ ms)) x (m ∷ ms) a.distinct h in
    let v = weighs_less (place_of x.1) x (m ∷ ms) f in
    let e : sequenced (suc n) (m ∷ ms) ≡ x ∷ sequenced n (without (place_of x.1) (m ∷ ms)) = sequenced_more n (m ∷ ms) (without (place_of x.1) (m ∷ ms)) x (next_free (m ∷ ms) x h) in
    ap (λ ps. after_each ps s l) e
    ∙ (r (without (place_of x.1) (m ∷ ms)) (omega (arith, v, w))
    (record { distinct = out_distinct (place_of x.1) (m ∷ ms) a.distinct; places = out_all (λ m. ¬ (place_of m.1 ≡ place_of Swap)) (place_of x.1) (m ∷ ms) a.places }) (holding s x.1 (s x.0)) l k
    ∙ done_all s x l (m ∷ ms) a.distinct h)

pub does : (n : ℕ) → Does n
does zero [] w a s l k = ap (λ ps. after_each ps s l) (sequenced_end zero [] next_end)
does zero (m ∷ ms) w a s l k = absurd (omega (arith, w))
does (suc n) [] w a s l k = ap (λ ps. after_each ps s l) (sequenced_end (suc n) [] next_end)
does (suc n) (m ∷ ms) w a s l k = does_step n m ms (does n) w a s l k (find (is_free (m ∷ ms)) (m ∷ ms)) refl
