-- Where no destination is free, the least one heads a cycle, which is gone once its source is the swap word.
use Rattle.std.proofs.Common.{◌≡◌, ℕ, zero, suc, ◌<◌, ◌≤◌, refl, ap, sym, ◌∙◌, subst, arith, List, [], ◌∷◌, length, Option, Some, None, Bool, true, false, cond, ◌==◌, eq-eqb, ne_eqb, eqb-true}
use Rattle.std.specs.Prelude.{◌||◌, map}
use Rattle.std.specs.List.{AllByRecursion, find}
use Rattle.std.specs.Set.{is_member}
use Rattle.std.proofs.lemmas.Cmp.{nat_eq_equiv}
use Rattle.std.proofs.lemmas.Map.Keys.{IsDistinct-cons}
use Rattle.std.proofs.lemmas.Map.Made.{length-le_from_is_member}
use Rattle.bk_func.specs.declared.parts.Loc.TheVariants.{Swap}
use Rattle.bk_shuffle.specs.Sequence.{Move, place_of, is_free}
use Rattle.bk_shuffle.specs.AtOnce.{goes_to, destinations}
use Rattle.bk_shuffle.specs.Cycles.{place_from, source_of, further, back, HeadsCycle}
use Rattle.bk_shuffle.proofs.Doing.{AreDistinct, none_goes, found_passes, found_in_all, sources, apart_each, sources_have, length-map}

abbrev pub has : List ℕ → ℕ → Bool
has ks q = is_member (λ x y. x == y) ks q

-- members

has_step : (P : ℕ → Type 0) (q k : ℕ) (b : Bool) → P k → (q == k) ≡ b → (b ≡ false → P q) → P q
has_step P q k true p u r = subst P (sym (eqb-true q k u)) p
has_step P q k false p u r = r refl

pub has_all : (P : ℕ → Type 0) (ks : List ℕ) (q : ℕ) → AllByRecursion P ks → has ks q ≡ true → P q
has_all P [] q a h = absurd cc
has_all P (k ∷ ks) q (p, a) h = has_step P q k (q == k) p refl (λ u. has_all P ks q a (subst (λ (b : Bool). (b || has ks q) ≡ true) u h))

or_false : (a b : Bool) → (a || b) ≡ false → (a ≡ false) × (b ≡ false)
or_false true b h = absurd cc
or_false false b h = (refl, h)

pub has_not : (q : ℕ) (ks : List ℕ) → has ks q ≡ false → AllByRecursion (λ y. (q == y) ≡ false) ks
has_not q [] h = tt
has_not q (k ∷ ks) h = let (x, y) = or_false (q == k) (has ks q) h in (x, has_not q ks y)

or_left : (a b : Bool) → a ≡ true → (a || b) ≡ true
or_left true b h = refl
or_left false b h = absurd cc

or_right : (a b : Bool) → b ≡ true → (a || b) ≡ true
or_right true b h = refl
or_right false b h = h

found_step : (f : Move → ℕ) (m x : Move) (o : Option Move) (rest : Bool) → (o ≡ Some x → rest ≡ true) → (b : Bool) → cond b (Some m) o ≡ Some x → ((f x == f m) || rest) ≡ true
found_step f m x o rest r true h = let q : m ≡ x = cc in or_left (f x == f m) rest (eq-eqb (f x) (f m) (ap f (sym q)))
found_step f m x o rest r false h = or_right (f x == f m) rest (r h)

-- a move that is found has its source among the sources, and its destination among the destinations
pub found_has : (f : Move → ℕ) (ok : Move → Bool) (x : Move) (ms : List Move) → find ok ms ≡ Some x → has (map f ms) (f x) ≡ true
found_has f ok x [] h = absurd cc
found_has f ok x (m ∷ ms) h = found_step f m x (find ok ms) (has (map f ms) (f x)) (λ r. found_has f ok x ms r) (ok m) h

-- steps from places that do not lead to d

avoid_step : (xs ys : List Move) (n : ℕ) (o : Option ℕ) → ((q : ℕ) → o ≡ Some q → back n xs q ≡ back n ys q) → further o (back n xs) ≡ further o (back n ys)
avoid_step xs ys n None r = refl
avoid_step xs ys n (Some q) r = r q refl

avoid : (d : ℕ) (xs ys : List Move) → ((e : ℕ) → ¬ (e ≡ d) → source_of xs e ≡ source_of ys e) → (n e : ℕ) → ((k q : ℕ) → back k ys e ≡ Some q → ¬ (q ≡ d)) → back n xs e ≡ back n ys e
avoid d xs ys s zero e h = refl
avoid d xs ys s (suc n) e h =
    ap (λ o. further o (back n xs)) (s e (h zero e refl))
    ∙ avoid_step xs ys n (source_of ys e) (λ q t. avoid d xs ys s n q (λ k r b. h (suc k) r (ap (λ o. further o (back k ys)) t ∙ b)))

pub same_heads : (d p : ℕ) (xs ys : List Move) → ((e : ℕ) → ¬ (e ≡ d) → source_of ys e ≡ source_of xs e) → d < p → HeadsCycle xs p → HeadsCycle ys p
same_heads d p xs ys s l h =
    let a : (n : ℕ) → back n ys p ≡ back n xs p = λ n. avoid d ys xs s n p (λ k q b e. let x = h.least k q b in absurd (omega (arith, x, e, l))) in
    let n : ¬ (p ≡ d) = λ e. absurd (omega (arith, e, l)) in
    record {
      steps = h.steps;
      some = h.some;
      round = a h.steps ∙ h.round;
      others = λ t. h.others (sym (s p n) ∙ t);
      least = λ k q b. h.least k q (sym (a k) ∙ b);
    }

-- a head is a destination

above_step : (d p : ℕ) (ms : List Move) → AllByRecursion (λ m. d < place_of m.1) ms → (o : Option Move) → find (goes_to p) ms ≡ o → (place_from o ≡ None → ⊥) → d < p
above_step d p ms a None h n = absurd (n refl)
above_step d p ms a (Some m) h n =
    let l = found_in_all (λ m. d < place_of m.1) (goes_to p) m ms a h in
    let e = eqb-true (place_of m.1) p (found_passes (goes_to p) m ms h) in
    omega (arith, l, e)

no_round : (xs : List Move) (p k : ℕ) → 0 < k → back k xs p ≡ Some p → source_of xs p ≡ None → ⊥
no_round xs p zero l b s = absurd (omega (arith, l))
no_round xs p (suc k) l b s =
    let P : Option ℕ → Type 0 = λ o. further o (back k xs) ≡ Some p in
    let x : None ≡ Some p = subst P s b in
    absurd cc

-- one move is changed
others_same : (e : ℕ) (m x : Move) (ms : List Move) → place_of m.1 ≡ place_of x.1 → ¬ (e ≡ place_of m.1) → find (goes_to e) (m ∷ ms) ≡ find (goes_to e) ms
others_same e m x ms s n = ap (λ b. cond b (Some m) (find (goes_to e) ms)) (ne_eqb (place_of m.1) e (λ r. n (sym r)))

pub head_above : (p : ℕ) (m : Move) (ms : List Move) → AllByRecursion (λ x. place_of m.1 < place_of x.1) ms → ¬ (p ≡ place_of m.1) → HeadsCycle (m ∷ ms) p → place_of m.1 < p
head_above p m ms a n h =
    above_step (place_of m.1) p ms a (find (goes_to p) ms) refl
    (λ s. no_round (m ∷ ms) p h.steps h.some h.round (ap place_from (others_same p m m ms refl n) ∙ s))

pub swap_sources : (m : Move) (ms : List Move) (e : ℕ) → ¬ (e ≡ place_of m.1) → source_of ((Swap, m.1) ∷ ms) e ≡ source_of (m ∷ ms) e
swap_sources m ms e n = ap place_from (others_same e (Swap, m.1) m ms refl n) ∙ sym (ap place_from (others_same e m m ms refl n))

-- the destination that takes from the swap word heads no cycle

pub swap_heads_none : (m : Move) (ms : List Move) → AllByRecursion (λ x. ¬ (place_of x.1 ≡ place_of Swap)) (m ∷ ms) → HeadsCycle ((Swap, m.1) ∷ ms) (place_of m.1) → ⊥
swap_heads_none m ms a h = go h.steps h.some h.round
  where
    here : source_of ((Swap, m.1) ∷ ms) (place_of m.1) ≡ Some (place_of Swap)
    here = ap (λ b. place_from (cond b (Some (Swap, m.1)) (find (goes_to (place_of m.1)) ms))) (eq-eqb (place_of m.1) (place_of m.1) refl)

    then' : source_of ((Swap, m.1) ∷ ms) (place_of Swap) ≡ None
    then' = ap place_from (none_goes (place_of Swap) ((Swap, m.1) ∷ ms) (apart_each ((Swap, m.1) ∷ ms) a))

    go : (k : ℕ) → 0 < k → back k ((Swap, m.1) ∷ ms) (place_of m.1) ≡ Some (place_of m.1) → ⊥
    go zero l b = absurd (omega (arith, l))
    go (suc zero) l b =
        let P : Option ℕ → Type 0 = λ o. further o (back zero ((Swap, m.1) ∷ ms)) ≡ Some (place_of m.1) in
        let x : Some (place_of Swap) ≡ Some (place_of m.1) = subst P here b in
        let y : place_of Swap ≡ place_of m.1 = cc in
        a.0 (sym y)
    go (suc (suc k)) l b =
        let P : Option ℕ → Type 0 = λ o. further o (back (suc k) ((Swap, m.1) ∷ ms)) ≡ Some (place_of m.1) in
        let Q : Option ℕ → Type 0 = λ o. further o (back k ((Swap, m.1) ∷ ms)) ≡ Some (place_of m.1) in
        let x : None ≡ Some (place_of m.1) = subst Q then' (subst P here b) in
        absurd cc

-- each source is a destination

pub all_destinations : (s : ℕ) (ms : List Move) → AreDistinct (destinations ms) → AllByRecursion (λ m. is_free ms m ≡ false) ms → has (sources ms) s ≡ true → (b : Bool) → has (destinations ms) s ≡ b → b ≡ true
all_destinations s ms a f h true u = refl
all_destinations s ms a f h false u =
    let all : AreDistinct (s ∷ destinations ms) = IsDistinct-cons (λ x y. x == y) s (destinations ms) (has_not s (destinations ms) u) a in
    let l = length-le_from_is_member nat_eq_equiv (s ∷ destinations ms) (sources ms) all each in
    let x : length (destinations ms) ≡ length ms = length-map (λ m. place_of m.1) ms in
    let y : length (sources ms) ≡ length ms = length-map (λ m. place_of m.0) ms in
    let z : suc (length (destinations ms)) ≤ length (sources ms) = l in
    absurd (omega (arith, x, y, z))
  where
    each : (q : ℕ) → has (s ∷ destinations ms) q ≡ true → has (sources ms) q ≡ true
    each q t = go (q == s) refl
      where
        go : (b : Bool) → (q == s) ≡ b → has (sources ms) q ≡ true
        go true v = ap (has (sources ms)) (eqb-true q s v) ∙ h
        go false v = sources_have ms ms q f (subst (λ (b : Bool). (b || has (destinations ms) q) ≡ true) v t)

pub from_has : (ms : List Move) (q : ℕ) (o : Option Move) (p : ℕ) → find (goes_to p) ms ≡ o → place_from o ≡ Some q → has (sources ms) q ≡ true
from_has ms q None p h s = absurd cc
from_has ms q (Some m) p h s =
    let e : place_of m.0 ≡ q = cc in
    ap (has (sources ms)) (sym e) ∙ found_has (λ x. place_of x.0) (goes_to p) m ms h

back_has_step : (ms : List Move) (n q : ℕ) (o : Option ℕ) → ((p : ℕ) → o ≡ Some p → has (sources ms) p ≡ true) → ((p : ℕ) → has (sources ms) p ≡ true → back n ms p ≡ Some q → has (sources ms) q ≡ true) →
    further o (back n ms) ≡ Some q → has (sources ms) q ≡ true
back_has_step ms n q None s r h = absurd cc
back_has_step ms n q (Some p) s r h = r p (s p refl) h

pub back_has : (ms : List Move) (n p q : ℕ) → has (sources ms) p ≡ true → back n ms p ≡ Some q → has (sources ms) q ≡ true
back_has ms zero p q s h = let e : p ≡ q = cc in ap (has (sources ms)) (sym e) ∙ s
back_has ms (suc n) p q s h = back_has_step ms n q (source_of ms p) (λ r t. from_has ms r (find (goes_to p) ms) p refl t) (λ r t b. back_has ms n r q t b) h
