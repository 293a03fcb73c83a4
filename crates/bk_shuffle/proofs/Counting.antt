-- How many pairs the moves take.
use Rattle.std.proofs.Common.{◌≡◌, ℕ, zero, suc, ◌+◌, ◌-◌, ◌<◌, ◌≤◌, refl, ap, sym, ◌∙◌, subst, arith, ◌⊎◌, inl, inr, List, [], ◌∷◌, length, Option, Some, None, Bool, true, false, cond, ◌==◌, eq-eqb, ne_eqb, eqb-true}
use Rattle.std.specs.Prelude.{not, ◌&&◌, ◌||◌, ◌↔◌, count_by}
use Rattle.std.specs.List.{AllByRecursion, find, IsDistinct}
use Rattle.std.proofs.lemmas.Bool.{cases_eq}
use Rattle.std.proofs.lemmas.Cmp.{nat_eq_equiv}
use Rattle.std.proofs.lemmas.List.Sums.{sum_by-cons}
use Rattle.std.proofs.lemmas.Map.Keys.{IsDistinct-cons}
use Rattle.std.proofs.lemmas.Map.Made.{length-le_from_is_member, length-from_same_keys}
use Rattle.bk_func.specs.declared.parts.Loc.TheVariants.{Swap}
use Rattle.bk_shuffle.specs.Sequence.{Move, place_of, takes_from, is_free, without, sequenced}
use Rattle.bk_shuffle.specs.AtOnce.{goes_to, destinations}
use Rattle.bk_shuffle.specs.Cycles.{place_from, source_of, further, back, HeadsCycle, AreHeads}
use Rattle.bk_shuffle.proofs.Nexts.{next_free, next_swap, next_end, sequenced_more, sequenced_end}
use Rattle.bk_shuffle.proofs.Doing.{AreDistinct, AreMoves, found_at, found_passes, found_in_all, none_passes, sources, length-map, weight, weighs_less, swap_weighs, swap_is_no_source, out_distinct, out_all}
use Rattle.bk_shuffle.proofs.Cycling.{done_heads}
use Rattle.bk_shuffle.proofs.Rounds.{has, has_all, has_not, found_has, same_heads, head_above, swap_sources, swap_heads_none, all_destinations, from_has, back_has}

-- the place to which a move takes from a place
abbrev to_from : Option Move → ℕ → ℕ
to_from None p = p
to_from (Some m) p = place_of m.1

abbrev ahead : List Move → ℕ → ℕ
ahead ms p = to_from (find (takes_from p) ms) p

abbrev walk : ℕ → List Move → ℕ → ℕ
walk zero ms p = p
walk (suc n) ms p = ahead ms (walk n ms p)

abbrev walked : ℕ → List Move → ℕ → List ℕ
walked zero ms p = p ∷ []
walked (suc n) ms p = walk (suc n) ms p ∷ walked n ms p

count_none : (ok : Move → Bool) (ms : List Move) → AllByRecursion (λ m. ok m ≡ false) ms → count_by ok ms ≡ 0
count_none ok [] a = refl
count_none ok (m ∷ ms) (h, a) =
    let e = sum_by-cons (λ x. cond (ok x) 1 0) m ms in
    let x : ◌≡◌ {A = ℕ} (cond (ok m) 1 0) 0 = ap (λ b. cond b 1 0) h in
    let y = count_none ok ms a in
    omega (arith, e, x, y)

-- a destination, and the move that takes from it
pub record IsDestination (ms : List Move) (p : ℕ) : Type 0 where
  pub move : Move
  pub found : find (goes_to p) ms ≡ Some move

pub record IsLeft (ms : List Move) (p : ℕ) : Type 0 where
  pub move : Move
  pub found : find (takes_from p) ms ≡ Some move

left_by : (ms : List Move) (p : ℕ) → (count_by (takes_from p) ms == 0) ≡ false → (o : Option Move) → find (takes_from p) ms ≡ o → IsLeft ms p
left_by ms p n None h = let x = eq-eqb (count_by (takes_from p) ms) 0 (count_none (takes_from p) ms (none_passes (takes_from p) ms h)) in absurd cc
left_by ms p n (Some m) h = record { move = m; found = h }

left_of : (ms : List Move) (p : ℕ) → AllByRecursion (λ m. is_free ms m ≡ false) ms → IsDestination ms p → IsLeft ms p
left_of ms p f d =
    let x : is_free ms d.move ≡ false = found_in_all (λ m. is_free ms m ≡ false) (goes_to p) d.move ms f d.found in
    let e : place_of d.move.1 ≡ p = eqb-true (place_of d.move.1) p (found_passes (goes_to p) d.move ms d.found) in
    left_by ms p (subst (λ (q : ℕ). (count_by (takes_from q) ms == 0) ≡ false) e x) (find (takes_from p) ms) refl

and_parts : (a b : Bool) → (a && not b) ≡ true → (a ≡ true) × (b ≡ false)
and_parts true true h = absurd cc
and_parts true false h = (refl, refl)
and_parts false b h = absurd cc

-- one step ahead leads to a destination, whose source is the place
pub record IsAhead (ms : List Move) (p q : ℕ) : Type 0 where
  pub there : IsDestination ms q
  pub source : source_of ms q ≡ Some p
  pub other : ¬ (q ≡ p)

ahead_of : (ms : List Move) (p : ℕ) → AreDistinct (destinations ms) → AllByRecursion (λ m. is_free ms m ≡ false) ms → IsDestination ms p → IsAhead ms p (ahead ms p)
ahead_of ms p a f d =
    let l = left_of ms p f d in
    let (x, y) = and_parts (place_of l.move.0 == p) (place_of l.move.1 == p) (found_passes (takes_from p) l.move ms l.found) in
    let g = found_at (takes_from p) l.move ms a l.found in
    let e : place_of l.move.1 ≡ ahead ms p = sym (ap (λ o. to_from o p) l.found) in
    let P : ℕ → Type 0 = λ q. IsAhead ms p q in
    subst P e (record {
      there = record { move = l.move; found = g };
      source = ap place_from g ∙ ap Some (eqb-true (place_of l.move.0) p x);
      other = λ r. let z = eq-eqb (place_of l.move.1) p r in absurd cc;
    })

walk_there : (ms : List Move) (p : ℕ) → AreDistinct (destinations ms) → AllByRecursion (λ m. is_free ms m ≡ false) ms → IsDestination ms p → (n : ℕ) → IsDestination ms (walk n ms p)
walk_there ms p a f d zero = d
walk_there ms p a f d (suc n) = (ahead_of ms (walk n ms p) a f (walk_there ms p a f d n)).there

walk_back : (ms : List Move) (p : ℕ) → AreDistinct (destinations ms) → AllByRecursion (λ m. is_free ms m ≡ false) ms → IsDestination ms p → (j i n : ℕ) → n ≡ j + i → back j ms (walk n ms p) ≡ Some (walk i ms p)
walk_back ms p a f d zero i n e = let x : n ≡ i = omega (arith, e) in ap (λ k. Some (walk k ms p)) x
walk_back ms p a f d (suc j) i zero e = absurd (omega (arith, e))
walk_back ms p a f d (suc j) i (suc n) e =
    ap (λ o. further o (back j ms)) (ahead_of ms (walk n ms p) a f (walk_there ms p a f d n)).source ∙ walk_back ms p a f d j i n (omega (arith, e))

-- the walk comes back to where it began

pub record Returns (ms : List Move) (p : ℕ) : Type 0 where
  pub turns : ℕ
  pub some : 0 < turns
  pub here : walk turns ms p ≡ p

pub record IsWalked (ms : List Move) (p k q : ℕ) : Type 0 where
  pub turn : ℕ
  pub low : turn ≤ k
  pub is : q ≡ walk turn ms p

walked_at : (ms : List Move) (p k q : ℕ) → has (walked k ms p) q ≡ true → IsWalked ms p k q
walked_at ms p zero q h = go (q == p) refl
  where
    go : (b : Bool) → (q == p) ≡ b → IsWalked ms p zero q
    go true u = record { turn = 0; low = omega arith; is = eqb-true q p u }
    go false u = let x : (false || false) ≡ true = subst (λ (b : Bool). (b || false) ≡ true) u h in absurd cc
walked_at ms p (suc k) q h = step (q == walk (suc k) ms p) refl (λ r. walked_at ms p k q r)
  where
    step : (b : Bool) → (q == walk (suc k) ms p) ≡ b → (has (walked k ms p) q ≡ true → IsWalked ms p k q) → IsWalked ms p (suc k) q
    step true u r = record { turn = suc k; low = omega arith; is = eqb-true q (walk (suc k) ms p) u }
    step false u r =
        let w = r (subst (λ (b : Bool). (b || has (walked k ms p) q) ≡ true) u h) in
        record { turn = w.turn; low = (let l = w.low in omega (arith, l)); is = w.is }

returns_at : (ms : List Move) (p : ℕ) → AreDistinct (destinations ms) → AllByRecursion (λ m. is_free ms m ≡ false) ms → IsDestination ms p → (k i t : ℕ) → i ≤ k → t + i ≡ suc k → walk (suc k) ms p ≡ walk i ms p → Returns ms p
returns_at ms p a f d k i t l e h =
    let x : back i ms (walk (suc k) ms p) ≡ Some (walk t ms p) = walk_back ms p a f d i t (suc k) (omega (arith, e)) in
    let y : back i ms (walk i ms p) ≡ Some p = walk_back ms p a f d i 0 i (omega arith) in
    let z : Some (walk t ms p) ≡ Some p = sym x ∙ (ap (back i ms) h ∙ y) in
    record { turns = t; some = omega (arith, l, e); here = cc }

pub distinct_none : AreDistinct []
unfolding IsDistinct
distinct_none = tt

walked_or : (ms : List Move) (p : ℕ) → AreDistinct (destinations ms) → AllByRecursion (λ m. is_free ms m ≡ false) ms → IsDestination ms p → (k : ℕ) → AreDistinct (walked k ms p) ⊎ Returns ms p
walked_or ms p a f d zero = inl (IsDistinct-cons (λ x y. x == y) p [] tt distinct_none)
walked_or ms p a f d (suc k) = step (walked_or ms p a f d k)
  where
    step : AreDistinct (walked k ms p) ⊎ Returns ms p → AreDistinct (walked (suc k) ms p) ⊎ Returns ms p
    step (inr r) = inr r
    step (inl s) = go (has (walked k ms p) (walk (suc k) ms p)) refl
      where
        go : (b : Bool) → has (walked k ms p) (walk (suc k) ms p) ≡ b → AreDistinct (walked (suc k) ms p) ⊎ Returns ms p
        go true u =
            let w = walked_at ms p k (walk (suc k) ms p) u in
            let l = w.low in
            inr (returns_at ms p a f d k w.turn (suc k - w.turn) w.low (omega (arith, l)) w.is)
        go false u = inl (IsDistinct-cons (λ x y. x == y) (walk (suc k) ms p) (walked k ms p) (has_not (walk (suc k) ms p) (walked k ms p) u) s)

length-walked : (k : ℕ) (ms : List Move) (p : ℕ) → length (walked k ms p) ≡ suc k
length-walked zero ms p = refl
length-walked (suc k) ms p = ap suc (length-walked k ms p)

returns : (ms : List Move) (p : ℕ) → AreDistinct (destinations ms) → AllByRecursion (λ m. is_free ms m ≡ false) ms → IsDestination ms p → Returns ms p
returns ms p a f d = go (walked_or ms p a f d (length ms))
  where
    each : (q : ℕ) → has (walked (length ms) ms p) q ≡ true → has (destinations ms) q ≡ true
    each q h =
        let w = walked_at ms p (length ms) q h in
        let t = walk_there ms p a f d w.turn in
        let e : place_of t.move.1 ≡ walk w.turn ms p = eqb-true (place_of t.move.1) (walk w.turn ms p) (found_passes (goes_to (walk w.turn ms p)) t.move ms t.found) in
        ap (has (destinations ms)) (w.is ∙ sym e) ∙ found_has (λ x. place_of x.1) (goes_to (walk w.turn ms p)) t.move ms t.found

    go : AreDistinct (walked (length ms) ms p) ⊎ Returns ms p → Returns ms p
    go (inr r) = r
    go (inl s) =
        let l = length-le_from_is_member nat_eq_equiv (walked (length ms) ms p) (destinations ms) s each in
        let x = length-walked (length ms) ms p in
        let y : length (destinations ms) ≡ length ms = length-map (λ m. place_of m.1) ms in
        absurd (omega (arith, l, x, y))

-- it comes from another place

never_itself : (ms : List Move) (p : ℕ) → AreDistinct (destinations ms) → AllByRecursion (λ m. is_free ms m ≡ false) ms → IsDestination ms p → source_of ms p ≡ Some p → (i : ℕ) → walk (suc i) ms p ≡ p → ⊥
never_itself ms p a f d s zero h = (ahead_of ms p a f d).other h
never_itself ms p a f d s (suc i) h =
    let x = (ahead_of ms (walk (suc i) ms p) a f (walk_there ms p a f d (suc i))).source in
    let y : source_of ms p ≡ Some (walk (suc i) ms p) = ap (source_of ms) (sym h) ∙ x in
    never_itself ms p a f d s i (let z : Some (walk (suc i) ms p) ≡ Some p = sym y ∙ s in cc)

weaker : (n : ℕ) (ks : List ℕ) → AllByRecursion (λ y. n < y) ks → AllByRecursion (λ y. n ≤ y) ks
weaker n [] b = tt
weaker n (k ∷ ks) (l, b) = (omega (arith, l), weaker n ks b)

least_from : (m : Move) (ms : List Move) → AreDistinct (destinations (m ∷ ms)) → AllByRecursion (λ x. is_free (m ∷ ms) x ≡ false) (m ∷ ms) → AllByRecursion (λ y. place_of m.1 < y) (destinations ms) → (q : ℕ) → has (sources (m ∷ ms)) q ≡ true →
    place_of m.1 ≤ q
least_from m ms a f low q h =
    has_all (λ y. place_of m.1 ≤ y) (destinations (m ∷ ms)) q (omega arith, weaker (place_of m.1) (destinations ms) low) (all_destinations q (m ∷ ms) a f h (has (destinations (m ∷ ms)) q) refl)

least_back : (m : Move) (ms : List Move) → AreDistinct (destinations (m ∷ ms)) → AllByRecursion (λ x. is_free (m ∷ ms) x ≡ false) (m ∷ ms) → AllByRecursion (λ y. place_of m.1 < y) (destinations ms) → (n q : ℕ) (o : Option ℕ) →
    source_of (m ∷ ms) (place_of m.1) ≡ o → further o (back n (m ∷ ms)) ≡ Some q → place_of m.1 ≤ q
least_back m ms a f low n q None s h = absurd cc
least_back m ms a f low n q (Some p) s h =
    least_from m ms a f low q (back_has (m ∷ ms) n p q (from_has (m ∷ ms) p (find (goes_to (place_of m.1)) (m ∷ ms)) (place_of m.1) refl s) h)

-- where no destination is free, the least one heads a cycle
pub first_heads : (m : Move) (ms : List Move) → AreDistinct (destinations (m ∷ ms)) → AllByRecursion (λ x. is_free (m ∷ ms) x ≡ false) (m ∷ ms) → AllByRecursion (λ y. place_of m.1 < y) (destinations ms) →
    HeadsCycle (m ∷ ms) (place_of m.1)
first_heads m ms a f low = record {
  steps = r.turns;
  some = r.some;
  round = round;
  others = others;
  least = least;
}
  where
    d : IsDestination (m ∷ ms) (place_of m.1)
    d = record { move = m; found = ap (λ b. cond b (Some m) (find (goes_to (place_of m.1)) ms)) (eq-eqb (place_of m.1) (place_of m.1) refl) }

    r : Returns (m ∷ ms) (place_of m.1)
    r = returns (m ∷ ms) (place_of m.1) a f d

    round : back r.turns (m ∷ ms) (place_of m.1) ≡ Some (place_of m.1)
    round =
        let x : back r.turns (m ∷ ms) (walk r.turns (m ∷ ms) (place_of m.1)) ≡ Some (place_of m.1) = walk_back (m ∷ ms) (place_of m.1) a f d r.turns 0 r.turns (omega arith) in
        sym (ap (back r.turns (m ∷ ms)) r.here) ∙ x

    others : ¬ (source_of (m ∷ ms) (place_of m.1) ≡ Some (place_of m.1))
    others s = go r.turns r.some r.here
      where
        go : (t : ℕ) → 0 < t → walk t (m ∷ ms) (place_of m.1) ≡ place_of m.1 → ⊥
        go zero l h = absurd (omega (arith, l))
        go (suc t) l h = never_itself (m ∷ ms) (place_of m.1) a f d s t h

    least : (n q : ℕ) → back n (m ∷ ms) (place_of m.1) ≡ Some q → place_of m.1 ≤ q
    least zero q h = let e : place_of m.1 ≡ q = cc in omega (arith, e)
    least (suc n) q h = least_back m ms a f low n q (source_of (m ∷ ms) (place_of m.1)) refl h

-- numbers that rise
abbrev pub Rises : List ℕ → Type 0
Rises [] = Unit {0}
Rises (k ∷ ks) = AllByRecursion (λ y. k < y) ks × Rises ks

out_below : (n d : ℕ) (ms : List Move) → AllByRecursion (λ y. n < y) (destinations ms) → AllByRecursion (λ y. n < y) (destinations (without d ms))
out_below n d [] a = tt
out_below n d (m ∷ ms) (p, a) = go (place_of m.1 == d) (out_below n d ms a)
  where
    go : (b : Bool) → AllByRecursion (λ y. n < y) (destinations (without d ms)) → AllByRecursion (λ y. n < y) (destinations (cond b ms (m ∷ without d ms)))
    go true r = a
    go false r = (p, r)

out_rises : (d : ℕ) (ms : List Move) → Rises (destinations ms) → Rises (destinations (without d ms))
out_rises d [] a = tt
out_rises d (m ∷ ms) (p, a) = go (place_of m.1 == d) (out_rises d ms a)
  where
    go : (b : Bool) → Rises (destinations (without d ms)) → Rises (destinations (cond b ms (m ∷ without d ms)))
    go true r = a
    go false r = (out_below (place_of m.1) d ms p, r)

one_less : (d : ℕ) (x : Move) (ms : List Move) → find (goes_to d) ms ≡ Some x → length (without d ms) + 1 ≡ length ms
one_less d x [] h = absurd cc
one_less d x (m ∷ ms) h = go (place_of m.1 == d) (λ r. one_less d x ms r) h
  where
    go : (b : Bool) → (find (goes_to d) ms ≡ Some x → length (without d ms) + 1 ≡ length ms) → cond b (Some m) (find (goes_to d) ms) ≡ Some x → length (cond b ms (m ∷ without d ms)) + 1 ≡ length (m ∷ ms)
    go true r u = omega arith
    go false r u = let e = r u in omega (arith, e)

to_moves : (P : ℕ → Type 0) (ms : List Move) → AllByRecursion P (destinations ms) → AllByRecursion (λ x. P (place_of x.1)) ms
to_moves P [] a = tt
to_moves P (m ∷ ms) (p, a) = (p, to_moves P ms a)

-- so many pairs for the moves, with the heads of their cycles
pub record IsCounted (n : ℕ) (ms : List Move) : Type 0 where
  pub heads : List ℕ
  pub are : AreHeads ms heads
  pub pairs : length (sequenced n ms) ≡ length ms + length heads

no_heads : (p : ℕ) → HeadsCycle [] p → ⊥
no_heads p h = go h.steps h.some h.round
  where
    go : (k : ℕ) → 0 < k → back k [] p ≡ Some p → ⊥
    go zero l b = absurd (omega (arith, l))
    go (suc k) l b = absurd cc

counted_none : (n : ℕ) → IsCounted n []
counted_none n = record {
  heads = [];
  are = record { distinct = distinct_none; each = λ p. (λ h. absurd cc, λ h. absurd (no_heads p h)) };
  pairs = ap length (sequenced_end n [] next_end);
}

abbrev Counted : ℕ → Type 0
Counted n = (ms : List Move) → weight ms ≤ n → AreMoves ms → Rises (destinations ms) → IsCounted n ms

heads_with : (m : Move) (ms : List Move) (ps : List ℕ) → AreMoves (m ∷ ms) → HeadsCycle (m ∷ ms) (place_of m.1) → AllByRecursion (λ y. place_of m.1 < y) (destinations ms) → AreHeads ((Swap, m.1) ∷ ms) ps →
    AreHeads (m ∷ ms) (place_of m.1 ∷ ps)
heads_with m ms ps a h low r = record { distinct = distinct; each = λ p. (forward p (p == place_of m.1) refl, backward p (cases_eq p (place_of m.1))) }
  where
    new : has ps (place_of m.1) ≡ false
    new = go (has ps (place_of m.1)) refl
      where
        go : (b : Bool) → has ps (place_of m.1) ≡ b → b ≡ false
        go true u = absurd (swap_heads_none m ms a.places ((r.each (place_of m.1)).0 u))
        go false u = refl

    distinct : AreDistinct (place_of m.1 ∷ ps)
    distinct = IsDistinct-cons (λ x y. x == y) (place_of m.1) ps (has_not (place_of m.1) ps new) r.distinct

    below : AllByRecursion (λ x. place_of m.1 < place_of x.1) ms
    below = to_moves (λ y. place_of m.1 < y) ms low

    forward : (p : ℕ) (b : Bool) → (p == place_of m.1) ≡ b → (b || has ps p) ≡ true → HeadsCycle (m ∷ ms) p
    forward p true u t = subst (λ (q : ℕ). HeadsCycle (m ∷ ms) q) (sym (eqb-true p (place_of m.1) u)) h
    forward p false u t =
        let k = (r.each p).0 t in
        let n : ¬ (p ≡ place_of m.1) = λ e. let x = eq-eqb p (place_of m.1) e in absurd cc in
        same_heads (place_of m.1) p ((Swap, m.1) ∷ ms) (m ∷ ms) (λ e q. sym (swap_sources m ms e q)) (head_above p (Swap, m.1) ms below n k) k

    backward : (p : ℕ) → (p ≡ place_of m.1) ⊎ (p ≡ place_of m.1 → ⊥) → HeadsCycle (m ∷ ms) p → has (place_of m.1 ∷ ps) p ≡ true
    backward p (inl e) k = ap (λ b. b || has ps p) (eq-eqb p (place_of m.1) e)
    backward p (inr n) k =
        let t = (r.each p).1 (same_heads (place_of m.1) p (m ∷ ms) ((Swap, m.1) ∷ ms) (λ e q. swap_sources m ms e q) (head_above p m ms below n k) k) in
        ap (λ b. b || has ps p) (ne_eqb p (place_of m.1) n) ∙ t

counted_step : (n : ℕ) (m : Move) (ms : List Move) → Counted n → weight (m ∷ ms) ≤ suc n → AreMoves (m ∷ ms) → Rises (destinations (m ∷ ms)) → (o : Option Move) → find (is_free (m ∷ ms)) (m ∷ ms) ≡ o → IsCounted (suc n) (m ∷ ms)
counted_step n m ms r w a up None h =
    let t = swap_is_no_source (m ∷ ms) a.distinct a.places h in
    let v = swap_weighs m ms t.0 in
    let e : sequenced (suc n) (m ∷ ms) ≡ (m.0, Swap) ∷ sequenced n ((Swap, m.1) ∷ ms) = sequenced_more n (m ∷ ms) ((Swap, m.1) ∷ ms) (m.0, Swap) (next_swap m ms h) in
    let f = none_passes (is_free (m ∷ ms)) (m ∷ ms) h in
    let c = r ((Swap, m.1) ∷ ms) (omega (arith, v, w)) (record { distinct = a.distinct; places = a.places }) up in
    let l = ap length e in
    let k = c.pairs in
    record { heads = place_of m.1 ∷ c.heads; are = heads_with m ms c.heads a (first_heads m ms a.distinct f up.0) up.0 c.are; pairs = omega (arith, l, k) }
counted_step n m ms r w a up (Some x) h =
    let f = found_at (is_free (m ∷ ms)) x (m ∷ ms) a.distinct h in
    let v = weighs_less (place_of x.1) x (m ∷ ms) f in
    let z : count_by (takes_from (place_of x.1)) (m ∷ ms) ≡ 0 = eqb-true (count_by (takes_from (place_of x.1)) (m ∷ ms)) 0 (found_passes (is_free (m ∷ ms)) x (m ∷ ms) h) in
    let e : sequenced (suc n) (m ∷ ms) ≡ x ∷ sequenced n (without (place_of x.1) (m ∷ ms)) = sequenced_more n (m ∷ ms) (without (place_of x.1) (m ∷ ms)) x (next_free (m ∷ ms) x h) in
    let c = r (without (place_of x.1) (m ∷ ms)) (omega (arith, v, w))
    (record { distinct = out_distinct (place_of x.1) (m ∷ ms) a.distinct; places = out_all (λ m. ¬ (place_of m.1 ≡ place_of Swap)) (place_of x.1) (m ∷ ms) a.places }) (out_rises (place_of x.1) (m ∷ ms) up) in
    let l = ap length e in
    let k = c.pairs in
    let y = one_less (place_of x.1) x (m ∷ ms) f in
    record {
      heads = c.heads;
      are = record {
        distinct = c.are.distinct;
        each = λ p.
            let d = done_heads (place_of x.1) p (m ∷ ms) a.distinct z in
            (λ t. d.0 ((c.are.each p).0 t), λ t. (c.are.each p).1 (d.1 t));
      };
      pairs = omega (arith, l, k, y);
    }

pub counted : (n : ℕ) → Counted n
counted zero [] w a up = counted_none zero
counted zero (m ∷ ms) w a up = absurd (omega (arith, w))
counted (suc n) [] w a up = counted_none (suc n)
counted (suc n) (m ∷ ms) w a up = counted_step n m ms (counted n) w a up (find (is_free (m ∷ ms)) (m ∷ ms)) refl

-- any heads of the cycles are as many
same_tests : (a b : Bool) (P : Type 0) → (a ≡ true) ↔ P → (b ≡ true) ↔ P → a ≡ b
same_tests true true P f g = refl
same_tests true false P f g = sym (g.1 (f.0 refl))
same_tests false true P f g = f.1 (g.0 refl)
same_tests false false P f g = refl

pub pairs_of_heads : (n : ℕ) (ms : List Move) (ps : List ℕ) → weight ms ≤ n → AreMoves ms → Rises (destinations ms) → AreHeads ms ps → length (sequenced n ms) ≡ length ms + length ps
pairs_of_heads n ms ps w a up h =
    let c = counted n ms w a up in
    let e = length-from_same_keys nat_eq_equiv c.heads ps c.are.distinct h.distinct (λ q. same_tests (has c.heads q) (has ps q) (HeadsCycle ms q) (c.are.each q) (h.each q)) in
    let k = c.pairs in
    omega (arith, e, k)
