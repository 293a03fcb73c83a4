-- A move takes one pair, and each cycle of two or more places one more.
use Rattle.std.proofs.Common.{◌≡◌, ℕ, zero, suc, ◌<◌, refl, ap, sym, ◌∙◌, subst, arith, List, Option, Some, None, Bool, true, false, ◌==◌, eq-eqb, ne_eqb, eqb-true}
use Rattle.std.specs.Prelude.{not, ◌&&◌, ◌↔◌, count_by}
use Rattle.std.specs.List.{find}
use Rattle.bk_shuffle.specs.Sequence.{Move, place_of, takes_from, without}
use Rattle.bk_shuffle.specs.AtOnce.{goes_to, destinations}
use Rattle.bk_shuffle.specs.Cycles.{place_from, source_of, further, back, HeadsCycle}
use Rattle.bk_shuffle.proofs.Doing.{AreDistinct, others_go, one_gone, found_passes, found_in_all, none_take}

-- the other places keep their sources where a free one is done

and_not : (a b : Bool) → (a && not b) ≡ false → b ≡ false → a ≡ false
and_not true true h e = absurd cc
and_not true false h e = absurd cc
and_not false b h e = refl

-- the source of another place is another place than d, which no move takes from
source_apart : (d e q : ℕ) (ms : List Move) → count_by (takes_from d) ms ≡ 0 → ¬ (e ≡ d) → (o : Option Move) → find (goes_to e) ms ≡ o → place_from o ≡ Some q → ¬ (q ≡ d)
source_apart d e q ms z n None h s = absurd cc
source_apart d e q ms z n (Some m) h s =
    let t = found_in_all (λ m. takes_from d m ≡ false) (goes_to e) m ms (none_take d ms z) h in
    let p : place_of m.1 ≡ e = eqb-true (place_of m.1) e (found_passes (goes_to e) m ms h) in
    let f : (place_of m.0 == d) ≡ false = and_not (place_of m.0 == d) (place_of m.1 == d) t (ne_eqb (place_of m.1) d (λ r. n (sym p ∙ r))) in
    λ r.
    let x : place_of m.0 ≡ q = cc in
    let y = eq-eqb (place_of m.0) d (x ∙ r) in
    absurd cc

-- steps from another place

back_step : (d : ℕ) (ms ns : List Move) (n : ℕ) → ((e : ℕ) → ¬ (e ≡ d) → back n ns e ≡ back n ms e) → (o : Option ℕ) → ((q : ℕ) → o ≡ Some q → ¬ (q ≡ d)) → further o (back n ns) ≡ further o (back n ms)
back_step d ms ns n r None a = refl
back_step d ms ns n r (Some q) a = r q (a q refl)

back_other : (d : ℕ) (ms : List Move) (n e : ℕ) → count_by (takes_from d) ms ≡ 0 → ¬ (e ≡ d) → back n (without d ms) e ≡ back n ms e
back_other d ms zero e z a = refl
back_other d ms (suc n) e z a =
    let s : source_of (without d ms) e ≡ source_of ms e = ap place_from (others_go e d ms a) in
    ap (λ o. further o (back n (without d ms))) s
    ∙ back_step d ms (without d ms) n (λ f b. back_other d ms n f z b) (source_of ms e) (λ q h. source_apart d e q ms z a (find (goes_to e) ms) refl h)

never_step : (d q n : ℕ) (ms : List Move) → ((e : ℕ) → ¬ (e ≡ d) → back n ms e ≡ Some q → ¬ (q ≡ d)) → (o : Option ℕ) → ((p : ℕ) → o ≡ Some p → ¬ (p ≡ d)) → further o (back n ms) ≡ Some q → ¬ (q ≡ d)
never_step d q n ms r None a h = absurd cc
never_step d q n ms r (Some p) a h = r p (a p refl) h

never_back : (d q : ℕ) (ms : List Move) (n e : ℕ) → count_by (takes_from d) ms ≡ 0 → ¬ (e ≡ d) → back n ms e ≡ Some q → ¬ (q ≡ d)
never_back d q ms zero e z a h = λ r. let x : e ≡ q = cc in a (x ∙ r)
never_back d q ms (suc n) e z a h = never_step d q n ms (λ f b. never_back d q ms n f z b) (source_of ms e) (λ p s. source_apart d e p ms z a (find (goes_to e) ms) refl s) h

-- a place that no other move takes from is on no cycle

alone_step : (d k : ℕ) (ms : List Move) → count_by (takes_from d) ms ≡ 0 → ¬ (source_of ms d ≡ Some d) → (o : Option ℕ) → source_of ms d ≡ o → further o (back k ms) ≡ Some d → ⊥
alone_step d k ms z n None s h = absurd cc
alone_step d k ms z n (Some q) s h = never_back d d ms k q z (λ r. n (s ∙ ap Some r)) h refl

alone : (d k : ℕ) (ms : List Move) → count_by (takes_from d) ms ≡ 0 → ¬ (source_of ms d ≡ Some d) → 0 < k → back k ms d ≡ Some d → ⊥
alone d zero ms z n l h = absurd (omega (arith, l))
alone d (suc k) ms z n l h = alone_step d k ms z n (source_of ms d) refl h

gone : (d k : ℕ) (ms : List Move) → AreDistinct (destinations ms) → 0 < k → back k (without d ms) d ≡ Some d → ⊥
gone d zero ms a l h = absurd (omega (arith, l))
gone d (suc k) ms a l h =
    let s : source_of (without d ms) d ≡ None = ap place_from (one_gone d ms a) in
    let P : Option ℕ → Type 0 = λ o. further o (back k (without d ms)) ≡ Some d in
    let x : None ≡ Some d = subst P s h in
    absurd cc

pub done_heads : (d p : ℕ) (ms : List Move) → AreDistinct (destinations ms) → count_by (takes_from d) ms ≡ 0 → HeadsCycle (without d ms) p ↔ HeadsCycle ms p
done_heads d p ms a z = (forward, backward)
  where
    forward : HeadsCycle (without d ms) p → HeadsCycle ms p
    forward h =
        let n : ¬ (p ≡ d) = λ e. gone d h.steps ms a h.some (subst (λ (q : ℕ). back h.steps (without d ms) q ≡ Some q) e h.round) in
        record {
          steps = h.steps;
          some = h.some;
          round = sym (back_other d ms h.steps p z n) ∙ h.round;
          others = λ s. h.others (ap place_from (others_go p d ms n) ∙ s);
          least = λ k q b. h.least k q (back_other d ms k p z n ∙ b);
        }

    backward : HeadsCycle ms p → HeadsCycle (without d ms) p
    backward h =
        let n : ¬ (p ≡ d) = λ e. alone d h.steps ms z (subst (λ (q : ℕ). ¬ (source_of ms q ≡ Some q)) e h.others) h.some (subst (λ (q : ℕ). back h.steps ms q ≡ Some q) e h.round) in
        record {
          steps = h.steps;
          some = h.some;
          round = back_other d ms h.steps p z n ∙ h.round;
          others = λ s. h.others (sym (ap place_from (others_go p d ms n)) ∙ s);
          least = λ k q b. h.least k q (sym (back_other d ms k p z n) ∙ b);
        }
