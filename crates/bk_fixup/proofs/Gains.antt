-- By how much branches are longer before a place.
use Rattle.std.proofs.Common.{◌≡◌, ◌∙◌, sym, refl, ℕ, zero, suc, ◌+◌, ◌-◌, ◌*◌, ◌<◌, ◌≤◌, ◌^◌, Bool, true, false, if◌then◌else◌, List, [], ◌∷◌, length, take, ◌⊎◌, ⊎_elim, subst, arith}
use Rattle.std.specs.Prelude.{slice_index}
use Rattle.std.proofs.lemmas.Bool.{cases_lt, cases_order}
use Rattle.std.proofs.lemmas.Bool.Decides.{nat_tests}
use Rattle.std.proofs.lemmas.List.Sums.{sum_by-cons, sum_by_more}
use Rattle.bk_fixup.specs.declared.sizes.Branch.{Branch}
use Rattle.bk_fixup.specs.Sizes.{branch_at, Rise, AreBranches, gained, AreSizes, longest}
use Rattle.bk_fixup.specs.Rounds.{IsEnd, gain_before, AreKnown}

gained_none : (bs : List Branch) (ss : List ℕ) (p : ℕ) → ((k : ℕ) → k < length bs → p ≤ (branch_at bs k).at) → gained bs ss p ≡ 0
unfolding gained
gained_none [] ss p h = refl
gained_none (b ∷ bs) [] p h = refl
gained_none (b ∷ bs) (s ∷ ss) p h =
    let first : p ≤ b.at = h 0 (omega arith) in
    let rest = gained_none bs ss p (λ k l. h (suc k) (omega (arith, l))) in grind (arith, nat_tests)

-- the branches before a place are the first so many
pub gained_is : (bs : List Branch) (ss : List ℕ) (p e : ℕ) → IsEnd bs p e → length ss ≡ length bs → gained bs ss p ≡ gain_before ss e
unfolding gained
gained_is [] ss p zero i l = refl
gained_is [] ss p (suc e) i l = absurd (omega (arith, i.within))
gained_is (b ∷ bs) [] p e i l = absurd (omega (arith, l))
gained_is (b ∷ bs) (s ∷ ss) p zero i l =
    gained_none (b ∷ bs) (s ∷ ss) p (λ k m. i.behind k (omega arith) m)
gained_is (b ∷ bs) (s ∷ ss) p (suc e) i l =
    let here : b.at < p = i.before 0 (omega arith) in
    let more : IsEnd bs p e = record {
      within = omega (arith, i.within);
      before = λ k m. i.before (suc k) (omega (arith, m));
      behind = λ k m n. i.behind (suc k) (omega (arith, m)) (omega (arith, n));
    } in
    let rest = gained_is bs ss p e more (omega (arith, l)) in
    let sum = sum_by-cons (λ x. x - 1) s (take e ss) in grind (arith, nat_tests)

behind_own : (bs : List Branch) (k j : ℕ) → Rise bs → k ≤ j → j < length bs → (branch_at bs k).at ≤ (branch_at bs j).at
behind_own bs k j r m n = ⊎_elim
    (λ (e : k ≡ j). subst (λ i. (branch_at bs k).at ≤ (branch_at bs i).at) e (omega arith))
    (λ (o : (k < j) ⊎ (j < k)). ⊎_elim (λ (l : k < j). let h = r.each k j l n in omega arith) (λ (l : j < k). absurd (omega arith)) o)
    (cases_order k j)

-- a branch's own place is behind the branches before it
pub end_of_own : (bs : List Branch) (k : ℕ) → Rise bs → k < length bs → IsEnd bs (branch_at bs k).at k
end_of_own bs k r l = record {
  within = omega arith;
  before = λ j m. r.each j k m l;
  behind = λ j m n. behind_own bs k j r m n;
}

-- there are no more branches than places
pub place_le : (bs : List Branch) (k : ℕ) → Rise bs → k < length bs → k ≤ (branch_at bs k).at
place_le bs zero r l = omega arith
place_le bs (suc k) r l =
    let before = place_le bs k r (omega arith) in
    let next = r.each k (suc k) (omega arith) l in omega arith

pub few_branches : (bs : List Branch) (words : ℕ) → AreBranches bs words → words < 2 ^ 32 → length bs ≤ 2 ^ 32
few_branches bs words w m = ⊎_elim
    (λ (some : 0 < length bs).
    let last : length bs - 1 < length bs = omega arith in
    let place = place_le bs (length bs - 1) w.rise last in
    let end = w.within (length bs - 1) last in omega arith)
    (λ (none : length bs ≤ 0). omega arith)
    (cases_lt 0 (length bs))

-- each branch is at most two words longer
pub gain_few : (ss : List ℕ) (e : ℕ) → ((k : ℕ) → k < length ss → slice_index ss k ≤ 3) → e ≤ length ss → gain_before ss e ≤ 2 * e
gain_few ss zero h l = omega arith
gain_few ss (suc e) h l =
    let before = gain_few ss e h (omega arith) in
    let here = h e (omega arith) in
    let sum : gain_before ss (e + 1) ≡ gain_before ss e + (slice_index ss e - 1) = sum_by_more (λ x. x - 1) ss e 0 (omega arith) in
    let most : gain_before ss (e + 1) ≤ 2 * (e + 1) = omega arith in
    let same : e + 1 ≡ suc e = omega arith in subst (λ n. gain_before ss n ≤ 2 * n) same most

-- what a round knows of a branch, as its form is tested
pub known_from : (bs : List Branch) (es gs ss : List ℕ) (k : ℕ) → AreKnown bs es gs ss → k < length bs → slice_index gs k ≡ gained bs ss (branch_at bs k).at
known_from bs es gs ss k w l =
    let e = gained_is bs ss (branch_at bs k).at k (end_of_own bs k w.rise l) w.sizes.long in
    let g = w.gains.each k (omega (arith, w.sizes.long)) in g ∙ sym e

pub known_to : (bs : List Branch) (es gs ss : List ℕ) (k : ℕ) → AreKnown bs es gs ss → k < length bs → slice_index gs (slice_index es k) ≡ gained bs ss (branch_at bs k).target
known_to bs es gs ss k w l =
    let i = w.ends.each k l in
    let e = gained_is bs ss (branch_at bs k).target (slice_index es k) i w.sizes.long in
    let g = w.gains.each (slice_index es k) (omega (arith, w.sizes.long, i.within)) in g ∙ sym e

three_of : (b : Bool) (s : ℕ) → s ≤ (if b then 3 else 2) → s ≤ 3
three_of true s h = h
three_of false s h = omega arith

below_three : (b : Branch) (s : ℕ) → s ≤ longest b → s ≤ 3
below_three b s h = three_of b.cond s h

-- no size is above three
pub at_most_three : (bs : List Branch) (ss : List ℕ) (k : ℕ) → AreSizes bs ss → k < length ss → slice_index ss k ≤ 3
at_most_three bs ss k w l =
    let h = w.most k (omega (arith, w.long)) in below_three (branch_at bs k) (slice_index ss k) h

-- the gains of a round are few
pub known_few : (bs : List Branch) (es gs ss : List ℕ) (e : ℕ) → AreKnown bs es gs ss → e ≤ length bs → slice_index gs e ≤ 2 ^ 33
known_few bs es gs ss e w l =
    let g = w.gains.each e (omega (arith, w.sizes.long)) in
    let f = gain_few ss e (λ k m. at_most_three bs ss k w.sizes m) (omega (arith, w.sizes.long)) in
    let n = w.few in omega (arith, g, f, n)
