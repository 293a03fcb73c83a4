-- The rounds that lengthen branches.
use Rattle.std.proofs.Common.{◌≡◌, ◌∙◌, sym, refl, ap, subst, ℕ, ◌+◌, ◌*◌, ◌<◌, ◌≤◌, ◌≢◌, Bool, true, false, if◌then◌else◌, List, length, ⊎_elim, arith, get_or-set_same, get_or-set_other}
use Rattle.std.specs.Prelude.{slice_index, slice_set}
use Rattle.std.specs.List.{sum, All}
use Rattle.std.proofs.lemmas.Bool.{cases_lt}
use Rattle.std.proofs.lemmas.List.{set-get_or}
use Rattle.std.proofs.lemmas.List.Elements.{All-from_get_or}
use Rattle.std.proofs.lemmas.List.Sums.{sum_by-set, sum_by-le}
use Rattle.bk_fixup.specs.declared.sizes.Branch.{Branch}
use Rattle.bk_fixup.specs.Sizes.{branch_at, moved, reaches_at, AreSizes, AllReach, AreLeastSizes}
use Rattle.bk_fixup.specs.Rounds.{lack, lack_at, next_size, AreKnown, AreBelow, IsPart}
use Rattle.bk_fixup.proofs.Gains.{known_from, known_to, at_most_three}
use Rattle.bk_fixup.proofs.Growing.{least}

same_lack : (b : Bool) (s r f g t u : ℕ) → s ≡ r → f ≡ g → t ≡ u → lack b s f t ≡ lack b r g u
same_lack b s r f g t u p q o =
    ap (λ x. lack b x f t) p ∙ (ap (λ x. lack b r x t) q ∙ ap (λ x. lack b r g x) o)

-- what a round finds that a branch lacks
pub lack_is : (bs : List Branch) (es gs ss ns : List ℕ) (p d : ℕ) → AreKnown bs es gs ss → p < length bs → slice_index ns p ≡ slice_index ss p → d ≡ lack (branch_at bs p).cond (slice_index ns p) ((branch_at bs p).at + slice_index gs p) ((branch_at bs p).target + slice_index gs (slice_index es p)) → d ≡ lack_at bs ss p
lack_is bs es gs ss ns p d w l e h =
    let b = branch_at bs p in
    let from = ap (λ x. b.at + x) (known_from bs es gs ss p w l) in
    let to = ap (λ x. b.target + x) (known_to bs es gs ss p w l) in
    h ∙ same_lack b.cond (slice_index ns p) (slice_index ss p) (b.at + slice_index gs p) (moved bs ss b.at) (b.target + slice_index gs (slice_index es p)) (moved bs ss b.target) e from to

lack_no : (b : Bool) → ◌≡◌ {A = ℕ} (if b then 0 else 1) 0 → b ≡ true
lack_no true e = refl
lack_no false e = absurd (omega (arith, e))

lack_none : (bs : List Branch) (ss : List ℕ) (p : ℕ) → lack_at bs ss p ≡ 0 → reaches_at bs ss p ≡ true
lack_none bs ss p e = lack_no (reaches_at bs ss p) e

few_of : (b : Bool) → (if b then 0 else 1) ≤ 1
few_of true = omega arith
few_of false = omega arith

lack_few : (bs : List Branch) (ss : List ℕ) (p : ℕ) → lack_at bs ss p ≤ 1
lack_few bs ss p = few_of (reaches_at bs ss p)

step_done : (bs : List Branch) (ss ns : List ℕ) (p n d : ℕ) → p < length ns → IsPart bs ss ns p n → d ≡ lack_at bs ss p → (k : ℕ) → k < p + 1 → slice_index (slice_set ns p (slice_index ns p + d)) k ≡ next_size bs ss k
step_done bs ss ns p n d l i e k m = ⊎_elim
    (λ (before : k < p). let other : k ≢ p = omega arith in get_or-set_other ns p k (slice_index ns p + d) 0 other ∙ i.done k before)
    (λ (here : p ≤ k).
    let at : k ≡ p = omega arith in
    let new : slice_index (slice_set ns p (slice_index ns p + d)) p ≡ slice_index ns p + d = get_or-set_same ns p (slice_index ns p + d) 0 l in
    let old : slice_index ns p ≡ slice_index ss p = i.left p (omega arith) in
    let next : slice_index (slice_set ns p (slice_index ns p + d)) p ≡ next_size bs ss p = new ∙ (ap (λ x. x + d) old ∙ ap (λ x. slice_index ss p + x) e) in
    subst (λ x. slice_index (slice_set ns p (slice_index ns p + d)) x ≡ next_size bs ss x) (sym at) next)
    (cases_lt k p)

step_same : (ns ss : List ℕ) (p d : ℕ) → d ≡ 0 → ns ≡ ss → slice_set ns p (slice_index ns p + d) ≡ ss
step_same ns ss p d e s =
    let none : slice_index ns p + d ≡ slice_index ns p = omega arith in ap (λ x. slice_set ns p x) none ∙ (set-get_or ns p 0 ∙ s)

-- one more branch is done
pub part_step : (bs : List Branch) (ss ns : List ℕ) (p n d : ℕ) → length ss ≡ length bs → length ns ≡ length ss → p < length bs → IsPart bs ss ns p n → d ≡ lack_at bs ss p → IsPart bs ss (slice_set ns p (slice_index ns p + d)) (p + 1) (n + d)
part_step bs ss ns p n d long same l i e =
    let inside : p < length ns = omega arith in
    let few = lack_few bs ss p in
    record {
      few = omega (arith, i.few, e, few);
      done = step_done bs ss ns p n d inside i e;
      left = λ k m. let other : k ≢ p = omega arith in get_or-set_other ns p k (slice_index ns p + d) 0 other ∙ i.left k (omega arith);
      summed = let sums = sum_by-set (λ x. x) ns p (slice_index ns p + d) 0 inside in omega (arith, sums, i.summed);
      same = λ z. step_same ns ss p d (omega arith) (i.same (omega arith));
      settled = λ z k m. ⊎_elim
          (λ (before : k < p). i.settled (omega arith) k before)
          (λ (here : p ≤ k).
          let at : p ≡ k = omega arith in
          let none : lack_at bs ss p ≡ 0 = omega (arith, e, z) in
          subst (λ x. reaches_at bs ss x ≡ true) at (lack_none bs ss p none))
          (cases_lt k p);
    }

pub part_step_as : (bs : List Branch) (ss ns : List ℕ) (p n d r : ℕ) → r ≡ d → length ss ≡ length bs → length ns ≡ length ss → p < length bs → IsPart bs ss ns p n → d ≡ lack_at bs ss p → IsPart bs ss (slice_set ns p (slice_index ns p + d)) (p + 1) (n + r)
part_step_as bs ss ns p n d r e long same l i h =
    subst (λ x. IsPart bs ss (slice_set ns p (slice_index ns p + d)) (p + 1) (n + x)) (sym e) (part_step bs ss ns p n d long same l i h)

-- sizes that a round leaves are the least
pub settled : (bs : List Branch) (ss ns : List ℕ) → AreBelow bs ss → AllReach bs ss → ns ≡ ss → AreLeastSizes bs ns
settled bs ss ns b r e = subst (λ x. AreLeastSizes bs x) (sym e) (least bs ss b r)

-- all sizes together are at most three for each branch
pub sum_most : (bs : List Branch) (ss : List ℕ) → AreSizes bs ss → sum ss ≤ 3 * length bs
sum_most bs ss w =
    let each : All (λ x. x ≤ 3) ss = All-from_get_or (λ x. x ≤ 3) ss 0 (λ k l. at_most_three bs ss k w l) in
    let most = sum_by-le (λ x. x) 3 ss each in omega (arith, most, w.long)
