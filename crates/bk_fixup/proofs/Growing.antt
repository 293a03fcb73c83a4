-- Longer branches only move targets away.
use Rattle.std.proofs.Common.{◌≡◌, ◌∙◌, sym, ap, subst, ℕ, suc, ◌+◌, ◌<◌, ◌≤◌, Bool, true, false, if◌then◌else◌, List, [], ◌∷◌, length, ◌⊎◌, inl, inr, ⊎_elim, arith}
use Rattle.std.specs.Prelude.{slice_index}
use Rattle.std.proofs.lemmas.Bool.{cases_lt, cases_Bool}
use Rattle.std.proofs.lemmas.Bool.Decides.{nat_tests}
use Rattle.bk_fixup.specs.declared.sizes.Branch.{Branch}
use Rattle.bk_fixup.specs.Sizes.{branch_at, gained, moved, spans, reaches, reaches_at, longest, AreSizes, AllReach, AreAtMost, AreLeastSizes}
use Rattle.bk_fixup.specs.Rounds.{lack_at, next_size, AreNext, AreOnes, AreBelow}

-- more is gained at a later place
mono : (bs : List Branch) (ss : List ℕ) (a t : ℕ) → a ≤ t → gained bs ss a ≤ gained bs ss t
unfolding gained
mono [] ss a t l = omega arith
mono (b ∷ bs) [] a t l = omega arith
mono (b ∷ bs) (s ∷ ss) a t l = let rest = mono bs ss a t l in grind (arith, nat_tests)

-- two places are at least as far apart with longer branches
apart : (bs : List Branch) (ss cs : List ℕ) (a t : ℕ) → a ≤ t → length ss ≡ length bs → length cs ≡ length bs → ((k : ℕ) → k < length bs → slice_index ss k ≤ slice_index cs k) → gained bs ss t + gained bs cs a ≤ gained bs cs t + gained bs ss a
unfolding gained
apart [] ss cs a t l p q h = omega arith
apart (b ∷ bs) [] cs a t l p q h = absurd (omega (arith, p))
apart (b ∷ bs) (s ∷ ss) [] a t l p q h = absurd (omega (arith, q))
apart (b ∷ bs) (s ∷ ss) (c ∷ cs) a t l p q h =
    let first : s ≤ c = h 0 (omega arith) in
    let rest = apart bs ss cs a t l (omega (arith, p)) (omega (arith, q)) (λ k m. h (suc k) (omega (arith, m))) in grind (arith, nat_tests)

-- from f to t is at most as far as from g to u, in the same direction
abbrev IsNearer : ℕ → ℕ → ℕ → ℕ → Type 0
IsNearer f t g u = ((f ≤ t) × (g ≤ u) × (t + g ≤ u + f)) ⊎ ((t ≤ f) × (u ≤ g) × (f + u ≤ g + t))

spans_nearer : (n f t g u : ℕ) → 1 ≤ n → IsNearer f t g u → spans n g u ≡ true → spans n f t ≡ true
spans_nearer n f t g u l (inl h) s = grind (arith, nat_tests)
spans_nearer n f t g u l (inr h) s = grind (arith, nat_tests)

spans_behind : (n f t g u : ℕ) → 1 ≤ n → IsNearer f t g u → spans n (g + 1) u ≡ true → spans n (f + 1) t ≡ true
spans_behind n f t g u l (inl h) s = grind (arith, nat_tests)
spans_behind n f t g u l (inr h) s = grind (arith, nat_tests)

reaches_nearer : (b : Bool) (s f t g u : ℕ) → IsNearer f t g u → reaches b s g u ≡ true → reaches b s f t ≡ true
reaches_nearer true s f t g u h r =
    let one = spans_nearer 1024 f t g u (omega arith) h in
    let two = spans_behind 262144 f t g u (omega arith) h in grind (arith, nat_tests)
reaches_nearer false s f t g u h r =
    let one = spans_nearer 262144 f t g u (omega arith) h in grind (arith, nat_tests)

-- the longest form reaches
grows_by : (b : Bool) (s f t : ℕ) → 1 ≤ s → s ≤ (if b then 3 else 2) → reaches b s f t ≡ false → s + 1 ≤ (if b then 3 else 2)
grows_by true s f t l m r = grind (arith, nat_tests)
grows_by false s f t l m r = grind (arith, nat_tests)

grows : (b : Branch) (s f t : ℕ) → 1 ≤ s → s ≤ longest b → reaches b.cond s f t ≡ false → s + 1 ≤ longest b
grows b s f t l m r = grows_by b.cond s f t l m r

-- a branch that reaches with longer branches reaches with these
nearer : (bs : List Branch) (ss cs : List ℕ) (a t : ℕ) → length ss ≡ length bs → length cs ≡ length bs → ((k : ℕ) → k < length bs → slice_index ss k ≤ slice_index cs k) → IsNearer (moved bs ss a) (moved bs ss t) (moved bs cs a) (moved bs cs t)
nearer bs ss cs a t p q h = ⊎_elim
    (λ (l : a < t). inl (let m = mono bs ss a t (omega arith) in let n = mono bs cs a t (omega arith) in let d = apart bs ss cs a t (omega arith) p q h in (omega arith, omega arith, omega arith)))
    (λ (l : t ≤ a). inr (let m = mono bs ss t a l in let n = mono bs cs t a l in let d = apart bs ss cs t a l p q h in (omega arith, omega arith, omega arith)))
    (cases_lt a t)

true_not_false : (b : Bool) → b ≡ true → b ≡ false → ⊥
true_not_false b p q = cc

differ : (bs : List Branch) (ss cs : List ℕ) (k : ℕ) → AreSizes bs ss → AreSizes bs cs → AreAtMost bs ss cs → reaches_at bs ss k ≡ false → reaches_at bs cs k ≡ true → ¬ (slice_index cs k ≡ slice_index ss k)
differ bs ss cs k s c m fails r e =
    let b = branch_at bs k in
    let near = nearer bs ss cs b.at b.target s.long c.long m.each in
    let same : reaches b.cond (slice_index ss k) (moved bs cs b.at) (moved bs cs b.target) ≡ true =
    subst (λ n. reaches b.cond n (moved bs cs b.at) (moved bs cs b.target) ≡ true) e r in
    let holds = reaches_nearer b.cond (slice_index ss k) (moved bs ss b.at) (moved bs ss b.target) (moved bs cs b.at) (moved bs cs b.target) near same in true_not_false (reaches_at bs ss k) holds fails

plus_none : (a d c : ℕ) → d ≡ 0 → a ≤ c → a + d ≤ c
plus_none a d c e l = omega arith

plus_one : (a d c : ℕ) → d ≡ 1 → a + 1 ≤ c → a + d ≤ c
plus_one a d c e l = omega arith

none_lacks : (bs : List Branch) (ss : List ℕ) (k : ℕ) → reaches_at bs ss k ≡ true → lack_at bs ss k ≡ 0
none_lacks bs ss k h = ap (λ b. if b then 0 else 1) h

one_lacks : (bs : List Branch) (ss : List ℕ) (k : ℕ) → reaches_at bs ss k ≡ false → lack_at bs ss k ≡ 1
one_lacks bs ss k h = ap (λ b. if b then 0 else 1) h

above : (a c : ℕ) → a ≤ c → ¬ (c ≡ a) → a + 1 ≤ c
above a c l d = omega arith

next_below : (bs : List Branch) (ss cs : List ℕ) (k : ℕ) → k < length bs → AreSizes bs ss → AreSizes bs cs → AreAtMost bs ss cs → reaches_at bs cs k ≡ true → next_size bs ss k ≤ slice_index cs k
next_below bs ss cs k l s c m r = ⊎_elim
    (λ (holds : reaches_at bs ss k ≡ true).
    plus_none (slice_index ss k) (lack_at bs ss k) (slice_index cs k) (none_lacks bs ss k holds) (m.each k l))
    (λ (fails : reaches_at bs ss k ≡ false).
    plus_one (slice_index ss k) (lack_at bs ss k) (slice_index cs k) (one_lacks bs ss k fails) (above (slice_index ss k) (slice_index cs k) (m.each k l) (differ bs ss cs k s c m fails r)))
    (cases_Bool (reaches_at bs ss k))

next_some : (a d n : ℕ) → n ≡ a + d → 1 ≤ a → 1 ≤ n
next_some a d n e s = omega arith

next_most : (bs : List Branch) (ss : List ℕ) (k : ℕ) → 1 ≤ slice_index ss k → slice_index ss k ≤ longest (branch_at bs k) → next_size bs ss k ≤ longest (branch_at bs k)
next_most bs ss k s m = ⊎_elim
    (λ (holds : reaches_at bs ss k ≡ true).
    plus_none (slice_index ss k) (lack_at bs ss k) (longest (branch_at bs k)) (none_lacks bs ss k holds) m)
    (λ (fails : reaches_at bs ss k ≡ false).
    let b = branch_at bs k in
    let g = grows b (slice_index ss k) (moved bs ss b.at) (moved bs ss b.target) s m fails in
    plus_one (slice_index ss k) (lack_at bs ss k) (longest b) (one_lacks bs ss k fails) g)
    (cases_Bool (reaches_at bs ss k))

-- a round keeps what no choice in which every branch reaches goes below
pub below_next : (bs : List Branch) (ss ns : List ℕ) → AreBelow bs ss → AreNext bs ss ns → AreBelow bs ns
below_next bs ss ns b n = record {
  sizes = record {
    long = n.long ∙ b.sizes.long;
    some = λ k l. next_some (slice_index ss k) (lack_at bs ss k) (slice_index ns k) (n.each k l) (b.sizes.some k l);
    most = λ k l. subst (λ x. x ≤ longest (branch_at bs k)) (sym (n.each k l)) (next_most bs ss k (b.sizes.some k l) (b.sizes.most k l));
  };
  below = λ cs c r. record {
    each = λ k l. subst (λ x. x ≤ slice_index cs k) (sym (n.each k l)) (next_below bs ss cs k l b.sizes c (b.below cs c r) (r.each k l));
  };
}

some_of : (b : Bool) → 1 ≤ (if b then 3 else 2)
some_of true = omega arith
some_of false = omega arith

is_one : (n m : ℕ) → n ≡ 1 → 1 ≤ m → n ≤ m
is_one n m e l = omega arith

one_is : (n : ℕ) → n ≡ 1 → 1 ≤ n
one_is n e = omega arith

-- branches of one word each are such
pub below_ones : (bs : List Branch) (ss : List ℕ) → AreOnes bs ss → AreBelow bs ss
below_ones bs ss o = record {
  sizes = record {
    long = o.long;
    some = λ k l. one_is (slice_index ss k) (o.each k l);
    most = λ k l. is_one (slice_index ss k) (longest (branch_at bs k)) (o.each k l) (some_of (branch_at bs k).cond);
  };
  below = λ cs c r. record { each = λ k l. is_one (slice_index ss k) (slice_index cs k) (o.each k l) (c.some k l) };
}

pub least : (bs : List Branch) (ss : List ℕ) → AreBelow bs ss → AllReach bs ss → AreLeastSizes bs ss
least bs ss b r = record { sizes = b.sizes; reach = r; least = b.below }
