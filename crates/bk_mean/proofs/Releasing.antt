-- Values that are freed where their last use is taken, and the set of those that are free.
use Rattle.std.proofs.Common.{◌≡◌, ℕ, ◌+◌, ◌<◌, refl, ap, sym, ◌∙◌, subst, arith, ◌⊎◌, ◌↔◌, inl, inr, List, [], length, map, take, Option, Some, None, Bool, true, false, cond, get_or}
use Rattle.std.specs.Prelude.{slice_get, slice_index}
use Rattle.std.specs.List.{Contains}
use Rattle.std.specs.Ordering.{nat_cmp, is_eq, is_lt, ordering_then}
use Rattle.std.specs.declared.cmp.Ordering.{Ordering}
use Rattle.std.specs.declared.cmp.Ordering.TheVariants.{Less, Equal, Greater}
use Rattle.std.specs.BTreeSet.{BTreeSet, contains}
use Rattle.std.specs.BTreeMap.{is_at}
use Rattle.std.proofs.lemmas.Bool.{cases_eq}
use Rattle.std.proofs.lemmas.Cmp.{ranked}
use Rattle.std.specs.Cmp.{nat_cmp_is}
use Rattle.std.proofs.lemmas.List.{get_or-map}
use Rattle.bk_places.proofs.Counting.{Ended, take_before, take_here, before_taken}
use Rattle.bk_places.proofs.Elements.{to_in, to_contains}
use Rattle.bk_places.proofs.Positions.{got_get_or}
use Rattle.bk_mean.specs.declared.arrange.Due.{Due}
use Rattle.bk_mean.specs.Arranged as meant
use Rattle.bk_mean.specs.Arranged.{Later, by_level, by_class, by_place}
use Rattle.bk_mean.specs.Dues.{seen_due, coded_due, seen_at, due_in, due_cmp, has_due, DuesOfPlaces, StaysWithin, AreFree, Released, taken_in}
use Rattle.bk_mean.proofs.Named.{got_in}

-- dues in their order

all_equal : (x y z : Ordering) → is_eq (ordering_then x (ordering_then y z)) ≡ true → (x ≡ Equal) × (y ≡ Equal) × (z ≡ Equal)
all_equal Equal Equal Equal e = (refl, refl, refl)
all_equal Equal Equal Less e = absurd cc
all_equal Equal Equal Greater e = absurd cc
all_equal Equal Less z e = absurd cc
all_equal Equal Greater z e = absurd cc
all_equal Less y z e = absurd cc
all_equal Greater y z e = absurd cc

greater_at : (x y z : Ordering) → is_lt (ordering_then x (ordering_then y z)) ≡ false → ¬ (is_eq (ordering_then x (ordering_then y z)) ≡ true) →
    (x ≡ Greater) ⊎ ((x ≡ Equal) × ((y ≡ Greater) ⊎ ((y ≡ Equal) × (z ≡ Greater))))
greater_at Greater y z e n = inl refl
greater_at Equal Greater z e n = inr (refl, inl refl)
greater_at Equal Equal Greater e n = inr (refl, inr (refl, refl))
greater_at Equal Equal Equal e n = absurd (n refl)
greater_at Equal Equal Less e n = absurd cc
greater_at Equal Less z e n = absurd cc
greater_at Less y z e n = absurd cc

due_is : {l m c k p q : ℕ} → l ≡ m → c ≡ k → p ≡ q → ◌≡◌ {A = Due} (record { level = l; class = c; place = p }) (record { level = m; class = k; place = q })
due_is a b d = cc

pub same_due : (a b : Due) → is_eq (due_cmp a b) ≡ true → a ≡ b
same_due a b e =
    let q = all_equal (nat_cmp a.level b.level) (nat_cmp a.class b.class) (nat_cmp a.place b.place) e in
    due_is (ranked a.level b.level Equal (sym q.0)) (ranked a.class b.class Equal (sym q.1)) (ranked a.place b.place Equal (sym q.2))

pub due_same : (a : Due) → is_eq (due_cmp a a) ≡ true
due_same a = rw (sym (nat_cmp_is a.level a.level Equal refl), sym (nat_cmp_is a.class a.class Equal refl), sym (nat_cmp_is a.place a.place Equal refl)) refl

pub due_later : (a b : Due) → is_lt (due_cmp a b) ≡ false → ¬ (a ≡ b) → Later (seen_due a) (seen_due b)
due_later a b e n = go (greater_at (nat_cmp a.level b.level) (nat_cmp a.class b.class) (nat_cmp a.place b.place) e (λ q. n (same_due a b q)))
  where
    go : (nat_cmp a.level b.level ≡ Greater) ⊎ ((nat_cmp a.level b.level ≡ Equal) × ((nat_cmp a.class b.class ≡ Greater) ⊎ ((nat_cmp a.class b.class ≡ Equal) × (nat_cmp a.place b.place ≡ Greater)))) →
        Later (seen_due a) (seen_due b)
    go (inl g) = by_level (seen_due a) (seen_due b) (ranked a.level b.level Greater (sym g))
    go (inr (x, inl g)) = by_class (seen_due a) (seen_due b) (ranked a.level b.level Equal (sym x)) (ranked a.class b.class Greater (sym g))
    go (inr (x, inr (y, g))) =
        by_place (seen_due a) (seen_due b) (ranked a.level b.level Equal (sym x)) (ranked a.class b.class Equal (sym y)) (ranked a.place b.place Greater (sym g))

-- sets of dues

-- a set with one due more, or without one
pub with_due : (d : Due) (old new : BTreeSet Due) → ((q : Due) → contains due_cmp new q ≡ cond (is_at (due_cmp d) q) true (contains due_cmp old q)) →
    (e : meant.Due) → (has_due new e ≡ true) ↔ ((has_due old e ≡ true) ⊎ (e ≡ seen_due d))
with_due d old new h e = (forward, back)
  where
    forward : has_due new e ≡ true → (has_due old e ≡ true) ⊎ (e ≡ seen_due d)
    forward k = go (is_at (due_cmp d) (coded_due e)) refl (sym (h (coded_due e)) ∙ k)
      where
        go : (t : Bool) → is_at (due_cmp d) (coded_due e) ≡ t → cond t true (has_due old e) ≡ true → (has_due old e ≡ true) ⊎ (e ≡ seen_due d)
        go true q r = inr (sym (ap seen_due (same_due d (coded_due e) q)))
        go false q r = inl r

    back : (has_due old e ≡ true) ⊎ (e ≡ seen_due d) → has_due new e ≡ true
    back (inl k) = h (coded_due e) ∙ go (is_at (due_cmp d) (coded_due e))
      where
        go : (t : Bool) → cond t true (has_due old e) ≡ true
        go true = refl
        go false = k
    back (inr q) =
        let P : Due → Type 0 = λ x. is_at (due_cmp d) x ≡ true in
        let t : is_at (due_cmp d) (coded_due e) ≡ true = subst P (sym (ap coded_due q)) (due_same d) in
        h (coded_due e) ∙ ap (λ b. cond b true (has_due old e)) t

pub without_due : (d : Due) (old new : BTreeSet Due) → ((q : Due) → contains due_cmp new q ≡ cond (is_at (due_cmp d) q) false (contains due_cmp old q)) →
    (e : meant.Due) → (has_due new e ≡ true) ↔ ((has_due old e ≡ true) × ¬ (e ≡ seen_due d))
without_due d old new h e = (forward, λ q. back q.0 q.1)
  where
    forward : has_due new e ≡ true → (has_due old e ≡ true) × ¬ (e ≡ seen_due d)
    forward k = go (is_at (due_cmp d) (coded_due e)) refl (sym (h (coded_due e)) ∙ k)
      where
        go : (t : Bool) → is_at (due_cmp d) (coded_due e) ≡ t → cond t false (has_due old e) ≡ true → (has_due old e ≡ true) × ¬ (e ≡ seen_due d)
        go true q r = absurd cc
        go false q r = (
          r,
          λ x.
              let P : Due → Type 0 = λ y. is_at (due_cmp d) y ≡ true in
              let t : is_at (due_cmp d) (coded_due e) ≡ true = subst P (sym (ap coded_due x)) (due_same d) in
              absurd cc,
        )

    back : has_due old e ≡ true → ¬ (e ≡ seen_due d) → has_due new e ≡ true
    back k n = h (coded_due e) ∙ go (is_at (due_cmp d) (coded_due e)) refl
      where
        go : (t : Bool) → is_at (due_cmp d) (coded_due e) ≡ t → cond t false (has_due old e) ≡ true
        go true q = absurd (n (sym (ap seen_due (same_due d (coded_due e) q))))
        go false q = k

-- what is released by one more place
pub released_more : (dues : List (Option Due)) (ts uses rest : List ℕ) (old free now : BTreeSet Due) (i : ℕ) → i < length ts → Ended (get_or ts i 0) uses rest → Released dues (take i ts) uses old free →
    ((d : meant.Due) → (has_due now d ≡ true) ↔ ((has_due free d ≡ true) ⊎ ((d.place ≡ get_or ts i 0) × (due_in dues d.place ≡ Some d) × (slice_index rest d.place ≡ 0)))) →
    Released dues (take (i + 1) ts) rest old now
released_more dues ts uses rest old free now i h u r n = record { each = λ d. (forward d, back d) }
  where
    apart : (x : ℕ) → slice_index uses x ≡ 0 → ¬ (x ≡ get_or ts i 0)
    apart x z e = let s = u.some in let k = ap (slice_index uses) e in absurd (omega (arith, s, k, z))

    forward : (d : meant.Due) → has_due now d ≡ true → (has_due old d ≡ true) ⊎ (Contains (take (i + 1) ts) d.place × (due_in dues d.place ≡ Some d) × (slice_index rest d.place ≡ 0))
    forward d k = go ((n d).0 k)
      where
        was : (has_due old d ≡ true) ⊎ (Contains (take i ts) d.place × (due_in dues d.place ≡ Some d) × (slice_index uses d.place ≡ 0)) →
            (has_due old d ≡ true) ⊎ (Contains (take (i + 1) ts) d.place × (due_in dues d.place ≡ Some d) × (slice_index rest d.place ≡ 0))
        was (inl q) = inl q
        was (inr (c, e, z)) = inr (take_before d.place i ts h c, e, u.other d.place (apart d.place z) ∙ z)

        go : (has_due free d ≡ true) ⊎ ((d.place ≡ get_or ts i 0) × (due_in dues d.place ≡ Some d) × (slice_index rest d.place ≡ 0)) →
            (has_due old d ≡ true) ⊎ (Contains (take (i + 1) ts) d.place × (due_in dues d.place ≡ Some d) × (slice_index rest d.place ≡ 0))
        go (inl q) = was ((r.each d).0 q)
        go (inr (p, e, z)) = inr (take_here d.place i ts h p, e, z)

    back : (d : meant.Due) → (has_due old d ≡ true) ⊎ (Contains (take (i + 1) ts) d.place × (due_in dues d.place ≡ Some d) × (slice_index rest d.place ≡ 0)) → has_due now d ≡ true
    back d (inl q) = (n d).1 (inl ((r.each d).1 (inl q)))
    back d (inr (c, e, z)) = go (cases_eq d.place (get_or ts i 0))
      where
        go : (d.place ≡ get_or ts i 0) ⊎ (d.place ≡ get_or ts i 0 → ⊥) → has_due now d ≡ true
        go (inl p) = (n d).1 (inr (p, e, z))
        go (inr m) = (n d).1 (inl ((r.each d).1 (inr (before_taken d.place i ts h c m, e, sym (u.other d.place m) ∙ z))))

pub released_none : (dues : List (Option Due)) (uses : List ℕ) (old : BTreeSet Due) → Released dues [] uses old old
released_none dues uses old = record { each = λ d. (λ k. inl k, λ q. elim q as (λ _. has_due old d ≡ true) [ inl k ↦ k | inr (c, e, z) ↦ elim (to_in d.place [] c) [ ] ]) }

-- what is free among one more place
pub free_one : (dues : List (Option Due)) (uses : List ℕ) (n : ℕ) (free now : BTreeSet Due) → AreFree dues uses n free →
    ((d : meant.Due) → (has_due now d ≡ true) ↔ ((has_due free d ≡ true) ⊎ ((d.place ≡ n) × (due_in dues d.place ≡ Some d) × (slice_index uses d.place ≡ 0)))) → AreFree dues uses (n + 1) now
free_one dues uses n free now a h = record { each = λ d. (forward d, λ q. back d q.0 q.1 q.2) }
  where
    forward : (d : meant.Due) → has_due now d ≡ true → (d.place < n + 1) × (due_in dues d.place ≡ Some d) × (slice_index uses d.place ≡ 0)
    forward d k = elim ((h d).0 k) as (λ _. (d.place < n + 1) × (due_in dues d.place ≡ Some d) × (slice_index uses d.place ≡ 0)) [
      | inl q ↦ (let r = (a.each d).0 q in let l = r.0 in (omega (arith, l), r.1, r.2))
      | inr q ↦ (let l = q.0 in (omega (arith, l), q.1, q.2))
    ]

    back : (d : meant.Due) → d.place < n + 1 → due_in dues d.place ≡ Some d → slice_index uses d.place ≡ 0 → has_due now d ≡ true
    back d l e z = elim (cases_eq d.place n) as (λ _. has_due now d ≡ true) [
      | inl p ↦ (h d).1 (inr (p, e, z))
      | inr p ↦ (h d).1 (inl ((a.each d).1 (omega (arith, l, p), e, z)))
    ]

-- no place, or one that is not free or never due, adds nothing
pub adds_none : (free : BTreeSet Due) (P : meant.Due → Type 0) → ((d : meant.Due) → ¬ P d) → (d : meant.Due) → (has_due free d ≡ true) ↔ ((has_due free d ≡ true) ⊎ P d)
adds_none free P n d = (λ k. inl k, λ q. elim q as (λ _. has_due free d ≡ true) [ inl k ↦ k | inr p ↦ absurd (n d p) ])

-- the due of a free place is put in
pub adds_one : (dues : List (Option Due)) (uses : List ℕ) (n : ℕ) (e : Due) (free now : BTreeSet Due) → DuesOfPlaces dues → slice_get dues n ≡ Some (Some e) → slice_index uses n ≡ 0 →
    ((q : Due) → contains due_cmp now q ≡ cond (is_at (due_cmp e) q) true (contains due_cmp free q)) →
    (d : meant.Due) → (has_due now d ≡ true) ↔ ((has_due free d ≡ true) ⊎ ((d.place ≡ n) × (due_in dues d.place ≡ Some d) × (slice_index uses d.place ≡ 0)))
adds_one dues uses n e free now places g z h d = (forward, back)
  where
    due : due_in dues n ≡ Some (seen_due e)
    due = rw g refl

    own : e.place ≡ n
    own = places.own n (seen_due e) due

    forward : has_due now d ≡ true → (has_due free d ≡ true) ⊎ ((d.place ≡ n) × (due_in dues d.place ≡ Some d) × (slice_index uses d.place ≡ 0))
    forward k = elim ((with_due e free now h d).0 k) as (λ _. (has_due free d ≡ true) ⊎ ((d.place ≡ n) × (due_in dues d.place ≡ Some d) × (slice_index uses d.place ≡ 0))) [
      | inl q ↦ inl q
      | inr q ↦ (let p : d.place ≡ n = ap (λ (x : meant.Due). x.place) q ∙ own in inr (p, ap (due_in dues) p ∙ due ∙ ap Some (sym q), ap (slice_index uses) p ∙ z))
    ]

    back : (has_due free d ≡ true) ⊎ ((d.place ≡ n) × (due_in dues d.place ≡ Some d) × (slice_index uses d.place ≡ 0)) → has_due now d ≡ true
    back (inl q) = (with_due e free now h d).1 (inl q)
    back (inr (p, t, u)) =
        let x : Some d ≡ Some (seen_due e) = sym t ∙ ap (due_in dues) p ∙ due in
        (with_due e free now h d).1 (inr cc)

-- what a place takes

pub taken_of : {A : Type 0} (g : A → List ℕ) (takes : List A) (x : ℕ) (t : A) → x < length takes → t ≡ get_or takes x t → taken_in (map g takes) x ≡ g t
taken_of g takes x t h e = get_or-map g takes x t [] h ∙ ap g (sym e)

pub taken_low : (n : ℕ) (takes : List (List ℕ)) → StaysWithin n takes → (x : ℕ) (ts : List ℕ) → taken_in takes x ≡ ts → (k d : ℕ) → k < length ts → get_or ts k d < n
taken_low n takes h x ts e k d l =
    let P : List ℕ → Type 0 = λ ys. Contains ys (get_or ts k d) in
    h.within x (get_or ts k d) (subst P (sym e) (to_contains (get_or ts k d) ts (got_in ts k (get_or ts k d) (got_get_or ts k d l))))

pub not_due : (dues : List (Option Due)) (k : ℕ) → k < length dues → ((e : Due) → get_or dues k None ≡ Some e → ⊥) → (d : meant.Due) → due_in dues k ≡ Some d → ⊥
not_due dues k h n d e = go (get_or dues k None) refl
  where
    go : (o : Option Due) → get_or dues k None ≡ o → ⊥
    go None q = let x = ap seen_at (got_get_or dues k None h ∙ ap Some q) in absurd cc
    go (Some c) q = n c q
