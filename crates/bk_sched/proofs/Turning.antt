-- Places in turn, with the set of those that are ready.
use Rattle.std.proofs.Common.{◌≡◌, ℕ, ◌+◌, ◌<◌, ◌≤◌, refl, ap, sym, ◌∙◌, subst, arith, ◌⊎◌, ◌↔◌, inl, inr, List, [], ◌∷◌, ◌++◌, length, Bool, true, false, cond, get_or, take, append_assoc, append-nil}
use Rattle.std.specs.Prelude.{slice_index}
use Rattle.std.specs.List.{Contains, list_any, range_with_len}
use Rattle.std.specs.Ordering.{nat_cmp, is_eq, is_gt, ordering_then}
use Rattle.std.specs.Cmp.{nat_cmp_is}
use Rattle.std.specs.declared.cmp.Ordering.{Ordering}
use Rattle.std.specs.declared.cmp.Ordering.TheVariants.{Less, Equal, Greater}
use Rattle.std.specs.BTreeSet.{BTreeSet, contains}
use Rattle.std.specs.BTreeMap.{is_at}
use Rattle.std.proofs.lemmas.Bool.{cases_eq, cases_lt}
use Rattle.std.proofs.lemmas.Cmp.{ranked}
use Rattle.std.proofs.lemmas.List.Elements.{Contains-get_or}
use Rattle.bk_func.proofs.Faults.{In}
use Rattle.bk_sched.specs.declared.turns.Turn.{Turn}
use Rattle.bk_places.proofs.Elements.{to_in, to_contains, in_left, in_right}
use Rattle.bk_sched.specs.Turns.{StaysWithin}
use Rattle.bk_places.specs.Search.{IsEdge}
use Rattle.bk_sched.specs.Turns.{AreReady, IsDue, IsFree, Released, Turned, done, next, has_turn, turn_cmp}
use Rattle.bk_places.specs.Counts.{count_in, total_in}
use Rattle.bk_places.proofs.Counting.{Ended, sum_range, take_before, take_here, before_taken}
use Rattle.bk_places.proofs.Leaving.{behind, led_from, left_of, left_under, left_more, left_less, all_new, range_all, none_led, some_led, some_count, count_cut, cut, Cut}

-- turns in their order

both_equal : (x y : Ordering) → is_eq (ordering_then x y) ≡ true → (x ≡ Equal) × (y ≡ Equal)
both_equal Equal Equal e = (refl, refl)
both_equal Equal Less e = absurd cc
both_equal Equal Greater e = absurd cc
both_equal Less y e = absurd cc
both_equal Greater y e = absurd cc

less_at : (x y : Ordering) → is_gt (ordering_then x y) ≡ false → ¬ (is_eq (ordering_then x y) ≡ true) → (x ≡ Less) ⊎ ((x ≡ Equal) × (y ≡ Less))
less_at Less y e n = inl refl
less_at Equal Less e n = inr (refl, refl)
less_at Equal Equal e n = absurd (n refl)
less_at Equal Greater e n = absurd cc
less_at Greater y e n = absurd cc

turn_is : {s c p q : ℕ} → s ≡ c → p ≡ q → ◌≡◌ {A = Turn} (record { score = s; place = p }) (record { score = c; place = q })
turn_is a b = cc

pub same_turn : (a b : Turn) → is_eq (turn_cmp a b) ≡ true → a ≡ b
same_turn a b e =
    let q = both_equal (nat_cmp a.score b.score) (nat_cmp a.place b.place) e in
    turn_is (ranked a.score b.score Equal (sym q.0)) (ranked a.place b.place Equal (sym q.1))

pub turn_same : (a : Turn) → is_eq (turn_cmp a a) ≡ true
turn_same a = rw (sym (nat_cmp_is a.score a.score Equal refl), sym (nat_cmp_is a.place a.place Equal refl)) refl

-- the first of two turns has the lesser score, or the same and the lesser place
pub turn_before : (a b : Turn) → is_gt (turn_cmp a b) ≡ false → ¬ (a ≡ b) → (a.score < b.score) ⊎ ((a.score ≡ b.score) × (a.place < b.place))
turn_before a b e n = go (less_at (nat_cmp a.score b.score) (nat_cmp a.place b.place) e (λ q. n (same_turn a b q)))
  where
    go : (nat_cmp a.score b.score ≡ Less) ⊎ ((nat_cmp a.score b.score ≡ Equal) × (nat_cmp a.place b.place ≡ Less)) → (a.score < b.score) ⊎ ((a.score ≡ b.score) × (a.place < b.place))
    go (inl g) = inl (ranked a.score b.score Less (sym g))
    go (inr (x, g)) = inr (ranked a.score b.score Equal (sym x), ranked a.place b.place Less (sym g))

-- sets of turns

pub with_turn : (d : Turn) (old new : BTreeSet Turn) → ((q : Turn) → contains turn_cmp new q ≡ cond (is_at (turn_cmp d) q) true (contains turn_cmp old q)) →
    (e : Turn) → (has_turn new e ≡ true) ↔ ((has_turn old e ≡ true) ⊎ (e ≡ d))
with_turn d old new h e = (forward, back)
  where
    forward : has_turn new e ≡ true → (has_turn old e ≡ true) ⊎ (e ≡ d)
    forward k = go (is_at (turn_cmp d) e) refl (sym (h e) ∙ k)
      where
        go : (t : Bool) → is_at (turn_cmp d) e ≡ t → cond t true (has_turn old e) ≡ true → (has_turn old e ≡ true) ⊎ (e ≡ d)
        go true q r = inr (sym (same_turn d e q))
        go false q r = inl r

    back : (has_turn old e ≡ true) ⊎ (e ≡ d) → has_turn new e ≡ true
    back (inl k) = h e ∙ go (is_at (turn_cmp d) e)
      where
        go : (t : Bool) → cond t true (has_turn old e) ≡ true
        go true = refl
        go false = k
    back (inr q) =
        let P : Turn → Type 0 = λ x. is_at (turn_cmp d) x ≡ true in
        let t : is_at (turn_cmp d) e ≡ true = subst P (sym q) (turn_same d) in
        h e ∙ ap (λ b. cond b true (has_turn old e)) t

pub without_turn : (d : Turn) (old new : BTreeSet Turn) → ((q : Turn) → contains turn_cmp new q ≡ cond (is_at (turn_cmp d) q) false (contains turn_cmp old q)) →
    (e : Turn) → (has_turn new e ≡ true) ↔ ((has_turn old e ≡ true) × ¬ (e ≡ d))
without_turn d old new h e = (forward, λ q. back q.0 q.1)
  where
    forward : has_turn new e ≡ true → (has_turn old e ≡ true) × ¬ (e ≡ d)
    forward k = go (is_at (turn_cmp d) e) refl (sym (h e) ∙ k)
      where
        go : (t : Bool) → is_at (turn_cmp d) e ≡ t → cond t false (has_turn old e) ≡ true → (has_turn old e ≡ true) × ¬ (e ≡ d)
        go true q r = absurd cc
        go false q r = (
          r,
          λ x.
              let P : Turn → Type 0 = λ y. is_at (turn_cmp d) y ≡ true in
              let t : is_at (turn_cmp d) e ≡ true = subst P (sym x) (turn_same d) in
              absurd cc,
        )

    back : has_turn old e ≡ true → ¬ (e ≡ d) → has_turn new e ≡ true
    back k n = h e ∙ go (is_at (turn_cmp d) e) refl
      where
        go : (t : Bool) → is_at (turn_cmp d) e ≡ t → cond t false (has_turn old e) ≡ true
        go true q = absurd (n (sym (same_turn d e q)))
        go false q = k

-- what is released by one more place
pub released_more : (scores ts waits rest : List ℕ) (old free now : BTreeSet Turn) (i : ℕ) → i < length ts → Ended (get_or ts i 0) waits rest → Released scores (take i ts) waits old free →
    ((t : Turn) → (has_turn now t ≡ true) ↔ ((has_turn free t ≡ true) ⊎ ((t.place ≡ get_or ts i 0) × IsDue scores rest t))) → Released scores (take (i + 1) ts) rest old now
released_more scores ts waits rest old free now i h u r n = record { each = λ d. (forward d, back d) }
  where
    apart : (x : ℕ) → slice_index waits x ≡ 0 → ¬ (x ≡ get_or ts i 0)
    apart x z e = let s = u.some in let k = ap (slice_index waits) e in absurd (omega (arith, s, k, z))

    forward : (d : Turn) → has_turn now d ≡ true → (has_turn old d ≡ true) ⊎ (Contains (take (i + 1) ts) d.place × IsDue scores rest d)
    forward d k = go ((n d).0 k)
      where
        was : (has_turn old d ≡ true) ⊎ (Contains (take i ts) d.place × IsDue scores waits d) → (has_turn old d ≡ true) ⊎ (Contains (take (i + 1) ts) d.place × IsDue scores rest d)
        was (inl q) = inl q
        was (inr (c, (e, z))) = inr (take_before d.place i ts h c, (e, u.other d.place (apart d.place z) ∙ z))

        go : (has_turn free d ≡ true) ⊎ ((d.place ≡ get_or ts i 0) × IsDue scores rest d) → (has_turn old d ≡ true) ⊎ (Contains (take (i + 1) ts) d.place × IsDue scores rest d)
        go (inl q) = was ((r.each d).0 q)
        go (inr (p, (e, z))) = inr (take_here d.place i ts h p, (e, z))

    back : (d : Turn) → (has_turn old d ≡ true) ⊎ (Contains (take (i + 1) ts) d.place × IsDue scores rest d) → has_turn now d ≡ true
    back d (inl q) = (n d).1 (inl ((r.each d).1 (inl q)))
    back d (inr (c, (e, z))) = go (cases_eq d.place (get_or ts i 0))
      where
        go : (d.place ≡ get_or ts i 0) ⊎ (d.place ≡ get_or ts i 0 → ⊥) → has_turn now d ≡ true
        go (inl p) = (n d).1 (inr (p, (e, z)))
        go (inr m) = (n d).1 (inl ((r.each d).1 (inr (before_taken d.place i ts h c m, (e, sym (u.other d.place m) ∙ z)))))

pub released_none : (scores waits : List ℕ) (old : BTreeSet Turn) → Released scores [] waits old old
released_none scores waits old = record { each = λ d. (λ k. inl k, λ q. elim q as (λ _. has_turn old d ≡ true) [ inl k ↦ k | inr (c, (e, z)) ↦ elim (to_in d.place [] c) [ ] ]) }

-- no place, or one that is not due, adds nothing; the turn of one that is due is put in
pub adds_none : (free : BTreeSet Turn) (P : Turn → Type 0) → ((d : Turn) → ¬ P d) → (d : Turn) → (has_turn free d ≡ true) ↔ ((has_turn free d ≡ true) ⊎ P d)
adds_none free P n d = (λ k. inl k, λ q. elim q as (λ _. has_turn free d ≡ true) [ inl k ↦ k | inr p ↦ absurd (n d p) ])

pub adds_one : (scores waits : List ℕ) (n : ℕ) (e : Turn) (free now : BTreeSet Turn) → e.score ≡ slice_index scores n → e.place ≡ n → slice_index waits n ≡ 0 →
    ((q : Turn) → contains turn_cmp now q ≡ cond (is_at (turn_cmp e) q) true (contains turn_cmp free q)) →
    (d : Turn) → (has_turn now d ≡ true) ↔ ((has_turn free d ≡ true) ⊎ ((d.place ≡ n) × IsDue scores waits d))
adds_one scores waits n e free now score own z h d = (forward, back)
  where
    forward : has_turn now d ≡ true → (has_turn free d ≡ true) ⊎ ((d.place ≡ n) × IsDue scores waits d)
    forward k = elim ((with_turn e free now h d).0 k) as (λ _. (has_turn free d ≡ true) ⊎ ((d.place ≡ n) × IsDue scores waits d)) [
      | inl q ↦ inl q
      | inr q ↦ (let p : d.place ≡ n = ap (λ (x : Turn). x.place) q ∙ own in
          inr (p, (ap (λ (x : Turn). x.score) q ∙ (score ∙ ap (slice_index scores) (sym p)), ap (slice_index waits) p ∙ z)))
    ]

    back : (has_turn free d ≡ true) ⊎ ((d.place ≡ n) × IsDue scores waits d) → has_turn now d ≡ true
    back (inl q) = (with_turn e free now h d).1 (inl q)
    back (inr (p, (t, u))) = (with_turn e free now h d).1 (inr (turn_is (t ∙ (ap (slice_index scores) p ∙ sym score)) (p ∙ sym own)))

-- what is ready among one more place
pub ready_one : (scores waits : List ℕ) (n : ℕ) (free now : BTreeSet Turn) → AreReady scores waits n free →
    ((d : Turn) → (has_turn now d ≡ true) ↔ ((has_turn free d ≡ true) ⊎ ((d.place ≡ n) × IsDue scores waits d))) → AreReady scores waits (n + 1) now
ready_one scores waits n free now a h = record { each = λ d. (forward d, λ q. back d q.0 q.1) }
  where
    forward : (d : Turn) → has_turn now d ≡ true → (d.place < n + 1) × IsDue scores waits d
    forward d k = elim ((h d).0 k) as (λ _. (d.place < n + 1) × IsDue scores waits d) [
      | inl q ↦ (let r = (a.each d).0 q in let l = r.0 in (omega (arith, l), r.1))
      | inr q ↦ (let l = q.0 in (omega (arith, l), q.1))
    ]

    back : (d : Turn) → d.place < n + 1 → IsDue scores waits d → has_turn now d ≡ true
    back d l e = elim (cases_eq d.place n) as (λ _. has_turn now d ≡ true) [
      | inl p ↦ (h d).1 (inr (p, e))
      | inr p ↦ (h d).1 (inl ((a.each d).1 (omega (arith, l, p), e)))
    ]

-- the turns so far: those of the places that are left go on behind them, the counts are exact, and what is left leads to what is left
pub record State (scores : List ℕ) (es : List (List ℕ)) (order waits : List ℕ) (ready : BTreeSet Turn) : Type 0 where
  pub turned : (zs : List ℕ) → Turned scores es (left_of (length scores) order) zs → Turned scores es (range_with_len 0 (length scores)) (order ++ zs)
  pub size : length waits ≡ length scores
  pub counts : (p : ℕ) → p < length scores → slice_index waits p ≡ led_from es (left_of (length scores) order) p
  pub closed : (p q : ℕ) → In p (left_of (length scores) order) → IsEdge es p q → In q (left_of (length scores) order)
  pub due : (t : Turn) → (has_turn ready t ≡ true) ↔ (In t.place (left_of (length scores) order) × IsDue scores waits t)

-- the start

pub state_start : (scores : List ℕ) (es : List (List ℕ)) (waits : List ℕ) (ready : BTreeSet Turn) → length es ≡ length scores → length waits ≡ length es → StaysWithin es →
    ((p : ℕ) → slice_index waits p ≡ total_in es p) → AreReady scores waits (length scores) ready → State scores es [] waits ready
state_start scores es waits ready l size within counts are = record {
  turned = λ zs g. (let P : List ℕ → Type 0 = λ xs. Turned scores es xs zs in subst P (all_new (range_with_len 0 (length scores))) g);
  size = size ∙ l;
  counts = λ p h. counts p ∙ sym (sum_range (count_in p) [] es 0 refl) ∙ ap (λ n. led_from es (range_with_len 0 n) p) l ∙ ap (λ xs. led_from es xs p) (sym (all_new (range_with_len 0 (length scores))));
  closed = λ p q i e. all q (let m = within p q e in omega (arith, m, l));
  due = λ t. (
    λ k. let q = (are.each t).0 k in (all t.place q.0, q.1),
    λ q. (are.each t).1 (left_under (length scores) [] t.place q.0, q.1),
  );
}
  where
    all : (p : ℕ) → p < length scores → In p (left_of (length scores) [])
    all p h =
        let P : List ℕ → Type 0 = λ xs. In p xs in
        subst P (sym (all_new (range_with_len 0 (length scores)))) (range_all 0 (length scores) p (omega arith) (omega (arith, h)))

-- a place that is ready

pub own_place : (scores : List ℕ) (es : List (List ℕ)) (order waits : List ℕ) (ready : BTreeSet Turn) (t : Turn) → State scores es order waits ready → has_turn ready t ≡ true → t.place < length scores
own_place scores es order waits ready t s e = left_under (length scores) order t.place ((s.due t).0 e).0

pub enough_waits : (scores : List ℕ) (es : List (List ℕ)) (order waits : List ℕ) (ready : BTreeSet Turn) (t : Turn) → StaysWithin es → length es ≡ length scores → State scores es order waits ready →
    has_turn ready t ≡ true → (p : ℕ) → count_in p (behind es t.place) ≤ slice_index waits p
enough_waits scores es order waits ready t within l s e p = go (cases_lt p (length scores))
  where
    go : (p < length scores) ⊎ (length scores ≤ p) → count_in p (behind es t.place) ≤ slice_index waits p
    go (inl low) =
        let c = s.counts p low in
        let k = count_cut es (length scores) order t.place ((s.due t).0 e).0 p in
        omega (arith, c, k)
    go (inr high) = by (cases_eq (count_in p (behind es t.place)) 0)
      where
        by : (count_in p (behind es t.place) ≡ 0) ⊎ (count_in p (behind es t.place) ≡ 0 → ⊥) → count_in p (behind es t.place) ≤ slice_index waits p
        by (inl z) = omega (arith, z)
        by (inr n) =
            let i = some_count p (behind es t.place) (omega (arith, n)) in
            let m = within t.place p (to_contains p (behind es t.place) i) in
            absurd (omega (arith, m, l, high))

-- it goes to the order, and what it leads to is released
pub state_more : (scores : List ℕ) (es : List (List ℕ)) (order waits rest : List ℕ) (ready mid now : BTreeSet Turn) (t : Turn) → State scores es order waits ready → has_turn ready t ≡ true →
    ((e : Turn) → has_turn ready e ≡ true → is_gt (turn_cmp t e) ≡ false) → ((e : Turn) → (has_turn mid e ≡ true) ↔ ((has_turn ready e ≡ true) × ¬ (e ≡ t))) → length rest ≡ length scores →
    ((p : ℕ) → slice_index rest p + count_in p (behind es t.place) ≡ slice_index waits p) → Released scores (behind es t.place) rest mid now → State scores es (order ++ t.place ∷ []) rest now
state_more scores es order waits rest ready mid now t s e least popped size less r = record {
  turned = λ zs g.
      let P : List ℕ → Type 0 = λ xs. Turned scores es xs zs in
      let R : List ℕ → Type 0 = λ xs. Turned scores es xs (t.place ∷ zs) in
      let Q : List ℕ → Type 0 = λ ys. Turned scores es (range_with_len 0 n) ys in
      subst Q (sym (append_assoc order (t.place ∷ []) zs)) (s.turned (t.place ∷ zs) (subst R (sym c.before) (next c.front c.back zs t.place
      (λ q k. unled q (to_in q (c.front ++ t.place ∷ c.back) k))
      (λ q k f. first q (to_in q c.front k) f)
      (λ q k f. second q (to_in q c.back k) f)
      (subst P c.after g))));
  size = size;
  counts = λ p l. let a = less p in let b = s.counts p l in let k = count_cut es n order t.place own.0 p in omega (arith, a, b, k);
  closed = λ p q j d. stays p q (left_less n order t.place p own.0 j).0 d;
  due = λ q. (forward q, λ x. back q x.0 x.1);
}
  where
    n : ℕ
    n = length scores

    own : In t.place (left_of (length scores) order) × IsDue scores waits t
    own = (s.due t).0 e

    c : Cut (length scores) order t.place
    c = cut (length scores) order t.place own.0

    none_leads : led_from es (left_of (length scores) order) t.place ≡ 0
    none_leads = sym (s.counts t.place (left_under (length scores) order t.place own.0)) ∙ own.1.1

    unled : (q : ℕ) → In q (c.front ++ t.place ∷ c.back) → ¬ IsEdge es q t.place
    unled q k d =
        let P : List ℕ → Type 0 = λ xs. In q xs in
        none_led es (left_of (length scores) order) t.place none_leads q (subst P (sym c.before) k) (to_in t.place (behind es q) d)

    -- a free place that is left is ready
    waits_not : (q : ℕ) → In q (left_of (length scores) order) → IsFree es (c.front ++ t.place ∷ c.back) q → slice_index waits q ≡ 0
    waits_not q i f = go (cases_eq (slice_index waits q) 0)
      where
        go : (slice_index waits q ≡ 0) ⊎ (slice_index waits q ≡ 0 → ⊥) → slice_index waits q ≡ 0
        go (inl z) = z
        go (inr z) =
            let b = s.counts q (left_under (length scores) order q i) in
            let x = some_led es (left_of (length scores) order) q (omega (arith, b, z)) in
            let P : List ℕ → Type 0 = λ xs. In x.0 xs in
            absurd (f x.0 (to_contains x.0 (c.front ++ t.place ∷ c.back) (subst P c.before x.1)) (to_contains q (behind es x.0) x.2))

    turn_at : ℕ → Turn
    turn_at q = record { score = slice_index scores q; place = q }

    before : (q : ℕ) → In q (left_of (length scores) order) → ¬ (q ≡ t.place) → IsFree es (c.front ++ t.place ∷ c.back) q → (t.score < slice_index scores q) ⊎ ((t.score ≡ slice_index scores q) × (t.place < q))
    before q i d f =
        let h = (s.due (turn_at q)).1 (i, (refl, waits_not q i f)) in
        turn_before t (turn_at q) (least (turn_at q) h) (λ x. d (sym (ap (λ (y : Turn). y.place) x)))

    first : (q : ℕ) → In q c.front → IsFree es (c.front ++ t.place ∷ c.back) q → slice_index scores t.place < slice_index scores q
    first q k f =
        let P : List ℕ → Type 0 = λ xs. In q xs in
        let low = c.less q k in
        let score = own.1.0 in
        elim (before q (subst P (sym c.before) (in_left q c.front (t.place ∷ c.back) k)) (λ d. absurd (omega (arith, low, d))) f) as (λ _. slice_index scores t.place < slice_index scores q) [
          | inl l ↦ omega (arith, l, score)
          | inr (a, b) ↦ absurd (omega (arith, low, b))
        ]

    second : (q : ℕ) → In q c.back → IsFree es (c.front ++ t.place ∷ c.back) q → slice_index scores t.place ≤ slice_index scores q
    second q k f = go (cases_eq q t.place)
      where
        go : (q ≡ t.place) ⊎ (q ≡ t.place → ⊥) → slice_index scores t.place ≤ slice_index scores q
        go (inl d) = let x = ap (slice_index scores) d in omega (arith, x)
        go (inr d) =
            let P : List ℕ → Type 0 = λ xs. In q xs in
            let score = own.1.0 in
            elim (before q (subst P (sym c.before) (in_right q c.front (t.place ∷ c.back) (inr k))) d f) as (λ _. slice_index scores t.place ≤ slice_index scores q) [
              | inl l ↦ omega (arith, l, score)
              | inr (a, b) ↦ omega (arith, a, score)
            ]

    stays : (p q : ℕ) → In p (left_of (length scores) order) → IsEdge es p q → In q (left_of (length scores) (order ++ t.place ∷ []))
    stays p q i d = left_more (length scores) order t.place q own.0 (s.closed p q i d)
        (λ a. let P : ℕ → Type 0 = λ x. IsEdge es p x in none_led es (left_of (length scores) order) t.place none_leads p i (to_in t.place (behind es p) (subst P a d)))

    same : (q : Turn) → q.place ≡ t.place → q.score ≡ slice_index scores q.place → q ≡ t
    same q a b = turn_is (b ∙ (ap (slice_index scores) a ∙ sym own.1.0)) a

    forward : (q : Turn) → has_turn now q ≡ true → In q.place (left_of (length scores) (order ++ t.place ∷ [])) × IsDue scores rest q
    forward q x = elim ((r.each q).0 x) as (λ _. In q.place (left_of (length scores) (order ++ t.place ∷ [])) × IsDue scores rest q) [
      | inl k ↦ (let old = (popped q).0 k in
          let u = (s.due q).0 old.0 in
          let l = less q.place in
          (left_more (length scores) order t.place q.place own.0 u.0 (λ a. old.1 (same q a u.1.0)), (u.1.0, let z = u.1.1 in omega (arith, l, z))))
      | inr k ↦ (stays t.place q.place own.0 k.0, k.1)
    ]

    back : (q : Turn) → In q.place (left_of (length scores) (order ++ t.place ∷ [])) → IsDue scores rest q → has_turn now q ≡ true
    back q i (a, z) = go (cases_eq (count_in q.place (behind es t.place)) 0)
      where
        was : In q.place (left_of (length scores) order) × ¬ (q.place ≡ t.place)
        was = left_less (length scores) order t.place q.place own.0 i

        go : (count_in q.place (behind es t.place) ≡ 0) ⊎ (count_in q.place (behind es t.place) ≡ 0 → ⊥) → has_turn now q ≡ true
        go (inl k) =
            let l = less q.place in
            let u : slice_index waits q.place ≡ 0 = omega (arith, l, k, z) in
            (r.each q).1 (inl ((popped q).1 ((s.due q).1 (was.0, (a, u)), λ b. was.1 (ap (λ (y : Turn). y.place) b))))
        go (inr k) = (r.each q).1 (inr (to_contains q.place (behind es t.place) (some_count q.place (behind es t.place) (omega (arith, k))), (a, z)))

-- the end
pub state_end : (scores : List ℕ) (es : List (List ℕ)) (order waits : List ℕ) (ready : BTreeSet Turn) → State scores es order waits ready → ((t : Turn) → has_turn ready t ≡ false) →
    Turned scores es (range_with_len 0 (length scores)) order
state_end scores es order waits ready s out =
    let P : List ℕ → Type 0 = λ ys. Turned scores es (range_with_len 0 (length scores)) ys in
    subst P (append-nil order) (s.turned [] (done (left_of (length scores) order) none))
  where
    none : (p : ℕ) → Contains (left_of (length scores) order) p → ¬ IsFree es (left_of (length scores) order) p
    none p c f = go (cases_eq (slice_index waits p) 0)
      where
        i : In p (left_of (length scores) order)
        i = to_in p (left_of (length scores) order) c

        b : slice_index waits p ≡ led_from es (left_of (length scores) order) p
        b = s.counts p (left_under (length scores) order p i)

        go : (slice_index waits p ≡ 0) ⊎ (slice_index waits p ≡ 0 → ⊥) → ⊥
        go (inl z) =
            let t : Turn = record { score = slice_index scores p; place = p } in
            let h = (s.due t).1 (i, (refl, z)) in
            let k = out t in
            absurd cc
        go (inr z) =
            let x = some_led es (left_of (length scores) order) p (omega (arith, b, z)) in
            f x.0 (to_contains x.0 (left_of (length scores) order) x.1) (to_contains p (behind es x.0) x.2)

-- places behind a place
pub low_behind : (es : List (List ℕ)) → StaysWithin es → (p : ℕ) (qs : List ℕ) → qs ≡ get_or es p [] → (k d : ℕ) → k < length qs → get_or qs k d < length es
low_behind es within p qs same k d l = within p (get_or qs k d) (subst (λ (us : List ℕ). Contains us (get_or qs k d)) same (Contains-get_or qs k d l))

-- a set without keys has no turn
pub none_has : (ready : BTreeSet Turn) → ready.keys ≡ [] → (t : Turn) → has_turn ready t ≡ false
none_has ready e t = ap (λ ks. list_any (is_at (turn_cmp t)) ks) e
