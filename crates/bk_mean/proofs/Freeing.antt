-- A list of places that is filled from its end: how often each place is taken by those that are left, and which are free.
use Rattle.std.proofs.Common.{◌≡◌, ℕ, ◌+◌, ◌<◌, ◌≤◌, refl, ap, sym, ◌∙◌, subst, arith, ◌⊎◌, ◌↔◌, inl, inr, List, [], ◌∷◌, ◌++◌, length, Option, Some, Bool, true, false, append_assoc, append-nil, reverse}
use Rattle.std.specs.Prelude.{slice_index}
use Rattle.std.specs.List.{Contains, range_with_len}
use Rattle.std.proofs.lemmas.Bool.{cases_eq, cases_lt}
use Rattle.std.proofs.lemmas.List.{reverse-append}
use Rattle.bk_func.proofs.Faults.{In}
use Rattle.bk_places.specs.Counts.{count_in}
use Rattle.bk_places.proofs.Elements.{to_in, to_contains}
use Rattle.bk_places.proofs.Leaving.{behind, Edge, led_from, left_of, left_under, left_more, left_less, all_new, range_all, none_led, some_led, some_count, count_cut, cut, Cut}
use Rattle.bk_mean.specs.Arranged.{Due, Later, Filled, none, put}

-- a run that fills a list: what was filled, and how often each place is taken
pub record Filling (due : ℕ → Option Due) (takes : List (List ℕ)) (n : ℕ) (order uses : List ℕ) : Type 0 where
  pub filled : (zs : List ℕ) → Filled due (Edge takes) (left_of n order) zs → Filled due (Edge takes) (range_with_len 0 n) (zs ++ reverse order)
  pub size : length uses ≡ n
  pub counts : (y : ℕ) → y < n → slice_index uses y ≡ led_from takes (left_of n order) y
  pub closed : (x y : ℕ) → In x (left_of n order) → Edge takes x y → In y (left_of n order)

-- at the start all places are left
pub filling_start : (due : ℕ → Option Due) (takes : List (List ℕ)) (n : ℕ) (uses : List ℕ) → length uses ≡ n → ((y : ℕ) → y < n → slice_index uses y ≡ led_from takes (range_with_len 0 n) y) →
    ((x y : ℕ) → x < n → Edge takes x y → y < n) → Filling due takes n [] uses
filling_start due takes n uses size counts within = record {
  filled = λ zs g.
      let P : List ℕ → Type 0 = λ xs. Filled due (Edge takes) xs (zs ++ []) in
      let R : List ℕ → Type 0 = λ ys. Filled due (Edge takes) (left_of n []) ys in
      subst P (all_new (range_with_len 0 n)) (subst R (sym (append-nil zs)) g);
  size = size;
  counts = λ y l. counts y l ∙ ap (λ xs. led_from takes xs y) (sym (all_new (range_with_len 0 n)));
  closed = λ x y i t.
      let P : List ℕ → Type 0 = λ xs. In y xs in
      subst P (sym (all_new (range_with_len 0 n))) (range_all 0 n y (omega arith) (let l = within x y (left_under n [] x i) t in omega (arith, l)));
}

-- a free place that is due last goes, and what it takes is taken so often less
pub filling_more : (due : ℕ → Option Due) (takes : List (List ℕ)) (n : ℕ) (order uses rest : List ℕ) (p : ℕ) (d : Due) → Filling due takes n order uses → In p (left_of n order) → due p ≡ Some d → slice_index uses p ≡ 0 →
    ((y : ℕ) (e : Due) → In y (left_of n order) → ¬ (y ≡ p) → due y ≡ Some e → slice_index uses y ≡ 0 → Later d e) →
    length rest ≡ n → ((y : ℕ) → y < n → slice_index rest y + count_in y (behind takes p) ≡ slice_index uses y) → Filling due takes n (order ++ p ∷ []) rest
filling_more due takes n order uses rest p d h i e zero_uses latest size less = record {
  filled = λ zs g.
      let P : List ℕ → Type 0 = λ xs. Filled due (Edge takes) xs zs in
      let R : List ℕ → Type 0 = λ xs. Filled due (Edge takes) xs (zs ++ p ∷ []) in
      let Q : List ℕ → Type 0 = λ ys. Filled due (Edge takes) (range_with_len 0 n) ys in
      subst Q (append_assoc zs (p ∷ []) (reverse order) ∙ ap (λ ys. zs ++ ys) (sym (reverse-append order (p ∷ []))))
      (h.filled (zs ++ p ∷ []) (subst R (sym c.before) (put c.front c.back zs p d e (λ x k. untaken x (to_in x (c.front ++ p ∷ c.back) k)) (λ y f k q. later y f (to_in y (c.front ++ c.back) k) q) (subst P c.after g))));
  size = size;
  counts = λ y l. let a = less y l in let b = h.counts y l in let k = count_cut takes n order p i y in omega (arith, a, b, k);
  closed = λ x y j t. stays x y (was x j) t (h.closed x y (was x j) t);
}
  where
    c : Cut n order p
    c = cut n order p i

    was : (x : ℕ) → In x (left_of n (order ++ p ∷ [])) → In x (left_of n order)
    was x j = (left_less n order p x i j).0

    apart : (y : ℕ) → In y (left_of n (order ++ p ∷ [])) → ¬ (y ≡ p)
    apart y j = (left_less n order p y i j).1

    none_takes : led_from takes (left_of n order) p ≡ 0
    none_takes = sym (h.counts p (left_under n order p i)) ∙ zero_uses

    untaken : (x : ℕ) → In x (c.front ++ p ∷ c.back) → ¬ Edge takes x p
    untaken x k t =
        let P : List ℕ → Type 0 = λ xs. In x xs in
        none_led takes (left_of n order) p none_takes x (subst P (sym c.before) k) t

    later : (y : ℕ) (f : Due) → In y (c.front ++ c.back) → due y ≡ Some f → ((x : ℕ) × Contains (c.front ++ p ∷ c.back) x × Edge takes x y) ⊎ Later d f
    later y f k q = go (cases_eq (slice_index uses y) 0)
      where
        here : In y (left_of n (order ++ p ∷ []))
        here = (let P : List ℕ → Type 0 = λ xs. In y xs in subst P (sym c.after) k)

        go : (slice_index uses y ≡ 0) ⊎ (slice_index uses y ≡ 0 → ⊥) → ((x : ℕ) × Contains (c.front ++ p ∷ c.back) x × Edge takes x y) ⊎ Later d f
        go (inl z) = inr (latest y f (was y here) (apart y here) q z)
        go (inr z) =
            let b = h.counts y (left_under n order y (was y here)) in
            let s = some_led takes (left_of n order) y (omega (arith, b, z)) in
            let P : List ℕ → Type 0 = λ xs. In s.0 xs in
            inl (s.0, to_contains s.0 (c.front ++ p ∷ c.back) (subst P c.before s.1), s.2)

    stays : (x y : ℕ) → In x (left_of n order) → Edge takes x y → In y (left_of n order) → In y (left_of n (order ++ p ∷ []))
    stays x y j t k = left_more n order p y i k (λ q. none_led takes (left_of n order) p none_takes x j (let R : ℕ → Type 0 = λ z. Edge takes x z in subst R q t))

-- where none is left, the list is filled
pub filling_end : (due : ℕ → Option Due) (takes : List (List ℕ)) (n : ℕ) (order uses : List ℕ) → Filling due takes n order uses → left_of n order ≡ [] → Filled due (Edge takes) (range_with_len 0 n) (reverse order)
filling_end due takes n order uses h e = h.filled [] (let P : List ℕ → Type 0 = λ xs. Filled due (Edge takes) xs [] in subst P (sym e) none)

-- where takes leads down, one of those that are left is taken by none of them

highest : (r : ℕ → ℕ) (x : ℕ) (xs : List ℕ) → (y : ℕ) × In y (x ∷ xs) × ((z : ℕ) → In z (x ∷ xs) → r z ≤ r y)
highest r x [] = (x, inl refl, λ z i. elim i as (λ _. r z ≤ r x) [ inl e ↦ (let k = ap r e in omega (arith, k)) | inr j ↦ elim j [ ] ])
highest r x (w ∷ ws) = go (highest r w ws)
  where
    go : (y : ℕ) × In y (w ∷ ws) × ((z : ℕ) → In z (w ∷ ws) → r z ≤ r y) → (y : ℕ) × In y (x ∷ w ∷ ws) × ((z : ℕ) → In z (x ∷ w ∷ ws) → r z ≤ r y)
    go (y, i, h) = by (cases_lt (r x) (r y))
      where
        by : (r x < r y) ⊎ (r y ≤ r x) → (y : ℕ) × In y (x ∷ w ∷ ws) × ((z : ℕ) → In z (x ∷ w ∷ ws) → r z ≤ r y)
        by (inl l) = (y, inr i, λ z j. elim j as (λ _. r z ≤ r y) [ inl e ↦ (let k = ap r e in omega (arith, k, l)) | inr k ↦ h z k ])
        by (inr l) = (x, inl refl, λ z j. elim j as (λ _. r z ≤ r x) [ inl e ↦ (let k = ap r e in omega (arith, k)) | inr k ↦ (let a = h z k in omega (arith, a, l)) ])

pub some_free : (takes : List (List ℕ)) (r : ℕ → ℕ) → ((x y : ℕ) → Edge takes x y → r y < r x) → (x : ℕ) (xs : List ℕ) → (y : ℕ) × In y (x ∷ xs) × (led_from takes (x ∷ xs) y ≡ 0)
some_free takes r falls x xs =
    let q = highest r x xs in (
      q.0,
      q.1,
      elim (cases_eq (led_from takes (x ∷ xs) q.0) 0) as (λ _. led_from takes (x ∷ xs) q.0 ≡ 0) [
        | inl e ↦ e
        | inr n ↦ (let s = some_led takes (x ∷ xs) q.0 (omega (arith, n)) in let l = falls s.0 q.0 s.2 in let k = q.2 s.0 s.1 in absurd (omega (arith, l, k)))
      ],
    )

-- the free places, by when they are due

-- a set of dues has those of the free places that are left
abbrev pub HasFree : (ℕ → Option Due) → List ℕ → List ℕ → (Due → Bool) → Type 0
HasFree due left uses has = (d : Due) → (has d ≡ true) ↔ (In d.place left × (due d.place ≡ Some d) × (slice_index uses d.place ≡ 0))

-- the due of a place says the place
abbrev pub AreOfPlaces : (ℕ → Option Due) → Type 0
AreOfPlaces due = (k : ℕ) (d : Due) → due k ≡ Some d → d.place ≡ k

-- a due leaves the set, and those of places come in that were taken and are free now
pub record Freed (due : ℕ → Option Due) (ts uses : List ℕ) (has now : Due → Bool) (d : Due) : Type 0 where
  pub kept : (q : Due) → has q ≡ true → ¬ (q ≡ d) → now q ≡ true
  pub freed : (q : Due) → In q.place ts → due q.place ≡ Some q → slice_index uses q.place ≡ 0 → now q ≡ true
  pub only : (q : Due) → now q ≡ true → ((has q ≡ true) × ¬ (q ≡ d)) ⊎ (In q.place ts × (due q.place ≡ Some q) × (slice_index uses q.place ≡ 0))

pub free_more : (due : ℕ → Option Due) (takes : List (List ℕ)) (n : ℕ) (order uses rest : List ℕ) (has now : Due → Bool) (d : Due) → AreOfPlaces due → Filling due takes n order uses → HasFree due (left_of n order) uses has →
    has d ≡ true → ((y : ℕ) → y < n → slice_index rest y + count_in y (behind takes d.place) ≡ slice_index uses y) → Freed due (behind takes d.place) rest has now d → HasFree due (left_of n (order ++ d.place ∷ [])) rest now
free_more due takes n order uses rest has now d places h free e less f q = (forward, back)
  where
    own : In d.place (left_of n order) × (due d.place ≡ Some d) × (slice_index uses d.place ≡ 0)
    own = (free d).0 e

    same : q.place ≡ d.place → due q.place ≡ Some q → q ≡ d
    same a b = let x = sym b ∙ ap due a ∙ own.1 in cc

    -- what the place takes is left, and is another place
    taken : In q.place (behind takes d.place) → In q.place (left_of n order) × ¬ (q.place ≡ d.place)
    taken t = (
      h.closed d.place q.place own.0 t,
      λ a.
          let P : ℕ → Type 0 = λ y. Edge takes d.place y in
          none_led takes (left_of n order) d.place (sym (h.counts d.place (left_under n order d.place own.0)) ∙ own.2) d.place own.0 (subst P a t),
    )

    forward : now q ≡ true → In q.place (left_of n (order ++ d.place ∷ [])) × (due q.place ≡ Some q) × (slice_index rest q.place ≡ 0)
    forward x = elim (f.only q x) as (λ _. In q.place (left_of n (order ++ d.place ∷ [])) × (due q.place ≡ Some q) × (slice_index rest q.place ≡ 0)) [
      | inl k ↦ (let u = (free q).0 k.0 in
          let l = less q.place (left_under n order q.place u.0) in
          (left_more n order d.place q.place own.0 u.0 (λ a. k.1 (same a u.1)), u.1, let z = u.2 in omega (arith, l, z)))
      | inr k ↦ (let t = taken k.0 in (left_more n order d.place q.place own.0 t.0 t.1, k.1, k.2))
    ]

    back : In q.place (left_of n (order ++ d.place ∷ [])) × (due q.place ≡ Some q) × (slice_index rest q.place ≡ 0) → now q ≡ true
    back (i, a, z) = go (cases_eq (count_in q.place (behind takes d.place)) 0)
      where
        was : In q.place (left_of n order) × ¬ (q.place ≡ d.place)
        was = left_less n order d.place q.place own.0 i

        go : (count_in q.place (behind takes d.place) ≡ 0) ⊎ (count_in q.place (behind takes d.place) ≡ 0 → ⊥) → now q ≡ true
        go (inl k) =
            let l = less q.place (left_under n order q.place was.0) in
            let u : slice_index uses q.place ≡ 0 = omega (arith, l, k, z) in
            f.kept q ((free q).1 (was.0, a, u)) (λ b. was.1 (ap (λ (y : Due). y.place) b))
        go (inr k) = f.freed q (some_count q.place (behind takes d.place) (omega (arith, k))) a z

-- where takes leads down, a set without dues leaves none
pub free_end : (due : ℕ → Option Due) (takes : List (List ℕ)) (n : ℕ) (order uses : List ℕ) (has : Due → Bool) → Filling due takes n order uses → HasFree due (left_of n order) uses has → AreOfPlaces due →
    ((k : ℕ) → k < n → (d : Due) × (due k ≡ Some d)) → (r : ℕ → ℕ) → ((x y : ℕ) → Edge takes x y → r y < r x) → ((d : Due) → has d ≡ false) → left_of n order ≡ []
free_end due takes n order uses has h free places all r falls empty = go (left_of n order) refl
  where
    go : (xs : List ℕ) → left_of n order ≡ xs → left_of n order ≡ []
    go [] e = e
    go (x ∷ xs) e =
        let q = some_free takes r falls x xs in
        let P : List ℕ → Type 0 = λ ys. In q.0 ys in
        let i : In q.0 (left_of n order) = subst P (sym e) q.1 in
        let l = left_under n order q.0 i in
        let d = all q.0 l in
        let k = places q.0 d.0 d.1 in
        let u : slice_index uses q.0 ≡ 0 = h.counts q.0 l ∙ ap (λ ys. led_from takes ys q.0) e ∙ q.2 in
        let R : ℕ → Type 0 = λ y. In y (left_of n order) × (due y ≡ Some d.0) × (slice_index uses y ≡ 0) in
        let y = (free d.0).1 (subst R (sym k) (i, d.1, u)) in
        let z = empty d.0 in
        absurd cc
