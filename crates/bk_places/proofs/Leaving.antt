-- Places that are left, and how many edges lead to each from those.
use Rattle.std.proofs.Common.{◌≡◌, ℕ, zero, suc, ◌+◌, ◌<◌, ◌≤◌, refl, ap, sym, ◌∙◌, subst, arith, ◌⊎◌, inl, inr, List, [], ◌∷◌, ◌++◌, length, Bool, true, false, cond, not, ◌==◌, eq-eqb, ne_eqb, get_or}
use Rattle.std.specs.Prelude.{filter, sum_by}
use Rattle.std.specs.List.{list_any, range_with_len}
use Rattle.std.proofs.lemmas.Bool.{eqb-true, cases_eq}
use Rattle.std.proofs.lemmas.List.{length-append}
use Rattle.std.proofs.lemmas.List.Sums.{sum_by-cons, sum_by-append}
use Rattle.bk_func.proofs.Faults.{In, in-filter}
use Rattle.bk_func.proofs.Needs.{in_any, any_in}
use Rattle.bk_places.specs.Counts.{count_in}
use Rattle.bk_places.proofs.Elements.{in_either, in_left, in_right}

-- the places behind a place
abbrev pub behind : List (List ℕ) → ℕ → List ℕ
behind es x = get_or es x []

abbrev pub Edge : List (List ℕ) → ℕ → ℕ → Type 0
Edge es x y = In y (behind es x)

-- how many edges lead to a place from those that are left
abbrev pub led_from : List (List ℕ) → List ℕ → ℕ → ℕ
led_from es left y = sum_by (λ x. count_in y (behind es x)) left

-- the places that are not yet in a list
abbrev pub is_new : List ℕ → ℕ → Bool
is_new order k = not (list_any (λ j. j == k) order)

abbrev pub left_of : ℕ → List ℕ → List ℕ
left_of n order = filter (is_new order) (range_with_len 0 n)

-- counts

abbrev pub hit : ℕ → ℕ → ℕ
hit y t = cond (t == y) 1 0

no_count : (y : ℕ) (ts : List ℕ) → count_in y ts ≡ 0 → ¬ In y ts
no_count y [] e i = i
no_count y (t ∷ ts) e (inl d) =
    let s = sum_by-cons (hit y) t ts in
    let k : hit y t ≡ 1 = rw (eq-eqb t y d) refl in
    absurd (omega (arith, s, k, e))
no_count y (t ∷ ts) e (inr i) = let s = sum_by-cons (hit y) t ts in no_count y ts (omega (arith, s, e)) i

pub some_count : (y : ℕ) (ts : List ℕ) → 0 < count_in y ts → In y ts
some_count y [] l = absurd (omega (arith, l))
some_count y (t ∷ ts) l = go (cases_eq t y) (sum_by-cons (hit y) t ts) (λ q. some_count y ts q)
  where
    go : (t ≡ y) ⊎ (t ≡ y → ⊥) → count_in y (t ∷ ts) ≡ hit y t + count_in y ts → (0 < count_in y ts → In y ts) → In y (t ∷ ts)
    go (inl e) s rest = inl e
    go (inr n) s rest = let k : hit y t ≡ 0 = rw (ne_eqb t y n) refl in inr (rest (omega (arith, s, k, l)))

pub none_led : (es : List (List ℕ)) (left : List ℕ) (y : ℕ) → led_from es left y ≡ 0 → (x : ℕ) → In x left → ¬ Edge es x y
none_led es [] y e x i t = i
none_led es (z ∷ zs) y e x (inl d) t =
    let s = sum_by-cons (λ (x : ℕ). count_in y (behind es x)) z zs in
    let P : ℕ → Type 0 = λ w. Edge es w y in
    no_count y (behind es z) (omega (arith, s, e)) (subst P (sym d) t)
none_led es (z ∷ zs) y e x (inr i) t =
    let s = sum_by-cons (λ (x : ℕ). count_in y (behind es x)) z zs in
    none_led es zs y (omega (arith, s, e)) x i t

pub some_led : (es : List (List ℕ)) (left : List ℕ) (y : ℕ) → 0 < led_from es left y → (x : ℕ) × In x left × Edge es x y
some_led es [] y l = absurd (omega (arith, l))
some_led es (z ∷ zs) y l = go (cases_eq (count_in y (behind es z)) 0) (sum_by-cons (λ (x : ℕ). count_in y (behind es x)) z zs) (λ q. some_led es zs y q)
  where
    go : (count_in y (behind es z) ≡ 0) ⊎ (count_in y (behind es z) ≡ 0 → ⊥) → led_from es (z ∷ zs) y ≡ count_in y (behind es z) + led_from es zs y →
        (0 < led_from es zs y → (x : ℕ) × In x zs × Edge es x y) → (x : ℕ) × In x (z ∷ zs) × Edge es x y
    go (inl e) s rest = let r = rest (omega (arith, s, e, l)) in (r.0, inr r.1, r.2)
    go (inr n) s rest = (z, inl refl, some_count y (behind es z) (omega (arith, n)))

-- a place among those that are left

pub record Cut (n : ℕ) (order : List ℕ) (p : ℕ) : Type 0 where
  pub front : List ℕ
  pub back : List ℕ
  pub before : left_of n order ≡ front ++ p ∷ back
  pub after : left_of n (order ++ p ∷ []) ≡ front ++ back
  pub less : (q : ℕ) → In q front → q < p

any_end : (order : List ℕ) (p k : ℕ) → list_any (λ j. j == k) (order ++ p ∷ []) ≡ true → (list_any (λ j. j == k) order ≡ true) ⊎ (p ≡ k)
any_end order p k e =
    let q = any_in (λ j. j == k) (order ++ p ∷ []) e in
    elim (in_either q.0 order (p ∷ []) q.1) as (λ _. (list_any (λ j. j == k) order ≡ true) ⊎ (p ≡ k)) [
      | inl i ↦ inl (in_any (λ j. j == k) order q.0 i q.2)
      | inr i ↦ inr (elim i as (λ _. p ≡ k) [ inl d ↦ d ∙ eqb-true q.0 k q.2 | inr x ↦ elim x [ ] ])
    ]

new_end : (order : List ℕ) (p k : ℕ) → ¬ (p ≡ k) → is_new (order ++ p ∷ []) k ≡ is_new order k
new_end order p k n = go (list_any (λ j. j == k) order) refl (list_any (λ j. j == k) (order ++ p ∷ [])) refl
  where
    go : (a : Bool) → list_any (λ j. j == k) order ≡ a → (c : Bool) → list_any (λ j. j == k) (order ++ p ∷ []) ≡ c → not c ≡ not a
    go true e true d = refl
    go false e false d = refl
    go true e false d =
        let q = any_in (λ j. j == k) order e in
        let x = in_any (λ j. j == k) (order ++ p ∷ []) q.0 (in_left q.0 order (p ∷ []) q.1) q.2 in
        absurd cc
    go false e true d = elim (any_end order p k d) as (λ _. not true ≡ not false) [
      | inl x ↦ absurd cc
      | inr x ↦ absurd (n x)
    ]

old_end : (order : List ℕ) (p : ℕ) → is_new (order ++ p ∷ []) p ≡ false
old_end order p = ap not (in_any (λ j. j == p) (order ++ p ∷ []) p (in_right p order (p ∷ []) (inl refl)) (eq-eqb p p refl))

filter_same : (s t : ℕ → Bool) (xs : List ℕ) → ((x : ℕ) → In x xs → s x ≡ t x) → filter s xs ≡ filter t xs
filter_same s t [] h = refl
filter_same s t (x ∷ xs) h = ap (λ c. cond c (x ∷ filter s xs) (filter s xs)) (h x (inl refl)) ∙ ap (λ (ys : List ℕ). cond (t x) (x ∷ ys) ys) (filter_same s t xs (λ y i. h y (inr i)))

range_from : (a n k : ℕ) → In k (range_with_len a n) → a ≤ k
range_from a zero k i = elim i [ ]
range_from a (suc n) k (inl e) = omega (arith, e)
range_from a (suc n) k (inr i) = let l = range_from (a + 1) n k i in omega (arith, l)

cut_from : (a n : ℕ) (order : List ℕ) (p : ℕ) → In p (range_with_len a n) → is_new order p ≡ true →
    (front : List ℕ) × (back : List ℕ) × (filter (is_new order) (range_with_len a n) ≡ front ++ p ∷ back) × (filter (is_new (order ++ p ∷ [])) (range_with_len a n) ≡ front ++ back) × ((q : ℕ) → In q front → q < p)
cut_from a zero order p i e = elim i [ ]
cut_from a (suc n) order p (inl d) e =
    let rest : filter (is_new (order ++ p ∷ [])) (range_with_len (a + 1) n) ≡ filter (is_new order) (range_with_len (a + 1) n) =
    filter_same (is_new (order ++ p ∷ [])) (is_new order) (range_with_len (a + 1) n) (λ x j. new_end order p x (λ q. let l = range_from (a + 1) n x j in absurd (omega (arith, l, q, d))))
    in (
      [],
      filter (is_new order) (range_with_len (a + 1) n),
      ap (λ c. cond c (a ∷ filter (is_new order) (range_with_len (a + 1) n)) (filter (is_new order) (range_with_len (a + 1) n))) (ap (is_new order) d ∙ e)
          ∙ ap (λ z. z ∷ filter (is_new order) (range_with_len (a + 1) n)) d,
      ap (λ c. cond c (a ∷ filter (is_new (order ++ p ∷ [])) (range_with_len (a + 1) n)) (filter (is_new (order ++ p ∷ [])) (range_with_len (a + 1) n))) (ap (is_new (order ++ p ∷ [])) d ∙ old_end order p)
          ∙ rest,
      λ q j. elim j [ ],
    )
cut_from a (suc n) order p (inr i) e = go (is_new order a) refl (cut_from (a + 1) n order p i e)
  where
    other : is_new (order ++ p ∷ []) a ≡ is_new order a
    other = new_end order p a (λ q. let l = range_from (a + 1) n p i in absurd (omega (arith, l, q)))

    first : (front : List ℕ) → ((q : ℕ) → In q front → q < p) → (q : ℕ) → In q (a ∷ front) → q < p
    first front less q (inl d) = let l = range_from (a + 1) n p i in omega (arith, l, d)
    first front less q (inr j) = less q j

    go : (t : Bool) → is_new order a ≡ t →
        (front : List ℕ) × (back : List ℕ) × (filter (is_new order) (range_with_len (a + 1) n) ≡ front ++ p ∷ back) × (filter (is_new (order ++ p ∷ [])) (range_with_len (a + 1) n) ≡ front ++ back) × ((q : ℕ) → In q front → q < p) →
        (front : List ℕ) × (back : List ℕ) × (cond (is_new order a) (a ∷ filter (is_new order) (range_with_len (a + 1) n)) (filter (is_new order) (range_with_len (a + 1) n)) ≡ front ++ p ∷ back)
        × (cond (is_new (order ++ p ∷ []) a) (a ∷ filter (is_new (order ++ p ∷ [])) (range_with_len (a + 1) n)) (filter (is_new (order ++ p ∷ [])) (range_with_len (a + 1) n)) ≡ front ++ back) × ((q : ℕ) → In q front → q < p)
    go true q (front, back, x, y, less) = rw (other, q) (a ∷ front, back, ap (λ zs. a ∷ zs) x, ap (λ zs. a ∷ zs) y, first front less)
    go false q (front, back, x, y, less) = rw (other, q) (front, back, x, y, less)

pub cut : (n : ℕ) (order : List ℕ) (p : ℕ) → In p (left_of n order) → Cut n order p
cut n order p i =
    let q = in-filter (is_new order) p (range_with_len 0 n) i in
    let r = cut_from 0 n order p q.0 q.1 in
    record { front = r.0; back = r.1; before = r.2; after = r.3; less = r.4 }

-- what leads from those that are left, with a place and without it
pub count_cut : (es : List (List ℕ)) (n : ℕ) (order : List ℕ) (p : ℕ) → In p (left_of n order) → (y : ℕ) → led_from es (left_of n order) y ≡ led_from es (left_of n (order ++ p ∷ [])) y + count_in y (behind es p)
count_cut es n order p i y =
    let c = cut n order p i in
    let g = λ (x : ℕ). count_in y (behind es x) in
    let a = ap (sum_by g) c.before in
    let b = ap (sum_by g) c.after in
    let d = sum_by-append g c.front (p ∷ c.back) in
    let e = sum_by-append g c.front c.back in
    let k = sum_by-cons g p c.back in
    omega (arith, a, b, d, e, k)

pub range_all : (a n k : ℕ) → a ≤ k → k < a + n → In k (range_with_len a n)
range_all a zero k l m = absurd (omega (arith, l, m))
range_all a (suc n) k l m = elim (cases_eq a k) as (λ _. In k (range_with_len a (suc n))) [
  | inl e ↦ inl e
  | inr d ↦ inr (range_all (a + 1) n k (omega (arith, l, d)) (omega (arith, m)))
]

range_under : (a n k : ℕ) → In k (range_with_len a n) → k < a + n
range_under a zero k i = elim i [ ]
range_under a (suc n) k (inl e) = omega (arith, e)
range_under a (suc n) k (inr i) = let l = range_under (a + 1) n k i in omega (arith, l)

pub left_under : (n : ℕ) (order : List ℕ) (k : ℕ) → In k (left_of n order) → k < n
left_under n order k i = let l = range_under 0 n k (in-filter (is_new order) k (range_with_len 0 n) i).0 in omega (arith, l)

pub all_new : (xs : List ℕ) → filter (is_new []) xs ≡ xs
all_new [] = refl
all_new (x ∷ xs) = ap (λ zs. x ∷ zs) (all_new xs)

-- a place that goes, and the others

pub left_more : (n : ℕ) (order : List ℕ) (p y : ℕ) → In p (left_of n order) → In y (left_of n order) → ¬ (y ≡ p) → In y (left_of n (order ++ p ∷ []))
left_more n order p y i j d =
    let c = cut n order p i in
    let P : List ℕ → Type 0 = λ xs. In y xs in
    subst P (sym c.after) (go c (in_either y c.front (p ∷ c.back) (subst P c.before j)))
  where
    go : (c : Cut n order p) → In y c.front ⊎ In y (p ∷ c.back) → In y (c.front ++ c.back)
    go c (inl a) = in_left y c.front c.back a
    go c (inr (inl q)) = absurd (d (sym q))
    go c (inr (inr a)) = in_right y c.front c.back a

pub left_less : (n : ℕ) (order : List ℕ) (p y : ℕ) → In p (left_of n order) → In y (left_of n (order ++ p ∷ [])) → In y (left_of n order) × ¬ (y ≡ p)
left_less n order p y i j =
    let c = cut n order p i in
    let P : List ℕ → Type 0 = λ xs. In y xs in (
      subst P (sym c.before) (elim (in_either y c.front c.back (subst P c.after j)) as (λ _. In y (c.front ++ p ∷ c.back)) [ inl k ↦ in_left y c.front (p ∷ c.back) k | inr k ↦ in_right y c.front (p ∷ c.back) (inr k) ]),
      λ q.
          let a = (in-filter (is_new (order ++ p ∷ [])) y (range_with_len 0 n) j).1 in
          let b = ap (is_new (order ++ p ∷ [])) q ∙ old_end order p in
          absurd cc,
    )

-- fewer are left then
pub left_shorter : (n : ℕ) (order : List ℕ) (p : ℕ) → In p (left_of n order) → length (left_of n (order ++ p ∷ [])) < length (left_of n order)
left_shorter n order p i =
    let c = cut n order p i in
    let a = ap length c.before ∙ length-append c.front (p ∷ c.back) in
    let b = ap length c.after ∙ length-append c.front c.back in
    omega (arith, a, b)
