-- The first uses of a set that is in order.
use Rattle.std.proofs.Common.{◌≡◌, ◌∙◌, sym, refl, ap, subst, ℕ, zero, suc, ◌<◌, ◌≤◌, ◌⊎◌, Bool, true, false, cond, List, [], ◌∷◌, None, Some, inl, inr, ⊎_elim, arith}
use Rattle.std.specs.List.{Contains, filter, slice_get}
use Rattle.std.specs.List.Sorted.{IsStrictlySortedBy}
use Rattle.std.specs.Ordering.{is_le, nat_cmp, ordering_then}
use Rattle.std.specs.declared.cmp.Ordering.{Ordering}
use Rattle.std.specs.declared.cmp.Ordering.TheVariants.{Less, Equal, Greater}
use Rattle.std.proofs.lemmas.Bool.{cases_eq, cases_lt, eq-eqb, false≢true, le-ltb, lt-ltb, ne_eqb}
use Rattle.std.proofs.lemmas.List.Elements.{All-contains}
use Rattle.std.proofs.lemmas.Map.Keys.{sorted_tail}
use Rattle.std.proofs.lemmas.Map.Views.{All-after_first}
use Rattle.std.proofs.lemmas.Option.{none-some, same_Some}

-- the first element of a list
contains_cases : {A : Type 0} (x : A) (xs : List A) (y : A) → Contains (x ∷ xs) y → (x ≡ y) ⊎ Contains xs y
contains_cases x xs y (zero, l, e) = inl e
contains_cases x xs y (suc k, l, e) = inr (k, omega arith, e)

contains_later : {A : Type 0} (x : A) (xs : List A) (y : A) → Contains xs y → Contains (x ∷ xs) y
contains_later x xs y (k, l, e) = (suc k, omega arith, e)

-- the first of those that pass a test is the least of them
pub first_some : {K : Type 0} (cmp : K → K → Ordering) (p : K → Bool) (ks : List K) (x : K) → IsStrictlySortedBy cmp ks → slice_get (filter p ks) 0 ≡ Some x
    → Contains ks x × (p x ≡ true) × ((q : K) → Contains ks q → p q ≡ true → (q ≡ x) ⊎ (cmp x q ≡ Less))
first_some {K} cmp p [] x sorted e = absurd (none-some x e)
first_some {K} cmp p (y ∷ ks) x sorted e = go (p y) refl e (λ rest. first_some cmp p ks x (sorted_tail cmp y ks sorted) rest)
  where
    go : (b : Bool) → p y ≡ b → slice_get (cond b (y ∷ filter p ks) (filter p ks)) 0 ≡ Some x
        → (slice_get (filter p ks) 0 ≡ Some x → Contains ks x × (p x ≡ true) × ((q : K) → Contains ks q → p q ≡ true → (q ≡ x) ⊎ (cmp x q ≡ Less)))
        → Contains (y ∷ ks) x × (p x ≡ true) × ((q : K) → Contains (y ∷ ks) q → p q ≡ true → (q ≡ x) ⊎ (cmp x q ≡ Less))
    go true passes at later =
        let same : y ≡ x = same_Some y x at in (
          (0, omega arith, same),
          ap p (sym same) ∙ passes,
          λ q c t. ⊎_elim
              (λ (first : y ≡ q). inl (sym first ∙ same))
              (λ rest. inr (subst (λ (z : K). cmp z q ≡ Less) same (All-contains (λ z. cmp y z ≡ Less) ks q (All-after_first cmp y ks sorted) rest)))
              (contains_cases y ks q c),
        )
    go false fails at later =
        let (c, t, least) = later at in (
          contains_later y ks x c,
          t,
          λ q k s. ⊎_elim
              (λ (first : y ≡ q). absurd (false≢true (sym fails ∙ (ap p first ∙ s))))
              (λ rest. least q rest s)
              (contains_cases y ks q k),
        )

pub first_none : {K : Type 0} (p : K → Bool) (ks : List K) → slice_get (filter p ks) 0 ≡ None → (q : K) → Contains ks q → ¬ (p q ≡ true)
first_none {K} p [] e q (k, l, at) t = absurd (omega arith)
first_none {K} p (y ∷ ks) e q c t = go (p y) refl e (λ rest k. first_none p ks rest q k t)
  where
    go : (b : Bool) → p y ≡ b → slice_get (cond b (y ∷ filter p ks) (filter p ks)) 0 ≡ None → (slice_get (filter p ks) 0 ≡ None → Contains ks q → ⊥) → ⊥
    go true passes at later = none-some y (sym at)
    go false fails at later = ⊎_elim
        (λ (first : y ≡ q). false≢true (sym fails ∙ (ap p first ∙ t)))
        (λ rest. later at rest)
        (contains_cases y ks q c)

-- how two numbers compare
compares : (x y : ℕ) → ((nat_cmp x y ≡ Less) × x < y) ⊎ (((nat_cmp x y ≡ Equal) × (x ≡ y)) ⊎ ((nat_cmp x y ≡ Greater) × y < x))
compares x y = ⊎_elim
    (λ (low : x < y). inl (rw (lt-ltb x y low) refl, low))
    (λ (high : y ≤ x). ⊎_elim
    (λ (same : x ≡ y). inr (inl (rw (le-ltb x y high, eq-eqb x y same) refl, same)))
    (λ (apart : x ≡ y → ⊥).
    let more : y < x = ⊎_elim (λ (l : y < x). l) (λ (l : x ≤ y). absurd (apart (omega arith))) (cases_lt y x) in
    inr (inr (rw (le-ltb x y high, ne_eqb x y apart) refl, more)))
    (cases_eq x y))
    (cases_lt x y)

-- in order, by the first number, then the second, then the third
abbrev pub in_order : ℕ → ℕ → ℕ → ℕ → ℕ → ℕ → Ordering
in_order a c e b d g = ordering_then (ordering_then (nat_cmp a b) (nat_cmp c d)) (nat_cmp e g)

by_three : (o p q : Ordering) (a c e b d g : ℕ) → nat_cmp a b ≡ o → nat_cmp c d ≡ p → nat_cmp e g ≡ q → in_order a c e b d g ≡ ordering_then (ordering_then o p) q
by_three o p q a c e b d g x y z = rw (x, y, z) refl

pub order_le : (a c e b d g : ℕ) → is_le (in_order a c e b d g) ≡ true → a ≤ b × (a ≡ b → c ≤ d × (c ≡ d → e ≤ g))
order_le a c e b d g h = ⊎_elim
    (λ (is, low). (omega arith, λ same. absurd (omega arith)))
    (λ x. ⊎_elim
    (λ (is, same). (
      omega arith,
      λ s. ⊎_elim
          (λ (js, low). (omega arith, λ t. absurd (omega arith)))
          (λ y. ⊎_elim
          (λ (js, t). (
            omega arith,
            λ u. ⊎_elim
                (λ (ks, low). omega arith)
                (λ z. ⊎_elim
                (λ (ks, v). omega arith)
                (λ (ks, high). absurd (false≢true (sym (ap is_le (by_three Equal Equal Greater a c e b d g is js ks)) ∙ h)))
                z)
                (compares e g),
          ))
          (λ (js, high). absurd (greater_second is js))
          y)
          (compares c d),
    ))
    (λ (is, high). absurd (greater_first is))
    x)
    (compares a b)
  where
    greater_first : nat_cmp a b ≡ Greater → ⊥
    greater_first is = false≢true (sym (ap is_le (by_three Greater (nat_cmp c d) (nat_cmp e g) a c e b d g is refl refl)) ∙ h)

    greater_second : nat_cmp a b ≡ Equal → nat_cmp c d ≡ Greater → ⊥
    greater_second is js = false≢true (sym (ap is_le (by_three Equal Greater (nat_cmp e g) a c e b d g is js refl)) ∙ h)

pub order_less : (a c e b d g : ℕ) → in_order a c e b d g ≡ Less → a ≤ b × (a ≡ b → c ≤ d × (c ≡ d → e < g))
order_less a c e b d g h =
    let le = order_le a c e b d g (ap is_le h) in (
      le.0,
      λ s. (
        (le.1 s).0,
        λ t. ⊎_elim
            (λ (low : e < g). low)
            (λ (high : g ≤ e).
            let same : e ≡ g = let l : e ≤ g = (le.1 s).1 t in omega arith in
            absurd (equal (compare_same a b s) (compare_same c d t) (compare_same e g same)))
            (cases_lt e g),
      ),
    )
  where
    compare_same : (x y : ℕ) → x ≡ y → nat_cmp x y ≡ Equal
    compare_same x y same = let low : y ≤ x = omega arith in rw (le-ltb x y low, eq-eqb x y same) refl

    equal : nat_cmp a b ≡ Equal → nat_cmp c d ≡ Equal → nat_cmp e g ≡ Equal → ⊥
    equal is js ks = let both : Equal ≡ Less = sym (by_three Equal Equal Equal a c e b d g is js ks) ∙ h in cc

pub order_of : (n i k l : ℕ) → k ≤ l → is_le (in_order n i k n i l) ≡ true
order_of n i k l low = ⊎_elim
    (λ (ks, less). ap is_le (by_three Equal Equal Less n i k n i l (itself n) (itself i) ks))
    (λ z. ⊎_elim
    (λ (ks, same). ap is_le (by_three Equal Equal Equal n i k n i l (itself n) (itself i) ks))
    (λ (ks, high). absurd (omega arith))
    z)
    (compares k l)
  where
    itself : (x : ℕ) → nat_cmp x x ≡ Equal
    itself x = let low : x ≤ x = omega arith in rw (le-ltb x x low, eq-eqb x x refl) refl
