-- Where values and blocks stand, noted one by one.
use Rattle.std.proofs.Common.{◌≡◌, ◌∙◌, sym, refl, ap, subst, ℕ, ◌+◌, ◌<◌, ◌≤◌, ◌⊎◌, ◌==◌, cond, List, [], length, Option, Some, None, inl, inr, ⊎_elim, arith}
use Rattle.std.specs.BTreeMap.{is_at}
use Rattle.std.specs.List.{slice_get}
use Rattle.std.specs.Option.{IsSome}
use Rattle.std.specs.Ordering.{nat_cmp}
use Rattle.std.proofs.lemmas.Bool.{cases_eq, cases_lt, eq-eqb, ne_eqb}
use Rattle.std.proofs.lemmas.Bool.Decides.{nat_tests}
use Rattle.std.proofs.lemmas.List.{get_or_past}
use Rattle.std.proofs.lemmas.Option.{none-some, same_Some, slice_get_within, slice_get_past}
use Rattle.bk_func.specs.Records.{BlockRecord}
use Rattle.bk_live.specs.declared.homes.Spot.{Spot}
use Rattle.bk_live.specs.Live.{order_at, IsEntry}
use Rattle.bk_live.specs.Homes.{HomesUpTo, AreHomes, PlacesUpTo, ArePlaces, spot}

-- a look-up by numbers finds the same number
pub is_at_number : (x n : ℕ) → is_at (nat_cmp x) n ≡ (x == n)
is_at_number x n = grind (arith, nat_tests)

-- what a map has after a number is put in
pub put_here : {A : Type 0} (x n : ℕ) (v : A) (f : ℕ → Option A) (o : Option A) → o ≡ cond (is_at (nat_cmp x) n) (Some v) (f n) → x ≡ n → o ≡ Some v
put_here {A} x n v f o e same = e ∙ (rw (is_at_number x n, eq-eqb x n same) refl)

pub put_else : {A : Type 0} (x n : ℕ) (v : A) (f : ℕ → Option A) (o : Option A) → o ≡ cond (is_at (nat_cmp x) n) (Some v) (f n) → (x ≡ n → ⊥) → o ≡ f n
put_else {A} x n v f o e apart = e ∙ (rw (is_at_number x n, ne_eqb x n apart) refl)

some_is : {A : Type 0} (o : Option A) (v : A) → o ≡ Some v → IsSome o
some_is {A} o v e = subst (λ (p : Option A). IsSome p) (sym e) refl

pub homes_more : (os : List (List ℕ)) (i k x : ℕ) (f g : ℕ → Option Spot) → IsEntry os i k x → HomesUpTo os i k f
    → ((n : ℕ) → g n ≡ cond (is_at (nat_cmp x) n) (Some (spot i k)) (f n)) → HomesUpTo os i (k + 1) g
homes_more os i k x f g at h put = record {
  right = λ n s e. ⊎_elim
      (λ (same : x ≡ n).
      let is : spot i k ≡ s = same_Some (spot i k) s (sym (put_here x n (spot i k) f (g n) (put n) same) ∙ e) in
      subst (λ (t : Spot). IsEntry os t.block t.entry n) is (subst (λ (m : ℕ). IsEntry os i k m) same at))
      (λ apart. h.right n s (sym (put_else x n (spot i k) f (g n) (put n) apart) ∙ e))
      (cases_eq x n);
  there = λ j l n w e. ⊎_elim
      (λ (same : x ≡ n). some_is (g n) (spot i k) (put_here x n (spot i k) f (g n) (put n) same))
      (λ apart. subst (λ (o : Option Spot). IsSome o) (sym (put_else x n (spot i k) f (g n) (put n) apart)) (h.there j l n (earlier j l n apart w e) e))
      (cases_eq x n);
}
  where
    earlier : (j l n : ℕ) → (x ≡ n → ⊥) → (j < i) ⊎ ((j ≡ i) × l < k + 1) → IsEntry os j l n → (j < i) ⊎ ((j ≡ i) × l < k)
    earlier j l n apart w e = ⊎_elim
        (λ low. inl low)
        (λ (same, b). ⊎_elim
        (λ (low : l < k). inr (same, low))
        (λ (high : k ≤ l).
        let last : l ≡ k = omega arith in
        absurd (apart (same_Some x n (sym at ∙ (ap (λ q. slice_get (order_at os q) k) (sym same) ∙ (ap (λ q. slice_get (order_at os j) q) (sym last) ∙ e))))))
        (cases_lt l k))
        w

pub homes_next : (os : List (List ℕ)) (i k : ℕ) (f : ℕ → Option Spot) → length (order_at os i) ≤ k → HomesUpTo os i k f → HomesUpTo os (i + 1) 0 f
homes_next os i k f over h = record {
  right = h.right;
  there = λ j l n w e. h.there j l n (⊎_elim
      (λ (low : j < i + 1). ⊎_elim
      (λ (b : j < i). inl b)
      (λ (a : i ≤ j).
      let same : j ≡ i = omega arith in
      let within : l < length (order_at os i) = subst (λ (q : ℕ). l < length (order_at os q)) same (slice_get_within (order_at os j) l n e) in
      inr (same, omega arith))
      (cases_lt j i))
      (λ (same, b). absurd (omega arith))
      w) e;
}

pub homes_none : (os : List (List ℕ)) (f : ℕ → Option Spot) → ((n : ℕ) → f n ≡ None) → HomesUpTo os 0 0 f
homes_none os f none = record {
  right = λ n s e. absurd (none-some s (sym (none n) ∙ e));
  there = λ j l n w e. ⊎_elim (λ (b : j < 0). absurd (omega arith)) (λ (same, b). absurd (omega arith)) w;
}

pub homes_all : (os : List (List ℕ)) (i : ℕ) (f : ℕ → Option Spot) → length os ≤ i → HomesUpTo os i 0 f → AreHomes os f
homes_all os i f over h = record {
  right = h.right;
  there = λ j l n e. h.there j l n (inl (within j l n e)) e;
}
  where
    nothing : (l n : ℕ) → slice_get [] l ≡ Some n → ⊥
    nothing l n e = none-some n (sym (slice_get_past [] l (omega arith)) ∙ e)

    within : (j l n : ℕ) → IsEntry os j l n → j < i
    within j l n e = ⊎_elim
        (λ (b : j < length os). omega arith)
        (λ (a : length os ≤ j). absurd (nothing l n (subst (λ (o : List ℕ). slice_get o l ≡ Some n) (get_or_past os j [] a) e)))
        (cases_lt j (length os))

pub places_none : (bs : List BlockRecord) (f : ℕ → Option ℕ) → ((n : ℕ) → f n ≡ None) → PlacesUpTo bs 0 f
places_none bs f none = record { right = λ n q e. absurd (none-some q (sym (none n) ∙ e)); there = λ q b l e. absurd (omega arith) }

pub places_more : (bs : List BlockRecord) (i : ℕ) (b : BlockRecord) (x : ℕ) (f g : ℕ → Option ℕ) → slice_get bs i ≡ Some b → b.id ≡ x → PlacesUpTo bs i f
    → ((n : ℕ) → g n ≡ cond (is_at (nat_cmp x) n) (Some i) (f n)) → PlacesUpTo bs (i + 1) g
places_more bs i b x f g at id h put = record {
  right = λ n q e. ⊎_elim
      (λ (same : x ≡ n).
      let is : i ≡ q = same_Some i q (sym (put_here x n i f (g n) (put n) same) ∙ e) in
      (b, ap (slice_get bs) (sym is) ∙ at, id ∙ same))
      (λ apart. h.right n q (sym (put_else x n i f (g n) (put n) apart) ∙ e))
      (cases_eq x n);
  there = λ q c l e. ⊎_elim
      (λ (same : x ≡ c.id). some_is (g c.id) i (put_here x c.id i f (g c.id) (put c.id) same))
      (λ apart. subst (λ (o : Option ℕ). IsSome o) (sym (put_else x c.id i f (g c.id) (put c.id) apart)) (h.there q c (earlier q c apart l e) e))
      (cases_eq x c.id);
}
  where
    earlier : (q : ℕ) (c : BlockRecord) → (x ≡ c.id → ⊥) → q < i + 1 → slice_get bs q ≡ Some c → q < i
    earlier q c apart l e = ⊎_elim
        (λ (b : q < i). b)
        (λ (a : i ≤ q).
        let last : q ≡ i = omega arith in
        let same : b ≡ c = same_Some b c (sym at ∙ (ap (slice_get bs) (sym last) ∙ e)) in
        absurd (apart (sym id ∙ ap (λ (d : BlockRecord). d.id) same)))
        (cases_lt q i)

pub places_all : (bs : List BlockRecord) (i : ℕ) (f : ℕ → Option ℕ) → length bs ≤ i → PlacesUpTo bs i f → ArePlaces bs f
places_all bs i f over h = record {
  right = h.right;
  there = λ q b e. h.there q b (let within : q < length bs = slice_get_within bs q b e in omega arith) e;
}
