-- The places of numbers.
use Rattle.std.proofs.Common.{◌≡◌, ℕ, zero, suc, ◌<◌, ◌≤◌, refl, ap, sym, ◌∙◌, subst, arith, ⊎_elim, List, [], ◌∷◌, length, Option, Some, None, Bool, true, false, cond, ltb, get_or, ◌==◌, eq-eqb}
use Rattle.std.specs.Prelude.{position, slice_get}
use Rattle.std.specs.List.{Contains, position_or_len}
use Rattle.std.proofs.lemmas.Bool.{cases_lt, eqb-true, lt-ltb}
use Rattle.std.proofs.lemmas.Option.{same_Some, slice_get_within}
use Rattle.std.proofs.lemmas.List.Quantifiers.{position-Some}
use Rattle.std.proofs.lemmas.List.Sums.{position_or_len_is}
use Rattle.bk_places.specs.Named.{place_in}
use Rattle.bk_places.proofs.Elements.{at_contains}

pub got : {A : Type 0} (xs : List A) (k : ℕ) → k < length xs → (x : A) × (slice_get xs k ≡ Some x)
got [] k l = absurd (omega (arith, l))
got (x ∷ xs) zero l = (x, refl)
got (x ∷ xs) (suc k) l = got xs k (omega (arith, l))

pub get_or_got : {A : Type 0} (xs : List A) (k : ℕ) (x d : A) → slice_get xs k ≡ Some x → get_or xs k d ≡ x
get_or_got [] k x d e = absurd cc
get_or_got (y ∷ ys) zero x d e = cc
get_or_got (y ∷ ys) (suc k) x d e = get_or_got ys k x d e

pub got_get_or : {A : Type 0} (xs : List A) (k : ℕ) (d : A) → k < length xs → slice_get xs k ≡ Some (get_or xs k d)
got_get_or [] k d l = absurd (omega (arith, l))
got_get_or (y ∷ ys) zero d l = refl
got_get_or (y ∷ ys) (suc k) d l = got_get_or ys k d (omega (arith, l))

pub record IsFirstAt {A : Type 0} (t : A → Bool) (xs : List A) (i : ℕ) (x : A) : Type 0 where
  pub got : slice_get xs i ≡ Some x
  pub passes : t x ≡ true
  pub before : (k : ℕ) (y : A) → k < i → slice_get xs k ≡ Some y → t y ≡ false

pub first_position : {A : Type 0} (t : A → Bool) (xs : List A) (i : ℕ) (x : A) → IsFirstAt t xs i x → position t xs ≡ Some i
first_position t xs i x h =
    let l = slice_get_within xs i x h.got in
    let n : position_or_len t xs ≡ i = position_or_len_is t xs i x (omega (arith, l)) (λ k q. h.before k (get_or xs k x) q (got_get_or xs k x (omega (arith, q, l)))) (λ q. ap t (get_or_got xs i x x h.got) ∙ h.passes) in
    let P : ℕ → Type 0 = λ k. cond (ltb k (length xs)) (Some k) None ≡ Some i in
    subst P (sym n) (ap (λ b. cond b (Some i) None) (lt-ltb i (length xs) l))

pub position_first : {A : Type 0} (t : A → Bool) (xs : List A) (i : ℕ) → position t xs ≡ Some i → (x : A) × IsFirstAt t xs i x
position_first t [] i e = absurd cc
position_first {A} t (z ∷ zs) i e =
    let q = position-Some t (z ∷ zs) i z e in
    let g = got (z ∷ zs) i q.0 in (
      g.0,
      record {
        got = g.1;
        passes = sym (ap t (get_or_got (z ∷ zs) i g.0 z g.1)) ∙ q.1;
        before = λ k y l h. sym (ap t (get_or_got (z ∷ zs) k y z h)) ∙ q.2 k l;
      },
    )

pub position_none : {A : Type 0} (t : A → Bool) (xs : List A) → position t xs ≡ None → (k : ℕ) (y : A) → slice_get xs k ≡ Some y → t y ≡ false
position_none {A} t [] e k y g = absurd cc
position_none {A} t (z ∷ zs) e zero y g = go (t z) refl
  where
    go : (b : Bool) → t z ≡ b → t y ≡ false
    go true q =
        let p = first_position t (z ∷ zs) 0 z (record { got = refl; passes = q; before = λ k w l h. absurd (omega (arith, l)) }) in
        absurd cc
    go false q = let d : z ≡ y = cc in ap t (sym d) ∙ q
position_none {A} t (z ∷ zs) e (suc k) y g = position_none t zs (rest (position t zs) refl) k y g
  where
    rest : (o : Option ℕ) → position t zs ≡ o → position t zs ≡ None
    rest None q = q
    rest (Some i) q = by (t z) refl (position_first t zs i q)
      where
        by : (b : Bool) → t z ≡ b → (x : A) × IsFirstAt t zs i x → position t zs ≡ None
        by true c r =
            let p = first_position t (z ∷ zs) 0 z (record { got = refl; passes = c; before = λ k w l h. absurd (omega (arith, l)) }) in
            absurd cc
        by false c (x, r) =
            let p = first_position t (z ∷ zs) (suc i) x (record { got = r.got; passes = r.passes; before = λ k w l h. before k w l h }) in
            absurd cc
          where
            before : (k : ℕ) (w : A) → k < suc i → slice_get (z ∷ zs) k ≡ Some w → t w ≡ false
            before zero w l h = let d : z ≡ w = cc in ap t (sym d) ∙ c
            before (suc k) w l h = r.before k w (omega (arith, l)) h

-- the place of a number has it, and a number of the list has a place
pub place_gets : (ns : List ℕ) (n p : ℕ) → place_in ns n ≡ Some p → slice_get ns p ≡ Some n
place_gets ns n p e =
    let (m, h) = position_first (λ m. m == n) ns p e in
    h.got ∙ ap Some (eqb-true m n h.passes)

pub place_found : (ns : List ℕ) (n : ℕ) → Contains ns n → (p : ℕ) × (place_in ns n ≡ Some p)
place_found ns n c = go (place_in ns n) refl
  where
    go : (o : Option ℕ) → place_in ns n ≡ o → (p : ℕ) × (place_in ns n ≡ Some p)
    go (Some p) e = (p, e)
    go None e =
        let (k, ek) = at_contains ns n c in
        let f = position_none (λ m. m == n) ns e k n ek in
        let t = eq-eqb n n refl in
        absurd cc

pub place_first : (ns : List ℕ) (n p q : ℕ) → place_in ns n ≡ Some p → slice_get ns q ≡ Some n → p ≤ q
place_first ns n p q e eq = ⊎_elim
    (λ (low : q < p).
    let (m, h) = position_first (λ m. m == n) ns p e in
    let f = h.before q n low eq in
    let t = eq-eqb n n refl in
    absurd cc)
    (λ (high : p ≤ q). high)
    (cases_lt q p)

-- two numbers with one place are one
pub one_number : (ns : List ℕ) (n m p : ℕ) → place_in ns n ≡ Some p → place_in ns m ≡ Some p → n ≡ m
one_number ns n m p en em = same_Some n m (sym (place_gets ns n p en) ∙ place_gets ns m p em)
