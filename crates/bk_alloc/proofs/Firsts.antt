-- The first places of numbers in lists that grow.
use Rattle.std.proofs.Common.{◌≡◌, ◌∙◌, sym, ap, refl, ℕ, ◌+◌, ◌<◌, ◌≤◌, ◌==◌, Bool, cond, List, [], ◌∷◌, ◌++◌, length, take, get_or, Option, Some, None, ⊎_elim, position, arith, not, length-append, subst}
use Rattle.std.specs.BTreeMap.{BTreeMap, get, is_at}
use Rattle.std.specs.List.{find, slice_get, position_or_len}
use Rattle.std.specs.Borrow.{Bor}
use Rattle.std.specs.Option.{option_copied, option_or, unwrap_or}
use Rattle.std.specs.Ordering.{nat_cmp}
use Rattle.std.specs.Slice.{IsItemAt}
use Rattle.std.proofs.lemmas.Bool.{cases_eq, eq-eqb, ne_eqb}
use Rattle.std.proofs.lemmas.Bool.Decides.{nat_tests}
use Rattle.std.proofs.lemmas.List.{take_more, take_all, length-take-le}
use Rattle.std.proofs.lemmas.List.Folds.{position_or_len_push, find_at}
use Rattle.std.proofs.lemmas.List.Sums.{prefix_len-le-length}
use Rattle.std.proofs.lemmas.Option.{slice_get_past, slice_get_read}
use Rattle.bk_alloc.specs.Places.{AreFirst, Notes}

-- a look-up by numbers finds the same number
pub is_at_number : (x n : ℕ) → is_at (nat_cmp x) n ≡ (x == n)
is_at_number x n = grind (arith, nat_tests)

or_some : (o : Option ℕ) (i : ℕ) → Some (unwrap_or o i) ≡ option_or o (Some i)
or_some None i = refl
or_some (Some x) i = refl

or_none : (o : Option ℕ) → o ≡ option_or o None
or_none None = refl
or_none (Some x) = refl

-- a number is put back where it was, or gets the place
pub noted : (old new : ℕ → Option ℕ) (k v first : ℕ) → first ≡ unwrap_or (old k) v → ((n : ℕ) → new n ≡ cond (is_at (nat_cmp k) n) (Some first) (old n))
    → (n : ℕ) → new n ≡ option_or (old n) (cond (k == n) (Some v) None)
noted old new k v first is after n =
    after n ∙ (rw (is_at_number k n) (⊎_elim
    (λ (same : k ≡ n). rw (eq-eqb k n same) (ap Some is ∙ or_some (old k) v ∙ ap (λ m. option_or (old m) (Some v)) same))
    (λ (apart : k ≡ n → ⊥). rw (ne_eqb k n apart) (or_none (old n)))
    (cases_eq k n)))

position_push : {A : Type 0} (p : A → Bool) (xs : List A) (x : A)
    → position p (xs ++ x ∷ []) ≡ option_or (position p xs) (cond (p x) (Some (length xs)) None)
position_push p xs x =
    let below = prefix_len-le-length (λ y. not (p y)) xs in
    rw (position_or_len_push, length-append) (grind (arith, nat_tests))

-- one element more
pub first_push : {A : Type 0} (number : A → ℕ) (xs : List A) (x : A) (k : ℕ) (old new : BTreeMap ℕ ℕ) → k ≡ number x → AreFirst number xs old
    → Notes old new k (length xs) → AreFirst number (xs ++ x ∷ []) new
first_push number xs x k old new same known notes n =
    notes n ∙ (ap (λ o. option_or o (cond (k == n) (Some (length xs)) None)) (known n)
    ∙ (ap (λ m. option_or (position (λ y. number y == n) xs) (cond (m == n) (Some (length xs)) None)) same ∙ sym (position_push (λ y. number y == n) xs x)))

-- one element more of those that a loop goes over
pub first_more : {A : Type 0} (number : A → ℕ) (xs : List A) (i : ℕ) (x : A) (k : ℕ) (old new : BTreeMap ℕ ℕ) → i < length xs → x ≡ get_or xs i x → k ≡ number x
    → AreFirst number (take i xs) old → Notes old new k i → AreFirst number (take (i + 1) xs) new
first_more number xs i x k old new l is same known notes =
    let at : i ≤ length xs = omega arith in
    let e : take i xs ++ x ∷ [] ≡ take (i + 1) xs = ap (λ y. take i xs ++ y ∷ []) is ∙ sym (take_more xs i x l) in
    subst (λ ys. AreFirst number ys new) e
    (first_push number (take i xs) x k old new same known (subst (λ m. Notes old new k m) (sym (length-take-le i xs at)) notes))

pub first_all : {A : Type 0} (number : A → ℕ) (xs : List A) (i : ℕ) (places : BTreeMap ℕ ℕ) → length xs ≤ i → AreFirst number (take i xs) places
    → AreFirst number xs places
first_all number xs i places l known = subst (λ ys. AreFirst number ys places) (take_all i xs l) known

-- the place, or else the length, is the first place that passes
pub position_or : {A : Type 0} (p : A → Bool) (xs : List A) → unwrap_or (position p xs) (length xs) ≡ position_or_len p xs
position_or p xs =
    let below = prefix_len-le-length (λ y. not (p y)) xs in
    grind (arith, nat_tests)

position_some : {A : Type 0} (p : A → Bool) (xs : List A) (k : ℕ) → position p xs ≡ Some k → position_or_len p xs ≡ k
position_some p xs k e = sym (position_or p xs) ∙ ap (λ o. unwrap_or o (length xs)) e

position_none : {A : Type 0} (p : A → Bool) (xs : List A) → position p xs ≡ None → position_or_len p xs ≡ length xs
position_none p xs e = sym (position_or p xs) ∙ ap (λ o. unwrap_or o (length xs)) e

pub first_some : {A : Type 0} (number : A → ℕ) (xs : List A) (places : BTreeMap ℕ ℕ) (n k : ℕ) → AreFirst number xs places → get nat_cmp places n ≡ Some k
    → position_or_len (λ x. number x == n) xs ≡ k
first_some number xs places n k known e = position_some (λ x. number x == n) xs k (sym (known n) ∙ e)

pub first_none : {A : Type 0} (number : A → ℕ) (xs : List A) (places : BTreeMap ℕ ℕ) (n : ℕ) → AreFirst number xs places → get nat_cmp places n ≡ None
    → position_or_len (λ x. number x == n) xs ≡ length xs
first_none number xs places n known e = position_none (λ x. number x == n) xs (sym (known n) ∙ e)

-- what stands at the first place is the first with the number
pub found_some : {A : Type 0} (number : A → ℕ) (xs : List A) (places : BTreeMap ℕ ℕ) (n k : ℕ) → AreFirst number xs places → get nat_cmp places n ≡ Some k
    → slice_get xs k ≡ find (λ x. number x == n) xs
found_some number xs places n k known e = ap (slice_get xs) (sym (first_some number xs places n k known e)) ∙ sym (find_at (λ x. number x == n) xs)

pub found_none : {A : Type 0} (number : A → ℕ) (xs : List A) (places : BTreeMap ℕ ℕ) (n : ℕ) → AreFirst number xs places → get nat_cmp places n ≡ None
    → None ≡ find (λ x. number x == n) xs
found_none number xs places n known e =
    sym (find_at (λ x. number x == n) xs ∙ (ap (slice_get xs) (first_none number xs places n known e) ∙ slice_get_past xs (length xs) (omega arith)))

-- what `get` lends
pub lent : {A : Type 0} (xs : List A) (i : ℕ) (r : Option (Bor A)) → IsItemAt xs i r → option_copied r ≡ slice_get xs i
lent xs i None h = sym (slice_get_past xs i h.3)
lent xs i (Some x) h = sym (slice_get_read xs (length xs) i x.now refl h.3.0 h.1)
