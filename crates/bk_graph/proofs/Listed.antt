-- Places, counts and look-ups in lists.
use Rattle.std.proofs.Common.{◌≡◌, ℕ, ◌+◌, ◌<◌, ◌≤◌, Bool, true, false, cond, not, List, [], ◌∷◌, ◌++◌, length, map, get_or, take, drop, Option, Some, None, refl, sym, ap, ◌∙◌, ⊎_elim, arith, length-append, add-zero, suc}
use Rattle.std.specs.List.{find, position, position_or_len, count_by, slice_get}
use Rattle.std.specs.Borrow.{Bor}
use Rattle.std.specs.Option.{option_or, option_and_then, option_copied}
use Rattle.std.specs.Slice.{IsItemAt}
use Rattle.std.proofs.lemmas.Bool.{cases_lt, lt-ltb, le-ltb}
use Rattle.std.proofs.lemmas.Bool.Decides.{nat_tests}
use Rattle.std.proofs.lemmas.List.{take_more, length-take-le, length-drop, get_or-take, get_or-drop}
use Rattle.std.proofs.lemmas.List.Folds.{position_or_len_push, find_at}
use Rattle.std.proofs.lemmas.List.Sums.{sum_by-cons, sum_by-take-drop, get_or-le-sum_by, prefix_len-le-length}
use Rattle.std.proofs.lemmas.Option.{slice_get_read, slice_get_past}

-- what `get` lends
pub lent : {A : Type 0} (xs : List A) (i : ℕ) (r : Option (Bor A)) → IsItemAt xs i r → option_copied r ≡ slice_get xs i
lent xs i None h = sym (slice_get_past xs i h.3)
lent xs i (Some x) h = sym (slice_get_read xs (length xs) i x.now refl h.3.0 h.1)

-- one more element is looked at
pub position_push : {A : Type 0} (p : A → Bool) (xs : List A) (x : A)
    → position p (xs ++ x ∷ []) ≡ option_or (position p xs) (cond (p x) (Some (length xs)) None)
position_push p xs x =
    let below = prefix_len-le-length (λ y. not (p y)) xs in
    rw (position_or_len_push, length-append) (grind (arith, nat_tests))

pub position_more : {A : Type 0} (p : A → Bool) (xs : List A) (i : ℕ) (d : A) → i < length xs
    → position p (take (i + 1) xs) ≡ option_or (position p (take i xs)) (cond (p (get_or xs i d)) (Some i) None)
position_more p xs i d l =
    let at : i ≤ length xs = omega arith in
    rw (take_more xs i d l, position_push p (take i xs) (get_or xs i d), length-take-le i xs at) refl

-- the first element is the one at the first place
pub find_position : {A : Type 0} (p : A → Bool) (xs : List A) → find p xs ≡ option_and_then (slice_get xs) (position p xs)
find_position p xs = rw find_at (⊎_elim
    (λ l. rw (lt-ltb (position_or_len p xs) (length xs) l) refl)
    (λ g. rw (le-ltb (position_or_len p xs) (length xs) g, slice_get_past xs (position_or_len p xs) g) refl)
    (cases_lt (position_or_len p xs) (length xs)))

-- the first place of an element, and of what a function gives of it
pub position_or_len-map : {A B : Type 0} (h : A → B) (p : B → Bool) (xs : List A) → position_or_len p (map h xs) ≡ position_or_len (λ x. p (h x)) xs
position_or_len-map h p [] = refl
position_or_len-map h p (x ∷ xs) = ap (λ k. cond (not (p (h x))) (1 + k) 0) (position_or_len-map h p xs)

pub position-map : {A B : Type 0} (h : A → B) (p : B → Bool) (xs : List A) → position p (map h xs) ≡ position (λ x. p (h x)) xs
position-map h p xs = rw (position_or_len-map h p xs, length-map h xs) refl
  where
    length-map : {A B : Type 0} (h : A → B) (xs : List A) → length (map h xs) ≡ length xs
    length-map h [] = refl
    length-map h (x ∷ xs) = ap suc (length-map h xs)

-- one that passes is counted, and two are counted twice
pub one_counted : {A : Type 0} (p : A → Bool) (xs : List A) (i : ℕ) (d : A) → i < length xs → p (get_or xs i d) ≡ true → 0 < count_by p xs
one_counted p xs i d l e = let h = get_or-le-sum_by (λ y. cond (p y) 1 0) xs i d l in omega (arith, rw e at h)

pub two_counted : {A : Type 0} (p : A → Bool) (xs : List A) (i j : ℕ) (d : A) → i < j → j < length xs → p (get_or xs i d) ≡ true → p (get_or xs j d) ≡ true → 1 < count_by p xs
two_counted p xs i j d l m e f =
    let a = one_counted p (take j xs) i d (rw (length-take-le j xs (omega arith)) l) (rw (get_or-take j xs i d l) e) in
    let b = one_counted p (drop j xs) 0 d (rw (length-drop j xs) (omega arith)) (rw (get_or-drop j xs 0 d, add-zero) f) in
    let s = sum_by-take-drop (λ y. cond (p y) 1 0) xs j in
    omega arith

-- what is counted stands somewhere
pub counted_at : {A : Type 0} (p : A → Bool) (xs : List A) → 0 < count_by p xs → position_or_len p xs < length xs
counted_at p xs l = ⊎_elim (λ (h : position_or_len p xs < length xs). h) (λ g. absurd (omega (arith, from_end p xs g)))
    (cases_lt (position_or_len p xs) (length xs))
  where
    from_end : {A : Type 0} (p : A → Bool) (xs : List A) → length xs ≤ position_or_len p xs → count_by p xs ≡ 0
    from_end p [] g = refl
    from_end p (x ∷ xs) g =
        let s = sum_by-cons (λ y. cond (p y) 1 0) x xs in
        s ∙ (elim (p x) as (λ b. suc (length xs) ≤ cond (not b) (1 + position_or_len p xs) 0 → cond b 1 0 + count_by p xs ≡ 0) [
          | true ↦ λ h. absurd (omega arith)
          | false ↦ λ h. rw (from_end p xs (omega arith)) refl
        ] g)
