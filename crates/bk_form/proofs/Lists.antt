-- Places, counts and look-ups in lists.
use Rattle.std.proofs.Common.{◌≡◌, ℕ, ◌+◌, ◌<◌, ◌≤◌, Bool, true, false, cond, not, ◌==◌, List, [], ◌∷◌, ◌++◌, length, get_or, take, Option, Some, None, refl, sym, ◌∙◌, ⊎_elim, arith, length-append, one-add, add-zero, suc, drop}
use Rattle.std.specs.List.{list_any, find, position, position_or_len, count_by, slice_get}
use Rattle.std.specs.Option.{option_or, option_and_then}
use Rattle.std.proofs.lemmas.Bool.{cases_lt, cases_eq, or_parts, lt-ltb, le-ltb, eq-eqb, ne_eqb}
use Rattle.std.proofs.lemmas.Bool.Decides.{nat_tests}
use Rattle.std.proofs.lemmas.List.{take_more, length-take-le, length-drop, get_or-take, get_or-drop}
use Rattle.std.proofs.lemmas.List.Folds.{position_or_len_push, find_at}
use Rattle.std.proofs.lemmas.List.Sums.{sum_by-cons, sum_by-take-drop, get_or-le-sum_by, prefix_len-le-length}
use Rattle.std.proofs.lemmas.Option.{slice_get_past}

-- the first place that passes is within the list exactly where some element passes
pub passes_within : {A : Type 0} (p : A → Bool) (xs : List A) → list_any p xs ≡ false → position_or_len p xs ≡ length xs
passes_within p [] e = refl
passes_within p (x ∷ xs) e = let t = or_parts (p x) (list_any p xs) e in rw (t.0, passes_within p xs t.1, one-add) refl

-- one more element is looked at
pub position_push : {A : Type 0} (p : A → Bool) (xs : List A) (x : A)
    → position p (xs ++ x ∷ []) ≡ option_or (position p xs) (cond (p x) (Some (length xs)) None)
position_push p xs x =
    let below = prefix_len-le-length (λ y. not (p y)) xs in
    rw (position_or_len_push, length-append) (grind (arith, nat_tests))

pub position_more : {A : Type 0} (p : A → Bool) (xs : List A) (i : ℕ) (d : A) → i < length xs
    → position p (take (i + 1) xs) ≡ option_or (position p (take i xs)) (cond (p (get_or xs i d)) (Some i) None)
position_more p xs i d l =
    let at : i ≤ length xs = omega arith in
    rw (take_more xs i d l, position_push p (take i xs) (get_or xs i d), length-take-le i xs at) refl

-- the first element is the one at the first place
pub find_position : {A : Type 0} (p : A → Bool) (xs : List A) → find p xs ≡ option_and_then (slice_get xs) (position p xs)
find_position p xs = rw find_at (⊎_elim
    (λ l. rw (lt-ltb (position_or_len p xs) (length xs) l) refl)
    (λ g. rw (le-ltb (position_or_len p xs) (length xs) g, slice_get_past xs (position_or_len p xs) g) refl)
    (cases_lt (position_or_len p xs) (length xs)))

-- the first place of each name, one more element being looked at
pub firsts_more : {A : Type 0} (name : A → ℕ) (xs : List A) (i : ℕ) (x : A) (old new : List (Option ℕ)) (n : ℕ) → i < length xs → x ≡ get_or xs i x
    → ((s : ℕ) → s < n → get_or old s None ≡ position (λ y. name y == s) (take i xs))
    → ((s : ℕ) → s < n → get_or new s None ≡ cond (s == name x) (option_or (get_or old s None) (Some i)) (get_or old s None))
    → (s : ℕ) → s < n → get_or new s None ≡ position (λ y. name y == s) (take (i + 1) xs)
firsts_more name xs i x old new n l e before after s m =
    let p = position_more (λ y. name y == s) xs i x l in
    let b = before s m in
    let a = after s m in
    rw (p, ← e, ← b, a) (⊎_elim
    (λ q. rw (eq-eqb s (name x) q, eq-eqb (name x) s (sym q)) refl)
    (λ q. rw (ne_eqb s (name x) q, ne_eqb (name x) s (λ r. q (sym r))) (none_or (get_or old s None)))
    (cases_eq s (name x)))
  where
    none_or : (o : Option ℕ) → o ≡ option_or o None
    none_or None = refl
    none_or (Some y) = refl

-- none passes exactly where the count is 0
pub none_counted : {A : Type 0} (p : A → Bool) (xs : List A) → count_by p xs ≡ 0 → position_or_len p xs ≡ length xs
none_counted p [] e = refl
none_counted p (x ∷ xs) e =
    let s = sum_by-cons (λ y. cond (p y) 1 0) x xs in
    elim (p x) as (λ b. cond b 1 0 + count_by p xs ≡ 0 → cond (not b) (1 + position_or_len p xs) 0 ≡ suc (length xs)) [
      | true ↦ λ h. absurd (omega arith)
      | false ↦ λ h. rw (none_counted p xs (omega arith), one-add) refl
    ] (sym s ∙ e)

-- one that passes is counted, and two are counted twice
pub one_counted : {A : Type 0} (p : A → Bool) (xs : List A) (i : ℕ) (d : A) → i < length xs → p (get_or xs i d) ≡ true → 0 < count_by p xs
one_counted p xs i d l e = let h = get_or-le-sum_by (λ y. cond (p y) 1 0) xs i d l in omega (arith, rw e at h)

pub two_counted : {A : Type 0} (p : A → Bool) (xs : List A) (i j : ℕ) (d : A) → i < j → j < length xs → p (get_or xs i d) ≡ true → p (get_or xs j d) ≡ true → 1 < count_by p xs
two_counted p xs i j d l m e f =
    let a = one_counted p (take j xs) i d (rw (length-take-le j xs (omega arith)) l) (rw (get_or-take j xs i d l) e) in
    let b = one_counted p (drop j xs) 0 d (rw (length-drop j xs) (omega arith)) (rw (get_or-drop j xs 0 d, add-zero) f) in
    let s = sum_by-take-drop (λ y. cond (p y) 1 0) xs j in
    omega arith

-- what is counted stands somewhere
pub counted_at : {A : Type 0} (p : A → Bool) (xs : List A) → 0 < count_by p xs → position_or_len p xs < length xs
counted_at p xs l = ⊎_elim (λ (h : position_or_len p xs < length xs). h) (λ g. absurd (omega (arith, from_end p xs g)))
    (cases_lt (position_or_len p xs) (length xs))
  where
    from_end : {A : Type 0} (p : A → Bool) (xs : List A) → length xs ≤ position_or_len p xs → count_by p xs ≡ 0
    from_end p [] g = refl
    from_end p (x ∷ xs) g =
        let s = sum_by-cons (λ y. cond (p y) 1 0) x xs in
        s ∙ (elim (p x) as (λ b. suc (length xs) ≤ cond (not b) (1 + position_or_len p xs) 0 → cond b 1 0 + count_by p xs ≡ 0) [
          | true ↦ λ h. absurd (omega arith)
          | false ↦ λ h. rw (from_end p xs (omega arith)) refl
        ] g)
