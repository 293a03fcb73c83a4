-- The first element that passes, in lists that grow.
use Rattle.std.proofs.Common.{◌≡◌, ◌∙◌, sym, ap, refl, ℕ, ◌+◌, ◌<◌, ◌≤◌, ◌==◌, Bool, true, false, cond, List, [], ◌∷◌, ◌++◌, length, take, get_or, Option, Some, None, flat_map, option_map, append-nil, ⊎_elim, position, arith, not, length-append, nat_lt}
use Rattle.std.specs.List.{find, slice_get, position_or_len}
use Rattle.std.specs.Borrow.{Bor}
use Rattle.std.specs.Option.{option_or, option_and_then, option_copied}
use Rattle.std.specs.Slice.{IsItemAt}
use Rattle.std.proofs.lemmas.Bool.{cases_eq, eq-eqb, ne_eqb, cases_lt, lt-ltb, le-ltb}
use Rattle.std.proofs.lemmas.Bool.Decides.{nat_tests}
use Rattle.std.proofs.lemmas.Grind.{flat_map-append}
use Rattle.std.proofs.lemmas.List.{take_more, length-take-le, get_or_past}
use Rattle.std.proofs.lemmas.List.Folds.{find-append, position_or_len_push, find_at}
use Rattle.std.proofs.lemmas.List.Sums.{prefix_len-le-length}
use Rattle.std.proofs.lemmas.Option.{slice_get_read, slice_get_past}

pub map_or : {A B : Type 0} (h : A → B) (p q : Option A) → option_map h (option_or p q) ≡ option_or (option_map h p) (option_map h q)
map_or h None q = refl
map_or h (Some x) q = refl

or_or : {A : Type 0} (o p q : Option A) → option_or (option_or o p) q ≡ option_or o (option_or p q)
or_or None p q = refl
or_or (Some x) p q = refl

pub found_one : {A B : Type 0} (h : A → B) (p : A → Bool) (x : A) → option_map h (find p (x ∷ [])) ≡ cond (p x) (Some (h x)) None
found_one h p x = elim (p x) as (λ b. option_map h (cond b (Some x) None) ≡ cond b (Some (h x)) None) [ true ↦ refl | false ↦ refl ]

-- one more element is looked at
pub found_more : {A B : Type 0} (h : A → B) (p : A → Bool) (xs : List A) (i : ℕ) (x : A) (o old new : Option B) → i < length xs → x ≡ get_or xs i x
    → old ≡ option_or o (option_map h (find p (take i xs))) → new ≡ option_or old (cond (p x) (Some (h x)) None)
    → new ≡ option_or o (option_map h (find p (take (i + 1) xs)))
found_more h p xs i x o old new l is before after =
    let grown : option_map h (find p (take (i + 1) xs)) ≡ option_or (option_map h (find p (take i xs))) (cond (p x) (Some (h x)) None) =
    ap (λ ys. option_map h (find p ys)) (take_more xs i x l ∙ ap (λ y. take i xs ++ y ∷ []) (sym is))
    ∙ (ap (option_map h) (find-append p (take i xs) (x ∷ [])) ∙ (map_or h (find p (take i xs)) (find p (x ∷ [])) ∙ ap (option_or (option_map h (find p (take i xs)))) (found_one h p x)))
    in
    after ∙ (ap (λ q. option_or q (cond (p x) (Some (h x)) None)) before
    ∙ (or_or o (option_map h (find p (take i xs))) (cond (p x) (Some (h x)) None) ∙ ap (option_or o) (sym grown)))

-- the elements of one more part are looked at
pub found_in_more : {A B C : Type 0} (h : A → B) (p : A → Bool) (part : C → List A) (xs : List C) (i : ℕ) (x : C) (old new : Option B) → i < length xs
    → x ≡ get_or xs i x → old ≡ option_map h (find p (flat_map part (take i xs))) → new ≡ option_or old (option_map h (find p (part x)))
    → new ≡ option_map h (find p (flat_map part (take (i + 1) xs)))
found_in_more h p part xs i x old new l is before after =
    let grown : flat_map part (take (i + 1) xs) ≡ flat_map part (take i xs) ++ part x =
    ap (flat_map part) (take_more xs i x l ∙ ap (λ y. take i xs ++ y ∷ []) (sym is))
    ∙ (flat_map-append part (take i xs) (x ∷ []) ∙ ap (λ ys. flat_map part (take i xs) ++ ys) (append-nil (part x)))
    in
    after ∙ (ap (λ q. option_or q (option_map h (find p (part x)))) before
    ∙ sym (ap (λ ys. option_map h (find p ys)) grown ∙ (ap (option_map h) (find-append p (flat_map part (take i xs)) (part x))
    ∙ map_or h (find p (flat_map part (take i xs))) (find p (part x)))))

-- what `get` lends
pub lent : {A : Type 0} (xs : List A) (i : ℕ) (r : Option (Bor A)) → IsItemAt xs i r → option_copied r ≡ slice_get xs i
lent xs i None h = sym (slice_get_past xs i h.3)
lent xs i (Some x) h = sym (slice_get_read xs (length xs) i x.now refl h.3.0 h.1)

position_push : {A : Type 0} (p : A → Bool) (xs : List A) (x : A)
    → position p (xs ++ x ∷ []) ≡ option_or (position p xs) (cond (p x) (Some (length xs)) None)
position_push p xs x =
    let below = prefix_len-le-length (λ y. not (p y)) xs in
    rw (position_or_len_push, length-append) (grind (arith, nat_tests))

pub position_more : {A : Type 0} (p : A → Bool) (xs : List A) (i : ℕ) (d : A) → i < length xs
    → position p (take (i + 1) xs) ≡ option_or (position p (take i xs)) (cond (p (get_or xs i d)) (Some i) None)
position_more p xs i d l =
    let at : i ≤ length xs = omega arith in
    rw (take_more xs i d l, position_push p (take i xs) (get_or xs i d), length-take-le i xs at) refl

-- the first element is the one at the first place
find_position : {A : Type 0} (p : A → Bool) (xs : List A) → find p xs ≡ option_and_then (slice_get xs) (position p xs)
find_position p xs = rw find_at (⊎_elim
    (λ l. rw (lt-ltb (position_or_len p xs) (length xs) l) refl)
    (λ g. rw (le-ltb (position_or_len p xs) (length xs) g, slice_get_past xs (position_or_len p xs) g) refl)
    (cases_lt (position_or_len p xs) (length xs)))

-- the places of the first elements with each name, one more element being looked at
pub firsts_more : {A : Type 0} (name : A → ℕ) (xs : List A) (i : ℕ) (x : A) (old new : List (Option ℕ)) (n : ℕ) → i < length xs → x ≡ get_or xs i x
    → ((s : ℕ) → s < n → get_or old s None ≡ position (λ y. name y == s) (take i xs))
    → ((s : ℕ) → s < n → get_or new s None ≡ cond (s == name x) (option_or (get_or old s None) (Some i)) (get_or old s None))
    → (s : ℕ) → s < n → get_or new s None ≡ position (λ y. name y == s) (take (i + 1) xs)
firsts_more name xs i x old new n l e before after s m =
    let p = position_more (λ y. name y == s) xs i x l in
    let b = before s m in
    let a = after s m in
    rw (p, ← e, ← b, a) (⊎_elim
    (λ q. rw (eq-eqb s (name x) q, eq-eqb (name x) s (sym q)) refl)
    (λ q. rw (ne_eqb s (name x) q, ne_eqb (name x) s (λ r. q (sym r))) (none_or (get_or old s None)))
    (cases_eq s (name x)))
  where
    none_or : (o : Option ℕ) → o ≡ option_or o None
    none_or None = refl
    none_or (Some y) = refl

-- the element at the noted place is the first with the name
pub first_at : {A : Type 0} (name : A → ℕ) (xs : List A) (firsts : List (Option ℕ)) (n s k : ℕ) → length firsts ≡ n
    → ((s : ℕ) → s < n → get_or firsts s None ≡ position (λ y. name y == s) xs) → get_or firsts s None ≡ Some k
    → slice_get xs k ≡ cond (nat_lt s n) (find (λ y. name y == s) xs) None
first_at name xs firsts n s k count first e = ⊎_elim
    (λ (l : s < n). rw (lt-ltb s n l, find_position (λ y. name y == s) xs, ← (first s l), e) refl)
    (λ g. cc (sym (get_or_past firsts s None (rw count g)) ∙ e))
    (cases_lt s n)

pub none_first : {A : Type 0} (name : A → ℕ) (xs : List A) (firsts : List (Option ℕ)) (n s : ℕ)
    → ((s : ℕ) → s < n → get_or firsts s None ≡ position (λ y. name y == s) xs) → get_or firsts s None ≡ None
    → None ≡ cond (nat_lt s n) (find (λ y. name y == s) xs) None
none_first name xs firsts n s first e = ⊎_elim
    (λ (l : s < n). rw (lt-ltb s n l, find_position (λ y. name y == s) xs, ← (first s l), e) refl)
    (λ g. rw (le-ltb s n g) refl)
    (cases_lt s n)
