-- Tests of a list's elements by what contracts see of them.
use Rattle.std.proofs.Common.{◌≡◌, ℕ, suc, ◌+◌, ◌<◌, drop, drop-cons, get_or, arith, Bool, true, false, cond, List, [], ◌∷◌, ◌++◌, map, ap, ◌∙◌, sym, refl, Some, None, Result, Ok, Err, IfOk}
use Rattle.std.specs.Prelude.{◌||◌, ◌&&◌, if◌then◌else◌, not, nat_lt, length}
use Rattle.std.specs.List.{list_any, list_all, position, position_or_len, prefix_len}

pub any_map : {A B : Type 0} (f : A → B) (p : B → Bool) (xs : List A) → list_any p (map f xs) ≡ list_any (λ x. p (f x)) xs
any_map f p [] = refl
any_map f p (x ∷ xs) = ap (λ b. p (f x) || b) (any_map f p xs)

pub map_append : {A B : Type 0} (f : A → B) (xs : List A) (x : A) → map f (xs ++ x ∷ []) ≡ map f xs ++ f x ∷ []
map_append f [] x = refl
map_append f (y ∷ xs) x = ap (λ ys. f y ∷ ys) (map_append f xs x)

grown : {A B : Type 0} (f : A → B) (b : Bool) (xs : List A) (x : A) → map f (if b then xs else xs ++ x ∷ []) ≡ (if b then map f xs else map f xs ++ f x ∷ [])
grown f true xs x = refl
grown f false xs x = map_append f xs x

-- the elements with one more, where the test finds none
pub inserted : {A B : Type 0} (f : A → B) (p : B → Bool) (xs : List A) (x : A) →
    map f (if list_any (λ y. p (f y)) xs then xs else xs ++ x ∷ []) ≡ (if list_any p (map f xs) then map f xs else map f xs ++ f x ∷ [])
inserted f p xs x = grown f (list_any (λ y. p (f y)) xs) xs x ∙ ap (λ b. if b then map f xs else map f xs ++ f x ∷ []) (sym (any_map f p xs))

pub first_map : {A B : Type 0} (f : A → B) (p : B → Bool) (xs : List A) → prefix_len p (map f xs) ≡ prefix_len (λ x. p (f x)) xs
first_map f p [] = refl
first_map f p (x ∷ xs) = ap (λ n. cond (p (f x)) (1 + n) 0) (first_map f p xs)

pub length_map : {A B : Type 0} (f : A → B) (xs : List A) → length (map f xs) ≡ length xs
length_map f [] = refl
length_map f (x ∷ xs) = ap (λ n. suc n) (length_map f xs)

-- where the test finds the first element
pub position_map : {A B : Type 0} (f : A → B) (p : B → Bool) (xs : List A) → position p (map f xs) ≡ position (λ x. p (f x)) xs
position_map f p xs =
    ap (λ n. cond (nat_lt n (length (map f xs))) (Some n) None) (first_map f (λ y. not (p y)) xs)
    ∙ ap (λ m. cond (nat_lt (position_or_len (λ x. p (f x)) xs) m) (Some (position_or_len (λ x. p (f x)) xs)) None) (length_map f xs)

-- a number, and the names with it
pub if_number : {E : Type 0} (r : Result ℕ E) (p q : ℕ) (v w : List (List ℕ)) → p ≡ q → v ≡ w → IfOk r (λ n. n ≡ p) → IfOk r (λ n. ◌≡◌ {A = ℕ × List (List ℕ)} (n, v) (q, w))
if_number (Ok n) p q v w e g h = ap (λ k. (k, v)) (h ∙ e) ∙ ap (λ u. (q, u)) g
if_number (Err e) p q v w d g h = tt

pub all_map : {A B : Type 0} (f : A → B) (p : B → Bool) (xs : List A) → list_all p (map f xs) ≡ list_all (λ x. p (f x)) xs
all_map f p [] = refl
all_map f p (x ∷ xs) = ap (λ b. p (f x) && b) (all_map f p xs)

-- an element of a list, and those behind it
pub front_of : {A : Type 0} (xs : List A) (i : ℕ) (x : A) → i < length xs → x ≡ get_or xs i x → drop i xs ≡ x ∷ drop (i + 1) xs
front_of xs i x l e = drop-cons xs i x l ∙ ap (λ y. y ∷ drop (suc i) xs) (sym e) ∙ (let d : suc i ≡ i + 1 = omega arith in ap (λ k. x ∷ drop k xs) d)
