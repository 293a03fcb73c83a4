-- What a set of names says, over the names that its references point to.
use Rattle.std.proofs.Common.{◌≡◌, ℕ, suc, ◌+◌, List, [], ◌∷◌, map, length, ap, ◌∙◌, refl, Bool, false, cond, Some, None, ◌++◌}
use Rattle.std.specs.Prelude.{◌||◌, nat_lt, not}
use Rattle.std.specs.List.{list_any, position, position_or_len}
use Rattle.std.proofs.lemmas.List.{map-append}

pub any_map : {A B : Type 0} (p : B → Bool) (f : A → B) (xs : List A) → list_any p (map f xs) ≡ list_any (λ x. p (f x)) xs
any_map p f [] = refl
any_map p f (x ∷ xs) = ap (λ b. p (f x) || b) (any_map p f xs)

first_map : {A B : Type 0} (p : B → Bool) (f : A → B) (xs : List A) → position_or_len p (map f xs) ≡ position_or_len (λ x. p (f x)) xs
first_map p f [] = refl
first_map p f (x ∷ xs) = ap (λ n. cond (not (p (f x))) (1 + n) 0) (first_map p f xs)

pub length_of_map : {A B : Type 0} (f : A → B) (xs : List A) → length (map f xs) ≡ length xs
length_of_map f [] = refl
length_of_map f (x ∷ xs) = ap suc (length_of_map f xs)

pub position_map : {A B : Type 0} (p : B → Bool) (f : A → B) (xs : List A) → position p (map f xs) ≡ position (λ x. p (f x)) xs
position_map p f xs =
    ap (λ n. cond (nat_lt n (length (map f xs))) (Some n) None) (first_map p f xs)
    ∙ ap (λ m. cond (nat_lt (position_or_len (λ x. p (f x)) xs) m) (Some (position_or_len (λ x. p (f x)) xs)) None) (length_of_map f xs)

-- what goes last where it is new
pub added_last : {A B : Type 0} (f : A → B) (b : Bool) (ks new : List A) (k : A) → new ≡ cond b ks (ks ++ k ∷ []) → b ≡ false → map f new ≡ map f ks ++ f k ∷ []
added_last f b ks new k e h = ap (map f) e ∙ ap (λ b. map f (cond b ks (ks ++ k ∷ []))) h ∙ map-append f ks (k ∷ [])

pub number_last : (b : Bool) (ks new : List ℕ) (k : ℕ) → new ≡ cond b ks (ks ++ k ∷ []) → b ≡ false → new ≡ ks ++ k ∷ []
number_last b ks new k e h = e ∙ ap (λ b. cond b ks (ks ++ k ∷ [])) h
