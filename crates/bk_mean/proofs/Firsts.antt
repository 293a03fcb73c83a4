-- The first places of what a function gives, and the starts of variables.
use Rattle.std.proofs.Common.{◌≡◌, ℕ, suc, ◌+◌, ◌<◌, refl, ap, sym, ◌∙◌, arith, ◌⊎◌, inl, inr, List, [], ◌∷◌, length, map, Some, None, Bool, true, false, cond, ltb}
use Rattle.std.specs.Prelude.{◌==◌, position, if◌then◌else◌, slice_index, not}
use Rattle.std.specs.List.{position_or_len, find}
use Rattle.std.proofs.lemmas.Bool.Decides.{nat_tests}
use Rattle.std.proofs.lemmas.List.{length-map}
use Rattle.bk_func.specs.Records.{VarRecord}
use Rattle.bk_func.specs.Numbers.{rounded, place_of_var}
use Rattle.bk_mean.specs.Symbols.{starts_from}

-- places in a list of what a function gives
pub position_or_len-map : {A : Type 0} (g : A → ℕ) (q : ℕ) (xs : List A) → position_or_len (λ x. x == q) (map g xs) ≡ position_or_len (λ x. g x == q) xs
position_or_len-map g q [] = refl
position_or_len-map g q (x ∷ xs) = ap (λ n. cond (not (g x == q)) (1 + n) 0) (position_or_len-map g q xs)

pub position-map : {A : Type 0} (g : A → ℕ) (q : ℕ) (xs : List A) → position (λ x. x == q) (map g xs) ≡ position (λ x. g x == q) xs
position-map g q xs =
    let l : length (map g xs) ≡ length xs = simp length-map in
    ap (λ n. cond (ltb n (length (map g xs))) (Some n) None) (position_or_len-map g q xs)
    ∙ ap (λ n. cond (ltb (position_or_len (λ x. g x == q) xs) n) (Some (position_or_len (λ x. g x == q) xs)) None) l

-- the place of the first element that passes, or the length

pub place_some : {A : Type 0} (t : A → Bool) (xs : List A) (i : ℕ) → position t xs ≡ Some i → position_or_len t xs ≡ i
place_some t xs i e = go (ltb (position_or_len t xs) (length xs)) e
  where
    go : (b : Bool) → cond b (Some (position_or_len t xs)) None ≡ Some i → position_or_len t xs ≡ i
    go true h = cc
    go false h = absurd cc

found_or_len : {A : Type 0} (t : A → Bool) (xs : List A) → (find t xs ≡ None × (position_or_len t xs ≡ length xs)) ⊎ (position_or_len t xs < length xs)
found_or_len t [] = inl (refl, refl)
found_or_len {A} t (x ∷ xs) = go (t x) (found_or_len t xs)
  where
    go : (b : Bool) → (find t xs ≡ None × (position_or_len t xs ≡ length xs)) ⊎ (position_or_len t xs < length xs) →
        (cond b (Some x) (find t xs) ≡ None × (cond (not b) (1 + position_or_len t xs) 0 ≡ suc (length xs))) ⊎ (cond (not b) (1 + position_or_len t xs) 0 < suc (length xs))
    go true h = inr (omega arith)
    go false (inl (e, l)) = inl (e, omega arith)
    go false (inr l) = inr (omega arith)

not_found : {A : Type 0} (t : A → Bool) (xs : List A) → position t xs ≡ None → find t xs ≡ None × (position_or_len t xs ≡ length xs)
not_found {A} t xs e = go (found_or_len t xs)
  where
    go : (find t xs ≡ None × (position_or_len t xs ≡ length xs)) ⊎ (position_or_len t xs < length xs) → find t xs ≡ None × (position_or_len t xs ≡ length xs)
    go (inl h) = h
    go (inr l) = let b : ltb (position_or_len t xs) (length xs) ≡ true = grind (arith, nat_tests) in absurd (let q = ap (λ c. cond c (Some (position_or_len t xs)) None) (sym b) ∙ e in cc)

pub place_none : {A : Type 0} (t : A → Bool) (xs : List A) → position t xs ≡ None → position_or_len t xs ≡ length xs
place_none t xs e = (not_found t xs e).1

pub find_none : {A : Type 0} (t : A → Bool) (xs : List A) → position t xs ≡ None → find t xs ≡ None
find_none t xs e = (not_found t xs e).0

-- starts of variables

pub length-starts : (vars : List VarRecord) (a : ℕ) → length (starts_from vars a) ≡ suc (length vars)
length-starts [] a = refl
length-starts (x ∷ xs) a = ap suc (length-starts xs (rounded (a + x.size)))

pub start_at : (s : ℕ) (vars : List VarRecord) (a : ℕ) → slice_index (starts_from vars a) (position_or_len (λ x. x.name == s) vars) ≡ place_of_var s vars a
start_at s [] a = refl
start_at s (x ∷ xs) a = go (x.name == s) (start_at s xs (rounded (a + x.size)))
  where
    go : (b : Bool) → slice_index (starts_from xs (rounded (a + x.size))) (position_or_len (λ y. y.name == s) xs) ≡ place_of_var s xs (rounded (a + x.size)) →
        slice_index (a ∷ starts_from xs (rounded (a + x.size))) (cond (not b) (1 + position_or_len (λ y. y.name == s) xs) 0) ≡ (if b then a else place_of_var s xs (rounded (a + x.size)))
    go true e = refl
    go false e = let k : 1 + position_or_len (λ y. y.name == s) xs ≡ suc (position_or_len (λ y. y.name == s) xs) = omega arith in
        ap (slice_index (a ∷ starts_from xs (rounded (a + x.size)))) k ∙ e
