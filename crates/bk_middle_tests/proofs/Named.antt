-- The names of the small package are in order.
use Rattle.std.proofs.Common.{◌≡◌, ◌≢◌, ⊎_elim, ℕ, ◌<◌, List, [], ◌∷◌, refl, ◌⊎◌, inl, inr, arith}
use Rattle.std.specs.List.{All, AllPairs, Contains}
use Rattle.std.proofs.lemmas.List.Elements.{All-nil, All-cons}
use Rattle.std.proofs.lemmas.List.Kept.{AllPairs-cons}
use Rattle.bk_piece.proofs.Elements.{has_cases, has_none}
use Rattle.bk_link.specs.Conditions.{IsNamed}
use Rattle.bk_middle_tests.specs.Linking.{small_package}

one : {X : Type 0} (P : X → Type 0) (x : X) → P x → All P (x ∷ [])
one P x p = All-cons P x [] p (All-nil P)

two : {X : Type 0} (P : X → Type 0) (x y : X) → P x → P y → All P (x ∷ y ∷ [])
two P x y p q = All-cons P x (y ∷ []) p (one P y q)

single : {X : Type 0} (R : X → X → Type 0) (x : X) → AllPairs R (x ∷ [])
single R x i j d l m = absurd (omega (arith, l, m))

pair : {X : Type 0} (R : X → X → Type 0) (x y : X) → R x y → AllPairs R (x ∷ y ∷ [])
pair R x y r = AllPairs-cons R x (y ∷ []) (one (R x) y r) (single R y)

other : (x n : ℕ) → x ≢ n → Contains (x ∷ []) n → ⊥
other x n ne h = ⊎_elim (λ e. ne e) (λ r. has_none n r) (has_cases x [] n h)

-- names of one letter
letters : (x y : ℕ) → x ≢ y → x ∷ [] ≢ y ∷ []
letters x y ne e = let same : x ≡ y = cc in ne same

differ : (x y : ℕ) → (x < y) ⊎ (y < x) → x ≢ y
differ x y h e = ⊎_elim (λ l. absurd (omega (arith, l, e))) (λ l. absurd (omega (arith, l, e))) h

some : (x : ℕ) → 0 < x → x ≢ 0
some x l e = absurd (omega (arith, l, e))

pub named : IsNamed small_package
unfolding small_package
named =
    let clean : List ℕ → Type 0 = λ n. Contains n 0 → ⊥ in
    record {
      few_funcs = omega arith;
      few_vars = omega arith;
      counted = refl;
      funcs_rise = pair (λ a b. a < b) 0 2 (omega arith);
      vars_rise = single (λ a b. a < b) 1;
      funcs_within = two (λ n. n < 3) 0 2 (omega arith) (omega arith);
      vars_within = one (λ n. n < 3) 1 (omega arith);
      apart = two (λ n. Contains (1 ∷ []) n → ⊥) 0 2 (other 1 0 (differ 1 0 (inr (omega arith)))) (other 1 2 (differ 1 2 (inl (omega arith))));
      differ =
          AllPairs-cons (λ x y. x ≢ y) (0x66 ∷ []) ((0x76 ∷ []) ∷ (0x67 ∷ []) ∷ [])
          (two (λ y. 0x66 ∷ [] ≢ y) (0x76 ∷ []) (0x67 ∷ []) (letters 0x66 0x76 (differ 0x66 0x76 (inl (omega arith)))) (letters 0x66 0x67 (differ 0x66 0x67 (inl (omega arith)))))
          (pair (λ x y. x ≢ y) (0x76 ∷ []) (0x67 ∷ []) (letters 0x76 0x67 (differ 0x76 0x67 (inr (omega arith)))));
      clean =
          All-cons clean (0x66 ∷ []) ((0x76 ∷ []) ∷ (0x67 ∷ []) ∷ []) (other 0x66 0 (some 0x66 (omega arith)))
          (two clean (0x76 ∷ []) (0x67 ∷ []) (other 0x76 0 (some 0x76 (omega arith))) (other 0x67 0 (some 0x67 (omega arith))));
      short = omega arith;
    }
