-- Lists that are made, or looked through, one element after the other.
use Rattle.std.proofs.Common.{◌≡◌, ◌∙◌, sym, refl, ap, subst, ℕ, ◌+◌, ◌<◌, ◌≤◌, List, length, get_or, ⊎_elim, arith}
use Rattle.std.specs.List.{Contains}
use Rattle.std.proofs.lemmas.Bool.{cases_lt}
use Rattle.std.proofs.lemmas.Option.{get_or_from_slice_get}
use Rattle.bk_form.proofs.Finding.{HoldsUpTo, holds_in}

-- one more number of which the fact holds
pub number_more : {P : ℕ → Type 0} {xs : List ℕ} {i : ℕ} → HoldsUpTo P xs i → i < length xs → P (get_or xs i 0) → HoldsUpTo P xs (i + 1)
number_more {P} {xs} {i} holds l here = record {
  each = λ j x b e. ⊎_elim
      (λ (low : j < i). holds.each j x low e)
      (λ (high : i ≤ j). let last : j ≡ i = omega arith in subst P (ap (λ k. get_or xs k 0) (sym last) ∙ get_or_from_slice_get xs j x 0 e) here)
      (cases_lt j i);
}

pub number_none : (P : ℕ → Type 0) (xs : List ℕ) → HoldsUpTo P xs 0
number_none P xs = record { each = λ j x b e. absurd (omega arith) }

pub number_all : {P : ℕ → Type 0} {xs : List ℕ} {i : ℕ} → HoldsUpTo P xs i → length xs ≤ i → (p : ℕ) → Contains xs p → P p
number_all {P} {xs} {i} holds over p c = holds_in refl holds over p c
