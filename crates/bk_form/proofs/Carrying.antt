-- The states that walks carry, by the places of blocks.
use Rattle.std.proofs.Common.{◌≡◌, ◌∙◌, sym, refl, ap, ℕ, ◌<◌, ◌≤◌, Bool, true, false, cond, List, [], length, get_or, Option, None, Some, ⊎_elim, arith}
use Rattle.std.specs.List.{slice_get}
use Rattle.std.proofs.lemmas.Bool.{cases_lt}
use Rattle.std.proofs.lemmas.List.{get_or_past}
use Rattle.bk_places.proofs.Filling.{Filled}
use Rattle.bk_form.specs.Carried.{AreOpen, is_open, unmarked}
use Rattle.bk_form.specs.declared.chains.Chain.{Chain}

pub open_all : (es : List (List ℕ)) (cs : List Chain) (os : List (List ℕ)) (i : ℕ) → i ≡ length es
    → Filled (λ (p : ℕ) (us : List ℕ). us ≡ cond (is_open (slice_get cs p)) (get_or es p []) []) [] os i → AreOpen es cs os
open_all es cs os i all filled = record {
  size = filled.size ∙ all;
  each = λ p. ⊎_elim
      (λ (b : p < i). filled.each p b)
      (λ (a : i ≤ p).
      get_or_past os p [] (omega (arith, filled.size)) ∙ sym (ap (λ us. cond (is_open (slice_get cs p)) us []) (get_or_past es p [] (omega arith)) ∙ nothing (is_open (slice_get cs p))))
      (cases_lt p i);
}
  where
    nothing : (t : Bool) → cond {A = List ℕ} t [] [] ≡ []
    nothing true = refl
    nothing false = refl

pub unmarked_all : (noted marks states : List (Option ℕ)) (i : ℕ) → i ≡ length noted
    → Filled (λ (p : ℕ) (o : Option ℕ). o ≡ unmarked (get_or marks p None) (get_or noted p None)) None states i → (p : ℕ) → get_or states p None ≡ unmarked (get_or marks p None) (get_or noted p None)
unmarked_all noted marks states i all filled p = ⊎_elim
    (λ (b : p < i). filled.each p b)
    (λ (a : i ≤ p). get_or_past states p None (omega (arith, filled.size)) ∙ sym (ap (unmarked (get_or marks p None)) (get_or_past noted p None (omega arith)) ∙ nothing (get_or marks p None)))
    (cases_lt p i)
  where
    nothing : (m : Option ℕ) → unmarked m None ≡ None
    nothing None = refl
    nothing (Some x) = refl
