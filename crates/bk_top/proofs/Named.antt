-- A function of a package at a place.
use Rattle.std.proofs.Common.{◌≡◌, ℕ, ◌<◌, List, length, get_or, ap, ◌∙◌, sym, arith, ⊎_elim}
use Rattle.std.specs.Prelude.{slice_get, Some}
use Rattle.std.proofs.lemmas.List.{get_or_default}
use Rattle.std.proofs.lemmas.Option.{slice_get_cases}

-- the element at a place inside
pub got : {X : Type 0} (xs : List X) (i : ℕ) (x : X) → i < length xs → x ≡ get_or xs i x → slice_get xs i ≡ Some x
got xs i x lt is = ⊎_elim
    (λ inside. inside.2 ∙ ap Some (sym inside.3 ∙ get_or_default xs i inside.0 x lt ∙ sym is))
    (λ past. absurd (omega (arith, past.0)))
    (slice_get_cases xs i).1
