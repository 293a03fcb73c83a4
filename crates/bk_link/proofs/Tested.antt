-- What tests of elements tell.
use Rattle.std.proofs.Common.{◌≡◌, ℕ, ◌<◌, Bool, true, false, List, [], ◌∷◌, length, refl, arith}
use Rattle.std.specs.Bool.{MatchBool}
use Rattle.std.specs.List.{All, AllWithin, HoldsAt}
use Rattle.std.specs.Prelude.{◌↔◌}
use Rattle.std.proofs.lemmas.List.Elements.{All-from_all_within}

-- a test that asks each element has said whether P holds of all
pub decided : {X : Type 0} (P : X → Type 0) (xs : List X) (r : Bool) → MatchBool r (AllWithin P xs 0 (length xs)) ((k : ℕ) × (k < length xs) × HoldsAt (λ x. P x → ⊥) xs k) → r ≡ true ↔ All P xs
decided P xs true h = ((λ e. All-from_all_within P xs h), (λ all. refl))
decided P [] false (k, l, other) = absurd (omega (arith, l))
decided P (x ∷ xs) false (k, l, other) = ((λ e. cc), (λ all. absurd (other x (all k x l))))
