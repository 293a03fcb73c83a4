-- What is added step by step to what is known.
use Rattle.std.specs.Prelude.{◌≡◌, ◌↔◌, ℕ, ◌<◌, List, Some, ◌⊎◌}
use Rattle.std.specs.List.{slice_get}

-- Q has what P has, and what R says
pub record Adds {U : Type 0} (P R Q : U → Type 0) : Type 0 where
  pub each : (u : U) → Q u ↔ (P u ⊎ R u)

-- one of the elements says it; one of the first i
abbrev pub Some_of : {U A : Type 0} → List A → (ℕ → A → U → Type 0) → U → Type 0
Some_of {U} {A} xs R u = (k : ℕ) × (x : A) × (slice_get xs k ≡ Some x) × R k x u

abbrev pub Some_before : {U A : Type 0} → List A → (ℕ → A → U → Type 0) → ℕ → U → Type 0
Some_before {U} {A} xs R i u = (k : ℕ) × (x : A) × k < i × (slice_get xs k ≡ Some x) × R k x u
