-- Uses of values, as they are listed.
use Rattle.std.specs.Prelude.{◌≡◌, ◌↔◌, ℕ, List, Option, Some, ◌⊎◌}
use Rattle.std.specs.List.{Contains, slice_get}
use Rattle.std.specs.Option.{option_map}
use Rattle.bk_func.specs.Records.{ValueRecord, BlockRecord}
use Rattle.bk_func.specs.Form.Text.{IsPhi}
use Rattle.bk_live.specs.declared.homes.Spot.{Spot}
use Rattle.bk_live.specs.declared.uses.Use.{Use}
use Rattle.bk_live.specs.Homes.{end_of, spot}

-- the values with these numbers are used at the spot, if there is a spot
abbrev pub IsTakenAt : Option Spot → List ℕ → Use → Type 0
IsTakenAt s ns u = (s ≡ Some u.spot) × Contains ns u.value

-- the end of the block with the number, if there is one
abbrev pub end_behind : List (List ℕ) → (ℕ → Option ℕ) → ℕ → Option Spot
end_behind os p n = option_map (end_of os) (p n)

-- they are used at the ends of the blocks in their places
abbrev pub IsSentAt : List (List ℕ) → (ℕ → Option ℕ) → List ℕ → List ℕ → Use → Type 0
IsSentAt os p preds ns u = (j q : ℕ) × (slice_get preds j ≡ Some q) × (slice_get ns j ≡ Some u.value) × (end_behind os p q ≡ Some u.spot)

-- the value uses it
abbrev pub IsUseOf : List (List ℕ) → (ℕ → Option Spot) → (ℕ → Option ℕ) → List ℕ → ValueRecord → Use → Type 0
IsUseOf os h p preds v u = (IsPhi v × IsSentAt os p preds v.args u) ⊎ (¬ IsPhi v × IsTakenAt (h v.id) v.args u)

-- the block's control or one of its values uses it
abbrev pub IsUseIn : List (List ℕ) → (ℕ → Option Spot) → (ℕ → Option ℕ) → ℕ → BlockRecord → Use → Type 0
IsUseIn os h p i b u =
    ((b.control ≡ Some u.value) × (end_of os i ≡ u.spot)) ⊎ ((v : ValueRecord) × Contains b.values v × IsUseOf os h p b.preds v u)

-- the list has the uses of the blocks
abbrev pub AreUses : List (List ℕ) → (ℕ → Option Spot) → (ℕ → Option ℕ) → List BlockRecord → List Use → Type 0
AreUses os h p bs us = (u : Use) → Contains us u ↔ ((i : ℕ) × (b : BlockRecord) × (slice_get bs i ≡ Some b) × IsUseIn os h p i b u)

abbrev pub use_at : ℕ → ℕ → ℕ → Use
use_at n i k = record { value = n; spot = spot i k }
