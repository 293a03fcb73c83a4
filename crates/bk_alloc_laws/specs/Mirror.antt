-- What the machine's registers and numbered slots hold, against registers in their order and slots by the numbers of values.
use Rattle.std.specs.Prelude.{◌≡◌, ℕ, ◌<◌, ◌≤◌, List}
use Rattle.std.specs.List.{Contains}
use Rattle.bk_func.specs.declared.parts.Loc.{Loc}
use Rattle.bk_func.specs.declared.parts.Loc.TheVariants.{Reg, Slot, Swap}
use Rattle.bk_shuffle.specs.Sequence.{Move}
use Rattle.bk_alloc.specs.Placing.{slot_of}

-- a place that has a name, among so many registers and the slots of the values hs
abbrev pub IsNamed : ℕ → List ℕ → Loc → Type 0
IsNamed count hs (Reg r) = r < count
IsNamed count hs (Slot v) = Contains hs v
IsNamed count hs Swap = ⊥

pub record BothNamed (count : ℕ) (hs : List ℕ) (m : Move) : Type 0 where
  pub source : IsNamed count hs m.0
  pub destination : IsNamed count hs m.1

-- registers have names of their own
pub record Names (count : ℕ) (number : ℕ → ℕ) : Type 0 where
  pub few : count ≤ 256
  pub apart : (q r : ℕ) → q < count → r < count → number q ≡ number r → q ≡ r
  pub below : (r : ℕ) → r < count → number r < 256

-- the machine's places m hold what the named ones do
pub record Mirrors (count : ℕ) (number : ℕ → ℕ) (hs : List ℕ) (s m : Loc → ℕ) : Type 0 where
  pub registers : (r : ℕ) → r < count → m (Reg (number r)) ≡ s (Reg r)
  pub slots : (v : ℕ) → Contains hs v → m (Slot (slot_of hs v)) ≡ s (Slot v)
