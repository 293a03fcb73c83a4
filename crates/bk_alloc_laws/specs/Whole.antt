-- A block from its start: phis that begin in registers are stored.
use Rattle.std.specs.Prelude.{ℕ, if◌then◌else◌, List, [], ◌∷◌, ◌++◌}
use Rattle.bk_alloc.specs.Registers.{Registers, register_of, holds}
use Rattle.bk_alloc_laws.specs.Holding.{World, State, stored}

unfoldable pub phi_stored : World → Registers → List ℕ → State → State
phi_stored w rs [] s = s
phi_stored w rs (v ∷ vs) s = phi_stored w rs vs (if holds rs v then stored w v (register_of rs v) s else s)

-- the phis that begin in registers
unfoldable pub phis_gained : Registers → List ℕ → List ℕ
phis_gained rs [] = []
phis_gained rs (v ∷ vs) = (if holds rs v then v ∷ [] else []) ++ phis_gained rs vs
