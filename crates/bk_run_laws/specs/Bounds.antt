-- Blocks that are entered, and the steps of the machine.
use Rattle.std.specs.Prelude.{ℕ, ◌+◌, ◌*◌, ◌/◌, ◌<◌, ◌≤◌}

-- n blocks may be entered; t steps pay for b each, and b more
abbrev pub BoundsAreSpent : Type 0
BoundsAreSpent = (n b t : ℕ) → n < b * t + b → n / b ≤ t
