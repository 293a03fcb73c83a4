-- Runs: step after step, up to the first stop.
use Rattle.std.specs.Prelude.{◌≡◌, ℕ, zero, suc, ◌+◌, Option, Some, None}
use Rattle.bk_machine.specs.declared.stop.Stop.{Stop}
use Rattle.bk_machine.specs.declared.stop.Stop.TheVariants.{Going}

-- what a step or a run gives: the stop if there is one, and the machine after it
abbrev pub Gives : Type 0 → Type 0
Gives M = Option Stop × M

-- what follows where there was no stop
abbrev pub go_on : {M : Type 0} → Gives M → (M → Gives M) → Gives M
go_on (None, m) f = f m
go_on (Some stop, m) f = (Some stop, m)

-- at most n steps, up to the first stop
abbrev pub run : {M : Type 0} → (M → Gives M) → ℕ → M → Gives M
run step zero m = (None, m)
run step (suc n) m = go_on (step m) (run step n)

-- the stop of a run; the run is going where its steps gave none
abbrev pub ended : {M : Type 0} → Gives M → Stop × M
ended (None, m) = (Going, m)
ended (Some stop, m) = (stop, m)

-- after this many steps, none of which stops, the first machine is the second
pub record Goes {M : Type 0} (step : M → Gives M) (steps : ℕ) (m m' : M) : Type 0 where
  pub by : (k : ℕ) → run step (steps + k) m ≡ run step k m'
