-- A machine follows a part of a run: to what it gives, to a trap, or on and on, with the count of blocks that are entered.
use Rattle.std.specs.Prelude.{◌≡◌, ◌<◌, ◌≤◌, ℕ, ◌+◌, ◌*◌, ◌/◌, List, Some, None}
use Rattle.bk_machine.specs.declared.stop.Stop.TheVariants.{Returned, Trapped}
use Rattle.bk_machine.specs.Runs.{Gives, Goes, run}
use Rattle.bk_func.specs.Meaning.{Outcome, returned, trapped, wild, going, World, Run, gives, stops}

-- a machine as runs see it: its step and its data window
pub record System : Type 1 where
  pub Machine : Type 0
  pub step : Machine → Gives Machine
  pub window : Machine → List ℕ

-- what holds of what a part gives, in the world after it and on the machine
abbrev pub Holding : System → Type 0 → Type 1
Holding y A = A → World → y.Machine → Type 0

-- The package has b blocks. From the block at a place of its function's layout on: no more blocks are entered than b for each
-- step, the blocks before this one in the layout counted as entered.
pub record Ends (y : System) (A : Type 0) (b place : ℕ) (w v : World) (m : y.Machine) (x : A) (Holds : Holding y A) : Type 0 where
  pub steps : ℕ
  pub after : y.Machine
  pub goes : Goes y.step steps m after
  pub holds : Holds x v after
  pub count : w.left + place ≤ v.left + b * steps

-- a trap with this number, and this data window
pub record Stops (y : System) (m : y.Machine) (n : ℕ) (d : List ℕ) : Type 0 where
  pub steps : ℕ
  pub after : y.Machine
  pub stops : run y.step steps m ≡ (Some (Trapped n), after)
  pub window : y.window after ≡ d

-- the machine goes on after so many steps that b for each, and b more, are more than the blocks that may be entered
pub record GoesOn (y : System) (b place : ℕ) (w : World) (m : y.Machine) : Type 0 where
  pub steps : ℕ
  pub after : y.Machine
  pub goes : run y.step steps m ≡ (None, after)
  pub count : w.left + place < b * steps + b

-- a part that ends the run; nothing is said of accesses outside the data window
abbrev pub StopsBy : (y : System) → Outcome → ℕ → ℕ → World → y.Machine → List ℕ → Type 0
StopsBy y (returned r) b place w m d = ⊥
StopsBy y (trapped n) b place w m d = Stops y m n d
StopsBy y (wild a) b place w m d = Unit {0}
StopsBy y going b place w m d = GoesOn y b place w m

-- a part of a run and the machine
abbrev pub Follows : (y : System) → (A : Type 0) → ℕ → ℕ → World → y.Machine → Holding y A → Run A → Type 0
Follows y A b place w m Holds (gives x v) = Ends y A b place w v m x Holds
Follows y A b place w m Holds (stops o d) = StopsBy y o b place w m d

-- what the machine does of an outcome: it has returned, it has trapped, or it goes on after n steps over the count of blocks
abbrev pub Meets : (y : System) → ℕ → ℕ → y.Machine → (List ℕ → y.Machine → Type 0) → Outcome → List ℕ → Type 0
Meets y n b m Holds (returned r) d = (steps : ℕ) × (after : y.Machine) × (run y.step steps m ≡ (Some Returned, after)) × (y.window after ≡ d) × Holds r after
Meets y n b m Holds (trapped k) d = Stops y m k d
Meets y n b m Holds (wild a) d = Unit {0}
Meets y n b m Holds going d = (after : y.Machine) × (run y.step (n / b) m ≡ (None, after))
