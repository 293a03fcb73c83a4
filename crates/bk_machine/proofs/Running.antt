-- Runs in sequence.
use Rattle.std.proofs.Common.{◌≡◌, ℕ, suc, ◌+◌, ◌-◌, ◌<◌, ap, ◌∙◌, sym, arith, Some, None}
use Rattle.bk_machine.specs.declared.stop.Stop.{Stop}
use Rattle.bk_machine.specs.Runs.{Gives, go_on, run, Goes}

module _ {M : Type 0} (step : M → Gives M) where
  -- a run of more steps is a step, and a run of one less
  pub run_more : (n i : ℕ) (m : M) → i < n → run step (n - i) m ≡ go_on (step m) (run step (n - (i + 1)))
  run_more n i m h = let e : n - i ≡ suc (n - (i + 1)) = omega arith in ap (λ k. run step k m) e

  pub stay : (m : M) → Goes step 0 m m
  stay m = record { by = λ k. ap (λ j. run step j m) (let q : 0 + k ≡ k = omega arith in q) }

  pub then : (s t : ℕ) (m m1 m2 : M) → Goes step s m m1 → Goes step t m1 m2 → Goes step (s + t) m m2
  then s t m m1 m2 a b = record { by = λ k. ap (λ j. run step j m) (let e : s + t + k ≡ s + (t + k) = omega arith in e) ∙ a.by (t + k) ∙ b.by k }

  -- a step that does not stop
  pub once : (m m' : M) → step m ≡ (None, m') → Goes step 1 m m'
  once m m' e = record { by = λ k. ap (λ j. run step j m) (let q : 1 + k ≡ suc k = omega arith in q) ∙ ap (λ g. go_on g (run step k)) e }

  -- a step that stops
  pub last : (m m' : M) (stop : Stop) (k : ℕ) → step m ≡ (Some stop, m') → run step (suc k) m ≡ (Some stop, m')
  last m m' stop k e = ap (λ g. go_on g (run step k)) e

-- what goes on has not stopped
pub goes_on : {M : Type 0} (next m m' : M) (stop : Stop) (g : Gives M) → g ≡ (None, next) → g ≡ (Some stop, m') → m' ≡ m
goes_on {M = M} next m m' stop g e h = let none : None ≡ Some stop = ap (λ (q : Gives M). q.0) (sym e ∙ h) in cc

-- what stops as it was has changed nothing
pub halts : {M : Type 0} (m m' : M) (s stop : Stop) (g : Gives M) → g ≡ (Some s, m) → g ≡ (Some stop, m') → m' ≡ m
halts {M = M} m m' s stop g e h = ap (λ (q : Gives M). q.1) (sym h ∙ e)
