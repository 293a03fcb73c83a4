-- The cycles of moves that are done at once.
use Rattle.std.specs.Prelude.{◌≡◌, ℕ, zero, suc, ◌<◌, ◌≤◌, ◌==◌, true, ◌↔◌, List, Option, Some, None}
use Rattle.std.specs.List.{find, IsDistinct}
use Rattle.std.specs.Set.{is_member}
use Rattle.bk_shuffle.specs.Sequence.{Move, place_of}
use Rattle.bk_shuffle.specs.AtOnce.{goes_to}

-- the source of the move that goes to a place
abbrev pub place_from : Option Move → Option ℕ
place_from None = None
place_from (Some m) = Some (place_of m.0)

abbrev pub source_of : List Move → ℕ → Option ℕ
source_of ms p = place_from (find (goes_to p) ms)

-- so many steps back from a place, each from a destination to its source
abbrev pub further : Option ℕ → (ℕ → Option ℕ) → Option ℕ
further None go = None
further (Some p) go = go p

abbrev pub back : ℕ → List Move → ℕ → Option ℕ
back zero ms p = Some p
back (suc n) ms p = further (source_of ms p) (back n ms)

-- the least place of a cycle of two or more places
pub record HeadsCycle (ms : List Move) (p : ℕ) : Type 0 where
  pub steps : ℕ
  pub some : 0 < steps
  pub round : back steps ms p ≡ Some p
  pub others : ¬ (source_of ms p ≡ Some p)
  pub least : (n q : ℕ) → back n ms p ≡ Some q → p ≤ q

-- the heads of all cycles, each once
pub record AreHeads (ms : List Move) (ps : List ℕ) : Type 0 where
  pub distinct : IsDistinct (λ p q. p == q) ps
  pub each : (p : ℕ) → (is_member (λ x y. x == y) ps p ≡ true) ↔ HeadsCycle ms p
