use Rattle.std.proofs.Common.{◌≡◌, ℕ, Some}
use Rattle.bk_live.specs.Adds.{Some_before}
use Rattle.bk_live.specs.Edges.{AddsEdges}
use Rattle.bk_live.specs.Homes.{place}
use Rattle.bk_live.proofs.edges.Edges.add_all.Given as goal

abbrev pub invariant-loop-number : goal.invariant-loop-number
invariant-loop-number l =
    AddsEdges (Some_before l.numbers (λ (k n : ℕ) (e : ℕ × ℕ). (place l.places n ≡ Some e.0) × (e.1 ≡ l.to)) l.number-index) l.initial.self l.self
