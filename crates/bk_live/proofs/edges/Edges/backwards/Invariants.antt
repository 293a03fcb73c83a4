use Rattle.std.proofs.Common.{◌≡◌, ℕ, [], length, replicate}
use Rattle.bk_func.specs.Records.{BlockRecord}
use Rattle.bk_live.specs.Adds.{Some_before}
use Rattle.bk_live.specs.Edges.{AddsEdges, IsNamed}
use Rattle.bk_live.specs.Homes.{place}
use Rattle.bk_live.proofs.edges.Edges.backwards.Given as goal

abbrev pub invariant-loop-place : goal.invariant-loop-place
invariant-loop-place l =
    AddsEdges (Some_before l.blocks (λ (k : ℕ) (b : BlockRecord) (e : ℕ × ℕ). IsNamed (place l.places) b.succs e.0 × (e.1 ≡ k)) l.place)
    (replicate (length l.blocks) []) l.edges
