use Rattle.std.proofs.Common.{◌≡◌, ℕ, take}
use Rattle.bk_form.specs.Edges.{times, count_in}
use Rattle.bk_form.proofs.control.counts.Given as goal

abbrev pub invariant-loop-edge : goal.invariant-loop-edge
invariant-loop-edge l = (e : ℕ × ℕ) → count_in l.counts e ≡ times (take l.edge-index l.edges) e
