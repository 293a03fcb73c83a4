use Rattle.std.proofs.Common.{◌≡◌, ℕ, length}
use Rattle.bk_graph.specs.Roots.{root_of}
use Rattle.bk_graph.proofs.roots.Roots.new.Given as goal

abbrev pub invariant-loop-place : goal.invariant-loop-place
invariant-loop-place l = record { size : length l.above.items ≡ l.place; own : (p : ℕ) → root_of l.above.items p ≡ p }
