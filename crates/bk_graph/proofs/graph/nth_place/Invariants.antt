use Rattle.std.proofs.Common.{◌≡◌, ◌+◌, drop}
use Rattle.bk_func.specs.Edits.{nth_place}
use Rattle.bk_graph.proofs.graph.nth_place.Given as goal

abbrev pub invariant-loop-place : goal.invariant-loop-place
invariant-loop-place l = nth_place l.number l.rank l.numbers ≡ l.place + nth_place l.number l.left (drop l.place l.numbers)
