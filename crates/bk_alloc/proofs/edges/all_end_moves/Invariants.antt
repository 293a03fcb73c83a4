-- the moves of the blocks so far
use Rattle.std.proofs.Common.{◌≡◌, map, take}
use Rattle.bk_alloc.specs.Blocks.{end_moves}
use Rattle.bk_alloc.proofs.edges.all_end_moves.Given as goal

abbrev pub invariant-loop-part : goal.invariant-loop-part
invariant-loop-part l = map (λ moves. moves.items) l.all.items ≡ map (end_moves l.parts) (take l.part-index l.parts)
