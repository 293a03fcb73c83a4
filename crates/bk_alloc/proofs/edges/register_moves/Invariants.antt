-- the moves so far, with those that are left
use Rattle.std.proofs.Common.{◌≡◌, ◌++◌, drop}
use Rattle.bk_alloc.specs.Blocks.{register_moves, source_at}
use Rattle.bk_alloc.proofs.edges.register_moves.Given as goal

abbrev pub invariant-loop-register : goal.invariant-loop-register
invariant-loop-register l =
    l.moves.items ++ register_moves (source_at l.part l.next) l.register (drop l.register l.next.first) ≡ l.initial.moves.items ++ register_moves (source_at l.part l.next) 0 l.next.first
