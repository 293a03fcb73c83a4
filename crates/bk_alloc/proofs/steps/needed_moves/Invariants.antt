-- the steps so far
use Rattle.std.proofs.Common.{◌≡◌, map, take}
use Rattle.bk_alloc.specs.Names.{number_in}
use Rattle.bk_alloc.specs.Placing.{named, needed_moves}
use Rattle.bk_alloc.proofs.steps.needed_moves.Given as goal

abbrev pub invariant-loop-edge : goal.invariant-loop-edge
invariant-loop-edge l = l.needed.items ≡ map (named (number_in l.names) l.names.homes) (needed_moves (take l.edge-index l.moves))
