-- the steps so far
use Rattle.std.proofs.Common.{◌≡◌, map, take}
use Rattle.bk_alloc.specs.Names.{number_in}
use Rattle.bk_alloc.specs.Placing.{placed_part}
use Rattle.bk_alloc.proofs.steps.placed_blocks.Given as goal

abbrev pub invariant-loop-place : goal.invariant-loop-place
invariant-loop-place l = l.blocks.items ≡ map (placed_part (number_in l.names) l.names.homes l.parts) (take l.place l.parts)
