-- the steps so far
use Rattle.std.proofs.Common.{◌≡◌, map, take}
use Rattle.bk_alloc.specs.Names.{number_in}
use Rattle.bk_alloc.proofs.steps.registers_named.Given as goal

abbrev pub invariant-loop-place : goal.invariant-loop-place
invariant-loop-place l = l.registers.items ≡ map (number_in l.names) (take l.place-index l.places)
