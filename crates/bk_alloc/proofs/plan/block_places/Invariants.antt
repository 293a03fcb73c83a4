-- the places of the first so many are known
use Rattle.std.proofs.Common.{take}
use Rattle.bk_alloc.specs.Places.{AreFirst}
use Rattle.bk_alloc.proofs.plan.block_places.Given as goal

abbrev pub invariant-loop-place : goal.invariant-loop-place
invariant-loop-place l = AreFirst (λ b. b.id) (take l.place l.blocks) l.places
