-- the places of the first so many are known
use Rattle.std.proofs.Common.{take}
use Rattle.bk_alloc.specs.Places.{AreFirst}
use Rattle.bk_alloc.proofs.places.first_places.Given as goal

abbrev pub invariant-loop-place : goal.invariant-loop-place
invariant-loop-place l = AreFirst (λ n. n) (take l.place l.numbers) l.places
