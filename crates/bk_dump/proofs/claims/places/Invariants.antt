use Rattle.std.proofs.Common.{◌≡◌, take, map}
use Rattle.bk_dump.specs.ClaimOrder.{place_of}
use Rattle.bk_dump.proofs.claims.places.Given as goal

abbrev pub invariant-loop-place : goal.invariant-loop-place
invariant-loop-place l = l.places.items ≡ map place_of (take l.place-index l.ranked)
