use Rattle.bk_live.specs.Homes.{PlacesUpTo}
use Rattle.std.specs.BTreeMap.{get}
use Rattle.std.specs.Ordering.{nat_cmp}
use Rattle.bk_live.proofs.places.Places.new.Given as goal

abbrev pub invariant-loop-place : goal.invariant-loop-place
invariant-loop-place l = PlacesUpTo l.blocks l.place (λ n. get nat_cmp l.places n)
