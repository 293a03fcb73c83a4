use Rattle.std.proofs.Common.{◌≡◌, take}
use Rattle.std.specs.List.{filter_map}
use Rattle.bk_live.specs.Homes.{place}
use Rattle.bk_live.proofs.places.Places.find_all.Given as goal

abbrev pub invariant-loop-number : goal.invariant-loop-number
invariant-loop-number l = l.places.items ≡ filter_map (place l.self) (take l.number-index l.numbers)
