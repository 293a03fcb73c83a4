-- those so far are added
use Rattle.std.proofs.Common.{take, map}
use Rattle.std.specs.List.{flat_map}
use Rattle.bk_alloc.specs.Homes.{Gathers}
use Rattle.bk_alloc.specs.Placing.{slot_sources}
use Rattle.bk_alloc.proofs.homes.add_ends.Given as goal

abbrev pub invariant-loop-moves : goal.invariant-loop-moves
invariant-loop-moves l = Gathers l.initial.values l.values (flat_map slot_sources (map (λ m. m.items) (take l.moves-index l.ends)))
