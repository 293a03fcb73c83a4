-- those so far are added
use Rattle.std.proofs.Common.{take}
use Rattle.bk_alloc.specs.Homes.{Gathers}
use Rattle.bk_alloc.specs.Placing.{slot_sources}
use Rattle.bk_alloc.proofs.homes.add_sources.Given as goal

abbrev pub invariant-loop-edge : goal.invariant-loop-edge
invariant-loop-edge l = Gathers l.initial.values l.values (slot_sources (take l.edge-index l.moves))
