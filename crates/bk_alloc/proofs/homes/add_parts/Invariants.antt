-- those so far are added
use Rattle.std.proofs.Common.{take}
use Rattle.std.specs.List.{flat_map}
use Rattle.bk_alloc.specs.Homes.{Gathers}
use Rattle.bk_alloc.specs.Placing.{slots_in}
use Rattle.bk_alloc.proofs.homes.add_parts.Given as goal

abbrev pub invariant-loop-part : goal.invariant-loop-part
invariant-loop-part l = Gathers l.initial.values l.values (flat_map slots_in (take l.part-index l.parts))
