-- those so far are added
use Rattle.std.proofs.Common.{take}
use Rattle.std.specs.List.{flat_map}
use Rattle.bk_alloc.specs.Homes.{Gathers}
use Rattle.bk_alloc.specs.Placing.{values_loaded}
use Rattle.bk_alloc.specs.Seen.{seen}
use Rattle.bk_alloc.proofs.homes.add_acts.Given as goal

abbrev pub invariant-loop-act : goal.invariant-loop-act
invariant-loop-act l = Gathers l.initial.values l.values (flat_map values_loaded (seen (take l.act-index l.acts)))
