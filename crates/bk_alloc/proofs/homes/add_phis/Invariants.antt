-- those so far are added
use Rattle.std.proofs.Common.{take}
use Rattle.std.specs.List.{flat_map}
use Rattle.bk_alloc.specs.Blocks.{in_slot}
use Rattle.bk_alloc.specs.Homes.{Gathers}
use Rattle.bk_alloc.proofs.homes.add_phis.Given as goal

abbrev pub invariant-loop-phi : goal.invariant-loop-phi
invariant-loop-phi l = Gathers l.initial.values l.values (flat_map (λ x. in_slot l.first x.value) (take l.phi-index l.phis))
