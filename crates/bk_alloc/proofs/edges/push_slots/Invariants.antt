-- the moves of the phis so far
use Rattle.std.proofs.Common.{◌≡◌, ◌++◌, map, take}
use Rattle.std.specs.List.{flat_map}
use Rattle.bk_alloc.specs.Blocks.{in_slot, slot_move}
use Rattle.bk_alloc.proofs.edges.push_slots.Given as goal

abbrev pub invariant-loop-phi : goal.invariant-loop-phi
invariant-loop-phi l = l.moves.items ≡ l.initial.moves.items ++ map (slot_move l.part l.next) (flat_map (λ x. in_slot l.next.first x.value) (take l.phi-index l.phis))
