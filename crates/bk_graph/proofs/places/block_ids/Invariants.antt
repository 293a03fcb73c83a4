use Rattle.std.proofs.Common.{◌≡◌, map, take}
use Rattle.bk_graph.proofs.places.block_ids.Given as goal

abbrev pub invariant-loop-block : goal.invariant-loop-block
invariant-loop-block l = l.ids.items ≡ map (λ b. b.id) (take l.block-index l.blocks)
