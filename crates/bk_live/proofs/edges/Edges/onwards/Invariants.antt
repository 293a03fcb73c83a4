use Rattle.std.proofs.Common.{◌≡◌, map, take}
use Rattle.bk_live.specs.Edges.{onward}
use Rattle.bk_live.specs.Homes.{place}
use Rattle.bk_live.proofs.edges.Edges.onwards.Given as goal

abbrev pub invariant-loop-block : goal.invariant-loop-block
invariant-loop-block l = map (λ list. list.items) l.lists.items ≡ map (onward (place l.places)) (take l.block-index l.blocks)
