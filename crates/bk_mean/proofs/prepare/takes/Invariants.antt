use Rattle.std.proofs.Common.{◌≡◌, map, take}
use Rattle.bk_mean.specs.Memories.{taken_places}
use Rattle.bk_mean.proofs.prepare.takes.Given as goal

abbrev pub invariant-loop-value : goal.invariant-loop-value
invariant-loop-value l = map (λ t. t.items) l.takes.items ≡ map (taken_places l.numbering l.first l.values) (take l.value-index l.values)
