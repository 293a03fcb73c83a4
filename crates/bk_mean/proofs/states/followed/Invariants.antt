use Rattle.std.proofs.Common.{◌≡◌, map, take}
use Rattle.bk_mean.specs.Memories.{followed_by}
use Rattle.bk_mean.proofs.states.followed.Given as goal

abbrev pub invariant-loop-value : goal.invariant-loop-value
invariant-loop-value l = l.list.items ≡ map (followed_by l.numbering) (take l.value-index l.values)
