use Rattle.std.proofs.Common.{◌≡◌, map, take}
use Rattle.bk_sched.specs.Schedule.{rank_of}
use Rattle.bk_sched.proofs.score.ranks.Given as goal

abbrev pub invariant-loop-value : goal.invariant-loop-value
invariant-loop-value l = l.ranks.items ≡ map rank_of (take l.value-index l.values)
