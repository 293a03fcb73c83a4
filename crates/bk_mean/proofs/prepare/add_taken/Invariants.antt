use Rattle.std.proofs.Common.{◌≡◌, ◌++◌, take}
use Rattle.std.specs.List.{filter_map}
use Rattle.bk_mean.specs.Memories.{taken_place}
use Rattle.bk_mean.proofs.prepare.add_taken.Given as goal

abbrev pub invariant-loop-arg : goal.invariant-loop-arg
invariant-loop-arg l = l.taken.items ≡ l.initial.taken.items ++ filter_map (taken_place l.numbering l.first l.values) (take l.arg-index l.args)
