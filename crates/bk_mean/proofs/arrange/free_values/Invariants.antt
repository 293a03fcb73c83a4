use Rattle.bk_mean.specs.Dues.{AreFree}
use Rattle.bk_mean.proofs.arrange.free_values.Given as goal

abbrev pub invariant-loop-place : goal.invariant-loop-place
invariant-loop-place l = AreFree l.due l.uses l.place l.free
