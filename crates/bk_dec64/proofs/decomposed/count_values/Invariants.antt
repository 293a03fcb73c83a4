use Rattle.std.proofs.Common.{◌≡◌, length, sum_by, take}
use Rattle.bk_dec64.proofs.decomposed.count_values.Given as goal

abbrev pub invariant-loop-block : goal.invariant-loop-block
invariant-loop-block l = l.count ≡ sum_by (λ b. length b.values) (take l.block-index l.blocks)
