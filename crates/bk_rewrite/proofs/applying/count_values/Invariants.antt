use Rattle.std.proofs.Common.{◌≡◌, ◌+◌, min, sum_by, drop, length}
use Rattle.bk_func.specs.Records.{BlockRecord}
use Rattle.bk_rewrite.proofs.applying.count_values.Given as goal

abbrev pub invariant-loop-block : goal.invariant-loop-block
invariant-loop-block l =
    min (l.count + sum_by (λ (b : BlockRecord). length b.values) (drop l.block-index l.blocks)) 18446744073709551615 ≡ min (sum_by (λ (b : BlockRecord). length b.values) l.blocks) 18446744073709551615
