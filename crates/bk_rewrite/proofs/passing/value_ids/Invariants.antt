use Rattle.std.proofs.Common.{◌≡◌, ◌++◌, drop}
use Rattle.bk_rewrite.proofs.Turns.{ids_of}
use Rattle.bk_rewrite.proofs.passing.value_ids.Given as goal

abbrev pub invariant-loop-block : goal.invariant-loop-block
invariant-loop-block l = l.ids.items ++ ids_of (drop l.block-index l.blocks) ≡ ids_of l.blocks
