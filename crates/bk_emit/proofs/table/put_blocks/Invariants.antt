use Rattle.std.proofs.Common.{drop}
use Rattle.std.specs.List.{flat_map}
use Rattle.bk_emit.specs.Tables.{look, IsPut}
use Rattle.bk_emit.proofs.table.put_blocks.Given as goal

abbrev pub invariant-loop-block : goal.invariant-loop-block
invariant-loop-block l = IsPut (flat_map (λ b. b.values) l.blocks) (flat_map (λ b. b.values) (drop l.block-index l.blocks)) l.keys l.rest (look l.initial.entries) (look l.entries)
