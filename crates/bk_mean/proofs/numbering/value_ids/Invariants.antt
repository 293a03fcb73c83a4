use Rattle.std.proofs.Common.{◌≡◌, ◌++◌, drop, map}
use Rattle.std.specs.Prelude.{flat_map}
use Rattle.bk_mean.proofs.numbering.value_ids.Given as goal

abbrev pub invariant-loop-block : goal.invariant-loop-block
invariant-loop-block l = l.ids.items ++ map (λ v. v.id) (flat_map (λ b. b.values) (drop l.block-index l.blocks)) ≡ map (λ v. v.id) (flat_map (λ b. b.values) l.blocks)
