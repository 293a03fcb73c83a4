use Rattle.std.proofs.Common.{◌≡◌, map, take}
use Rattle.std.specs.List.{flat_map}
use Rattle.bk_work.proofs.numbers.numbers_of.Given as goal

abbrev pub invariant-loop-block : goal.invariant-loop-block
invariant-loop-block l = l.numbers.items ≡ map (λ v. v.id) (flat_map (λ b. b.values) (take l.block-index l.blocks))
