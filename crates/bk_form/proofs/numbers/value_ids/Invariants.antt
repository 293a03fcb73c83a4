use Rattle.std.proofs.Common.{◌≡◌, map, take}
use Rattle.std.specs.List.{flat_map}
use Rattle.bk_form.proofs.numbers.value_ids.Given as goal

abbrev pub invariant-loop-block : goal.invariant-loop-block
invariant-loop-block l = l.ids.items ≡ flat_map (λ b. map (λ v. v.id) b.values) (take l.block-index l.fn.func.blocks)
