use Rattle.std.proofs.Common.{◌≡◌, ◌++◌, drop, map}
use Rattle.std.specs.Prelude.{flat_map, unwrap_or}
use Rattle.std.specs.Ordering.{nat_cmp}
use Rattle.std.specs.BTreeMap.{get}
use Rattle.bk_mean.specs.Numbering.{copied_by}
use Rattle.bk_mean.proofs.numbering.copied_places.Given as goal

abbrev pub invariant-loop-block : goal.invariant-loop-block
invariant-loop-block l = l.list.items ++ map (λ v. unwrap_or (get nat_cmp l.places (copied_by v)) l.count) (flat_map (λ b. b.values) (drop l.block-index l.blocks)) ≡ map (λ v. unwrap_or (get nat_cmp l.places (copied_by v)) l.count) (flat_map (λ b. b.values) l.blocks)
