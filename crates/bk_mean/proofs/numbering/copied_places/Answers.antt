use Rattle.std.proofs.Common.{rules, ◌≡◌, ◌++◌, ◌<◌, ◌∙◌, ap, arith, length, map}
use Rattle.std.specs.Prelude.{flat_map, unwrap_or}
use Rattle.std.specs.Ordering.{nat_cmp}
use Rattle.std.specs.BTreeMap.{get}
use Rattle.bk_mean.specs.Numbering.{copied_by}
use Rattle.bk_mean.proofs.Leaps.{mapped_more}
use Rattle.bk_mean.proofs.numbering.copied_places.Goals as goal

pub loop-block-preserved : goal.loop-block-preserved
loop-block-preserved c =
    let h : c.loop-block.block-index < length c.args.blocks.now = omega arith in
    let v : c.deref.result.now ≡ c.block-item.result.values = search rules in
    mapped_more (λ v. unwrap_or (get nat_cmp c.args.places.now (copied_by v)) c.args.count) c.args.blocks.now c.loop-block.block-index c.block-item.result c.loop-block.list.items c.push_copied.new.list.items
    (map (λ v. unwrap_or (get nat_cmp c.args.places.now (copied_by v)) c.args.count) (flat_map (λ b. b.values) c.args.blocks.now)) h c.block-item.is
    (c.in_ok-push_copied.ensures ∙ ap (λ vs. c.loop-block.list.items ++ map (λ v. unwrap_or (get nat_cmp c.args.places.now (copied_by v)) c.args.count) vs) v) c.loop-block.invariant
