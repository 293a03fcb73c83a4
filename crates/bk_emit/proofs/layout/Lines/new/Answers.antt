use Rattle.std.proofs.Common.{◌≡◌, ◌∙◌, ap, length, rules}
use Rattle.std.specs.BTreeMap.{get}
use Rattle.std.specs.Option.{unwrap_or}
use Rattle.std.specs.Ordering.{nat_cmp}
use Rattle.bk_func.specs.Records.{PlacedBlockRecord}
use Rattle.bk_emit.specs.Tables.{look}
use Rattle.bk_emit.proofs.Drawing.{drawn_step_as}
use Rattle.bk_emit.proofs.layout.Lines.new.Goals as goal

pub loop-place-preserved : goal.loop-place-preserved
loop-place-preserved g c =
    let count : c.len.result ≡ length c.loop-place.lines.items = search rules in
    let id = ap (λ (x : PlacedBlockRecord). x.id) c.block.view_is in
    drawn_step_as g.M.Machine.forms c.args.frame (look c.args.entries.now) c.args.blocks.now c.loop-place.place c.loop-place.lines.items c.put_block.new.lines.items (λ n. get nat_cmp c.loop-place.starts n) (λ n. get nat_cmp c.insert.new.self n) c.index-blocks-place.result c.number_at-next.result c.start_or-start.result c.block.inside.id c.len.result
    id count c.loop-place-test.true c.index-blocks-place.is c.number_at-next.ensures
    (c.start_or-start.ensures ∙ ap (λ o. unwrap_or o c.len.result) (c.copied.ensures ∙ c.get.ensures.value))
    c.in_ok-insert.ensures.updates.0 c.in_ok-put_block.ensures c.loop-place.invariant
