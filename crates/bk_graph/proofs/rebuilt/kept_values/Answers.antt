use Rattle.std.proofs.Common.{◌∙◌, ap, ℕ, arith}
use Rattle.bk_func.specs.Records.{ValueRecord}
use Rattle.bk_graph.specs.Lists.{picked}
use Rattle.bk_graph.specs.Marks.{marked}
use Rattle.bk_graph.specs.Reads.{facts, tables_in}
use Rattle.bk_graph.specs.Rebuilt.{behind, kept_value}
use Rattle.bk_graph.proofs.Standing.{picked_more}
use Rattle.bk_graph.proofs.rebuilt.kept_values.Goals as goal

pub loop-index-init : goal.loop-index-init
unfolding picked
loop-index-init c = c.new-kept.ensures.items

pub loop-index-preserved : goal.loop-index-preserved
loop-index-preserved c =
    let s = c.args.settled.now in
    let d = marked c.args.needed.now.needed.items in
    let es = c.args.edges.now in
    let first = c.args.first in
    let i = c.loop-index.index in
    let v = c.index-values-index.result in
    let place = c.behind-place.result in
    picked_more (λ (k : ℕ). d (behind first k)) (λ (k : ℕ) (x : ValueRecord). kept_value (tables_in s) (facts s) es (behind first k) x) c.args.values.now i v
    c.loop-index.kept.items c.push_value.new.kept.items (d place) (kept_value (tables_in s) (facts s) es place v) (omega arith) c.loop-index.invariant
    (ap d c.behind-place.ensures)
    (ap (λ (p : ℕ). kept_value (tables_in s) (facts s) es p v) c.behind-place.ensures ∙ ap (kept_value (tables_in s) (facts s) es (behind first i)) c.index-values-index.is)
    c.in_ok-push_value.ensures
