use Rattle.std.proofs.Common.{rules, ◌≡◌, ap, ◌∙◌, take}
use Rattle.std.specs.Prelude.{◌==◌, position, slice_index, count_by}
use Rattle.bk_func.specs.Records.{BlockRecord}
use Rattle.bk_func.specs.Edits.{block_of}
use Rattle.bk_mean.specs.Ready.{nth_in}
use Rattle.bk_mean.proofs.Prepared.{edge_is}
use Rattle.bk_mean.proofs.prepare.edge_at.Goals as goal

pub returns : goal.returns
returns c = λ h.
    let e : c.number_at-to.result ≡ slice_index c.args.block.now.succs c.args.index = search rules in
    let r : c.rank-rank.result ≡ count_by (λ s. s == c.number_at-to.result) (take c.args.index c.args.block.now.succs) = search rules in
    let f = c.block-found.ensures c.args.func.now h in
    let n : c.edge_place.result ≡ nth_in c.args.block.now.id c.rank-rank.result (block_of c.args.func.now (slice_index c.args.block.now.succs c.args.index)) =
    c.edge_place.ensures (slice_index c.args.block.now.succs c.args.index) (f ∙ ap (λ x. position (λ b. b.id == x) c.args.func.now.blocks) e)
    ∙ ap (λ (b : BlockRecord). nth_in b.id c.rank-rank.result (block_of c.args.func.now (slice_index c.args.block.now.succs c.args.index))) c.block.view_is in
    record {
      block = f ∙ ap (λ x. position (λ b. b.id == x) c.args.func.now.blocks) e;
      place = edge_is c.args.block.now c.args.index c.number_at-to.result c.edge_place.result c.rank-rank.result (block_of c.args.func.now (slice_index c.args.block.now.succs c.args.index)) e r n;
    }
