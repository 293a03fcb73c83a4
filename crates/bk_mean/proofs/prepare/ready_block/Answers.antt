use Rattle.std.proofs.Common.{rules, refl, ◌≡◌, ◌^◌, ◌<◌, ◌∙◌, ap, subst, arith, List, length}
use Rattle.std.specs.List.{All}
use Rattle.bk_func.specs.Records.{ValueRecord, BlockRecord}
use Rattle.bk_mean.specs.Memories.{IsArranged}
use Rattle.bk_mean.specs.Ready.{control_place}
use Rattle.bk_mean.proofs.Ordered.{ordered_is}
use Rattle.bk_mean.proofs.prepare.ready_block.Goals as goal

pub order-requires : goal.order-requires
order-requires c =
    let n : length c.deref.result.now ≡ length c.args.block.now.values = search rules in
    let w = c.requires.within in
    let r = c.requires.numbering.roots.length in
    let l : length c.args.numbering.now.roots.items < 2 ^ 63 = search rules in
    omega (arith, n, w, r, l)

pub returns : goal.returns
returns c =
    let e : c.deref.result.now ≡ c.args.block.now.values = search rules in
    let w = c.requires.within in
    let r = c.requires.numbering.roots.length in
    let l : length c.args.numbering.now.roots.items < 2 ^ 63 = search rules in
    let P : List ValueRecord → Type 0 = λ vs. All (λ k. k < length vs) c.in_ok-order.order.items in
    let Q : List ValueRecord → Type 0 = λ vs. IsArranged c.args.numbering.now c.args.first vs c.in_ok-order.order.items in
    record {
      first = refl;
      order = ordered_is c.args.func.now c.args.numbering.now c.requires.numbering c.args.block.now c.args.first c.requires.stands c.in_ok-order.order.items (omega (arith, w, r, l)) (subst P e c.in_ok-order.ensures.within) (subst Q e c.in_ok-order.ensures.arranged);
      phis = search rules;
      control = c.control-control.ensures c.args.func.now c.requires.numbering ∙ ap (λ (b : BlockRecord). control_place c.args.func.now b.control) c.block.view_is;
      edge = c.edge_at-edge.ensures c.requires.numbering;
      other = c.edge_at-other.ensures c.requires.numbering;
    }
