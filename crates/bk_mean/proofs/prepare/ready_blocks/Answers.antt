use Rattle.std.proofs.Common.{rules, ◌≡◌, ◌+◌, ◌^◌, ◌∙◌, sym, ap, length, ◌<◌, arith, subst, get_or}
use Rattle.bk_mean.specs.Ready.{AreReadyBlocks}
use Rattle.bk_mean.proofs.Prepared.{blocks_more, count_more, count_under, get_at}
use Rattle.bk_mean.proofs.prepare.ready_blocks.Goals as goal

pub ready_block-requires-clause-stands : goal.ready_block-requires-clause-stands
ready_block-requires-clause-stands c =
    let h : c.loop-block.block-index < length c.args.func.now.blocks = grind arith in
    let e : c.block-item.result ≡ get_or c.args.func.now.blocks c.loop-block.block-index c.block-item.result = search rules in
    record { index = c.loop-block.block-index; block = get_at c.args.func.now.blocks c.loop-block.block-index c.block-item.result h e; count_is = c.loop-block.invariant.first }

pub ready_block-requires-clause-within : goal.ready_block-requires-clause-within
ready_block-requires-clause-within c =
    let h : c.loop-block.block-index < length c.args.func.now.blocks = grind arith in
    let e : c.block-item.result ≡ get_or c.args.func.now.blocks c.loop-block.block-index c.block-item.result = search rules in
    let n = count_more c.args.func.now.blocks c.loop-block.block-index c.block-item.result h e in
    let u = count_under c.args.func.now.blocks (c.loop-block.block-index + 1) in
    let f = c.loop-block.invariant.first in
    omega (arith, n, u, f)

pub end-first-requires : goal.end-first-requires
end-first-requires c =
    let h : c.loop-block.block-index < length c.args.func.now.blocks = grind arith in
    let e : c.block-item.result ≡ get_or c.args.func.now.blocks c.loop-block.block-index c.block-item.result = search rules in
    let n = count_more c.args.func.now.blocks c.loop-block.block-index c.block-item.result h e in
    let u = count_under c.args.func.now.blocks (c.loop-block.block-index + 1) in
    let f = c.loop-block.invariant.first in
    let r = c.requires.roots.length in
    let l : length c.args.numbering.now.roots.items < 2 ^ 63 = search rules in
    omega (arith, n, u, f, r, l)

pub loop-block-preserved : goal.loop-block-preserved
loop-block-preserved c =
    let h : c.loop-block.block-index < length c.args.func.now.blocks = grind arith in
    let e : c.block-item.result ≡ get_or c.args.func.now.blocks c.loop-block.block-index c.block-item.result = search rules in
    record {
      first = c.end-first.ensures ∙ ap (λ k. k + length c.block-item.result.values) c.loop-block.invariant.first ∙ sym (count_more c.args.func.now.blocks c.loop-block.block-index c.block-item.result h e);
      blocks =
          subst (λ rs. AreReadyBlocks c.args.func.now c.args.func.now.blocks (c.loop-block.block-index + 1) rs) (sym c.in_ok-push.ensures.items)
          (blocks_more c.args.func.now c.args.func.now.blocks c.loop-block.block-index c.loop-block.first c.block-item.result c.loop-block.list.items c.in_ok-ready_block.field-0 h e c.loop-block.invariant.first
          c.loop-block.invariant.blocks c.in_ok-ready_block.ensures);
    }
