use Rattle.std.proofs.Common.{◌<◌, ◌-◌, ◌*◌, length, arith}
use Rattle.std.specs.List.{sum}
use Rattle.bk_fixup.proofs.Growing.{below_next, below_ones}
use Rattle.bk_fixup.proofs.Passing.{settled, sum_most}
use Rattle.bk_fixup.proofs.sizes.settle.Goals as goal

pub returns-then-lengthen-eq0 : goal.returns-then-lengthen-eq0
returns-then-lengthen-eq0 c = settled c.args.branches.now c.loop.sizes c.lengthen.new.sizes c.loop.invariant.below (c.lengthen.ensures.settled c.if-lengthen-eq0.true) (c.lengthen.ensures.same c.if-lengthen-eq0.true)

pub loop-smaller : goal.loop-smaller
loop-smaller c =
    let below = below_next c.args.branches.now c.loop.sizes c.lengthen.new.sizes c.loop.invariant.below c.lengthen.ensures.next in
    let most = sum_most c.args.branches.now c.lengthen.new.sizes below.sizes in
    let fact : 3 * length c.args.branches.now - sum c.lengthen.new.sizes < 3 * length c.args.branches.now - sum c.loop.sizes =
    omega (arith, most, c.lengthen.ensures.count, c.if-lengthen-eq0.false) in fact

pub loop-preserved : goal.loop-preserved
loop-preserved c = record {
  room = omega (arith, c.sum_up.ensures.long, c.lengthen.ensures.next.long);
  below = below_next c.args.branches.now c.loop.sizes c.lengthen.new.sizes c.loop.invariant.below c.lengthen.ensures.next;
}

pub loop-init : goal.loop-init
loop-init c = record {
  room = c.requires.room;
  below = below_ones c.args.branches.now c.args.sizes.now c.requires.ones;
}
