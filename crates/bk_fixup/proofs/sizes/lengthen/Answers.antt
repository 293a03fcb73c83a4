use Rattle.std.proofs.Common.{arith}
use Rattle.bk_fixup.proofs.Gains.{known_few}
use Rattle.bk_fixup.proofs.Passing.{lack_is, part_step_as}
use Rattle.bk_fixup.proofs.sizes.lengthen.Goals as goal

pub lack-more-requires : goal.lack-more-requires
lack-more-requires c =
    let end = c.requires.ends.each c.loop-place.place c.loop-place-test.true in (
      known_few c.args.branches.now c.args.ends.now c.args.gains.now c.args.sizes.now c.loop-place.place c.requires (omega arith),
      known_few c.args.branches.now c.args.ends.now c.args.gains.now c.args.sizes.now _ c.requires end.within,
    )

pub loop-place-preserved : goal.loop-place-preserved
loop-place-preserved c =
    let is = lack_is c.args.branches.now c.args.ends.now c.args.gains.now c.args.sizes.now c.loop-place.sizes c.loop-place.place c.lack-more.result c.requires c.loop-place-test.true (c.loop-place.invariant.left c.loop-place.place (omega arith)) c.lack-more.ensures.value in
    part_step_as c.args.branches.now c.args.sizes.now c.loop-place.sizes c.loop-place.place c.loop-place.count c.lack-more.result c.from-count.result (omega arith) c.requires.sizes.long c.loop-place.auto.sizes c.loop-place-test.true c.loop-place.invariant is
