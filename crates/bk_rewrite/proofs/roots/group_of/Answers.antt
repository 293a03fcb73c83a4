use Rattle.std.proofs.Common.{refl, arith, length}
use Rattle.std.proofs.lemmas.Option.{slice_get_read}
use Rattle.bk_rewrite.proofs.Rooted.{no_group_here, no_groups}
use Rattle.bk_rewrite.proofs.roots.group_of.Goals as goal

pub returns-then-same_op-clause-found : goal.returns-then-same_op-clause-found
returns-then-same_op-clause-found c = (
  c.index-groups-place.result,
  slice_get_read c.args.groups.now (length c.args.groups.now) c.loop-place.place c.index-groups-place.result refl (omega arith) c.index-groups-place.is,
  c.same_op.ensures.same c.if-same_op.true,
)

pub loop-place-preserved : goal.loop-place-preserved
loop-place-preserved c =
    no_group_here c.args.groups.now c.args.op c.loop-place.place c.index-groups-place.result
    (slice_get_read c.args.groups.now (length c.args.groups.now) c.loop-place.place c.index-groups-place.result refl (omega arith) c.index-groups-place.is)
    (c.same_op.ensures.other c.if-same_op.false) c.loop-place.invariant

pub returns-clause-none : goal.returns-clause-none
returns-clause-none c = no_groups c.args.groups.now c.args.op c.loop-place.place (omega arith) c.loop-place.invariant
