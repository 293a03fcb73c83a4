use Rattle.std.proofs.Common.{◌≡◌, ap, arith, length}
use Rattle.bk_sched.proofs.Turning.{low_behind}
use Rattle.bk_sched.proofs.turns.count_waits.Goals as goal

pub add_waits-requires : goal.add_waits-requires
add_waits-requires c = λ k d l.
    let size : length c.deref_mut.result.now ≡ length c.loop-place.waits.items = ap length c.deref_mut.ensures.value in
    let low = low_behind c.args.after.now c.requires c.loop-place.place c.behind.result.now c.behind.ensures k d l in
    omega (arith, low, size, c.loop-place.invariant.size)
