-- one place more is looked at
use Rattle.std.proofs.Common.{◌<◌, length, None, arith, get_or}
use Rattle.std.proofs.lemmas.List.{get_or_default}
use Rattle.std.proofs.lemmas.List.Edits.{map_over_more}
use Rattle.bk_alloc.specs.Ahead.{uses_from}
use Rattle.bk_alloc.specs.Registers.{while_used}
use Rattle.bk_alloc.proofs.registers.open_unused.Goals as goal

pub loop-other-preserved : goal.loop-other-preserved
loop-other-preserved c =
    let i = c.loop-other.other-index in
    let f = while_used (uses_from c.args.ahead.now) in
    let l : i < length c.loop-other.held = omega arith in
    rw c.while_used.ensures
    (map_over_more f c.args.held.now c.loop-other.held i (get_or c.loop-other.held i None) (omega arith) c.loop-other.invariant
    (get_or_default c.loop-other.held i None (get_or c.loop-other.held i None) l))
