-- one place more is open
use Rattle.std.proofs.Common.{ℕ, ◌<◌, length, Option, None, arith, get_or}
use Rattle.std.proofs.lemmas.List.{get_or_default}
use Rattle.std.proofs.lemmas.List.Edits.{map_over_more}
use Rattle.bk_alloc.proofs.registers.open_all.Goals as goal

pub loop-other-preserved : goal.loop-other-preserved
loop-other-preserved c =
    let i = c.loop-other.other-index in
    let l : i < length c.loop-other.held = omega arith in
    map_over_more (λ (o : Option ℕ). None) c.args.held.now c.loop-other.held i (get_or c.loop-other.held i None) (omega arith) c.loop-other.invariant
    (get_or_default c.loop-other.held i None (get_or c.loop-other.held i None) l)
