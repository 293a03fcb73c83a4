use Rattle.std.proofs.Common.{string_bytes, drop}
use Rattle.bk_top.proofs.Shown.{shown_end}
use Rattle.bk_top.proofs.rows.outcome.write_numbers.Goals as goal

pub returns-in_default : goal.returns-in_default
returns-in_default c =
    shown_end c.args.target (drop c.loop-place.place c.args.types.now) c.args.numbers.now c.loop-place.place (string_bytes c.loop-place.out) _ c.in_default.ensures.lookup.3 c.loop-place.invariant
