use Rattle.std.proofs.Common.{◌≡◌, sym, arith, map, length, slice_index, ◌≤◌}
use Rattle.std.proofs.lemmas.List.{length-map}
use Rattle.bk_mean.proofs.Many.{too_many}
use Rattle.bk_mean.proofs.number.computed.Goals as goal

pub returns-in_default : goal.returns-in_default
returns-in_default c =
    let e : length (map (slice_index c.args.numbers.now) c.args.args.now) ≡ length c.args.args.now = simp length-map in
    let l : 5 ≤ length (map (slice_index c.args.numbers.now) c.args.args.now) = omega (arith, e, c.in_default.len_at_least) in
    sym (too_many c.args.op c.args.int c.args.target (map (slice_index c.args.numbers.now) c.args.args.now) l)
