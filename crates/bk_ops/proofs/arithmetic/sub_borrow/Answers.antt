use Rattle.std.proofs.Common.{◌%◌, ◌^◌, arith, nat_lt}
use Rattle.std.proofs.lemmas.Nat.{mod_below, pow_pos}
use Rattle.bk_ops.specs.Arithmetic.{as_bit}
use Rattle.bk_ops.proofs.Cut.{borrowed, bit_le, byte_is_bit}
use Rattle.bk_ops.proofs.arithmetic.sub_borrow.Goals as goal

pub returns : goal.returns
returns c =
    rw (c.sub-2.ensures, c.sub.ensures, byte_is_bit c.is_below.result, c.is_below.ensures)
    (borrowed c.args.w (c.args.x % 2 ^ c.args.w) (c.args.y % 2 ^ c.args.w) (as_bit (nat_lt (c.args.c % 2 ^ c.args.w) (c.args.d % 2 ^ c.args.w)))
    (omega arith) (mod_below c.args.y (2 ^ c.args.w) (pow_pos c.args.w)) (bit_le (nat_lt (c.args.c % 2 ^ c.args.w) (c.args.d % 2 ^ c.args.w))))
