use Rattle.std.proofs.Common.{◌≡◌, ◌∙◌, ◌-◌, ◌%◌, ◌^◌, ap, arith}
use Rattle.bk_ops.proofs.Cut.{neg_64}
use Rattle.bk_ops.proofs.arithmetic.neg.Goals as goal

pub returns : goal.returns
returns c =
    let e : c.wrapping_neg.result ≡ (18446744073709551616 - c.args.x) % 18446744073709551616 = omega arith in
    c.trunc.ensures ∙ ap (λ n. n % 2 ^ c.args.w) e ∙ neg_64 c.args.x c.args.w (omega arith) (omega arith)
