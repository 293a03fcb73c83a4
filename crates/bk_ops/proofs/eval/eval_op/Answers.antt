use Rattle.std.proofs.Common.{◌≡◌, ◌∙◌, sym, ap, None, w64}
use Rattle.std.proofs.lemmas.Int.{to_z-of_z}
use Rattle.bk_ops.specs.Values.{op_value, pure_value}
use Rattle.bk_ops.proofs.Ignored.{sized_value}
use Rattle.bk_ops.proofs.Pure.{pure_of, unnamed}
use Rattle.bk_ops.proofs.eval.eval_op.Goals as goal

pub returns-then-is_named : goal.returns-then-is_named
returns-then-is_named c =
    let e : c.by_count.result ≡ pure_value c.args.op c.args.int c.args.args.now c.args.target =
    c.by_count.ensures
    ∙ ap (λ z. op_value c.sized.result z c.args.args.now c.args.target) (to_z-of_z w64 c.args.int c.ranges.int)
    ∙ sized_value c.args.op c.sized.result c.args.int c.args.target c.args.args.now (sym c.if-is_named.ensures.is) c.sized.ensures.same in
    record { value = e; pure = pure_of c.args.op c.args.int c.args.args.now c.args.target c.by_count.result e }

pub returns-else-is_named : goal.returns-else-is_named
returns-else-is_named c =
    let e : None ≡ pure_value c.args.op c.args.int c.args.args.now c.args.target = unnamed c.args.op c.args.int c.args.args.now c.args.target (sym c.if-is_named.ensures.is) in
    record { value = e; pure = pure_of c.args.op c.args.int c.args.args.now c.args.target None e }
