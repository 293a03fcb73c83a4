use Rattle.std.proofs.Common.{rules, ◌≡◌, ◌<◌, ◌∙◌, ap, arith, length, not}
use Rattle.bk_mean.proofs.Readying.{made_already, made_now, none_at, some_at}
use Rattle.bk_mean.proofs.evaluate.make_ready.Goals as goal
use Rattle.bk_mean.proofs.evaluate.make_ready.Goals.{else-place-len-via-then-place-len+else-is_none, else-place-len-via-else-place-len}

pub returns-in_ok-ready : goal.returns-in_ok-ready
returns-in_ok-ready c =
    let l : c.args.place < length c.args.readies.now.items = search rules in
    made_now c.args.symbols.now c.args.func.now c.args.place c.args.readies.now.items c.in_ok-ready.ready l
    (none_at c.args.readies.now.items c.args.place c.index.result.now l c.index.ensures (c.is_none.ensures ∙ ap not c.if-is_none.true)) (λ p n. c.in_ok-ready.ensures p n)

pub returns-else-place-len : goal.returns-else-place-len
returns-else-place-len c =
    let n : c.len.result ≡ length c.args.readies.now.items = search rules in
    made_already c.args.symbols.now c.args.func.now c.args.place c.args.readies.now.items
    (elim c.else-place-len.branch [
      | else-place-len-via-then-place-len+else-is_none w ↦ λ l. some_at c.args.readies.now.items c.args.place w.index.result.now l w.index.ensures (w.is_none.ensures ∙ ap not w.if-is_none.false)
      | else-place-len-via-else-place-len w ↦ λ l. let k = w.if-place-len.false in absurd (omega (arith, l, k, n))
    ])
