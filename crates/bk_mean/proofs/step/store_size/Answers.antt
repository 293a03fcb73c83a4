use Rattle.std.proofs.Common.{◌≡◌, sym, ◌∙◌, true, false}
use Rattle.bk_mean.specs.Step.{is_store, is_byte_store}
use Rattle.bk_mean.proofs.Sizes.{size_store, size_byte, size_other}
use Rattle.bk_mean.proofs.step.store_size.Goals as goal

pub returns-then-is_store : goal.returns-then-is_store
returns-then-is_store c =
    let h : is_store c.args.op.family ≡ true = cc in
    c.size_beside.ensures ∙ sym (size_store c.args.target c.args.aux c.args.op c.args.op.family h)

pub returns-then-is_byte_store : goal.returns-then-is_byte_store
returns-then-is_byte_store c =
    let h : is_byte_store c.args.op.family ≡ true = cc in
    sym (size_byte c.args.target c.args.aux c.args.op c.args.op.family h)

pub returns : goal.returns
returns c =
    let h : is_store c.args.op.family ≡ false = cc in
    let k : is_byte_store c.args.op.family ≡ false = cc in
    c.from.ensures ∙ sym (size_other c.args.target c.args.aux c.args.op c.args.op.family h k)
