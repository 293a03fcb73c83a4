use Rattle.std.proofs.Common.{sym, take, subst, ◌∙◌, ap}
use Rattle.std.specs.Str.Parse.{AllDigits}
use Rattle.bk_dump.proofs.Numbers.{front_digits}
use Rattle.bk_dump.proofs.read.number.decimal.Goals as goal

pub value-requires : goal.value-requires
value-requires c = subst (AllDigits 10) (sym (c.split_at.ensures.front ∙ ap (λ n. take n c.args.text.now) c.digits_len-len.ensures.value)) (front_digits c.args.text.now)
