use Rattle.bk_form.proofs.Tables.{some_in}
use Rattle.bk_form.proofs.arity.takes_each.Goals as goal

pub returns-then-has_count : goal.returns-then-has_count
returns-then-has_count c = (
  (λ t. (c.has_count.ensures.0 c.if-has_count.true, (some_in c.args.value.now.args).0 (c.is_more.ensures.0 t))),
  (λ (same, some). c.is_more.ensures.1 ((some_in c.args.value.now.args).1 some)),
)
