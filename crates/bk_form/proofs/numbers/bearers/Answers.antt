use Rattle.std.proofs.Common.{◌∙◌, ap, arith, rules}
use Rattle.std.specs.BTreeMap.{get}
use Rattle.std.specs.Ordering.{nat_cmp}
use Rattle.bk_form.specs.Numbers.{bearer, one_more}
use Rattle.bk_form.proofs.Bearers.{bearer_more}
use Rattle.bk_form.proofs.numbers.bearers.Goals as goal

pub loop-place-init : goal.loop-place-init
unfolding bearer
loop-place-init c = search rules

pub loop-place-preserved : goal.loop-place-preserved
loop-place-preserved c =
    let i = c.loop-place.place in
    bearer_more c.args.ids.now i (λ n. get nat_cmp c.loop-place.bearers n) (λ n. get nat_cmp c.insert.new.self n) c.one_more-bearer.result
    (omega arith) c.loop-place.invariant
    (c.one_more-bearer.ensures ∙ ap (λ o. one_more o i) (c.copied.ensures ∙ c.get.ensures.value))
    c.in_ok-insert.ensures.updates.0
