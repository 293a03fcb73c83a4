use Rattle.std.proofs.Common.{◌∙◌, ap, arith}
use Rattle.std.specs.BTreeMap.{get}
use Rattle.std.specs.Option.{unwrap_or}
use Rattle.std.specs.Ordering.{nat_cmp}
use Rattle.bk_graph.proofs.Firsts.{firsts_more}
use Rattle.bk_graph.proofs.places.Places.new.Goals as goal

pub loop-place-preserved : goal.loop-place-preserved
loop-place-preserved c =
    let i = c.loop-place.place in
    firsts_more c.args.numbers.now i (λ n. get nat_cmp c.loop-place.places n) (λ n. get nat_cmp c.insert.new.self n) c.first_place-first.result
    (omega arith) c.loop-place.invariant
    (c.first_place-first.ensures ∙ ap (λ o. unwrap_or o i) (c.copied.ensures ∙ c.get.ensures.value))
    c.in_ok-insert.ensures.updates.0
