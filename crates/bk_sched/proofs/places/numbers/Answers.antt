use Rattle.std.proofs.Common.{rules, ◌≡◌, ◌∙◌, sym, ap, length, map, arith}
use Rattle.bk_func.specs.Records.{ValueRecord}
use Rattle.bk_places.proofs.Filling.{item_at}
use Rattle.bk_sched.proofs.Placing.{known_none, known_more, known_all}
use Rattle.bk_sched.proofs.places.numbers.Goals as goal

pub loop-value-init : goal.loop-value-init
loop-value-init c =
    let same : c.in_ok-numbers.numbers.items ≡ map (λ (v : ValueRecord). v.id) c.args.block.now.values = search rules in
    known_none c.args.block.now.values c.in_ok-numbers.numbers.items same

pub loop-value-preserved : goal.loop-value-preserved
loop-value-preserved c =
    let same = c.deref-value-items.ensures.value ∙ ap (λ b. b.values) c.block.view_is in
    known_more c.args.block.now.values c.loop-value.value-index c.loop-value.numbers.items c.push_number.new.numbers.items c.value-item.result c.memory_argument-named.result c.loop-value.invariant
    (item_at same c.loop-value.value-index c.value-item.result c.loop-value-test.true c.value-item.is) c.memory_argument-named.ensures c.in_ok-push_number.ensures

pub returns : goal.returns
returns c =
    let same = c.deref-value-items.ensures.value ∙ ap (λ b. b.values) c.block.view_is in
    let over : length c.args.block.now.values ≡ c.loop-value.value-index = sym (ap length same) ∙ (omega arith) in
    known_all c.args.block.now.values c.loop-value.value-index c.loop-value.numbers.items c.loop-value.invariant (omega (arith, over))
