use Rattle.std.proofs.Common.{◌≡◌, ◌<◌, ◌≤◌, ◌∙◌, ap, get_or, length, ℕ, List, arith}
use Rattle.bk_live.specs.Rows.{with_live}
use Rattle.bk_live.specs.Search.{distance}
use Rattle.bk_live.proofs.Rowing.{adds_first, adds_next, adds_all}
use Rattle.bk_live.proofs.rows.Rows.add_all.Goals as goal

pub loop-place-init : goal.loop-place-init
loop-place-init c = adds_first c.args.value c.args.search.now c.args.search.now.reached.items c.args.self.now

pub loop-place-preserved : goal.loop-place-preserved
loop-place-preserved c =
    let s = c.args.search.now in
    let i = c.loop-place.place-index in
    let same : c.deref-place-items.result.now ≡ s.reached.items = c.deref-place-items.ensures.value in
    let inside : i < length s.reached.items = omega (arith, ap length same, c.loop-place-test.true) in
    adds_next c.args.value s s.reached.items i c.args.self.now c.loop-place.self c.add.new.self c.requires.apart inside
    (c.in_ok-add.ensures
    ∙ (ap (with_live c.loop-place.self (get_or c.deref-place-items.result.now i 0) c.args.value) c.distance.ensures
    ∙ ap (λ (us : List ℕ). with_live c.loop-place.self (get_or us i 0) c.args.value (distance s (get_or us i 0))) same))
    c.loop-place.invariant

pub returns : goal.returns
returns c =
    let s = c.args.search.now in
    let over : length s.reached.items ≤ c.loop-place.place-index = omega (arith, ap length c.deref-place-items.ensures.value, c.loop-place-test.false) in
    adds_all c.args.value s s.reached.items c.loop-place.place-index c.args.self.now c.loop-place.self over c.requires c.loop-place.invariant
