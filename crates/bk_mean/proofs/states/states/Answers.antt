use Rattle.std.proofs.Common.{◌≡◌, ◌+◌, ◌-◌, ◌++◌, ◌<◌, ◌∙◌, ap, sym, arith}
use Rattle.std.specs.Prelude.{option_map}
use Rattle.std.specs.Ordering.{nat_cmp}
use Rattle.std.specs.BTreeMap.{get}
use Rattle.bk_mean.specs.Memories.{walked}
use Rattle.bk_mean.proofs.Dated.{walked_more, walked_end, walked_stop}
use Rattle.bk_mean.proofs.states.states.Goals as goal
use Rattle.bk_mean.proofs.states.states.Goals.{in-Some-get, in-None, else-loop-test, then-loop-test+in_default}

pub loop-preserved : goal.loop-preserved
loop-preserved c =
    let h : c.loop.counter < c.args.count + 1 = omega arith in
    let g : c.match-get.state ≡ option_map (λ k. c.args.first + k) (get nat_cmp c.args.next.now c.in-Some.place) = elim c.match-get.branch [
      | in-Some-get w ↦ w.state-is ∙ ap (option_map (λ k. c.args.first + k)) w.in-Some-get.ensures.value
      | in-None w ↦ w.state-is ∙ ap (option_map (λ k. c.args.first + k)) w.in-None.ensures.value
    ] in
    walked_more (λ s. option_map (λ k. c.args.first + k) (get nat_cmp c.args.next.now s)) (c.args.count + 1) c.loop.counter c.in-Some.place c.loop.states.items c.push.new.self.items
    (walked (λ s. option_map (λ k. c.args.first + k) (get nat_cmp c.args.next.now s)) (c.args.count + 1) c.args.beginning) c.match-get.state h c.in_ok-push.ensures.items g
    (ap (λ o. c.loop.states.items ++ walked (λ s. option_map (λ k. c.args.first + k) (get nat_cmp c.args.next.now s)) (c.args.count + 1 - c.loop.counter) o) (sym c.in-Some.is) ∙ c.loop.invariant)

pub returns : goal.returns
returns c =
    elim c.loop-test.branch [
      | else-loop-test w ↦ walked_end (λ s. option_map (λ k. c.args.first + k) (get nat_cmp c.args.next.now s)) (c.args.count + 1) c.loop.counter c.loop.states.items
          (walked (λ s. option_map (λ k. c.args.first + k) (get nat_cmp c.args.next.now s)) (c.args.count + 1) c.args.beginning) c.loop.state (omega (arith, w.loop-test.false)) c.loop.invariant
      | then-loop-test+in_default w ↦ walked_stop (λ s. option_map (λ k. c.args.first + k) (get nat_cmp c.args.next.now s)) (c.args.count + 1 - c.loop.counter) c.loop.states.items
          (walked (λ s. option_map (λ k. c.args.first + k) (get nat_cmp c.args.next.now s)) (c.args.count + 1) c.args.beginning) c.loop.state w.in_default.is c.loop.invariant
    ]
