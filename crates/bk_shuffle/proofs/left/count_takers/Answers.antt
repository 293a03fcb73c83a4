use Rattle.std.proofs.Common.{◌≡◌, ◌+◌, ◌∷◌, arith, ap, sym, ◌∙◌}
use Rattle.std.specs.Prelude.{count_by}
use Rattle.bk_shuffle.specs.Sequence.{place_of, takes_from}
use Rattle.bk_shuffle.proofs.Takers.{takers_cons}
use Rattle.bk_shuffle.proofs.Gathered.{count_more, free_counted}
use Rattle.bk_shuffle.proofs.left.count_takers.Goals as goal

pub loop-edge-preserved-then-from-place_of : goal.loop-edge-preserved-then-from-place_of
loop-edge-preserved-then-from-place_of c =
    let m = c.in-Some.edge.now in
    let apart : ¬ (place_of c.in-Some.edge.now.0 ≡ place_of c.in-Some.edge.now.1) = λ e. c.if-from-place_of.true (c.place_of-from.ensures ∙ (e ∙ sym c.place_of.ensures)) in
    let n : c.in-Some-checked_add.count ≡ c.count_of.result + 1 = c.in-Some-checked_add.ensures.1 in
    let k = n ∙ ap (λ x. x + 1) c.count_of.ensures in
    let rest : c.loop-edge.edge-iterator ≡ c.in-Some.edge.now ∷ c.next.new.self = c.in-Some.ensures.steps in
    record {
      counted = λ p.
          let a = c.loop-edge.invariant.counted p in
          let b = ap (λ xs. count_by (takes_from p) xs) rest ∙ takers_cons c.in-Some.edge.now c.next.new.self p in
          let d = count_more c.loop-edge.counts c.insert.new.self c.in-Some.edge.now p c.in-Some-checked_add.count c.place_of-from.result c.place_of-from.ensures apart k c.in_ok-insert.ensures.updates.0 in
          omega (arith, a, b, d);
      free =
          free_counted c.loop-edge.free c.remove.new.self c.args.left.now c.loop-edge.counts c.insert.new.self c.in-Some.edge.now c.in-Some-checked_add.count c.place_of-from.result c.place_of-from.ensures apart k
          c.in_ok-insert.ensures.updates.0 c.loop-edge.invariant.free c.remove.ensures.updates.0;
    }
