use Rattle.std.proofs.Common.{rules, ◌≡◌, ◌+◌, ◌<◌, ◌≤◌, List, ℕ, [], sym, ◌∙◌, ap, subst, arith, length, drop, get_or}
use Rattle.std.proofs.Math.ListN.{drop_of_length-le}
use Rattle.bk_mean.specs.declared.machine.Activation.{Activation}
use Rattle.bk_mean.specs.declared.step.After.TheVariants.{On}
use Rattle.bk_mean.specs.declared.step.CallWords.{CallWords}
use Rattle.bk_mean.specs.Turned.{Stage, Ground, Turned, all}
use Rattle.bk_mean.proofs.Turning.{gone, turn_ends, turn_on, turn_none}
use Rattle.bk_mean.proofs.turn.turns.Goals as goal
use Rattle.bk_mean.proofs.turn.turns.Goals.{in-Some+else-not-is_on, in_default}

pub returns-then-not-is_on-clause-turned : goal.returns-then-not-is_on-clause-turned
returns-then-not-is_on-clause-turned c =
    let t = rw c.in-Some.is at c.in_ok-turn.ensures in
    let h : c.loop-at.at < length c.args.course.now.order.items = grind arith in
    let k : c.index-local.result.now ≡ get_or c.args.course.now.order.items c.loop-at.at c.index-local.result.now = search rules in
    let o : ¬ (c.in-Some.after ≡ On) = λ z. (let y = c.is_on.ensures.1 z in let q = c.if-not-is_on.true in cc) in
    c.loop-at.invariant.onward (record { numbers = c.turn.new.numbers; window = c.turn.new.window.items; words = c.turn.new.words }) (drop (c.loop-at.at + 1) c.args.course.now.order.items) c.in-Some.place c.in-Some.after
    (turn_ends _ _ _ _ c.args.course.now.order.items c.loop-at.at c.index-local.result.now c.in-Some.place c.in-Some.after _ _ h k t o)

pub loop-at-preserved : goal.loop-at-preserved
loop-at-preserved c =
    let h : c.loop-at.at < length c.args.course.now.order.items = grind arith in
    let k : c.index-local.result.now ≡ get_or c.args.course.now.order.items c.loop-at.at c.index-local.result.now = search rules in
    let g : Ground = record { target = c.args.given.target; args = c.args.given.args.now } in
    elim c.match-turn.branch [
      | in-Some+else-not-is_on w ↦
          let t = rw w.in-Some.is at c.in_ok-turn.ensures in
          let o : w.in-Some.after ≡ On = w.is_on.ensures.0 (search rules) in
          record {
            next = ap (λ (a : Activation). a.next) w.call-is;
            call = gone c.args.call.now c.loop-at.call c.match-turn.call _ _ _ c.loop-at.invariant.call w.call-is;
            onward = λ d rest last y u.
                c.loop-at.invariant.onward d rest last y
                (turn_on g c.args.block.now c.args.course.now.first c.args.values.now c.args.course.now.order.items c.loop-at.at c.index-local.result.now w.in-Some.place w.in-Some.after
                (record { numbers = c.loop-at.numbers; window = c.loop-at.window.items; words = c.loop-at.call.words }) (record { numbers = c.turn.new.numbers; window = c.turn.new.window.items; words = c.turn.new.words }) h k t o d rest last y
                (subst (λ (ws : CallWords). Turned g c.args.block.now c.args.course.now.first c.args.values.now (drop (c.loop-at.at + 1) c.args.course.now.order.items) (record { numbers = c.turn.new.numbers; window = c.turn.new.window.items; words = ws }) d rest last y)
                (ap (λ (a : Activation). a.words) w.call-is) u));
          }
      | in_default w ↦
          let t = rw w.in_default.is at c.in_ok-turn.ensures in
          record {
            next = ap (λ (a : Activation). a.next) w.call-is;
            call = gone c.args.call.now c.loop-at.call c.match-turn.call _ _ _ c.loop-at.invariant.call w.call-is;
            onward = λ d rest last y u.
                c.loop-at.invariant.onward d rest last y
                (turn_none g c.args.block.now c.args.course.now.first c.args.values.now c.args.course.now.order.items c.loop-at.at c.index-local.result.now
                (record { numbers = c.loop-at.numbers; window = c.loop-at.window.items; words = c.loop-at.call.words }) (record { numbers = c.turn.new.numbers; window = c.turn.new.window.items; words = c.turn.new.words }) h k t d rest last y
                (subst (λ (ws : CallWords). Turned g c.args.block.now c.args.course.now.first c.args.values.now (drop (c.loop-at.at + 1) c.args.course.now.order.items) (record { numbers = c.turn.new.numbers; window = c.turn.new.window.items; words = ws }) d rest last y)
                (ap (λ (a : Activation). a.words) w.call-is) u));
          }
    ]

pub returns-clause-turned : goal.returns-clause-turned
returns-clause-turned c =
    let g : Ground = record { target = c.args.given.target; args = c.args.given.args.now } in
    let now : Stage = record { numbers = c.loop-at.numbers; window = c.loop-at.window.items; words = c.loop-at.call.words } in
    let start : Stage = record { numbers = c.args.numbers.now; window = c.args.window.now.items; words = c.args.call.now.words } in
    let l : length c.args.course.now.order.items ≤ c.loop-at.at = grind arith in
    let e : drop c.loop-at.at c.args.course.now.order.items ≡ [] = drop_of_length-le c.args.course.now.order.items l in
    let r : drop c.loop-at.call.next c.args.course.now.order.items ≡ [] = ap (λ n. drop n c.args.course.now.order.items) c.loop-at.invariant.next ∙ e in
    subst (λ (ks : List ℕ). Turned g c.args.block.now c.args.course.now.first c.args.values.now (drop c.args.call.now.next c.args.course.now.order.items) start now ks c.loop-at.call.called_by On) (sym r)
    (c.loop-at.invariant.onward now [] c.loop-at.call.called_by On (subst (λ (ks : List ℕ). Turned g c.args.block.now c.args.course.now.first c.args.values.now ks now now [] c.loop-at.call.called_by On) (sym e) (all now c.loop-at.call.called_by)))
