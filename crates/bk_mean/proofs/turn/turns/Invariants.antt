use Rattle.std.proofs.Common.{◌≡◌, List, ℕ, drop}
use Rattle.bk_mean.specs.declared.step.After.{After}
use Rattle.bk_mean.specs.Left.{going}
use Rattle.bk_mean.specs.Turned.{Stage, Turned}
use Rattle.bk_mean.proofs.turn.turns.Given as goal

abbrev pub invariant-loop-at : goal.invariant-loop-at
invariant-loop-at l = record {
  next : l.call.next ≡ l.at;
  call : l.call ≡ going l.initial.call l.call.next l.call.called_by l.call.words;
  onward : (d : Stage) (rest : List ℕ) (place : ℕ) (x : After) →
      Turned (record { target = l.given.target; args = l.given.args.now }) l.block l.course.first l.values (drop l.at l.course.order.items) (record { numbers = l.numbers; window = l.window.items; words = l.call.words }) d rest place x →
      Turned (record { target = l.given.target; args = l.given.args.now }) l.block l.course.first l.values (drop l.initial.at l.course.order.items) (record { numbers = l.initial.numbers; window = l.initial.window.items; words = l.initial.call.words }) d rest place x;
}
