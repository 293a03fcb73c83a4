use Rattle.std.proofs.Common.{List, drop, subst}
use Rattle.bk_mean.specs.declared.machine.Activation.{Activation}
use Rattle.bk_mean.specs.declared.ready.ReadyValue.{ReadyValue}
use Rattle.bk_mean.specs.Left.{Goes}
use Rattle.bk_mean.specs.Turned.{Turned}
use Rattle.std.proofs.Common.{refl}
use Rattle.bk_mean.proofs.turn.run_block.Goals as goal

pub returns : goal.returns
returns c = record {
  stage = record { numbers = c.turns.new.numbers; window = c.turns.new.window.items; words = c.turns.new.call.words };
  at = c.turns.new.call.next;
  by = c.turns.new.call.called_by;
  after = c.in_ok-after.after;
  turned = subst (λ (vs : List ReadyValue). Turned (record { target = c.args.given.target; args = c.args.given.args.now }) c.args.block.now c.args.course.now.first vs (drop c.args.call.now.next c.args.course.now.order.items)
      (record { numbers = c.args.numbers.now; window = c.args.window.now.items; words = c.args.call.now.words }) (record { numbers = c.turns.new.numbers; window = c.turns.new.window.items; words = c.turns.new.call.words })
      (drop c.turns.new.call.next c.args.course.now.order.items) c.turns.new.call.called_by c.in_ok-after.after) c.deref.ensures.value c.in_ok-after.ensures.turned;
  window = refl;
  went = subst (λ (z : Activation). Goes c.in_ok-after.after c.args.block.now.kind c.args.scene.func.now.sig c.args.scene.ready.now c.args.course.now (record { call = z; numbers = c.turns.new.numbers; hand = c.args.hand.now.items })
      (record { call = c.follow.new.call; numbers = c.follow.new.numbers; hand = c.follow.new.hand.items }) c.in_ok-next.next) c.in_ok-after.ensures.call c.in_ok-next.ensures;
}
