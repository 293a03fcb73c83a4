use Rattle.std.proofs.Common.{◌≡◌, ◌<◌, ◌∙◌, List, ℕ, ap, sym, subst, length, length-append, arith, drop, vec_len}
use Rattle.bk_mean.specs.Left.{GoesOn}
use Rattle.bk_mean.proofs.Turning.{changed_from}
use Rattle.bk_mean.proofs.machine.go_in.Goals as goal

pub returns : goal.returns
returns c =
    let v = c.deref_mut.ensures.value in
    let b : c.split_at_mut-own.result.1.now ≡ drop c.args.call.now.base c.args.numbers.now.items = c.split_at_mut-own.ensures.back ∙ ap (drop c.args.call.now.base) v in
    record {
      last = c.go_on.new.numbers;
      on = λ k s ek es l.
          subst (λ (z : List ℕ). GoesOn c.args.target c.args.func.now c.args.ready.now k s (record { call = c.args.call.now; numbers = z; hand = c.args.hand.now.items })
          (record { call = c.go_on.new.call; numbers = c.go_on.new.numbers; hand = c.go_on.new.hand.items }) c.args.window.now.items c.go_on.new.window.items c.in_ok-next.next) b
          (c.in_ok-next.ensures k s ek es (subst (λ (z : List ℕ). length c.args.ready.now.values.items < length z) (sym b) l));
      numbers = changed_from c.split_at_mut-own.result.0.now c.go_on.new.numbers c.deref_mut.result.now c.args.numbers.now.items c.args.call.now.base (vec_len c.args.numbers.now) v c.args.numbers.now.ok.0 c.split_at_mut-own.ensures.front (omega (arith, length-append {A = ℕ}));
    }
