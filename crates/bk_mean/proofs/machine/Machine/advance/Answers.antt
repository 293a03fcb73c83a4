use Rattle.std.proofs.Common.{rules, refl, ◌≡◌, sym, ◌∙◌, ap, ℕ, []}
use Rattle.std.specs.Prelude.{Vec}
use Rattle.std.specs.declared.alloc.Global.{Global}
use Rattle.bk_mean.specs.declared.machine.Activation.{Activation}
use Rattle.bk_mean.specs.declared.turn.Next.TheVariants as next
use Rattle.bk_mean.specs.Running.{held}
use Rattle.bk_mean.proofs.Turning.{advanced_on, advanced_back, advanced_none}
use Rattle.bk_mean.proofs.machine.Machine.advance.Goals as goal

pub returns-then-not-is_return-clause-advanced : goal.returns-then-not-is_return-clause-advanced
returns-then-not-is_return-clause-advanced c =
    let n : ¬ (c.in_ok-next.next ≡ next.Return) = λ z. (let y = c.is_return.ensures.1 z in let q = c.if-not-is_return.true in cc) in
    c.loop-call.invariant.onward _ _
    (advanced_on _ _ _ _ (held c.loop-call.self) _ c.pop.new.self.items c.in-Some.call c.go.new.call c.in_ok-next.next (sym c.loop-call.invariant.target) c.in-Some.ensures.items c.in_ok-push.ensures.items c.in_ok-next.ensures n)

pub loop-call-preserved : goal.loop-call-preserved
loop-call-preserved c =
    let z : c.in_ok-next.next ≡ next.Return = c.is_return.ensures.0 (search rules) in
    record {
      target = c.end.ensures.target ∙ c.loop-call.invariant.target;
      onward = λ e x rest.
          c.loop-call.invariant.onward e x
          (advanced_back _ _ _ _ (held c.loop-call.self) (record { window = c.go.new.window.items; hand = c.go.new.hand.items; numbers = c.go.new.numbers.items; calls = c.pop.new.self.items }) (held c.end.new.self) e c.pop.new.self.items c.in-Some.call c.go.new.call c.in_ok-next.next x
          (sym c.loop-call.invariant.target) c.in-Some.ensures.items (ap (λ (v : Vec Activation Global). v.items) c.end.ensures.calls) c.in_ok-next.ensures z c.end.ensures.ended (ap (λ (v : Vec ℕ Global). v.items) c.end.ensures.window) rest);
    }

pub returns-clause-advanced : goal.returns-clause-advanced
returns-clause-advanced c =
    let e : c.loop-call.self.calls.items ≡ [] = search rules in
    let f : c.pop.new.self.items ≡ [] = search rules in
    c.loop-call.invariant.onward _ _ (advanced_none _ _ _ (held c.loop-call.self) _ e f refl refl refl)
