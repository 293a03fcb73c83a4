use Rattle.std.proofs.Common.{rules, sym, ◌∙◌, ap, length, arith, ◌≡◌, ◌∷◌}
use Rattle.std.specs.Vec.Iter.{into_iter_items}
use Rattle.bk_dump.specs.Resolved.{value_of}
use Rattle.bk_dump.proofs.Each.{nothing_left, loop_starts, loop_goes_on, loop_ends, loop_refused}
use Rattle.bk_dump.proofs.read.scope.Scope.values_of.Goals as goal

pub loop-line-init : goal.loop-line-init
loop-line-init c = record {
  same = loop_starts (value_of c.args.self.now) c.in_ok-values.values.items (into_iter_items c.into_iter-line-iterator.result) c.args.lines.items c.in_ok-values.ensures.items c.into_iter-line-iterator.ensures.into_iter_gives.0;
  counted = search rules;
}

pub loop-line-preserved : goal.loop-line-preserved
loop-line-preserved c =
    let at = c.loop-line in
    let steps : into_iter_items at.line-iterator ≡ c.in-Some.line ∷ into_iter_items c.next.new.self = c.in-Some.ensures.steps.0 in
    record {
      same = loop_goes_on (value_of c.args.self.now) at.values.items c.push.new.self.items c.in-Some.line (into_iter_items c.next.new.self) (into_iter_items at.line-iterator) c.in_ok-value_of.field-0 _ c.in_ok-value_of.ensures c.in_ok-push.ensures.items steps at.invariant.same;
      counted =
          let was = at.invariant.counted in
          let gone = c.in-Some.ensures.steps.1 in
          let short = ap length steps in
          omega arith;
    }

pub returns-in_err-value_of : goal.returns-in_err-value_of
returns-in_err-value_of c =
    let at = c.loop-line in
    let steps : into_iter_items at.line-iterator ≡ c.in-Some.line ∷ into_iter_items c.next.new.self = c.in-Some.ensures.steps.0 in
    loop_refused c.from_residual-in_err-value_of.result (λ vs. vs.items) c.in_err-value_of.field-0.0 (value_of c.args.self.now) at.values.items c.in-Some.line (into_iter_items c.next.new.self) (into_iter_items at.line-iterator) _ c.from_residual-in_err-value_of.ensures.1 c.in_err-value_of.ensures steps at.invariant.same

pub returns : goal.returns
returns c =
    let at = c.loop-line in
    loop_ends (value_of c.args.self.now) at.values.items (into_iter_items at.line-iterator) _ (nothing_left (into_iter_items at.line-iterator) (sym at.invariant.counted ∙ c.in-None.ensures.steps.0)) at.invariant.same
