use Rattle.std.proofs.Common.{rules, sym, ◌∙◌, ap, length, arith, ◌≡◌, ◌∷◌, map}
use Rattle.std.specs.Vec.Iter.{into_iter_items}
use Rattle.bk_dump.specs.Resolved.{func_of}
use Rattle.bk_dump.proofs.Each.{nothing_left, loop_starts, loop_goes_on, loop_ends, loop_refused}
use Rattle.bk_dump.proofs.read.resolve.funcs_of.Goals as goal

pub loop-draft-init : goal.loop-draft-init
loop-draft-init c = record {
  same = loop_starts (func_of (map (λ n. n.now) c.args.names.now.keys)) c.in_ok-funcs.funcs.items (into_iter_items c.into_iter-draft-iterator.result) c.args.drafts.items c.in_ok-funcs.ensures.items c.into_iter-draft-iterator.ensures.into_iter_gives.0;
  counted = search rules;
}

pub loop-draft-preserved : goal.loop-draft-preserved
loop-draft-preserved c =
    let at = c.loop-draft in
    let steps : into_iter_items at.draft-iterator ≡ c.in-Some.draft ∷ into_iter_items c.next.new.self = c.in-Some.ensures.steps.0 in
    record {
      same = loop_goes_on (func_of (map (λ n. n.now) c.args.names.now.keys)) at.funcs.items c.push.new.self.items c.in-Some.draft (into_iter_items c.next.new.self) (into_iter_items at.draft-iterator) c.in_ok-func_of.field-0 _ c.in_ok-func_of.ensures c.in_ok-push.ensures.items steps at.invariant.same;
      counted =
          let was = at.invariant.counted in
          let gone = c.in-Some.ensures.steps.1 in
          let short = ap length steps in
          omega arith;
    }

pub returns-in_err-func_of : goal.returns-in_err-func_of
returns-in_err-func_of c =
    let at = c.loop-draft in
    let steps : into_iter_items at.draft-iterator ≡ c.in-Some.draft ∷ into_iter_items c.next.new.self = c.in-Some.ensures.steps.0 in
    loop_refused c.from_residual-in_err-func_of.result (λ vs. vs.items) c.in_err-func_of.field-0.0 (func_of (map (λ n. n.now) c.args.names.now.keys)) at.funcs.items c.in-Some.draft (into_iter_items c.next.new.self) (into_iter_items at.draft-iterator) _ c.from_residual-in_err-func_of.ensures.1 c.in_err-func_of.ensures steps at.invariant.same

pub returns : goal.returns
returns c =
    let at = c.loop-draft in
    loop_ends (func_of (map (λ n. n.now) c.args.names.now.keys)) at.funcs.items (into_iter_items at.draft-iterator) _ (nothing_left (into_iter_items at.draft-iterator) (sym at.invariant.counted ∙ c.in-None.ensures.steps.0)) at.invariant.same
