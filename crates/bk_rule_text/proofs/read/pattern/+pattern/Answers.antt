use Rattle.std.proofs.Common.{◌∙◌, sym, ap, length, arith, Some, List, ℕ, Bor}
use Rattle.bk_rule.specs.declared.trees.Pattern.{Pattern}
use Rattle.bk_rule_text.specs.Patterns.{pattern_at, pattern_in}
use Rattle.bk_rule_text.proofs.Loops.{patterns_end, pattern_fails, patterns_go_on, patterns_missing}
use Rattle.bk_rule_text.proofs.Reading.{read_as, erred, pattern_is}
use Rattle.bk_rule_text.proofs.read.pattern.+pattern.Goals as goal

pub pattern-returns : goal.pattern-returns
pattern-returns t c =
    let m = c.in_ok-inner.inner.left in
    read_as (λ x. (x.0, c.pattern_in.new.names, x.1.now)) c.pattern_in.result (pattern_in (pattern_at m) c.args.names.now c.args.text.now) (pattern_at c.args.levels.left c.args.names.now c.args.text.now)
    (pattern_is c.args.levels.left m c.args.names.now c.args.text.now c.in_ok-inner.ensures.ok)
    c.pattern_in.ensures

pub patterns-returns-in-Some : goal.patterns-returns-in-Some
patterns-returns-in-Some t c =
    patterns_end (pattern_at c.args.levels.left) (length c.args.text.now) c.loop-turn.turn c.loop-turn.args.items c.loop-turn.names c.loop-turn.rest.now c.in-Some.rest.now _ c.loop-turn.invariant (omega arith) (sym c.in-Some.ensures)
    ∙ ap (λ xs. Some (xs, c.loop-turn.names, c.in-Some.rest.now)) (sym c.from_vec.ensures)

pub patterns-returns-in_err-arg : goal.patterns-returns-in_err-arg
patterns-returns-in_err-arg t c =
    let read = pattern_at c.args.levels.left in
    erred {W = Pattern × Bor (List ℕ)} (λ x. (x.0, c.pattern.new.names, x.1.now)) (λ x. (x.0, c.pattern.new.names, x.1.now)) c.from_residual.result c.in_err-arg.field-0.0 (read c.loop-turn.names c.loop-turn.rest.now) _ c.from_residual.ensures.1 c.in_err-arg.ensures
    (λ n. pattern_fails read (length c.args.text.now) c.loop-turn.turn c.loop-turn.args.items c.loop-turn.names c.loop-turn.rest.now _ c.loop-turn.invariant (omega arith) (sym c.in_default.ensures) n)

pub patterns-loop-turn-preserved : goal.patterns-loop-turn-preserved
patterns-loop-turn-preserved t c =
    patterns_go_on (pattern_at c.args.levels.left) (length c.args.text.now) c.loop-turn.turn c.loop-turn.args.items c.push.new.self.items c.loop-turn.names c.pattern.new.names c.loop-turn.rest.now c.in_ok-arg.arg c.in_ok-arg.next.now _
    c.loop-turn.invariant (omega arith) (sym c.in_default.ensures) c.in_ok-arg.ensures c.in_ok-push.ensures.items

pub patterns-returns : goal.patterns-returns
patterns-returns t c =
    patterns_missing (pattern_at c.args.levels.left) (length c.args.text.now) c.loop-turn.turn c.loop-turn.args.items c.loop-turn.names c.loop-turn.rest.now _ c.loop-turn.invariant (omega arith)
