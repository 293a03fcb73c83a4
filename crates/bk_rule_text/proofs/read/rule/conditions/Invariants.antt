use Rattle.std.proofs.Common.{◌≡◌, ◌-◌, length}
use Rattle.bk_rule_text.specs.Exprs.{expr_at}
use Rattle.bk_rule_text.specs.Rules.{conditions}
use Rattle.bk_rule_text.proofs.Loops.{behind}
use Rattle.bk_rule_text.proofs.read.rule.conditions.Given as goal

abbrev pub invariant-loop-turn : goal.invariant-loop-turn
invariant-loop-turn l =
    let read = expr_at l.scope l.levels.left in
    behind l.conds.items (conditions read (length l.text - l.turn) l.rest) ≡ conditions read (length l.text) l.text
