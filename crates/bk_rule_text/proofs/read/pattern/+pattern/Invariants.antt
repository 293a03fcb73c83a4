use Rattle.std.proofs.Common.{◌≡◌, ◌+◌, ◌*◌, ◌-◌, length}
use Rattle.bk_rule_text.specs.Patterns.{pattern_at, patterns_at}
use Rattle.bk_rule_text.proofs.Loops.{behind_those}
use Rattle.bk_rule_text.proofs.read.pattern.+pattern.Given as goal

abbrev pub decreases-pattern : goal.decreases-pattern
decreases-pattern l = 8 * l.levels.left

abbrev pub decreases-patterns : goal.decreases-patterns
decreases-patterns l = 8 * l.levels.left + 1

abbrev pub decreases-node : goal.decreases-node
decreases-node l = 8 * l.levels.left + 2

abbrev pub decreases-named_node : goal.decreases-named_node
decreases-named_node l = 8 * l.levels.left + 3

abbrev pub decreases-variable_or_node : goal.decreases-variable_or_node
decreases-variable_or_node l = 8 * l.levels.left + 4

abbrev pub decreases-pattern_in : goal.decreases-pattern_in
decreases-pattern_in l = 8 * l.inner.left + 5

abbrev pub invariant-patterns-loop-turn : goal.invariant-patterns-loop-turn
invariant-patterns-loop-turn l =
    behind_those l.args.items (patterns_at (pattern_at l.levels.left) (length l.text - l.turn) l.names l.rest) ≡ patterns_at (pattern_at l.levels.left) (length l.text) l.fn.names l.text
