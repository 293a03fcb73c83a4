use Rattle.std.proofs.Common.{◌≡◌, ◌+◌, ◌*◌, ◌-◌, length}
use Rattle.bk_rule_text.specs.Exprs.{operator_at, operand_at, tighter_at, chain}
use Rattle.bk_rule_text.proofs.Measures.{rank}
use Rattle.bk_rule_text.proofs.read.expr.+expr.Given as goal

abbrev pub decreases-operand : goal.decreases-operand
decreases-operand l = 16 * l.levels.left

abbrev pub decreases-chain_on : goal.decreases-chain_on
decreases-chain_on l = 16 * l.levels.left + (rank l.level + 1)

abbrev pub decreases-tighter : goal.decreases-tighter
decreases-tighter l = 16 * l.levels.left + rank l.level

abbrev pub decreases-chain : goal.decreases-chain
decreases-chain l = 16 * l.levels.left + (rank l.level + 2)

abbrev pub decreases-bracketed : goal.decreases-bracketed
decreases-bracketed l = 16 * l.levels.left + 10

abbrev pub decreases-prefixed : goal.decreases-prefixed
decreases-prefixed l = 16 * l.levels.left + 10

abbrev pub decreases-one : goal.decreases-one
decreases-one l = 16 * l.levels.left + 11

abbrev pub decreases-two : goal.decreases-two
decreases-two l = 16 * l.levels.left + 11

abbrev pub decreases-function : goal.decreases-function
decreases-function l = 16 * l.levels.left + 12

abbrev pub decreases-operand_in : goal.decreases-operand_in
decreases-operand_in l = 16 * l.inner.left + 13

abbrev pub invariant-chain_on-loop-turn : goal.invariant-chain_on-loop-turn
invariant-chain_on-loop-turn l =
    let operand = tighter_at (operand_at l.scope l.levels.left) l.level in
    chain (operator_at l.level) operand (length l.text - l.turn) l.whole l.rest ≡ chain (operator_at l.level) operand (length l.text) l.fn.left l.text
