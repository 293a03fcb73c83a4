use Rattle.std.proofs.Common.{◌≡◌, ◌+◌, ◌*◌, ◌-◌, length}
use Rattle.bk_rule_text.specs.Front.{until_bracket}
use Rattle.bk_rule_text.specs.Builds.{build_at}
use Rattle.bk_rule_text.proofs.Loops.{behind}
use Rattle.bk_rule_text.proofs.read.build.+build.Given as goal

abbrev pub decreases-build : goal.decreases-build
decreases-build l = 8 * l.levels.left

abbrev pub decreases-builds : goal.decreases-builds
decreases-builds l = 8 * l.levels.left + 1

abbrev pub decreases-node : goal.decreases-node
decreases-node l = 8 * l.levels.left + 2

abbrev pub decreases-build_in : goal.decreases-build_in
decreases-build_in l = 8 * l.inner.left + 3

abbrev pub invariant-builds-loop-turn : goal.invariant-builds-loop-turn
invariant-builds-loop-turn l =
    let read = build_at l.scope l.levels.left in
    behind l.args.items (until_bracket read (length l.text - l.turn) l.rest) ≡ until_bracket read (length l.text) l.text
