use Rattle.std.proofs.Common.{◌≡◌, ◌-◌, length, map}
use Rattle.bk_rule_text.specs.Groups.{parts_at}
use Rattle.bk_rule_text.proofs.GroupLoops.{behind}
use Rattle.bk_rule_text.proofs.read.group.parts.Given as goal

abbrev pub invariant-loop-turn : goal.invariant-loop-turn
invariant-loop-turn l = behind (map (λ part. part.now) l.parts.items) (parts_at (length l.text - l.turn) l.rest) ≡ parts_at (length l.text) l.text
