use Rattle.std.proofs.Common.{◌*◌, ◌-◌, length}
use Rattle.bk_rule.specs.Match.{orders}
use Rattle.bk_rewrite.proofs.finding.+choose.Given as goal

abbrev pub decreases-choose : goal.decreases-choose
decreases-choose l = 2 * (orders l.rule.now.left - length l.choices.now.items)

abbrev pub decreases-choose_order : goal.decreases-choose_order
decreases-choose_order l = 2 * (orders l.rule.now.left - length l.choices.now.items) - 1
