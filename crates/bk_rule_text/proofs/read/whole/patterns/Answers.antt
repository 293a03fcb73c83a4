use Rattle.std.proofs.Common.{◌∙◌, ◌+◌, ◌++◌, [], ◌∷◌, ap}
use Rattle.bk_rule.proofs.Opened.{opened}
use Rattle.bk_rule.specs.Trees.{var}
use Rattle.bk_rule_text.proofs.Reading.{no_number, number_pushed}
use Rattle.bk_rule_text.proofs.read.whole.patterns.Goals as goal

pub loop-place-init : goal.loop-place-init
loop-place-init c = no_number var c.args.first c.in_ok-args.args.items c.in_ok-args.ensures.items

pub loop-place-preserved : goal.loop-place-preserved
unfolding opened
loop-place-preserved c =
    number_pushed var c.args.first c.loop-place.place c.loop-place.args.items c.push.new.self.items c.loop-place.invariant
    (c.in_ok-push.ensures.items ∙ ap (λ n. c.loop-place.args.items ++ var (c.args.first + n) ∷ []) c.from-in-loop-place.ensures)
