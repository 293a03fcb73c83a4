use Rattle.std.proofs.Common.{◌∙◌, ap, ◌++◌, ◌∷◌, [], refl, get_or, None, arith}
use Rattle.bk_form.proofs.Grouping.{grouped_more, groups_are}
use Rattle.bk_form.proofs.groups.groups.Goals as goal

pub loop-place-preserved : goal.loop-place-preserved
loop-place-preserved c =
    grouped_more c.args.keys.now c.loop-place.place c.loop-place.firsts c.group_of.new.firsts c.loop-place.groups.items c.push.new.self.items (get_or c.args.keys.now c.loop-place.place None)
    c.loop-place.invariant refl c.in_ok-group.ensures.firsts (c.in_ok-push.ensures.items ∙ ap (λ g. c.loop-place.groups.items ++ g ∷ []) c.in_ok-group.ensures.group)

pub returns : goal.returns
returns c = groups_are c.args.keys.now c.loop-place.place c.loop-place.firsts c.loop-place.groups.items c.loop-place.invariant (omega arith)
