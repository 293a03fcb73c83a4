use Rattle.bk_rewrite.proofs.Rooted.{parts_more}
use Rattle.bk_rewrite.proofs.roots.index_rules.Goals as goal

pub loop-part-preserved : goal.loop-part-preserved
loop-part-preserved c =
    parts_more c.args.rules.now c.loop-part.part c.loop-part.parts.items c.put.new.list.items c.in_ok-groups.groups c.in_ok-put.ensures c.loop-part.invariant c.in_ok-groups.ensures
