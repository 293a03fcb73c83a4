use Rattle.std.proofs.Common.{sym, ◌∙◌}
use Rattle.bk_elf.proofs.Naming.{follow_more, follow_none}
use Rattle.bk_elf.proofs.names.follow.Goals as goal

pub returns-in-None : goal.returns-in-None
returns-in-None c =
    sym (follow_none c.loop-name.rest.now c.args.names.now c.loop-name.name-index _ c.loop-name-test.true (sym c.in-None.ensures)) ∙ c.loop-name.invariant

pub loop-name-preserved : goal.loop-name-preserved
loop-name-preserved c =
    sym (follow_more c.loop-name.rest.now c.in-Some.more.now c.args.names.now c.loop-name.name-index _ c.loop-name-test.true (sym c.in-Some.ensures)) ∙ c.loop-name.invariant
