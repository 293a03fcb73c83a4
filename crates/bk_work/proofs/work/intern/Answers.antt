use Rattle.bk_core.specs.Rule.{cells_of}
use Rattle.bk_share.specs.Passes.{announced_in, view}
use Rattle.bk_work.proofs.Grow.{learns_on}
use Rattle.bk_work.proofs.work.intern.Goals as goal

pub returns-clause-knows : goal.returns-clause-knows
returns-clause-knows c =
    learns_on (cells_of (announced_in c.args.share.now) c.args.key.area) c.args.key.area c.args.key.key (view c.args.pass.now) (view c.intern.new.pass) c.intern.ensures.learns
