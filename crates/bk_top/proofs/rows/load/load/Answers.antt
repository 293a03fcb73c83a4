use Rattle.std.proofs.Common.{subst, sym}
use Rattle.bk_func.specs.Records.{PackageRecord}
use Rattle.bk_link.specs.Conditions.{IsNamed}
use Rattle.bk_top.proofs.Generated.{generated_is_named}
use Rattle.bk_top.proofs.rows.load.load.Goals as goal

pub object_of-requires-clause-named : goal.object_of-requires-clause-named
object_of-requires-clause-named g c κs within = subst (λ (p : PackageRecord). IsNamed p) (sym c.in-Ok.ensures) (generated_is_named c.args.trial.count c.requires.count.1)
