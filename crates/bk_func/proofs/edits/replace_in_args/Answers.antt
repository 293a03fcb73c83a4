use Rattle.std.proofs.Common.{arith}
use Rattle.std.proofs.lemmas.List.{get_or_default}
use Rattle.bk_func.specs.Edits.{renamed}
use Rattle.bk_func.proofs.Counts.{mapped}
use Rattle.bk_func.proofs.edits.replace_in_args.Goals as goal

pub loop-arg-preserved : goal.loop-arg-preserved
loop-arg-preserved c =
    mapped (renamed c.args.old c.args.new) c.args.args.now c.loop-arg.args c.loop-arg.arg-index _ c.rename.result
    (omega arith) c.loop-arg.invariant (get_or_default c.loop-arg.args c.loop-arg.arg-index 0 _ (omega arith)) c.rename.ensures
