use Rattle.std.proofs.Common.{arith}
use Rattle.std.proofs.lemmas.Grind.{common_steps}
use Rattle.bk_fixup.proofs.keys.push_values.Goals as goal

pub loop-value-preserved : goal.loop-value-preserved
loop-value-preserved c = record { value = grind (arith, common_steps); keys = λ all. c.in_ok-push_some.ensures.keys (c.loop-value.invariant.keys all) }
