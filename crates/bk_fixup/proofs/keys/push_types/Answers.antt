use Rattle.std.proofs.Common.{arith}
use Rattle.std.proofs.lemmas.Grind.{common_steps}
use Rattle.bk_fixup.proofs.keys.push_types.Goals as goal

pub loop-ty-preserved : goal.loop-ty-preserved
loop-ty-preserved c = record { value = grind (arith, common_steps); keys = λ all. c.in_ok-push_some.ensures.keys (c.loop-ty.invariant.keys all) }
