use Rattle.std.proofs.Common.{◌≡◌, take}
use Rattle.bk_work.specs.Placed.{refused_by}
use Rattle.bk_work.proofs.placing.Firsts.refused.Given as goal

abbrev pub invariant-loop-cause : goal.invariant-loop-cause
invariant-loop-cause l = l.slots.items ≡ refused_by (take l.cause-index l.self.causes.items)
