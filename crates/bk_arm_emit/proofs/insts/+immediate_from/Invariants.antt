use Rattle.bk_arm_emit.proofs.insts.+immediate_from.Given as goal

abbrev pub decreases-immediate_from : goal.decreases-immediate_from
decreases-immediate_from l = l.count
