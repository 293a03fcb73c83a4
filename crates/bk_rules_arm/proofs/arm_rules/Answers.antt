use Rattle.std.proofs.Common.{subst, sym}
use Rattle.std.specs.List.{All}
use Rattle.bk_ops.specs.declared.types.Target.TheVariants.{Arm}
use Rattle.bk_rules_words.specs.Sound.{SoundInWords}
use Rattle.bk_rules_arm.proofs.WholeList.{arm_list_sound}
use Rattle.bk_rules_arm.proofs.arm_rules.Goals as goal

pub returns-clause-sound : goal.returns-clause-sound
returns-clause-sound c = subst (λ rs. All (SoundInWords Arm) rs) (sym c.in_ok-all.ensures) arm_list_sound.all
