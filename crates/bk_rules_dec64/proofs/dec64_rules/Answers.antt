use Rattle.std.proofs.Common.{subst, sym}
use Rattle.std.specs.List.{All}
use Rattle.bk_ops.specs.declared.types.Target.TheVariants.{Arm}
use Rattle.bk_rule.specs.Sound.{SoundRule}
use Rattle.bk_rules_dec64.proofs.WholeList.{dec64_list_sound}
use Rattle.bk_rules_dec64.proofs.dec64_rules.Goals as goal

pub returns-clause-sound : goal.returns-clause-sound
returns-clause-sound c = subst (λ rs. All (SoundRule Arm) rs) (sym c.in_ok-all.ensures) dec64_list_sound.all
