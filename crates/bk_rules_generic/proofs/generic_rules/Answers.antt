use Rattle.std.proofs.Common.{subst, sym}
use Rattle.std.specs.List.{All}
use Rattle.bk_rule.specs.Sound.{SoundRule}
use Rattle.bk_rules_generic.proofs.WholeList.{generic_list_sound}
use Rattle.bk_rules_generic.proofs.generic_rules.Goals as goal

pub returns-clause-sound : goal.returns-clause-sound
returns-clause-sound c = λ t. subst (λ rs. All (SoundRule t) rs) (sym c.in_ok-all.ensures) (generic_list_sound t).all
