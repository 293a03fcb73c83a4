use Rattle.std.proofs.Common.{subst, sym}
use Rattle.std.specs.List.{All}
use Rattle.std.proofs.lemmas.List.Elements.{All-weaker}
use Rattle.bk_ops.specs.declared.types.Target.TheVariants.{Riscv64}
use Rattle.bk_rule.specs.WordSound.{SoundWordRule}
use Rattle.bk_rules_words.specs.Sound.{SoundInWords}
use Rattle.bk_rules_rv.specs.Lines.{rv_list}
use Rattle.bk_rules_rv.proofs.NoWider.{sound_in_words}
use Rattle.bk_rules_rv.proofs.WholeList.{rv_list_sound}
use Rattle.bk_rules_rv.proofs.rv_rules.Goals as goal

pub returns-clause-sound : goal.returns-clause-sound
returns-clause-sound c =
    subst (λ rs. All (SoundWordRule Riscv64) rs) (sym c.in_ok-all.ensures) (All-weaker (SoundInWords Riscv64) (SoundWordRule Riscv64) sound_in_words rv_list rv_list_sound.all)
