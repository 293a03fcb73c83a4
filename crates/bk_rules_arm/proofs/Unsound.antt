-- Rules that are not sound: numbers with a sign bit, and garbage in the high bits, tell them from sound ones.
use Rattle.std.proofs.Common.{◌≡◌, ℕ, ◌==◌, if◌then◌else◌, refl, arith, [], pos}
use Rattle.bk_ops.specs.declared.types.Target.TheVariants.{Arm}
use Rattle.bk_ops.specs.declared.types.Ty.TheVariants as ty
use Rattle.bk_ops.specs.declared.family.Family.TheVariants as generic
use Rattle.bk_ops.specs.declared.family.ArmOp.TheVariants as arm
use Rattle.bk_ops.specs.Formulas.{formula, arm_formula}
use Rattle.bk_ops.specs.Table.{row, arm_row, entry}
use Rattle.bk_func.specs.declared.parts.Aux.TheVariants as beside
use Rattle.bk_rule.proofs.Opened.{opened}
use Rattle.bk_rule.specs.Expressions.{Env}
use Rattle.bk_rule.specs.WordSound.{Setting}
use Rattle.bk_rules_words.specs.Sound.{SoundInWords}
use Rattle.bk_rules_words.specs.Families.{two}

-- the first number is 2 ^ 31, which is 0 in its low 16 bits, the second 1
numbers : Env
numbers = record { value = λ i. if i == 0 then 2147483648 else 1; int = λ i. pos 0; ty = λ i. ty.Uint32; symbol = λ i. 0; place = λ i. 0; uses = λ i. 0 }

nowhere : Setting
nowhere = record { address = λ i. 0; windows = λ i. [] }

-- narrow numbers that are compared as words
pub narrow_unsound : SoundInWords Arm (two generic.LessU (generic.Arm arm.SetLo) 16 0) → ⊥
unfolding SoundInWords opened formula arm_formula row arm_row entry numbers nowhere
narrow_unsound f = let q : ◌≡◌ {A = ℕ} 0 1 = (f numbers nowhere ty.Bool (pos 0) refl beside.Nothing (refl, omega arith)).0 0 refl in absurd (omega arith)

-- bounds with a sign
pub bounds_unsound : SoundInWords Arm (two generic.IsInBounds (generic.Arm arm.SetLt) 0 0) → ⊥
unfolding SoundInWords opened formula arm_formula row arm_row entry numbers nowhere
bounds_unsound f = let q : ◌≡◌ {A = ℕ} 1 0 = (f numbers nowhere ty.Bool (pos 0) refl beside.Nothing (refl, omega arith)).0 1 refl in absurd (omega arith)
