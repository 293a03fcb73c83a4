-- Rules that are not sound: garbage in the high bits tells them from sound ones.
use Rattle.std.proofs.Common.{◌≡◌, ℕ, ◌==◌, if◌then◌else◌, refl, arith, [], pos}
use Rattle.bk_ops.specs.declared.types.Target.TheVariants.{Riscv64}
use Rattle.bk_ops.specs.declared.types.Ty.TheVariants as ty
use Rattle.bk_ops.specs.declared.family.Family.TheVariants as generic
use Rattle.bk_ops.specs.declared.family.Family.TheVariants.{Rv}
use Rattle.bk_ops.specs.declared.family.RvOp.TheVariants as rv
use Rattle.bk_ops.specs.Formulas.{formula, rv_formula}
use Rattle.bk_ops.specs.Table.{row, rv_row, entry}
use Rattle.bk_func.specs.declared.parts.Aux.TheVariants as beside
use Rattle.bk_rule.proofs.Opened.{opened}
use Rattle.bk_rule.specs.Expressions.{Env}
use Rattle.bk_rules_words.specs.Families.{two, one}
use Rattle.bk_rule.specs.WordSound.{SoundWordRule, Setting}

garbage : Env
garbage = record { value = λ i. if i == 0 then 4294967296 else 1; int = λ i. pos 0; ty = λ i. ty.Uint64; symbol = λ i. 0; place = λ i. 0; uses = λ i. 0 }

nowhere : Setting
nowhere = record { address = λ i. 0; windows = λ i. [] }

-- a shift right of narrow numbers that are not extended
pub shift_unsound : SoundWordRule Riscv64 (two generic.Rsh (Rv rv.Asr) 32 64) → ⊥
unfolding SoundWordRule opened formula rv_formula row rv_row entry garbage nowhere
shift_unsound f = let q : ◌≡◌ {A = ℕ} 2147483648 0 = (f garbage nowhere ty.Uint64 (pos 0) refl beside.Nothing refl).0 2147483648 refl in absurd (omega arith)

-- a truth value tested as a whole word
pub truth_unsound : SoundWordRule Riscv64 (one generic.Not (Rv rv.Seqz) 0 0) → ⊥
unfolding SoundWordRule opened formula rv_formula row rv_row entry garbage nowhere
truth_unsound f = let q : ◌≡◌ {A = ℕ} 0 1 = (f garbage nowhere ty.Uint64 (pos 0) refl beside.Nothing refl).0 0 refl in absurd (omega arith)
