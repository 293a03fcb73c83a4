-- The ops that a target has no code for.
use Rattle.std.specs.Prelude.{ℕ, ℤ, pos, negsuc, Bool, true, false, nat_lt, ◌==◌, ◌&&◌}
use Rattle.bk_ops.specs.declared.family.Family.{Family}
use Rattle.bk_ops.specs.declared.family.Family.TheVariants.{Div, Divu, Mod, Modu, Hmul, Hmulu, Ctz32, BitLen32, Int64Make, Int64Hi, Int64Lo, AddHi32, SubHi32, Sp, Zero, Move}
use Rattle.bk_ops.specs.declared.types.Target.{Target}
use Rattle.bk_ops.specs.declared.types.Target.TheVariants.{Arm, Riscv64}
use Rattle.bk_ops.specs.declared.table.Op.{Op}
use Rattle.bk_ops.specs.Table.{is_op}

-- a count of bytes that is not from 0 to 64
abbrev pub is_outside : ℤ → Bool
is_outside (pos n) = nat_lt 64 n
is_outside (negsuc n) = true

-- there is no code for the op of this family, with the first width a and the number n
abbrev pub has_no_code : Family → Target → ℕ → ℤ → Bool
has_no_code Div Arm a n = a == 64
has_no_code Divu Arm a n = a == 64
has_no_code Mod Arm a n = a == 64
has_no_code Modu Arm a n = a == 64
has_no_code Hmul Arm a n = a == 64
has_no_code Hmulu Arm a n = a == 64
has_no_code Ctz32 Riscv64 a n = true
has_no_code BitLen32 Riscv64 a n = true
has_no_code Int64Make Riscv64 a n = true
has_no_code Int64Hi Riscv64 a n = true
has_no_code Int64Lo Riscv64 a n = true
has_no_code AddHi32 Riscv64 a n = true
has_no_code SubHi32 Riscv64 a n = true
has_no_code Sp t a n = true
has_no_code Zero t a n = is_outside n
has_no_code Move t a n = is_outside n
has_no_code _ _ _ _ = false

unfoldable pub is_refused : Op → ℤ → Target → Bool
is_refused o n t = is_op o.family o.a o.b && has_no_code o.family t o.a n
