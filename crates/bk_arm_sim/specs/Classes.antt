-- Instructions that write alike.
use Rattle.std.specs.Prelude.{Bool, true, false}
use Rattle.bk_arm_isa.specs.declared.Inst.{Inst}
use Rattle.bk_arm_isa.specs.declared.Inst.TheVariants.{Data, Move, Test, Movw, Movt, Mul, Mls, Umull, Smull, Sdiv, Udiv, Clz, Rbit, Sxtb, Sxth, Uxtb, Uxth, Ldr, Str, Ldrb, Strb, Ldrh, Strh, B, Bl, Bx, Udf}

-- one register
abbrev pub writes_register : Inst → Bool
writes_register (Data c op rd rn o) = true
writes_register (Move c op rd o) = true
writes_register (Test c op rn o) = false
writes_register (Movw c rd imm16) = true
writes_register (Movt c rd imm16) = true
writes_register (Mul c rd rn rm) = true
writes_register (Mls c rd rn rm ra) = true
writes_register (Umull c rd_lo rd_hi rn rm) = false
writes_register (Smull c rd_lo rd_hi rn rm) = false
writes_register (Sdiv c rd rn rm) = true
writes_register (Udiv c rd rn rm) = true
writes_register (Clz c rd rm) = true
writes_register (Rbit c rd rm) = true
writes_register (Sxtb c rd rm) = true
writes_register (Sxth c rd rm) = true
writes_register (Uxtb c rd rm) = true
writes_register (Uxth c rd rm) = true
writes_register (Ldr c rt rn imm12) = false
writes_register (Str c rt rn imm12) = false
writes_register (Ldrb c rt rn imm12) = false
writes_register (Strb c rt rn imm12) = false
writes_register (Ldrh c rt rn imm8) = false
writes_register (Strh c rt rn imm8) = false
writes_register (B c imm24) = false
writes_register (Bl c imm24) = false
writes_register (Bx c rm) = false
writes_register (Udf imm16) = false

-- the flags, or the two halves of a product
abbrev pub writes_pair : Inst → Bool
writes_pair (Test c op rn o) = true
writes_pair (Umull c rd_lo rd_hi rn rm) = true
writes_pair (Smull c rd_lo rd_hi rn rm) = true
writes_pair i = false
