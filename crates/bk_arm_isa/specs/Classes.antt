-- Instructions whose fields stand alike in their words.
use Rattle.std.specs.Prelude.{Bool, true, false}
use Rattle.bk_arm_isa.specs.declared.Inst.{Inst}
use Rattle.bk_arm_isa.specs.declared.Inst.TheVariants.{Data, Move, Test, Movw, Movt, Mul, Mls, Umull, Smull, Sdiv, Udiv, Ldr, Str, Ldrb, Strb, Ldrh, Strh}

-- data processing, and moves of 16 bits
abbrev pub is_processing : Inst → Bool
is_processing (Data c op rd rn o) = true
is_processing (Move c op rd o) = true
is_processing (Test c op rn o) = true
is_processing (Movw c rd imm16) = true
is_processing (Movt c rd imm16) = true
is_processing i = false

-- products and quotients
abbrev pub is_product : Inst → Bool
is_product (Mul c rd rn rm) = true
is_product (Mls c rd rn rm ra) = true
is_product (Umull c rd_lo rd_hi rn rm) = true
is_product (Smull c rd_lo rd_hi rn rm) = true
is_product (Sdiv c rd rn rm) = true
is_product (Udiv c rd rn rm) = true
is_product i = false

-- loads and stores
abbrev pub is_access : Inst → Bool
is_access (Ldr c rt rn imm12) = true
is_access (Str c rt rn imm12) = true
is_access (Ldrb c rt rn imm12) = true
is_access (Strb c rt rn imm12) = true
is_access (Ldrh c rt rn imm8) = true
is_access (Strh c rt rn imm8) = true
is_access i = false
