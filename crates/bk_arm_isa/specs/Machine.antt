-- The machine, its step and its start.
use Rattle.std.specs.Prelude.{◌≤◌, ℕ, ℤ, pos, List, [], ◌∷◌, ◌++◌, length, ◌+◌, ◌*◌, ◌-◌, ◌/◌, ◌%◌, ◌^◌, ◌*ℤ◌, ◌-ℤ◌, Bool, true, false, nat_le, ◌&&◌, ◌==◌, if◌then◌else◌, Option, Some, None, slice_set, replicate, int_div}
use Rattle.std.specs.Int.{w32, leading_zeros, reverse_bits}
use Rattle.bk_num.specs.Word.{signed, residue, high_half}
use Rattle.bk_num.specs.Bytes.{each_bytes}
use Rattle.bk_num.specs.Memory.{pool_base, data_base, read, write}
pub use Rattle.bk_num.specs.Addresses.{text_base, stack_top, halt}
pub use Rattle.bk_machine.specs.Runs.{go_on}
use Rattle.bk_machine.specs.Runs as runs
use Rattle.bk_machine.specs.Texts as texts
use Rattle.bk_arm_isa.specs.declared.Condition.{Condition}
use Rattle.bk_arm_isa.specs.declared.Condition.TheVariants.{Al}
use Rattle.bk_arm_isa.specs.declared.Inst.{Inst}
use Rattle.bk_arm_isa.specs.declared.Inst.TheVariants.{Data, Move, Test, Movw, Movt, Mul, Mls, Umull, Smull, Sdiv, Udiv, Clz, Rbit, Sxtb, Sxth, Uxtb, Uxth, Ldr, Str, Ldrb, Strb, Ldrh, Strh, B, Bl, Bx, Udf}
use Rattle.bk_machine.specs.declared.stop.Stop.TheVariants.{Returned, Trapped, Fault}
use Rattle.bk_arm_isa.specs.Decoding.{decoding}
use Rattle.bk_arm_isa.specs.declared.flags.Flags.{Flags}
use Rattle.bk_arm_isa.specs.Operands.{passes, reg, operand, data_result, move_result, test_flags}

-- the link register
abbrev pub link : ℕ
link = 14

-- the pc, the registers R0 to R14, the flags, the text's words, the bytes of the pool, the data window and the stack, and the address of the first stack byte
pub record Machine : Type 0 where
  pub pc : ℕ
  pub regs : List ℕ
  pub flags : Flags
  pub text : List ℕ
  pub pool : List ℕ
  pub window : List ℕ
  pub stack : List ℕ
  pub bottom : ℕ

-- a number and an offset, modulo 2^32
abbrev pub plus : ℕ → ℤ → ℕ
plus n z = (n + residue 32 z) % 2 ^ 32

-- the number of 32 bits whose signed reading is that of the low w bits of n
abbrev pub extended : ℕ → ℕ → ℕ
extended w n = residue 32 (signed w n)

-- the instruction at the pc: none outside the text, between its words, and at a word outside the table
abbrev pub fetch : List ℕ → ℕ → Option Inst
fetch text pc = texts.fetch decoding text pc

-- what a load reads
abbrev pub load : Machine → ℕ → ℕ → Option ℕ
load m size address = read m.pool m.window m.bottom m.stack size address

-- what a store leaves of the windows that it may write
abbrev pub store : Machine → ℕ → ℕ → ℕ → Option (List ℕ × List ℕ)
store m size address n = write m.window m.bottom m.stack size address n

-- the machine with another pc
abbrev pub jumped : Machine → ℕ → Machine
jumped m pc = record { pc = pc; regs = m.regs; flags = m.flags; text = m.text; pool = m.pool; window = m.window; stack = m.stack; bottom = m.bottom }

-- the machine with other registers, at the next pc
abbrev pub with_regs : Machine → List ℕ → Machine
with_regs m regs = record { pc = m.pc + 4; regs = regs; flags = m.flags; text = m.text; pool = m.pool; window = m.window; stack = m.stack; bottom = m.bottom }

-- the machine with another register, at the next pc
abbrev pub with_reg : Machine → ℕ → ℕ → Machine
with_reg m k n = with_regs m (slice_set m.regs k n)

-- the machine with other flags, at the next pc
abbrev pub with_flags : Machine → Flags → Machine
with_flags m flags = record { pc = m.pc + 4; regs = m.regs; flags = flags; text = m.text; pool = m.pool; window = m.window; stack = m.stack; bottom = m.bottom }

-- the machine with other windows, at the next pc
abbrev pub with_windows : Machine → List ℕ → List ℕ → Machine
with_windows m window stack = record { pc = m.pc + 4; regs = m.regs; flags = m.flags; text = m.text; pool = m.pool; window = window; stack = stack; bottom = m.bottom }

-- where a branch by words leads; they are counted from 8 bytes past it
abbrev pub branch_target : ℕ → ℤ → ℕ
branch_target pc words = plus (pc + 8) (words *ℤ pos 4)

-- the registers with the low and then the high half of a product
abbrev pub with_product : List ℕ → ℕ → ℕ → ℕ → ℕ → Bool → List ℕ
with_product regs rd_lo rd_hi x y is_signed = slice_set (slice_set regs rd_lo (x * y % 2 ^ 32)) rd_hi (high_half 32 x y is_signed)

-- the quotients, which a division by zero makes 0
abbrev pub signed_quotient : ℕ → ℕ → ℕ
signed_quotient x y = if y % 2 ^ 32 == 0 then 0 else residue 32 (int_div (signed 32 x) (signed 32 y))

abbrev pub quotient : ℕ → ℕ → ℕ
quotient x y = if y % 2 ^ 32 == 0 then 0 else x % 2 ^ 32 / (y % 2 ^ 32)

-- what a step gives: the stop if there is one, and the machine after it
abbrev pub Gives : Type 0
Gives = runs.Gives Machine

-- a load that reads no window is a fault at its address
abbrev pub on_load : Machine → ℕ → Option ℕ → ℕ → Gives
on_load m address None rt = (Some (Fault address), m)
on_load m address (Some n) rt = (None, with_reg m rt n)

-- so is a store that writes none
abbrev pub on_store : Machine → ℕ → Option (List ℕ × List ℕ) → Gives
on_store m address None = (Some (Fault address), m)
on_store m address (Some windows) = (None, with_windows m windows.0 windows.1)

-- a load of a register, and a store of one, at rn and an offset
abbrev pub loaded : Machine → ℕ → ℕ → ℕ → ℕ → Gives
loaded m size rt rn offset = on_load m (plus (reg m.regs rn) (pos offset)) (load m size (plus (reg m.regs rn) (pos offset))) rt

abbrev pub stored : Machine → ℕ → ℕ → ℕ → ℕ → Gives
stored m size rt rn offset = on_store m (plus (reg m.regs rn) (pos offset)) (store m size (plus (reg m.regs rn) (pos offset)) (reg m.regs rt))

-- the condition of an instruction; UDF has none
abbrev pub condition_of : Inst → Condition
condition_of (Data c op rd rn o) = c
condition_of (Move c op rd o) = c
condition_of (Test c op rn o) = c
condition_of (Movw c rd imm16) = c
condition_of (Movt c rd imm16) = c
condition_of (Mul c rd rn rm) = c
condition_of (Mls c rd rn rm ra) = c
condition_of (Umull c rd_lo rd_hi rn rm) = c
condition_of (Smull c rd_lo rd_hi rn rm) = c
condition_of (Sdiv c rd rn rm) = c
condition_of (Udiv c rd rn rm) = c
condition_of (Clz c rd rm) = c
condition_of (Rbit c rd rm) = c
condition_of (Sxtb c rd rm) = c
condition_of (Sxth c rd rm) = c
condition_of (Uxtb c rd rm) = c
condition_of (Uxth c rd rm) = c
condition_of (Ldr c rt rn imm12) = c
condition_of (Str c rt rn imm12) = c
condition_of (Ldrb c rt rn imm12) = c
condition_of (Strb c rt rn imm12) = c
condition_of (Ldrh c rt rn imm8) = c
condition_of (Strh c rt rn imm8) = c
condition_of (B c imm24) = c
condition_of (Bl c imm24) = c
condition_of (Bx c rm) = c
condition_of (Udf imm16) = Al

-- one instruction whose condition holds, row by row; UDF traps with a number from 1 to 6
abbrev pub execute : Inst → Machine → Gives
execute (Data c op rd rn o) m = (None, with_reg m rd (data_result op (reg m.regs rn) (operand m.regs o) m.flags.carry))
execute (Move c op rd o) m = (None, with_reg m rd (move_result op (operand m.regs o)))
execute (Test c op rn o) m = (None, with_flags m (test_flags op (reg m.regs rn) (operand m.regs o) m.flags))
execute (Movw c rd imm16) m = (None, with_reg m rd imm16)
execute (Movt c rd imm16) m = (None, with_reg m rd (imm16 * 2 ^ 16 + reg m.regs rd % 2 ^ 16))
execute (Mul c rd rn rm) m = (None, with_reg m rd (reg m.regs rn * reg m.regs rm % 2 ^ 32))
execute (Mls c rd rn rm ra) m = (None, with_reg m rd (residue 32 (pos (reg m.regs ra) -ℤ pos (reg m.regs rn * reg m.regs rm))))
execute (Umull c rd_lo rd_hi rn rm) m = (None, with_regs m (with_product m.regs rd_lo rd_hi (reg m.regs rn) (reg m.regs rm) false))
execute (Smull c rd_lo rd_hi rn rm) m = (None, with_regs m (with_product m.regs rd_lo rd_hi (reg m.regs rn) (reg m.regs rm) true))
execute (Sdiv c rd rn rm) m = (None, with_reg m rd (signed_quotient (reg m.regs rn) (reg m.regs rm)))
execute (Udiv c rd rn rm) m = (None, with_reg m rd (quotient (reg m.regs rn) (reg m.regs rm)))
execute (Clz c rd rm) m = (None, with_reg m rd (leading_zeros w32 (reg m.regs rm)))
execute (Rbit c rd rm) m = (None, with_reg m rd (reverse_bits w32 (reg m.regs rm)))
execute (Sxtb c rd rm) m = (None, with_reg m rd (extended 8 (reg m.regs rm)))
execute (Sxth c rd rm) m = (None, with_reg m rd (extended 16 (reg m.regs rm)))
execute (Uxtb c rd rm) m = (None, with_reg m rd (reg m.regs rm % 2 ^ 8))
execute (Uxth c rd rm) m = (None, with_reg m rd (reg m.regs rm % 2 ^ 16))
execute (Ldr c rt rn imm12) m = loaded m 4 rt rn imm12
execute (Str c rt rn imm12) m = stored m 4 rt rn imm12
execute (Ldrb c rt rn imm12) m = loaded m 1 rt rn imm12
execute (Strb c rt rn imm12) m = stored m 1 rt rn imm12
execute (Ldrh c rt rn imm8) m = loaded m 2 rt rn imm8
execute (Strh c rt rn imm8) m = stored m 2 rt rn imm8
execute (B c imm24) m = (None, jumped m (branch_target m.pc imm24))
execute (Bl c imm24) m = (None, jumped (with_reg m link (m.pc + 4)) (branch_target m.pc imm24))
execute (Bx c rm) m = (None, jumped m (reg m.regs rm))
execute (Udf imm16) m = (Some (if nat_le 1 imm16 && nat_le imm16 6 then Trapped imm16 else Fault m.pc), m)

-- one instruction; where its condition does not hold, the next pc alone
abbrev pub act : Inst → Machine → Gives
act i m = if passes (condition_of i) m.flags then execute i m else (None, jumped m (m.pc + 4))

-- where no instruction stands, a fault at the pc
abbrev pub act_if : Option Inst → Machine → Gives
act_if None m = (Some (Fault m.pc), m)
act_if (Some i) m = act i m

-- one step: at the return address that halts the machine has returned
abbrev pub step : Machine → Gives
step m = if m.pc == halt then (Some Returned, m) else act_if (fetch m.text m.pc) m

-- at most n steps, up to the first stop
abbrev pub run : ℕ → Machine → Gives
run n m = runs.run step n m

-- words as bytes
abbrev pub word_bytes : List ℕ → List ℕ
word_bytes words = each_bytes 4 words

-- R10 is the stack bound, R13 the stack's top, R14 the return address that halts
abbrev pub start_regs : ℕ → List ℕ
start_regs stack = replicate 10 0 ++ (stack_top - stack) ∷ 0 ∷ 0 ∷ stack_top ∷ halt ∷ []

-- no flag is set
abbrev pub start_flags : Flags
start_flags = record { negative = false; zero = false; carry = false; overflow = false }

-- the machine at the start of the function at `pc`, with `stack` bytes below the words of its arguments and, after these, as many words as its results have
abbrev pub start : List ℕ → List ℕ → List ℕ → ℕ → List ℕ → ℕ → ℕ → Machine
start text pool window pc words results stack = record {
  pc = pc;
  regs = start_regs stack;
  flags = start_flags;
  text = text;
  pool = pool;
  window = window;
  stack = replicate stack 0 ++ (word_bytes words ++ replicate (4 * results) 0);
  bottom = stack_top - stack;
}

-- The pool ends below the data window, and this ends below the stack.
pub record IsPlaced (m : Machine) : Type 0 where
  pub pool : pool_base + length m.pool ≤ data_base
  pub window : data_base + length m.window ≤ m.bottom

-- these instructions stand in the text from the pc on
abbrev pub HasAt : List ℕ → ℕ → List Inst → Type 0
HasAt text pc is = texts.HasAt decoding text pc is

-- the words begin with these instructions
abbrev pub Begins : List ℕ → List Inst → Type 0
Begins words is = texts.Begins decoding words is

-- after this many steps, none of which stops, the first machine is the second
abbrev pub Goes : ℕ → Machine → Machine → Type 0
Goes steps m m' = runs.Goes step steps m m'
