-- The machine, its step and its start.
use Rattle.std.specs.Prelude.{◌≤◌, ℕ, ℤ, pos, List, [], ◌∷◌, ◌++◌, length, ◌+◌, ◌*◌, ◌-◌, ◌/◌, ◌%◌, ◌^◌, ◌*ℤ◌, ◌-ℤ◌, Bool, true, false, not, nat_lt, nat_le, int_lt, ◌&&◌, ◌==◌, if◌then◌else◌, Option, Some, None, slice_index, slice_set, replicate, min, map, drop, bit_and, bit_or, bit_xor, int_div, int_rem}
use Rattle.std.specs.Int.{int_div_euclid}
use Rattle.bk_num.specs.Word.{signed, residue, high_half}
use Rattle.bk_rv_isa.specs.declared.inst.RegisterOp.{RegisterOp}
use Rattle.bk_rv_isa.specs.declared.inst.RegisterOp.TheVariants.{Add, Sub, Sll, Slt, Sltu, Xor, Srl, Sra, Or, And, Mul, Mulh, Mulhsu, Mulhu, Div, Divu, Rem, Remu}
use Rattle.bk_rv_isa.specs.declared.inst.ImmediateOp.{ImmediateOp}
use Rattle.bk_rv_isa.specs.declared.inst.ImmediateOp.TheVariants.{Addi, Slti, Sltiu, Xori, Ori, Andi}
use Rattle.bk_rv_isa.specs.declared.inst.ShiftOp.{ShiftOp}
use Rattle.bk_rv_isa.specs.declared.inst.ShiftOp.TheVariants.{Slli, Srli, Srai}
use Rattle.bk_rv_isa.specs.declared.inst.LoadOp.{LoadOp}
use Rattle.bk_rv_isa.specs.declared.inst.LoadOp.TheVariants.{Lb, Lh, Lw, Ld, Lbu, Lhu, Lwu}
use Rattle.bk_rv_isa.specs.declared.inst.StoreOp.{StoreOp}
use Rattle.bk_rv_isa.specs.declared.inst.StoreOp.TheVariants.{Sb, Sh, Sw, Sd}
use Rattle.bk_rv_isa.specs.declared.inst.BranchOp.{BranchOp}
use Rattle.bk_rv_isa.specs.declared.inst.BranchOp.TheVariants.{Beq, Bne, Blt, Bge, Bltu, Bgeu}
use Rattle.bk_rv_isa.specs.declared.inst.Inst.{Inst}
use Rattle.bk_rv_isa.specs.declared.inst.Inst.TheVariants.{Op, OpImm, Shift, Addiw, Load, Store, Branch, Lui, Auipc, Jal, Jalr, Ebreak}
use Rattle.bk_machine.specs.declared.stop.Stop.TheVariants.{Returned, Trapped, Fault}
use Rattle.bk_rv_isa.specs.Encoding.{decoding}
use Rattle.bk_num.specs.Bytes.{each_bytes}
use Rattle.bk_num.specs.Memory.{pool_base, data_base, read, write}
pub use Rattle.bk_num.specs.Addresses.{text_base, stack_top, halt}
pub use Rattle.bk_machine.specs.Runs.{go_on}
use Rattle.bk_machine.specs.Runs as runs
use Rattle.bk_machine.specs.Texts as texts

-- the pc, the 32 registers, the text's words, the bytes of the pool, the data window and the stack, and the address of the first stack byte
pub record Machine : Type 0 where
  pub pc : ℕ
  pub regs : List ℕ
  pub text : List ℕ
  pub pool : List ℕ
  pub window : List ℕ
  pub stack : List ℕ
  pub bottom : ℕ

-- a register; x0 is 0
abbrev pub reg : List ℕ → ℕ → ℕ
reg regs k = if k == 0 then 0 else slice_index regs k

-- the registers after a write; x0 stays
abbrev pub put : List ℕ → ℕ → ℕ → List ℕ
put regs k n = if k == 0 then regs else slice_set regs k n

-- a number and an offset, modulo 2^64
abbrev pub plus : ℕ → ℤ → ℕ
plus n z = (n + residue 64 z) % 2 ^ 64

-- the number of 64 bits whose signed reading is that of the low w bits of n
abbrev pub extended : ℕ → ℕ → ℕ
extended w n = residue 64 (signed w n)

-- what a comparison gives
abbrev pub flag : Bool → ℕ
flag b = if b then 1 else 0

-- the instruction of a word, if there is a word
abbrev pub decoded : Option ℕ → Option Inst
decoded w = texts.decoded decoding w

-- the instruction at the pc: none outside the text, between its words, and at a word outside the table
abbrev pub fetch : List ℕ → ℕ → Option Inst
fetch text pc = texts.fetch decoding text pc

-- what a load reads
abbrev pub load : Machine → ℕ → ℕ → Option ℕ
load m size address = read m.pool m.window m.bottom m.stack size address

-- what a store leaves of the windows that it may write
abbrev pub store : Machine → ℕ → ℕ → ℕ → Option (List ℕ × List ℕ)
store m size address n = write m.window m.bottom m.stack size address n

-- the machine with another pc
abbrev pub jumped : Machine → ℕ → Machine
jumped m pc = record { pc = pc; regs = m.regs; text = m.text; pool = m.pool; window = m.window; stack = m.stack; bottom = m.bottom }

-- the machine with another register, at the next pc
abbrev pub with_reg : Machine → ℕ → ℕ → Machine
with_reg m k n = record { pc = m.pc + 4; regs = put m.regs k n; text = m.text; pool = m.pool; window = m.window; stack = m.stack; bottom = m.bottom }

-- the machine with other windows, at the next pc
abbrev pub with_windows : Machine → List ℕ → List ℕ → Machine
with_windows m window stack = record { pc = m.pc + 4; regs = m.regs; text = m.text; pool = m.pool; window = window; stack = stack; bottom = m.bottom }

-- what an operation gives: sums, shifts by the low six bits of the count, comparisons, products, and the quotients and
-- remainders of the manual, where a division by zero gives all ones and leaves the dividend
abbrev pub register_result : RegisterOp → ℕ → ℕ → ℕ
register_result Add x y = (x + y) % 2 ^ 64
register_result Sub x y = residue 64 (pos x -ℤ pos y)
register_result Sll x y = x * 2 ^ (y % 64) % 2 ^ 64
register_result Slt x y = flag (int_lt (signed 64 x) (signed 64 y))
register_result Sltu x y = flag (nat_lt x y)
register_result Xor x y = bit_xor x y
register_result Srl x y = x % 2 ^ 64 / 2 ^ (y % 64)
register_result Sra x y = residue 64 (int_div_euclid (signed 64 x) (pos (2 ^ (y % 64))))
register_result Or x y = bit_or x y
register_result And x y = bit_and x y
register_result Mul x y = x * y % 2 ^ 64
register_result Mulh x y = high_half 64 x y true
register_result Mulhsu x y = residue 64 (int_div_euclid (signed 64 x *ℤ pos y) (pos (2 ^ 64)))
register_result Mulhu x y = high_half 64 x y false
register_result Div x y = if y % 2 ^ 64 == 0 then 2 ^ 64 - 1 else residue 64 (int_div (signed 64 x) (signed 64 y))
register_result Divu x y = if y % 2 ^ 64 == 0 then 2 ^ 64 - 1 else x % 2 ^ 64 / (y % 2 ^ 64)
register_result Rem x y = if y % 2 ^ 64 == 0 then x % 2 ^ 64 else residue 64 (int_rem (signed 64 x) (signed 64 y))
register_result Remu x y = if y % 2 ^ 64 == 0 then x % 2 ^ 64 else x % 2 ^ 64 % (y % 2 ^ 64)

-- what an operation with an immediate gives
abbrev pub immediate_result : ImmediateOp → ℕ → ℤ → ℕ
immediate_result Addi x imm = plus x imm
immediate_result Slti x imm = flag (int_lt (signed 64 x) imm)
immediate_result Sltiu x imm = flag (nat_lt x (residue 64 imm))
immediate_result Xori x imm = bit_xor x (residue 64 imm)
immediate_result Ori x imm = bit_or x (residue 64 imm)
immediate_result Andi x imm = bit_and x (residue 64 imm)

-- what a shift by a count from 0 to 63 gives
abbrev pub shift_result : ShiftOp → ℕ → ℕ → ℕ
shift_result Slli x count = x * 2 ^ count % 2 ^ 64
shift_result Srli x count = x % 2 ^ 64 / 2 ^ count
shift_result Srai x count = residue 64 (int_div_euclid (signed 64 x) (pos (2 ^ count)))

-- the bytes that a load reads
abbrev pub load_size : LoadOp → ℕ
load_size Lb = 1
load_size Lh = 2
load_size Lw = 4
load_size Ld = 8
load_size Lbu = 1
load_size Lhu = 2
load_size Lwu = 4

-- what a loaded number gives: the narrow signed loads extend its sign
abbrev pub load_result : LoadOp → ℕ → ℕ
load_result Lb n = extended 8 n
load_result Lh n = extended 16 n
load_result Lw n = extended 32 n
load_result Ld n = n
load_result Lbu n = n
load_result Lhu n = n
load_result Lwu n = n

-- the bytes that a store writes
abbrev pub store_size : StoreOp → ℕ
store_size Sb = 1
store_size Sh = 2
store_size Sw = 4
store_size Sd = 8

-- whether a branch is taken
abbrev pub is_taken : BranchOp → ℕ → ℕ → Bool
is_taken Beq x y = x == y
is_taken Bne x y = not (x == y)
is_taken Blt x y = int_lt (signed 64 x) (signed 64 y)
is_taken Bge x y = not (int_lt (signed 64 x) (signed 64 y))
is_taken Bltu x y = nat_lt x y
is_taken Bgeu x y = nat_le y x

-- what a step gives: the stop if there is one, and the machine after it
abbrev pub Gives : Type 0
Gives = runs.Gives Machine

-- a load that reads no window is a fault at its address
abbrev pub on_load : Machine → ℕ → Option ℕ → (ℕ → Machine) → Gives
on_load m address None after = (Some (Fault address), m)
on_load m address (Some n) after = (None, after n)

-- so is a store that writes none
abbrev pub on_store : Machine → ℕ → Option (List ℕ × List ℕ) → Gives
on_store m address None = (Some (Fault address), m)
on_store m address (Some windows) = (None, with_windows m windows.0 windows.1)

-- one instruction, row by row; EBREAK traps with a number from 1 to 6 in x31
abbrev pub act : Inst → Machine → Gives
act (Op op rd rs1 rs2) m = (None, with_reg m rd (register_result op (reg m.regs rs1) (reg m.regs rs2)))
act (OpImm op rd rs1 imm) m = (None, with_reg m rd (immediate_result op (reg m.regs rs1) imm))
act (Shift op rd rs1 count) m = (None, with_reg m rd (shift_result op (reg m.regs rs1) count))
act (Addiw rd rs1 imm) m = (None, with_reg m rd (extended 32 (plus (reg m.regs rs1) imm)))
act (Load op rd base offset) m =
    on_load m (plus (reg m.regs base) offset) (load m (load_size op) (plus (reg m.regs base) offset)) (λ n. with_reg m rd (load_result op n))
act (Store op src base offset) m =
    on_store m (plus (reg m.regs base) offset) (store m (store_size op) (plus (reg m.regs base) offset) (reg m.regs src))
act (Branch op rs1 rs2 offset) m = (None, jumped m (if is_taken op (reg m.regs rs1) (reg m.regs rs2) then plus m.pc offset else m.pc + 4))
act (Lui rd imm) m = (None, with_reg m rd (residue 64 (imm *ℤ pos (2 ^ 12))))
act (Auipc rd imm) m = (None, with_reg m rd (plus m.pc (imm *ℤ pos (2 ^ 12))))
act (Jal rd offset) m = (None, jumped (with_reg m rd (m.pc + 4)) (plus m.pc offset))
act (Jalr rd base offset) m = (None, jumped (with_reg m rd (m.pc + 4)) (plus (reg m.regs base) offset / 2 * 2))
act Ebreak m = (Some (if nat_le 1 (reg m.regs 31) && nat_le (reg m.regs 31) 6 then Trapped (reg m.regs 31) else Fault m.pc), m)

-- where no instruction stands, a fault at the pc
abbrev pub act_if : Option Inst → Machine → Gives
act_if None m = (Some (Fault m.pc), m)
act_if (Some i) m = act i m

-- one step: at the return address that halts the machine has returned
abbrev pub step : Machine → Gives
step m = if m.pc == halt then (Some Returned, m) else act_if (fetch m.text m.pc) m

-- at most n steps, up to the first stop
abbrev pub run : ℕ → Machine → Gives
run n m = runs.run step n m

-- the words of the arguments in their cells; those of the first eight, which stand in registers, are 0
abbrev pub cells : List ℕ → List ℕ
cells args = replicate (min 8 (length args)) 0 ++ drop 8 args

-- the bytes of the arguments' cells
abbrev pub argument_words : List ℕ → List ℕ
argument_words args = each_bytes 8 (cells args)

-- the first eight numbers, 0 where there are fewer
abbrev pub first_eight : List ℕ → List ℕ
first_eight args = map (slice_index args) (0 ∷ 1 ∷ 2 ∷ 3 ∷ 4 ∷ 5 ∷ 6 ∷ 7 ∷ [])

-- x1 is the return address that halts, x2 the stack's top, x27 the stack bound; x10 to x17 hold the first eight arguments
abbrev pub start_regs : ℕ → List ℕ → List ℕ
start_regs stack args = 0 ∷ halt ∷ stack_top ∷ (replicate 7 0 ++ (first_eight args ++ (replicate 9 0 ++ (stack_top - stack) ∷ replicate 4 0)))

-- the machine at the start of the function at `pc`, with `stack` bytes below the cells of its arguments and of its results
abbrev pub start : List ℕ → List ℕ → List ℕ → ℕ → List ℕ → ℕ → ℕ → Machine
start text pool window pc args results stack = record {
  pc = pc;
  regs = start_regs stack args;
  text = text;
  pool = pool;
  window = window;
  stack = replicate stack 0 ++ (argument_words args ++ replicate (8 * results) 0);
  bottom = stack_top - stack;
}

-- The pool ends below the data window, and this ends below the stack.
pub record IsPlaced (m : Machine) : Type 0 where
  pub pool : pool_base + length m.pool ≤ data_base
  pub window : data_base + length m.window ≤ m.bottom

-- these instructions stand in the text from the pc on
abbrev pub HasAt : List ℕ → ℕ → List Inst → Type 0
HasAt text pc is = texts.HasAt decoding text pc is

-- the words begin with these instructions
abbrev pub Begins : List ℕ → List Inst → Type 0
Begins words is = texts.Begins decoding words is

-- after this many steps, none of which stops, the first machine is the second
abbrev pub Goes : ℕ → Machine → Machine → Type 0
Goes steps m m' = runs.Goes step steps m m'
