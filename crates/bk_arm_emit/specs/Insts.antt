-- Instructions under no condition, and those that stand for fields that fit none.
use Rattle.std.specs.Prelude.{ℕ, zero, suc, ℤ, pos, negsuc, ◌+◌, ◌*◌, ◌/◌, ◌%◌, ◌^◌, min, nat_lt, ◌==◌, ◌&&◌, if◌then◌else◌, List, [], ◌∷◌, Option, Some, None}
use Rattle.bk_num.specs.Word.{residue, rotated}
use Rattle.bk_arm_isa.specs.declared.Condition.{Condition}
use Rattle.bk_arm_isa.specs.declared.Condition.TheVariants.{Al}
use Rattle.bk_arm_isa.specs.declared.DataOp.{DataOp}
use Rattle.bk_arm_isa.specs.declared.MoveOp.TheVariants.{Mov}
use Rattle.bk_arm_isa.specs.declared.TestOp.{TestOp}
use Rattle.bk_arm_isa.specs.declared.Shift.{Shift}
use Rattle.bk_arm_isa.specs.declared.Shift.TheVariants.{Lsl}
use Rattle.bk_arm_isa.specs.declared.Operand2.{Operand2}
use Rattle.bk_arm_isa.specs.declared.Operand2.TheVariants.{Immediate, ShiftImmediate}
use Rattle.bk_arm_isa.specs.declared.Inst.{Inst}
use Rattle.bk_arm_isa.specs.declared.Inst.TheVariants as i

-- an instruction at which the machine faults; it stands where fields fit no instruction
abbrev pub fault : Inst
fault = i.Udf 0

-- a register, and a number below 256, as the second operand
abbrev pub plain : ℕ → Operand2
plain m = ShiftImmediate m Lsl 0

abbrev pub byte : ℕ → Operand2
byte n = Immediate n 0

abbrev pub compute : DataOp → ℕ → ℕ → Operand2 → Inst
compute o d n x = i.Data Al o d n x

abbrev pub test : TestOp → ℕ → Operand2 → Inst
test o n x = i.Test Al o n x

abbrev pub copy_if : Condition → ℕ → Operand2 → Inst
copy_if c d x = i.Move c Mov d x

abbrev pub copy : ℕ → Operand2 → Inst
copy d x = copy_if Al d x

-- over the next instruction, where the condition holds
abbrev pub skip : Condition → Inst
skip c = i.B c (pos 0)

-- a number in a register: its low half, and its high half where that is not 0
abbrev pub high : ℕ → ℕ
high n = n / 2 ^ 16 % 2 ^ 16

abbrev pub number : ℕ → ℕ → List Inst
number d n = i.Movw Al d (n % 2 ^ 16) ∷ (if high n == 0 then [] else i.Movt Al d (high n) ∷ [])

-- of k rotations from r on the least by which n of 32 bits is a byte rotated right
unfoldable pub immediate_from : ℕ → ℕ → ℕ → Option Operand2
immediate_from zero r n = None
immediate_from (suc k) r n =
    if nat_lt (rotated 32 n (2 * r)) 256 then Some (Immediate (rotated 32 n (2 * r)) r) else immediate_from k (r + 1) n

-- a number of 32 bits as an immediate with the least rotation
abbrev pub immediate : ℤ → Option Operand2
immediate z = immediate_from 16 0 (residue 32 z)

abbrev pub data_if : Option Operand2 → DataOp → ℕ → ℕ → Inst
data_if (Some x) o d n = compute o d n x
data_if None o d n = fault

-- a register and a number
abbrev pub with_number : DataOp → ℕ → ℕ → ℤ → Inst
with_number o d n z = data_if (immediate z) o d n

-- a number, at most m, which stands for those that are above it or negative
abbrev pub capped : ℕ → ℤ → ℕ
capped m (pos n) = min n m
capped m (negsuc n) = m

-- a register shifted by a count; one that does not fit counts as 32, which no instruction holds
abbrev pub by_count : Shift → ℕ → ℤ → Operand2
by_count s m z = ShiftImmediate m s (capped 32 z)

-- w bytes at an offset from n are loaded or stored; an access of two bytes holds offsets below 256, others such below 4096
abbrev pub load : ℕ → ℕ → ℕ → ℕ → Inst
load w d n o =
    if w == 4 && nat_lt o 4096 then i.Ldr Al d n o
    else (if w == 2 && nat_lt o 256 then i.Ldrh Al d n o
    else (if w == 1 && nat_lt o 4096 then i.Ldrb Al d n o else fault))

abbrev pub store : ℕ → ℕ → ℕ → ℕ → Inst
store w a n o =
    if w == 4 && nat_lt o 4096 then i.Str Al a n o
    else (if w == 2 && nat_lt o 256 then i.Strh Al a n o
    else (if w == 1 && nat_lt o 4096 then i.Strb Al a n o else fault))

-- a trap with a number; one that 16 bits don't hold counts as 0, at which the machine faults
abbrev pub trap_number : ℤ → ℕ
trap_number (pos n) = if nat_lt n (2 ^ 16) then n else 0
trap_number (negsuc n) = 0

abbrev pub trap : ℤ → Inst
trap z = i.Udf (trap_number z)
