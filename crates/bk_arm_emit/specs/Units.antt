-- The instructions of each op: one row for each, d being the result, a, b, c and e the arguments, and r11 free.
use Rattle.std.specs.Prelude.{ℕ, zero, suc, ℤ, pos, negsuc, ◌*◌, ◌+ℤ◌, ◌*ℤ◌, ◌/◌, ◌%◌, ◌^◌, min, Bool, true, false, nat_le, ◌==◌, if◌then◌else◌, List, [], ◌∷◌, ◌++◌, map, Option, Some, None, option_map}
use Rattle.bk_num.specs.Word.{residue}
use Rattle.bk_ops.specs.declared.family.Family.{Family}
use Rattle.bk_ops.specs.declared.family.Family.TheVariants as op
use Rattle.bk_ops.specs.declared.family.ArmOp.{ArmOp}
use Rattle.bk_ops.specs.declared.family.ArmOp.TheVariants as arm
use Rattle.bk_ops.specs.declared.table.Op.{Op}
use Rattle.bk_arm_isa.specs.declared.Condition.{Condition}
use Rattle.bk_arm_isa.specs.declared.Condition.TheVariants.{Al, Eq, Ne, Cs, Cc, Ls, Lt, Le}
use Rattle.bk_arm_isa.specs.declared.DataOp.{DataOp}
use Rattle.bk_arm_isa.specs.declared.DataOp.TheVariants as process
use Rattle.bk_arm_isa.specs.declared.MoveOp.TheVariants.{Mvn}
use Rattle.bk_arm_isa.specs.declared.TestOp.{TestOp}
use Rattle.bk_arm_isa.specs.declared.TestOp.TheVariants.{Tst, Cmp, Cmn}
use Rattle.bk_arm_isa.specs.declared.Shift.{Shift}
use Rattle.bk_arm_isa.specs.declared.Shift.TheVariants.{Lsl, Lsr, Asr, Ror}
use Rattle.bk_arm_isa.specs.declared.Operand2.TheVariants.{Immediate, ShiftImmediate, ShiftRegister}
use Rattle.bk_arm_isa.specs.declared.Inst.{Inst}
use Rattle.bk_arm_isa.specs.declared.Inst.TheVariants as i
use Rattle.bk_piece.specs.declared.Handle.{Handle}
use Rattle.bk_piece.specs.declared.Patch.TheVariants as patch
use Rattle.bk_emit.specs.declared.lines.Line.{Line}
use Rattle.bk_emit.specs.declared.table.Regs.{Regs}
use Rattle.bk_emit.specs.Lines.{opening}
use Rattle.bk_arm_emit.specs.Insts.{plain, byte, compute, test, copy, copy_if, skip, number, with_number, capped, by_count, load, store, trap}
use Rattle.bk_arm_emit.specs.Lines.{inst, word_of}
use Rattle.bk_arm_emit.specs.Words.{load_at, store_at}

-- the ops of two registers that are data processing
unfoldable pub data_op : ArmOp → Option DataOp
data_op arm.Add = Some process.Add
data_op arm.Sub = Some process.Sub
data_op arm.And = Some process.And
data_op arm.Orr = Some process.Orr
data_op arm.Eor = Some process.Eor
data_op _ = None

abbrev pub signed_quotient : ℕ → Regs → Inst
signed_quotient d r = i.Sdiv Al d r.a r.b

abbrev pub quotient : ℕ → Regs → Inst
quotient d r = i.Udiv Al d r.a r.b

-- the instruction with the name of the op, and those of a half of a product
unfoldable pub named : ArmOp → Regs → Option Inst
named arm.Mul r = Some (i.Mul Al r.d r.a r.b)
named arm.Smulh r = Some (i.Smull Al 11 r.d r.a r.b)
named arm.Umulh r = Some (i.Umull Al 11 r.d r.a r.b)
named arm.Sdiv r = Some (signed_quotient r.d r)
named arm.Udiv r = Some (quotient r.d r)
named arm.Mvn r = Some (i.Move Al Mvn r.d (plain r.a))
named arm.Sxtb r = Some (i.Sxtb Al r.d r.a)
named arm.Sxth r = Some (i.Sxth Al r.d r.a)
named arm.Uxtb r = Some (i.Uxtb Al r.d r.a)
named arm.Uxth r = Some (i.Uxth Al r.d r.a)
named o r = option_map (λ k. compute k r.d r.a (plain r.b)) (data_op o)

-- an offset of an access; one that does not fit counts as 4096, which none holds
abbrev pub offset : ℤ → ℕ
offset c = capped 4096 c

-- the ops of one instruction
unfoldable pub single : ArmOp → ℕ → Regs → ℤ → Option Inst
single arm.Rsb0 w r c = Some (compute process.Rsb r.d r.a (byte 0))
single arm.Addi w r c = Some (with_number process.Add r.d r.a c)
single arm.Subi w r c = Some (with_number process.Sub r.d r.a c)
single arm.Andi w r c = Some (with_number process.And r.d r.a c)
single arm.Eori w r c = Some (with_number process.Eor r.d r.a c)
single arm.Lsli w r c = Some (copy r.d (by_count Lsl r.a c))
single arm.Lsri w r c = Some (copy r.d (by_count Lsr r.a c))
single arm.Asri w r c = Some (copy r.d (by_count Asr r.a c))
single arm.Load w r c = Some (load w r.d r.a (offset c))
single arm.Store w r c = Some (store w r.b r.a (offset c))
single o w r c = named o r

-- the remainder of a quotient
abbrev pub remainder : Inst → Regs → List Inst
remainder first r = first ∷ i.Mls Al r.d 11 r.b r.a ∷ []

-- a shift: its low byte counts, and 0 stands at counts of 256 and above
abbrev pub shift : Shift → Regs → List Inst
shift s r = test Cmp r.b (Immediate 1 12) ∷ copy r.d (ShiftRegister r.a s r.b) ∷ copy_if Cs r.d (byte 0) ∷ []

-- a shift of a signed number: the sign fill stands at counts of 256 and above
abbrev pub sign_shift : Regs → List Inst
sign_shift r =
    test Cmp r.b (Immediate 1 12) ∷ copy r.d (ShiftRegister r.a Asr r.b) ∷ copy_if Cs r.d (ShiftImmediate r.d Asr 31) ∷ []

-- 1 where a condition holds of the comparison, else 0
abbrev pub set : Condition → Regs → List Inst
set k r = test Cmp r.a (plain r.b) ∷ copy r.d (byte 0) ∷ copy_if k r.d (byte 1) ∷ []

abbrev pub rotation : Regs → List Inst
rotation r = compute process.Rsb 11 r.b (byte 32) ∷ copy r.d (ShiftRegister r.a Ror 11) ∷ []

-- all ones where a is not 0, else 0
abbrev pub mask : Regs → List Inst
mask r = test Cmp r.a (byte 0) ∷ copy r.d (byte 0) ∷ i.Move Ne Mvn r.d (byte 0) ∷ []

abbrev pub trailing_zeros : Regs → List Inst
trailing_zeros r = i.Rbit Al 11 r.a ∷ i.Clz Al r.d 11 ∷ []

abbrev pub length_in_bits : Regs → List Inst
length_in_bits r = i.Clz Al 11 r.a ∷ compute process.Rsb r.d 11 (byte 32) ∷ []

-- a where the low bit of c is 1, else b
abbrev pub choice : Regs → List Inst
choice r = test Tst r.c (byte 1) ∷ copy 11 (plain r.b) ∷ copy_if Ne 11 (plain r.a) ∷ copy r.d (plain 11) ∷ []

-- the high half of a sum or a difference, the low halves being c and e
abbrev pub high_half : TestOp → DataOp → Regs → List Inst
high_half t k r = test t r.c (plain r.e) ∷ compute k r.d r.a (plain r.b) ∷ []

abbrev pub store_bool : Regs → ℤ → List Inst
store_bool r c = compute process.And 11 r.b (byte 1) ∷ store 1 11 r.a (offset c) ∷ []

-- trap 1 where the address is 0
abbrev pub nil_check : ℕ → List Inst
nil_check a = test Cmp a (byte 0) ∷ skip Ne ∷ trap (pos 1) ∷ []

-- w bytes at an offset: those of r11 at a, where it is a move loaded from b before
abbrev pub chunk : Bool → Regs → ℕ → ℕ → List Inst
chunk true r w o = load w 11 r.b o ∷ store w 11 r.a o ∷ []
chunk false r w o = store w 11 r.a o ∷ []

-- the first n pieces of four bytes
unfoldable pub fours : Bool → Regs → ℕ → List Inst
fours m r zero = []
fours m r (suc n) = fours m r n ++ chunk m r 4 (4 * n)

abbrev pub chunk_if : Bool → Bool → Regs → ℕ → ℕ → List Inst
chunk_if there m r w o = if there then chunk m r w o else []

-- so many bytes from offset 0, in the largest pieces that fit
abbrev pub chunks : Bool → Regs → ℕ → List Inst
chunks m r n =
    fours m r (n / 4)
    ++ (chunk_if (nat_le 2 (n % 4)) m r 2 (n / 4 * 4)
    ++ chunk_if (n % 2 == 1) m r 1 (n / 2 * 2))

-- a count of bytes: none where it is negative
abbrev pub byte_count : ℤ → ℕ
byte_count (pos n) = min n (2 ^ 32)
byte_count (negsuc n) = 0

-- zeros from a register, nothing where there are none
abbrev pub zeros : Regs → ℕ → List Inst
zeros r n = if n == 0 then [] else i.Movw Al 11 0 ∷ chunks false r n

-- the ops of several instructions
unfoldable pub several : ArmOp → Regs → ℤ → List Inst
several arm.Smod r c = remainder (signed_quotient 11 r) r
several arm.Umod r c = remainder (quotient 11 r) r
several arm.Lsl r c = shift Lsl r
several arm.Lsr r c = shift Lsr r
several arm.Asr r c = sign_shift r
several arm.SetEq r c = set Eq r
several arm.SetNe r c = set Ne r
several arm.SetLt r c = set Lt r
several arm.SetLe r c = set Le r
several arm.SetLo r c = set Cc r
several arm.SetLs r c = set Ls r
several arm.Rotl r c = rotation r
several arm.Zmask r c = mask r
several arm.Ctz r c = trailing_zeros r
several arm.Blen r c = length_in_bits r
several arm.Sel r c = choice r
several arm.AddHi r c = high_half Cmn process.Adc r
several arm.SubHi r c = high_half Cmp process.Sbc r
several arm.StoreB r c = store_bool r c
several arm.Zero r c = zeros r (byte_count c)
several arm.Move r c = chunks true r (byte_count c)
several arm.Nil r c = nil_check r.a
several _ r c = []

abbrev pub machine_by : Option Inst → List Inst → List Inst
machine_by (Some one) is = one ∷ []
machine_by None is = is

-- the unit of a machine op that waits for no address
abbrev pub machine_unit : ArmOp → ℕ → Regs → ℤ → List Inst
machine_unit o w r c = machine_by (single o w r c) (several o r c)

-- an address, of which both halves are filled in
abbrev pub addr_unit : ℕ → Option Handle → List Line
addr_unit d h = opening patch.Addr h (word_of (i.Movw Al d 0)) ∷ inst (i.Movt Al d 0) ∷ []

abbrev pub call_unit : Option Handle → List Line
call_unit h = opening patch.Call h (word_of (i.Bl Al (pos 0))) ∷ []

-- the offset of the word with this number behind an offset from the stack pointer, modulo 2 ^ 32
abbrev pub word_offset : ℕ → ℤ → ℕ
word_offset base w = residue 32 (pos base +ℤ pos 4 *ℤ w)

-- the unit of an op by its row, in a frame of so many bytes; phis and the first state have none
unfoldable pub family_unit : Family → ℕ → Regs → ℤ → Option Handle → ℕ → List Line
family_unit (op.Arm arm.Const) w r c h f = map inst (number r.d (residue 32 c))
family_unit (op.Arm arm.Addr) w r c h f = addr_unit r.d h
family_unit (op.Arm o) w r c h f = map inst (machine_unit o w r c)
family_unit op.ArgWord w r c h f = map inst (load_at r.d (word_offset f c))
family_unit op.RetWord w r c h f = map inst (store_at r.a (word_offset f c))
family_unit op.ResWord w r c h f = map inst (load_at r.d (word_offset 0 c))
family_unit op.OutWord w r c h f = map inst (store_at r.a (word_offset 0 c))
family_unit op.Call w r c h f = call_unit h
family_unit op.Trap w r c h f = inst (trap c) ∷ []
family_unit _ w r c h f = []

abbrev pub unit : Op → Regs → ℤ → Option Handle → ℕ → List Line
unit o r c h f = family_unit o.family o.a r c h f
