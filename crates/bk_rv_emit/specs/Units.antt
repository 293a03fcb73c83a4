-- The instructions of each op: one row for each, d being the result, a, b and c the arguments, and x31 free.
use Rattle.std.specs.Prelude.{ℕ, zero, suc, ℤ, pos, negsuc, ◌+◌, ◌*◌, ◌/◌, ◌%◌, ◌^◌, min, Bool, true, false, nat_le, ◌==◌, if◌then◌else◌, List, [], ◌∷◌, ◌++◌, map, Option, Some, None, option_map}
use Rattle.bk_num.specs.Word.{fits_signed}
use Rattle.bk_ops.specs.declared.family.Family.{Family}
use Rattle.bk_ops.specs.declared.family.Family.TheVariants as op
use Rattle.bk_ops.specs.declared.family.RvOp.{RvOp}
use Rattle.bk_ops.specs.declared.family.RvOp.TheVariants as rv
use Rattle.bk_ops.specs.declared.table.Op.{Op}
use Rattle.bk_rv_isa.specs.declared.inst.RegisterOp.{RegisterOp}
use Rattle.bk_rv_isa.specs.declared.inst.RegisterOp.TheVariants as register
use Rattle.bk_rv_isa.specs.declared.inst.ImmediateOp.{ImmediateOp}
use Rattle.bk_rv_isa.specs.declared.inst.ImmediateOp.TheVariants.{Addi, Sltiu, Xori, Ori, Andi}
use Rattle.bk_rv_isa.specs.declared.inst.ShiftOp.{ShiftOp}
use Rattle.bk_rv_isa.specs.declared.inst.ShiftOp.TheVariants.{Slli, Srli, Srai}
use Rattle.bk_rv_isa.specs.declared.inst.LoadOp.{LoadOp}
use Rattle.bk_rv_isa.specs.declared.inst.LoadOp.TheVariants.{Lw, Ld, Lbu, Lhu}
use Rattle.bk_rv_isa.specs.declared.inst.StoreOp.{StoreOp}
use Rattle.bk_rv_isa.specs.declared.inst.StoreOp.TheVariants.{Sb, Sh, Sw, Sd}
use Rattle.bk_rv_isa.specs.declared.inst.BranchOp.TheVariants.{Beq, Bne}
use Rattle.bk_rv_isa.specs.declared.inst.Inst.{Inst}
use Rattle.bk_rv_isa.specs.declared.inst.Inst.TheVariants as i
use Rattle.bk_piece.specs.declared.Handle.{Handle}
use Rattle.bk_piece.specs.declared.Patch.TheVariants as patch
use Rattle.bk_emit.specs.declared.lines.Line.{Line}
use Rattle.bk_emit.specs.declared.table.Regs.{Regs}
use Rattle.bk_emit.specs.Lines.{opening}
use Rattle.bk_rv_emit.specs.Lines.{inst, word_of}
use Rattle.bk_rv_emit.specs.Numbers.{capped, upper, lower}
use Rattle.bk_rv_emit.specs.Words.{load_at, store_at}

-- the row of three registers with the name of the op
unfoldable pub register_op : RvOp → Option RegisterOp
register_op rv.Add = Some register.Add
register_op rv.Sub = Some register.Sub
register_op rv.Mul = Some register.Mul
register_op rv.And = Some register.And
register_op rv.Or = Some register.Or
register_op rv.Xor = Some register.Xor
register_op rv.Mulh = Some register.Mulh
register_op rv.Mulhu = Some register.Mulhu
register_op rv.Div = Some register.Div
register_op rv.Divu = Some register.Divu
register_op rv.Rem = Some register.Rem
register_op rv.Remu = Some register.Remu
register_op rv.Slt = Some register.Slt
register_op rv.Sltu = Some register.Sltu
register_op _ = None

abbrev pub of_immediate : ImmediateOp → Regs → ℤ → Inst
of_immediate o r c = i.OpImm o r.d r.a c

-- a count that does not fit counts as 64, which no instruction holds
abbrev pub of_count : ShiftOp → Regs → ℤ → Inst
of_count o r c = i.Shift o r.d r.a (capped 64 c)

-- the instruction with the name of the op: of three registers, of two and an immediate, or of two and a count
unfoldable pub named : RvOp → Regs → ℤ → Option Inst
named rv.Addi r c = Some (of_immediate Addi r c)
named rv.Andi r c = Some (of_immediate Andi r c)
named rv.Ori r c = Some (of_immediate Ori r c)
named rv.Xori r c = Some (of_immediate Xori r c)
named rv.Slli r c = Some (of_count Slli r c)
named rv.Srli r c = Some (of_count Srli r c)
named rv.Srai r c = Some (of_count Srai r c)
named o r c = option_map (λ k. i.Op k r.d r.a r.b) (register_op o)

abbrev pub load_op : ℕ → LoadOp
load_op w = if w == 8 then Ld else (if w == 4 then Lw else (if w == 2 then Lhu else Lbu))

abbrev pub store_op : ℕ → StoreOp
store_op w = if w == 8 then Sd else (if w == 4 then Sw else (if w == 2 then Sh else Sb))

-- the ops of one instruction
unfoldable pub single : RvOp → ℕ → Regs → ℤ → Option Inst
single rv.Neg w r c = Some (i.Op register.Sub r.d 0 r.a)
single rv.Seqz w r c = Some (i.OpImm Sltiu r.d r.a (pos 1))
single rv.Snez w r c = Some (i.Op register.Sltu r.d 0 r.a)
single rv.Load w r c = Some (i.Load (load_op w) r.d r.a c)
single rv.Store w r c = Some (i.Store (store_op w) r.b r.a c)
single o w r c = named o r c

-- a shift: 0 at counts of 64 and above
abbrev pub shift : RegisterOp → Regs → List Inst
shift o r =
    i.OpImm Sltiu 31 r.b (pos 64) ∷ i.Op register.Sub 31 0 31 ∷ i.Op o r.d r.a r.b ∷ i.Op register.And r.d r.d 31 ∷ []

-- a shift of a signed number: the sign fill at counts of 64 and above
abbrev pub sign_shift : Regs → List Inst
sign_shift r =
    i.OpImm Sltiu 31 r.b (pos 64) ∷ i.OpImm Addi 31 31 (negsuc 0) ∷ i.Op register.Or 31 31 r.b ∷ i.Op register.Sra r.d r.a 31 ∷ []

abbrev pub rotation : Regs → List Inst
rotation r =
    i.Op register.Sub 31 0 r.b ∷ i.Op register.Srl 31 r.a 31 ∷ i.Op register.Sll r.d r.a r.b ∷ i.Op register.Or r.d r.d 31 ∷ []

-- a where the low bit of c is 1, else b
abbrev pub choice : Regs → List Inst
choice r =
    i.OpImm Andi 31 r.c (pos 1)
    ∷ i.Branch Beq 31 0 (pos 12)
    ∷ i.OpImm Addi 31 r.a (pos 0)
    ∷ i.Jal 0 (pos 8)
    ∷ i.OpImm Addi 31 r.b (pos 0)
    ∷ i.OpImm Addi r.d 31 (pos 0)
    ∷ []

abbrev pub store_bool : Regs → ℤ → List Inst
store_bool r c = i.OpImm Andi 31 r.b (pos 1) ∷ i.Store Sb 31 r.a c ∷ []

-- trap 1 where the address is 0
abbrev pub nil_check : ℕ → List Inst
nil_check a = i.Branch Bne a 0 (pos 12) ∷ i.OpImm Addi 31 0 (pos 1) ∷ i.Ebreak ∷ []

-- w bytes at an offset: zeros at a, or moved from b to a
abbrev pub chunk : Bool → Regs → ℕ → ℕ → List Inst
chunk true r w offset = i.Load (load_op w) 31 r.b (pos offset) ∷ i.Store (store_op w) 31 r.a (pos offset) ∷ []
chunk false r w offset = i.Store (store_op w) 0 r.a (pos offset) ∷ []

-- the first n pieces of eight bytes
unfoldable pub eights : Bool → Regs → ℕ → List Inst
eights m r zero = []
eights m r (suc n) = eights m r n ++ chunk m r 8 (8 * n)

abbrev pub chunk_if : Bool → Bool → Regs → ℕ → ℕ → List Inst
chunk_if there m r w offset = if there then chunk m r w offset else []

-- so many bytes from offset 0, in the largest pieces that fit
abbrev pub chunks : Bool → Regs → ℕ → List Inst
chunks m r n =
    eights m r (n / 8)
    ++ (chunk_if (nat_le 4 (n % 8)) m r 4 (n / 8 * 8)
    ++ (chunk_if (nat_le 2 (n % 4)) m r 2 (n / 4 * 4)
    ++ chunk_if (n % 2 == 1) m r 1 (n / 2 * 2)))

-- a count of bytes: none where it is negative
abbrev pub byte_count : ℤ → ℕ
byte_count (pos n) = min n (2 ^ 32)
byte_count (negsuc n) = 0

-- the ops of several instructions
unfoldable pub several : RvOp → Regs → ℤ → List Inst
several rv.Lsl r c = shift register.Sll r
several rv.Lsr r c = shift register.Srl r
several rv.Asr r c = sign_shift r
several rv.Rotl r c = rotation r
several rv.Sel r c = choice r
several rv.StoreB r c = store_bool r c
several rv.Zero r c = chunks false r (byte_count c)
several rv.Move r c = chunks true r (byte_count c)
several rv.Nil r c = nil_check r.a
several _ r c = []

abbrev pub machine_by : Option Inst → List Inst → List Inst
machine_by (Some one) is = one ∷ []
machine_by None is = is

-- the unit of a machine op that waits for no address
abbrev pub machine_unit : RvOp → ℕ → Regs → ℤ → List Inst
machine_unit o w r c = machine_by (single o w r c) (several o r c)

-- a constant: of 12 bits, of 32 bits, or at an address of the pool
abbrev pub const_unit : ℕ → ℤ → Option Handle → List Line
const_unit d c h =
    if fits_signed 12 c then inst (i.OpImm Addi d 0 c) ∷ []
    else (if fits_signed 32 c then inst (i.Lui d (upper c)) ∷ inst (i.Addiw d d (lower c)) ∷ []
    else opening patch.Pool h (word_of (i.Lui d (pos 0))) ∷ inst (i.Load Ld d d (pos 0)) ∷ [])

abbrev pub addr_unit : ℕ → Option Handle → List Line
addr_unit d h = opening patch.Addr h (word_of (i.Lui d (pos 0))) ∷ inst (i.OpImm Addi d d (pos 0)) ∷ []

abbrev pub call_unit : Option Handle → List Line
call_unit h = opening patch.Call h (word_of (i.Auipc 31 (pos 0))) ∷ inst (i.Jalr 1 31 (pos 0)) ∷ []

abbrev pub trap : ℤ → List Line
trap n = inst (i.OpImm Addi 31 0 n) ∷ inst i.Ebreak ∷ []

-- the offset of the word with this number behind an offset from the stack pointer
abbrev pub word_offset : ℕ → ℤ → ℕ
word_offset base w = base + 8 * capped (2 ^ 32) w

-- the unit of an op by its row, in a frame of so many bytes; phis, the first state and words in registers have none
unfoldable pub family_unit : Family → ℕ → Regs → ℤ → Option Handle → ℕ → List Line
family_unit (op.Rv rv.Const) w r c h f = const_unit r.d c h
family_unit (op.Rv rv.Addr) w r c h f = addr_unit r.d h
family_unit (op.Rv o) w r c h f = map inst (machine_unit o w r c)
family_unit op.ArgWord w r c h f = map inst (load_at r.d (word_offset f c))
family_unit op.RetWord w r c h f = map inst (store_at r.a (word_offset f c))
family_unit op.ResWord w r c h f = map inst (load_at r.d (word_offset 0 c))
family_unit op.OutWord w r c h f = map inst (store_at r.a (word_offset 0 c))
family_unit op.Call w r c h f = call_unit h
family_unit op.CallRegs w r c h f = call_unit h
family_unit op.Trap w r c h f = trap c
family_unit _ w r c h f = []

abbrev pub unit : Op → Regs → ℤ → Option Handle → ℕ → List Line
unit o r c h f = family_unit o.family o.a r c h f
