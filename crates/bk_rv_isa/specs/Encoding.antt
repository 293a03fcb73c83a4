-- The instructions and their words: the formats, funct fields and opcodes of the RISC-V manual, and no other word.
use Rattle.std.specs.Prelude.{ℕ, ℤ, ◌+◌, ◌*◌, ◌/◌, ◌%◌, ◌^◌, Bool, true, nat_lt, ◌&&◌, ◌==◌, if◌then◌else◌, Option, Some, None, [], ◌∷◌, find, option_map}
use Rattle.bk_num.specs.Word.{signed, residue, fits_signed}
use Rattle.bk_rv_isa.specs.declared.inst.RegisterOp.{RegisterOp}
use Rattle.bk_rv_isa.specs.declared.inst.RegisterOp.TheVariants.{Add, Sub, Sll, Slt, Sltu, Xor, Srl, Sra, Or, And, Mul, Mulh, Mulhsu, Mulhu, Div, Divu, Rem, Remu}
use Rattle.bk_rv_isa.specs.declared.inst.ImmediateOp.{ImmediateOp}
use Rattle.bk_rv_isa.specs.declared.inst.ImmediateOp.TheVariants.{Addi, Slti, Sltiu, Xori, Ori, Andi}
use Rattle.bk_rv_isa.specs.declared.inst.ShiftOp.{ShiftOp}
use Rattle.bk_rv_isa.specs.declared.inst.ShiftOp.TheVariants.{Slli, Srli, Srai}
use Rattle.bk_rv_isa.specs.declared.inst.LoadOp.{LoadOp}
use Rattle.bk_rv_isa.specs.declared.inst.LoadOp.TheVariants.{Lb, Lh, Lw, Ld, Lbu, Lhu, Lwu}
use Rattle.bk_rv_isa.specs.declared.inst.StoreOp.{StoreOp}
use Rattle.bk_rv_isa.specs.declared.inst.StoreOp.TheVariants.{Sb, Sh, Sw, Sd}
use Rattle.bk_rv_isa.specs.declared.inst.BranchOp.{BranchOp}
use Rattle.bk_rv_isa.specs.declared.inst.BranchOp.TheVariants.{Beq, Bne, Blt, Bge, Bltu, Bgeu}
use Rattle.bk_rv_isa.specs.declared.inst.Inst.{Inst}
use Rattle.bk_rv_isa.specs.declared.inst.Inst.TheVariants.{Op, OpImm, Shift, Addiw, Load, Store, Branch, Lui, Auipc, Jal, Jalr, Ebreak}

-- the R format, and the others below, from the fields and the opcode; an immediate is the number that its bits spell
abbrev pub r_type : ℕ → ℕ → ℕ → ℕ → ℕ → ℕ → ℕ
r_type opcode funct3 funct7 rd rs1 rs2 = funct7 * 2 ^ 25 + rs2 * 2 ^ 20 + rs1 * 2 ^ 15 + funct3 * 2 ^ 12 + rd * 2 ^ 7 + opcode

-- an immediate of 12 bits in place of funct7 and rs2
abbrev pub i_type : ℕ → ℕ → ℕ → ℕ → ℕ → ℕ
i_type opcode funct3 rd rs1 imm = imm * 2 ^ 20 + rs1 * 2 ^ 15 + funct3 * 2 ^ 12 + rd * 2 ^ 7 + opcode

-- the immediate's high seven bits on top, its low five in place of rd
abbrev pub s_type : ℕ → ℕ → ℕ → ℕ → ℕ → ℕ
s_type opcode funct3 rs1 rs2 imm = imm / 2 ^ 5 * 2 ^ 25 + rs2 * 2 ^ 20 + rs1 * 2 ^ 15 + funct3 * 2 ^ 12 + imm % 2 ^ 5 * 2 ^ 7 + opcode

-- as the S format; bit 12 on top, bit 11 the lowest of rd's place, and bit 0 is 0
abbrev pub b_type : ℕ → ℕ → ℕ → ℕ → ℕ → ℕ
b_type opcode funct3 rs1 rs2 imm =
    imm / 2 ^ 12 * 2 ^ 31 + imm / 2 ^ 5 % 2 ^ 6 * 2 ^ 25 + rs2 * 2 ^ 20 + rs1 * 2 ^ 15 + funct3 * 2 ^ 12 + imm / 2 % 2 ^ 4 * 2 ^ 8 + imm / 2 ^ 11 % 2 * 2 ^ 7 + opcode

-- an immediate of 20 bits above rd
abbrev pub u_type : ℕ → ℕ → ℕ → ℕ
u_type opcode rd imm = imm * 2 ^ 12 + rd * 2 ^ 7 + opcode

-- an immediate of 21 bits above rd: bits 20, 10 to 1, 11 and 19 to 12 from the top; bit 0 is 0
abbrev pub j_type : ℕ → ℕ → ℕ → ℕ
j_type opcode rd imm = imm / 2 ^ 20 * 2 ^ 31 + imm / 2 % 2 ^ 10 * 2 ^ 21 + imm / 2 ^ 11 % 2 * 2 ^ 20 + imm / 2 ^ 12 % 2 ^ 8 * 2 ^ 12 + rd * 2 ^ 7 + opcode

-- funct3 of opcode 0x33
abbrev pub register_funct3 : RegisterOp → ℕ
register_funct3 Add = 0
register_funct3 Sub = 0
register_funct3 Sll = 1
register_funct3 Slt = 2
register_funct3 Sltu = 3
register_funct3 Xor = 4
register_funct3 Srl = 5
register_funct3 Sra = 5
register_funct3 Or = 6
register_funct3 And = 7
register_funct3 Mul = 0
register_funct3 Mulh = 1
register_funct3 Mulhsu = 2
register_funct3 Mulhu = 3
register_funct3 Div = 4
register_funct3 Divu = 5
register_funct3 Rem = 6
register_funct3 Remu = 7

-- funct7 of opcode 0x33
abbrev pub register_funct7 : RegisterOp → ℕ
register_funct7 Add = 0
register_funct7 Sub = 32
register_funct7 Sll = 0
register_funct7 Slt = 0
register_funct7 Sltu = 0
register_funct7 Xor = 0
register_funct7 Srl = 0
register_funct7 Sra = 32
register_funct7 Or = 0
register_funct7 And = 0
register_funct7 Mul = 1
register_funct7 Mulh = 1
register_funct7 Mulhsu = 1
register_funct7 Mulhu = 1
register_funct7 Div = 1
register_funct7 Divu = 1
register_funct7 Rem = 1
register_funct7 Remu = 1

-- funct3 of opcode 0x13, for what is no shift
abbrev pub immediate_funct3 : ImmediateOp → ℕ
immediate_funct3 Addi = 0
immediate_funct3 Slti = 2
immediate_funct3 Sltiu = 3
immediate_funct3 Xori = 4
immediate_funct3 Ori = 6
immediate_funct3 Andi = 7

-- funct3 of opcode 0x13, for the shifts
abbrev pub shift_funct3 : ShiftOp → ℕ
shift_funct3 Slli = 1
shift_funct3 Srli = 5
shift_funct3 Srai = 5

-- the top six bits above a count of six bits
abbrev pub shift_funct6 : ShiftOp → ℕ
shift_funct6 Slli = 0
shift_funct6 Srli = 0
shift_funct6 Srai = 16

-- funct3 of opcode 0x03
abbrev pub load_funct3 : LoadOp → ℕ
load_funct3 Lb = 0
load_funct3 Lh = 1
load_funct3 Lw = 2
load_funct3 Ld = 3
load_funct3 Lbu = 4
load_funct3 Lhu = 5
load_funct3 Lwu = 6

-- funct3 of opcode 0x23
abbrev pub store_funct3 : StoreOp → ℕ
store_funct3 Sb = 0
store_funct3 Sh = 1
store_funct3 Sw = 2
store_funct3 Sd = 3

-- funct3 of opcode 0x63
abbrev pub branch_funct3 : BranchOp → ℕ
branch_funct3 Beq = 0
branch_funct3 Bne = 1
branch_funct3 Blt = 4
branch_funct3 Bge = 5
branch_funct3 Bltu = 6
branch_funct3 Bgeu = 7

-- z is an even number of w bits with its sign
abbrev pub is_even_signed : ℕ → ℤ → Bool
is_even_signed w z = fits_signed w z && residue w z % 2 == 0

-- each field fits
abbrev pub fits : Inst → Bool
fits (Op op rd rs1 rs2) = nat_lt rd 32 && (nat_lt rs1 32 && nat_lt rs2 32)
fits (OpImm op rd rs1 imm) = nat_lt rd 32 && (nat_lt rs1 32 && fits_signed 12 imm)
fits (Shift op rd rs1 count) = nat_lt rd 32 && (nat_lt rs1 32 && nat_lt count 64)
fits (Addiw rd rs1 imm) = nat_lt rd 32 && (nat_lt rs1 32 && fits_signed 12 imm)
fits (Load op rd base offset) = nat_lt rd 32 && (nat_lt base 32 && fits_signed 12 offset)
fits (Store op src base offset) = nat_lt src 32 && (nat_lt base 32 && fits_signed 12 offset)
fits (Branch op rs1 rs2 offset) = nat_lt rs1 32 && (nat_lt rs2 32 && is_even_signed 13 offset)
fits (Lui rd imm) = nat_lt rd 32 && fits_signed 20 imm
fits (Auipc rd imm) = nat_lt rd 32 && fits_signed 20 imm
fits (Jal rd offset) = nat_lt rd 32 && is_even_signed 21 offset
fits (Jalr rd base offset) = nat_lt rd 32 && (nat_lt base 32 && fits_signed 12 offset)
fits Ebreak = true

-- the word whose fields are those of the instruction
abbrev pub word : Inst → ℕ
word (Op op rd rs1 rs2) = r_type 0x33 (register_funct3 op) (register_funct7 op) rd rs1 rs2
word (OpImm op rd rs1 imm) = i_type 0x13 (immediate_funct3 op) rd rs1 (residue 12 imm)
word (Shift op rd rs1 count) = i_type 0x13 (shift_funct3 op) rd rs1 (shift_funct6 op * 2 ^ 6 + count)
word (Addiw rd rs1 imm) = i_type 0x1b 0 rd rs1 (residue 12 imm)
word (Load op rd base offset) = i_type 0x03 (load_funct3 op) rd base (residue 12 offset)
word (Store op src base offset) = s_type 0x23 (store_funct3 op) base src (residue 12 offset)
word (Branch op rs1 rs2 offset) = b_type 0x63 (branch_funct3 op) rs1 rs2 (residue 13 offset)
word (Lui rd imm) = u_type 0x37 rd (residue 20 imm)
word (Auipc rd imm) = u_type 0x17 rd (residue 20 imm)
word (Jal rd offset) = j_type 0x6f rd (residue 21 offset)
word (Jalr rd base offset) = i_type 0x67 0 rd base (residue 12 offset)
word Ebreak = 0x00100073

-- the table: the word of an instruction, none where a field does not fit
abbrev pub encoding : Inst → Option ℕ
encoding i = if fits i then Some (word i) else None

-- the opcode of a word
abbrev pub opcode : ℕ → ℕ
opcode n = n % 2 ^ 7

-- funct3 of a word
abbrev pub funct3 : ℕ → ℕ
funct3 n = n / 2 ^ 12 % 2 ^ 3

-- funct7 of a word
abbrev pub funct7 : ℕ → ℕ
funct7 n = n / 2 ^ 25

-- the destination's number
abbrev pub rd : ℕ → ℕ
rd n = n / 2 ^ 7 % 2 ^ 5

-- the first source's number
abbrev pub rs1 : ℕ → ℕ
rs1 n = n / 2 ^ 15 % 2 ^ 5

-- the second source's number
abbrev pub rs2 : ℕ → ℕ
rs2 n = n / 2 ^ 20 % 2 ^ 5

-- a shift's count
abbrev pub count : ℕ → ℕ
count n = n / 2 ^ 20 % 2 ^ 6

-- the signed immediate of the I format
abbrev pub i_immediate : ℕ → ℤ
i_immediate n = signed 12 (n / 2 ^ 20)

-- the signed immediate of the S format
abbrev pub s_immediate : ℕ → ℤ
s_immediate n = signed 12 (n / 2 ^ 25 * 2 ^ 5 + n / 2 ^ 7 % 2 ^ 5)

-- the signed immediate of the B format
abbrev pub b_immediate : ℕ → ℤ
b_immediate n = signed 13 (n / 2 ^ 31 * 2 ^ 12 + n / 2 ^ 7 % 2 * 2 ^ 11 + n / 2 ^ 25 % 2 ^ 6 * 2 ^ 5 + n / 2 ^ 8 % 2 ^ 4 * 2)

-- the signed immediate of the U format
abbrev pub u_immediate : ℕ → ℤ
u_immediate n = signed 20 (n / 2 ^ 12)

-- the signed immediate of the J format
abbrev pub j_immediate : ℕ → ℤ
j_immediate n = signed 21 (n / 2 ^ 31 * 2 ^ 20 + n / 2 ^ 12 % 2 ^ 8 * 2 ^ 12 + n / 2 ^ 20 % 2 * 2 ^ 11 + n / 2 ^ 21 % 2 ^ 10 * 2)

-- the row of opcode 0x33 that has these funct fields
unfoldable pub register_op : ℕ → ℕ → Option RegisterOp
register_op f3 f7 = find (λ op. register_funct3 op == f3 && register_funct7 op == f7) (Add ∷ Sub ∷ Sll ∷ Slt ∷ Sltu ∷ Xor ∷ Srl ∷ Sra ∷ Or ∷ And ∷ Mul ∷ Mulh ∷ Mulhsu ∷ Mulhu ∷ Div ∷ Divu ∷ Rem ∷ Remu ∷ [])

-- the row of opcode 0x13 that is no shift, by its funct3
unfoldable pub immediate_op : ℕ → Option ImmediateOp
immediate_op f3 = find (λ op. immediate_funct3 op == f3) (Addi ∷ Slti ∷ Sltiu ∷ Xori ∷ Ori ∷ Andi ∷ [])

-- the shift of opcode 0x13, by its funct3 and the six bits above the count
unfoldable pub shift_op : ℕ → ℕ → Option ShiftOp
shift_op f3 f6 = find (λ op. shift_funct3 op == f3 && shift_funct6 op == f6) (Slli ∷ Srli ∷ Srai ∷ [])

-- the row of opcode 0x03
unfoldable pub load_op : ℕ → Option LoadOp
load_op f3 = find (λ op. load_funct3 op == f3) (Lb ∷ Lh ∷ Lw ∷ Ld ∷ Lbu ∷ Lhu ∷ Lwu ∷ [])

-- the row of opcode 0x23
unfoldable pub store_op : ℕ → Option StoreOp
store_op f3 = find (λ op. store_funct3 op == f3) (Sb ∷ Sh ∷ Sw ∷ Sd ∷ [])

-- the row of opcode 0x63
unfoldable pub branch_op : ℕ → Option BranchOp
branch_op f3 = find (λ op. branch_funct3 op == f3) (Beq ∷ Bne ∷ Blt ∷ Bge ∷ Bltu ∷ Bgeu ∷ [])

-- the instruction of a word of opcode 0x13: the rows of funct3 1 and 5 are the shifts
abbrev pub op_imm : ℕ → Option Inst
op_imm n =
    if funct3 n % 4 == 1 then option_map (λ op. Shift op (rd n) (rs1 n) (count n)) (shift_op (funct3 n) (n / 2 ^ 26))
    else option_map (λ op. OpImm op (rd n) (rs1 n) (i_immediate n)) (immediate_op (funct3 n))

-- the instruction of a word with this opcode
abbrev pub decoding_by : ℕ → ℕ → Option Inst
decoding_by code n =
    if code == 0x33 then option_map (λ op. Op op (rd n) (rs1 n) (rs2 n)) (register_op (funct3 n) (funct7 n))
    else (if code == 0x13 then op_imm n
    else (if code == 0x1b then (if funct3 n == 0 then Some (Addiw (rd n) (rs1 n) (i_immediate n)) else None)
    else (if code == 0x03 then option_map (λ op. Load op (rd n) (rs1 n) (i_immediate n)) (load_op (funct3 n))
    else (if code == 0x23 then option_map (λ op. Store op (rs2 n) (rs1 n) (s_immediate n)) (store_op (funct3 n))
    else (if code == 0x63 then option_map (λ op. Branch op (rs1 n) (rs2 n) (b_immediate n)) (branch_op (funct3 n))
    else (if code == 0x37 then Some (Lui (rd n) (u_immediate n))
    else (if code == 0x17 then Some (Auipc (rd n) (u_immediate n))
    else (if code == 0x6f then Some (Jal (rd n) (j_immediate n))
    else (if code == 0x67 then (if funct3 n == 0 then Some (Jalr (rd n) (rs1 n) (i_immediate n)) else None)
    else (if code == 0x73 then (if n == 0x00100073 then Some Ebreak else None)
    else None))))))))))

-- the instruction of a word, none for a word outside the table
unfoldable pub decoding : ℕ → Option Inst
decoding n = decoding_by (opcode n) n
