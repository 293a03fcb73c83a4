-- The op table: a row for each op, whatever the widths in its name.
use Rattle.std.specs.Prelude.{ℕ, Bool, true, false, nat_lt, ◌==◌, ◌&&◌, ◌||◌, if◌then◌else◌, List, [], Option, Some, None, codes}
use Rattle.bk_ops.specs.declared.family.Family.{Family}
use Rattle.bk_ops.specs.declared.family.Family.TheVariants.{Const, ConstBool, ConstNil, Add, Sub, Mul, And, Or, Xor, Neg, Com, Div, Divu, Mod, Modu, Hmul, Hmulu, Lsh, Rsh, RshU, Eq, Neq, Less, LessU, Leq, LeqU, EqB, NeqB, AndB, OrB, Not, EqPtr, NeqPtr, IsNonNil, IsInBounds, IsSliceInBounds, SignExt, ZeroExt, Trunc, CvtBoolToUint8, Signmask, Zeromask, Ctz32, BitLen32, RotateLeft, CondSelect, AddPtr, SubPtr, OffPtr, Int64Make, Int64Hi, Int64Lo, AddHi32, SubHi32, Phi, Copy, Arg, InitMem, Sp, Sb, Addr, Load, Store, Zero, Move, NilCheck, PanicBounds, StaticLECall, SelectN, MakeResult, ArgWord, ArgReg, ResWord, ResReg, OutWord, RetWord, RetRegs, Call, CallRegs, Trap, Arm, Rv}
use Rattle.bk_ops.specs.declared.family.ArmOp.{ArmOp}
use Rattle.bk_ops.specs.declared.family.ArmOp.TheVariants as arm
use Rattle.bk_ops.specs.declared.family.RvOp.{RvOp}
use Rattle.bk_ops.specs.declared.family.RvOp.TheVariants as rv
use Rattle.bk_ops.specs.declared.table.Widths.{Widths}
use Rattle.bk_ops.specs.declared.table.Widths.TheVariants.{Alone, Each, Long, Only, Pairs, Rising, Falling, UpTo4, UpTo8}
use Rattle.bk_ops.specs.declared.table.AuxKind.{AuxKind}
use Rattle.bk_ops.specs.declared.table.AuxKind.TheVariants as aux
use Rattle.bk_ops.specs.declared.table.Class.{Class}
use Rattle.bk_ops.specs.declared.table.Class.TheVariants.{Number, Word, Bool as Truth, Mem, Void, Tuple, ByType}
use Rattle.bk_ops.specs.declared.table.OpInfo.{OpInfo}
use Rattle.bk_ops.specs.declared.table.Op.{Op}

-- a row: an op's name is `head`, its first width, `tail` and its second width
pub record Row : Type 0 where
  pub head : List ℕ
  pub tail : List ℕ
  pub widths : Widths
  pub info : OpInfo

abbrev pub seen : List ℕ → List ℕ → Widths → OpInfo → Row
seen h t w o = record { head = h; tail = t; widths = w; info = o }

unfoldable pub entry : List ℕ → List ℕ → Widths → Option ℕ → AuxKind → Class → Bool → Bool → Row
entry h t w n x r c m = seen h t w (record { arity = n; aux = x; result = r; commutative = c; memory = m })

-- The columns of the table: head, tail, widths, count of arguments, aux, result, commutative, memory.

-- machine ops of arm
unfoldable pub arm_row : ArmOp → Row
arm_row arm.Const = entry (codes "ARMCONST") [] Alone (Some 0) aux.Int Word false false
arm_row arm.Addr = entry (codes "ARMADDR") [] Alone (Some 0) aux.Name Word false false
arm_row arm.Add = entry (codes "ARMADD") [] Alone (Some 2) aux.None Word true false
arm_row arm.Sub = entry (codes "ARMSUB") [] Alone (Some 2) aux.None Word false false
arm_row arm.Mul = entry (codes "ARMMUL") [] Alone (Some 2) aux.None Word false false
arm_row arm.And = entry (codes "ARMAND") [] Alone (Some 2) aux.None Word true false
arm_row arm.Orr = entry (codes "ARMORR") [] Alone (Some 2) aux.None Word true false
arm_row arm.Eor = entry (codes "ARMEOR") [] Alone (Some 2) aux.None Word true false
arm_row arm.Smulh = entry (codes "ARMSMULH") [] Alone (Some 2) aux.None Word false false
arm_row arm.Umulh = entry (codes "ARMUMULH") [] Alone (Some 2) aux.None Word false false
arm_row arm.Sdiv = entry (codes "ARMSDIV") [] Alone (Some 2) aux.None Word false false
arm_row arm.Udiv = entry (codes "ARMUDIV") [] Alone (Some 2) aux.None Word false false
arm_row arm.Smod = entry (codes "ARMSMOD") [] Alone (Some 2) aux.None Word false false
arm_row arm.Umod = entry (codes "ARMUMOD") [] Alone (Some 2) aux.None Word false false
arm_row arm.Lsl = entry (codes "ARMLSL") [] Alone (Some 2) aux.None Word false false
arm_row arm.Lsr = entry (codes "ARMLSR") [] Alone (Some 2) aux.None Word false false
arm_row arm.Asr = entry (codes "ARMASR") [] Alone (Some 2) aux.None Word false false
arm_row arm.SetEq = entry (codes "ARMSETEQ") [] Alone (Some 2) aux.None Word false false
arm_row arm.SetNe = entry (codes "ARMSETNE") [] Alone (Some 2) aux.None Word false false
arm_row arm.SetLt = entry (codes "ARMSETLT") [] Alone (Some 2) aux.None Word false false
arm_row arm.SetLe = entry (codes "ARMSETLE") [] Alone (Some 2) aux.None Word false false
arm_row arm.SetLo = entry (codes "ARMSETLO") [] Alone (Some 2) aux.None Word false false
arm_row arm.SetLs = entry (codes "ARMSETLS") [] Alone (Some 2) aux.None Word false false
arm_row arm.Rotl = entry (codes "ARMROTL") [] Alone (Some 2) aux.None Word false false
arm_row arm.Rsb0 = entry (codes "ARMRSB0") [] Alone (Some 1) aux.None Word false false
arm_row arm.Mvn = entry (codes "ARMMVN") [] Alone (Some 1) aux.None Word false false
arm_row arm.Sxtb = entry (codes "ARMSXTB") [] Alone (Some 1) aux.None Word false false
arm_row arm.Sxth = entry (codes "ARMSXTH") [] Alone (Some 1) aux.None Word false false
arm_row arm.Uxtb = entry (codes "ARMUXTB") [] Alone (Some 1) aux.None Word false false
arm_row arm.Uxth = entry (codes "ARMUXTH") [] Alone (Some 1) aux.None Word false false
arm_row arm.Zmask = entry (codes "ARMZMASK") [] Alone (Some 1) aux.None Word false false
arm_row arm.Ctz = entry (codes "ARMCTZ") [] Alone (Some 1) aux.None Word false false
arm_row arm.Blen = entry (codes "ARMBLEN") [] Alone (Some 1) aux.None Word false false
arm_row arm.Sel = entry (codes "ARMSEL") [] Alone (Some 3) aux.None Word false false
arm_row arm.AddHi = entry (codes "ARMADDHI") [] Alone (Some 4) aux.None Word false false
arm_row arm.SubHi = entry (codes "ARMSUBHI") [] Alone (Some 4) aux.None Word false false
arm_row arm.Addi = entry (codes "ARMADDI") [] Alone (Some 1) aux.Int Word false false
arm_row arm.Subi = entry (codes "ARMSUBI") [] Alone (Some 1) aux.Int Word false false
arm_row arm.Andi = entry (codes "ARMANDI") [] Alone (Some 1) aux.Int Word false false
arm_row arm.Eori = entry (codes "ARMEORI") [] Alone (Some 1) aux.Int Word false false
arm_row arm.Lsli = entry (codes "ARMLSLI") [] Alone (Some 1) aux.Int Word false false
arm_row arm.Lsri = entry (codes "ARMLSRI") [] Alone (Some 1) aux.Int Word false false
arm_row arm.Asri = entry (codes "ARMASRI") [] Alone (Some 1) aux.Int Word false false
arm_row arm.Load = entry (codes "ARMLOAD") [] UpTo4 (Some 2) aux.Int Word false true
arm_row arm.Store = entry (codes "ARMSTORE") [] UpTo4 (Some 3) aux.Int Mem false true
arm_row arm.StoreB = entry (codes "ARMSTOREB") [] Alone (Some 3) aux.Int Mem false true
arm_row arm.Zero = entry (codes "ARMZERO") [] Alone (Some 2) aux.Int Mem false true
arm_row arm.Move = entry (codes "ARMMOVE") [] Alone (Some 3) aux.Int Mem false true
arm_row arm.Nil = entry (codes "ARMNIL") [] Alone (Some 2) aux.None Void false true

-- machine ops of riscv64
unfoldable pub rv_row : RvOp → Row
rv_row rv.Const = entry (codes "RVCONST") [] Alone (Some 0) aux.Int Word false false
rv_row rv.Addr = entry (codes "RVADDR") [] Alone (Some 0) aux.Name Word false false
rv_row rv.Add = entry (codes "RVADD") [] Alone (Some 2) aux.None Word true false
rv_row rv.Sub = entry (codes "RVSUB") [] Alone (Some 2) aux.None Word false false
rv_row rv.Mul = entry (codes "RVMUL") [] Alone (Some 2) aux.None Word false false
rv_row rv.And = entry (codes "RVAND") [] Alone (Some 2) aux.None Word true false
rv_row rv.Or = entry (codes "RVOR") [] Alone (Some 2) aux.None Word true false
rv_row rv.Xor = entry (codes "RVXOR") [] Alone (Some 2) aux.None Word true false
rv_row rv.Mulh = entry (codes "RVMULH") [] Alone (Some 2) aux.None Word false false
rv_row rv.Mulhu = entry (codes "RVMULHU") [] Alone (Some 2) aux.None Word false false
rv_row rv.Div = entry (codes "RVDIV") [] Alone (Some 2) aux.None Word false false
rv_row rv.Divu = entry (codes "RVDIVU") [] Alone (Some 2) aux.None Word false false
rv_row rv.Rem = entry (codes "RVREM") [] Alone (Some 2) aux.None Word false false
rv_row rv.Remu = entry (codes "RVREMU") [] Alone (Some 2) aux.None Word false false
rv_row rv.Slt = entry (codes "RVSLT") [] Alone (Some 2) aux.None Word false false
rv_row rv.Sltu = entry (codes "RVSLTU") [] Alone (Some 2) aux.None Word false false
rv_row rv.Lsl = entry (codes "RVLSL") [] Alone (Some 2) aux.None Word false false
rv_row rv.Lsr = entry (codes "RVLSR") [] Alone (Some 2) aux.None Word false false
rv_row rv.Asr = entry (codes "RVASR") [] Alone (Some 2) aux.None Word false false
rv_row rv.Rotl = entry (codes "RVROTL") [] Alone (Some 2) aux.None Word false false
rv_row rv.Neg = entry (codes "RVNEG") [] Alone (Some 1) aux.None Word false false
rv_row rv.Seqz = entry (codes "RVSEQZ") [] Alone (Some 1) aux.None Word false false
rv_row rv.Snez = entry (codes "RVSNEZ") [] Alone (Some 1) aux.None Word false false
rv_row rv.Sel = entry (codes "RVSEL") [] Alone (Some 3) aux.None Word false false
rv_row rv.Addi = entry (codes "RVADDI") [] Alone (Some 1) aux.Int Word false false
rv_row rv.Andi = entry (codes "RVANDI") [] Alone (Some 1) aux.Int Word false false
rv_row rv.Ori = entry (codes "RVORI") [] Alone (Some 1) aux.Int Word false false
rv_row rv.Xori = entry (codes "RVXORI") [] Alone (Some 1) aux.Int Word false false
rv_row rv.Slli = entry (codes "RVSLLI") [] Alone (Some 1) aux.Int Word false false
rv_row rv.Srli = entry (codes "RVSRLI") [] Alone (Some 1) aux.Int Word false false
rv_row rv.Srai = entry (codes "RVSRAI") [] Alone (Some 1) aux.Int Word false false
rv_row rv.Load = entry (codes "RVLOAD") [] UpTo8 (Some 2) aux.Int Word false true
rv_row rv.Store = entry (codes "RVSTORE") [] UpTo8 (Some 3) aux.Int Mem false true
rv_row rv.StoreB = entry (codes "RVSTOREB") [] Alone (Some 3) aux.Int Mem false true
rv_row rv.Zero = entry (codes "RVZERO") [] Alone (Some 2) aux.Int Mem false true
rv_row rv.Move = entry (codes "RVMOVE") [] Alone (Some 3) aux.Int Mem false true
rv_row rv.Nil = entry (codes "RVNIL") [] Alone (Some 2) aux.None Void false true

-- the row of an op with widths a and b
unfoldable pub row : Family → ℕ → ℕ → Row
-- constants
row Const a b = entry (codes "Const") [] Each (Some 0) aux.Int (Number a) false false
row ConstBool a b = entry (codes "ConstBool") [] Alone (Some 0) aux.Int Truth false false
row ConstNil a b = entry (codes "ConstNil") [] Alone (Some 0) aux.None Word false false
-- arithmetic
row Add a b = entry (codes "Add") [] Each (Some 2) aux.None (Number a) true false
row Sub a b = entry (codes "Sub") [] Each (Some 2) aux.None (Number a) false false
row Mul a b = entry (codes "Mul") [] Each (Some 2) aux.None (Number a) true false
row And a b = entry (codes "And") [] Each (Some 2) aux.None (Number a) true false
row Or a b = entry (codes "Or") [] Each (Some 2) aux.None (Number a) true false
row Xor a b = entry (codes "Xor") [] Each (Some 2) aux.None (Number a) true false
row Neg a b = entry (codes "Neg") [] Each (Some 1) aux.None (Number a) false false
row Com a b = entry (codes "Com") [] Each (Some 1) aux.None (Number a) false false
row Div a b = entry (codes "Div") [] Each (Some 2) aux.None (Number a) false false
row Divu a b = entry (codes "Div") (codes "u") Each (Some 2) aux.None (Number a) false false
row Mod a b = entry (codes "Mod") [] Each (Some 2) aux.None (Number a) false false
row Modu a b = entry (codes "Mod") (codes "u") Each (Some 2) aux.None (Number a) false false
row Hmul a b = entry (codes "Hmul") [] Long (Some 2) aux.None (Number a) true false
row Hmulu a b = entry (codes "Hmul") (codes "u") Long (Some 2) aux.None (Number a) true false
-- shifts of a bits by a count of b bits
row Lsh a b = entry (codes "Lsh") (codes "x") Pairs (Some 2) aux.None (Number a) false false
row Rsh a b = entry (codes "Rsh") (codes "x") Pairs (Some 2) aux.None (Number a) false false
row RshU a b = entry (codes "Rsh") (codes "Ux") Pairs (Some 2) aux.None (Number a) false false
-- comparisons
row Eq a b = entry (codes "Eq") [] Each (Some 2) aux.None Truth true false
row Neq a b = entry (codes "Neq") [] Each (Some 2) aux.None Truth true false
row Less a b = entry (codes "Less") [] Each (Some 2) aux.None Truth false false
row LessU a b = entry (codes "Less") (codes "U") Each (Some 2) aux.None Truth false false
row Leq a b = entry (codes "Leq") [] Each (Some 2) aux.None Truth false false
row LeqU a b = entry (codes "Leq") (codes "U") Each (Some 2) aux.None Truth false false
-- truth values and pointers
row EqB a b = entry (codes "EqB") [] Alone (Some 2) aux.None Truth false false
row NeqB a b = entry (codes "NeqB") [] Alone (Some 2) aux.None Truth false false
row AndB a b = entry (codes "AndB") [] Alone (Some 2) aux.None Truth true false
row OrB a b = entry (codes "OrB") [] Alone (Some 2) aux.None Truth true false
row Not a b = entry (codes "Not") [] Alone (Some 1) aux.None Truth false false
row EqPtr a b = entry (codes "EqPtr") [] Alone (Some 2) aux.None Truth false false
row NeqPtr a b = entry (codes "NeqPtr") [] Alone (Some 2) aux.None Truth false false
row IsNonNil a b = entry (codes "IsNonNil") [] Alone (Some 1) aux.None Truth false false
row IsInBounds a b = entry (codes "IsInBounds") [] Alone (Some 2) aux.None Truth false false
row IsSliceInBounds a b = entry (codes "IsSliceInBounds") [] Alone (Some 2) aux.None Truth false false
-- conversions from a bits to b bits
row SignExt a b = entry (codes "SignExt") (codes "to") Rising (Some 1) aux.None (Number b) false false
row ZeroExt a b = entry (codes "ZeroExt") (codes "to") Rising (Some 1) aux.None (Number b) false false
row Trunc a b = entry (codes "Trunc") (codes "to") Falling (Some 1) aux.None (Number b) false false
row CvtBoolToUint8 a b = entry (codes "CvtBoolToUint") [] (Only 8) (Some 1) aux.None (Number 8) false false
-- masks, bits and rotations
row Signmask a b = entry (codes "Signmask") [] Alone (Some 1) aux.None (Number 32) false false
row Zeromask a b = entry (codes "Zeromask") [] Alone (Some 1) aux.None (Number 32) false false
row Ctz32 a b = entry (codes "Ctz") [] (Only 32) (Some 1) aux.None (Number 32) false false
row BitLen32 a b = entry (codes "BitLen") [] (Only 32) (Some 1) aux.None (Number 32) false false
row RotateLeft a b = entry (codes "RotateLeft") [] Long (Some 2) aux.None (Number a) false false
row CondSelect a b = entry (codes "CondSelect") [] Alone (Some 3) aux.None ByType false false
-- addresses
row AddPtr a b = entry (codes "AddPtr") [] Alone (Some 2) aux.None Word false false
row SubPtr a b = entry (codes "SubPtr") [] Alone (Some 2) aux.None Word false false
row OffPtr a b = entry (codes "OffPtr") [] Alone (Some 1) aux.Int Word false false
-- numbers of 64 bits in halves
row Int64Make a b = entry (codes "Int") (codes "Make") (Only 64) (Some 2) aux.None (Number 64) false false
row Int64Hi a b = entry (codes "Int") (codes "Hi") (Only 64) (Some 1) aux.None (Number 32) false false
row Int64Lo a b = entry (codes "Int") (codes "Lo") (Only 64) (Some 1) aux.None (Number 32) false false
row AddHi32 a b = entry (codes "AddHi") [] (Only 32) (Some 4) aux.None (Number 32) false false
row SubHi32 a b = entry (codes "SubHi") [] (Only 32) (Some 4) aux.None (Number 32) false false
-- values of a block or a function
row Phi a b = entry (codes "Phi") [] Alone None aux.None ByType false false
row Copy a b = entry (codes "Copy") [] Alone (Some 1) aux.None ByType false false
row Arg a b = entry (codes "Arg") [] Alone (Some 0) aux.Name ByType false false
row InitMem a b = entry (codes "InitMem") [] Alone (Some 0) aux.None Mem false true
row Sp a b = entry (codes "SP") [] Alone (Some 0) aux.None Word false false
row Sb a b = entry (codes "SB") [] Alone (Some 0) aux.None Word false false
row Addr a b = entry (codes "Addr") [] Alone (Some 1) aux.Name Word false false
-- memory, checks and calls
row Load a b = entry (codes "Load") [] Alone (Some 2) aux.None ByType false true
row Store a b = entry (codes "Store") [] Alone (Some 3) aux.Ty Mem false true
row Zero a b = entry (codes "Zero") [] Alone (Some 2) aux.Int Mem false true
row Move a b = entry (codes "Move") [] Alone (Some 3) aux.Int Mem false true
row NilCheck a b = entry (codes "NilCheck") [] Alone (Some 2) aux.None Void false true
row PanicBounds a b = entry (codes "PanicBounds") [] Alone (Some 3) aux.Int Mem false true
row StaticLECall a b = entry (codes "StaticLECall") [] Alone None aux.Name Tuple false true
row SelectN a b = entry (codes "SelectN") [] Alone (Some 1) aux.Int ByType false false
row MakeResult a b = entry (codes "MakeResult") [] Alone None aux.None Tuple false true
-- words of arguments and results, calls and traps
row ArgWord a b = entry (codes "ARGWORD") [] Alone (Some 0) aux.Int Word false false
row ArgReg a b = entry (codes "ARGREG") [] Alone (Some 0) aux.Int Word false false
row ResWord a b = entry (codes "RESWORD") [] Alone (Some 1) aux.Int Word false false
row ResReg a b = entry (codes "RESREG") [] Alone (Some 1) aux.Int Word false false
row OutWord a b = entry (codes "OUTWORD") [] Alone (Some 2) aux.Int Mem false true
row RetWord a b = entry (codes "RETWORD") [] Alone (Some 2) aux.Int Mem false true
row RetRegs a b = entry (codes "RETREGS") [] Alone None aux.None Mem false true
row Call a b = entry (codes "CALL") [] Alone (Some 1) aux.Name Mem false true
row CallRegs a b = entry (codes "CALLREGS") [] Alone None aux.Name Mem false true
row Trap a b = entry (codes "TRAP") [] Alone (Some 1) aux.Int Mem false true
row (Arm m) a b = arm_row m
row (Rv m) a b = rv_row m

-- the width of a number
abbrev pub is_width : ℕ → Bool
is_width a = a == 8 || a == 16 || a == 32 || a == 64

-- the widths that a name may have; 0 where it has none
abbrev pub allows : Widths → ℕ → ℕ → Bool
allows Alone a b = a == 0 && b == 0
allows Each a b = is_width a && b == 0
allows Long a b = (a == 32 || a == 64) && b == 0
allows (Only n) a b = a == n && b == 0
allows Pairs a b = is_width a && is_width b
allows Rising a b = is_width a && is_width b && nat_lt a b
allows Falling a b = is_width a && is_width b && nat_lt b a
allows UpTo4 a b = (a == 1 || a == 2 || a == 4) && b == 0
allows UpTo8 a b = (a == 1 || a == 2 || a == 4 || a == 8) && b == 0

-- some name has the family with these widths
unfoldable pub is_op : Family → ℕ → ℕ → Bool
is_op f a b = allows (row f a b).widths a b

abbrev pub unknown : OpInfo
unknown = record { arity = None; aux = aux.None; result = Void; commutative = false; memory = false }

unfoldable pub info_of : Op → OpInfo
info_of o = if is_op o.family o.a o.b then (row o.family o.a o.b).info else unknown
