-- How a name is taken apart.
use Rattle.std.specs.Prelude.{ℕ, Bool, ◌==◌, ◌&&◌, if◌then◌else◌, List, [], ◌∷◌, length, take, drop, Option, Some, None, bytes_eq, nat_le, position}
use Rattle.std.specs.List.{find}
use Rattle.bk_ops.specs.declared.family.Family.{Family}
use Rattle.bk_ops.specs.declared.family.Family.TheVariants.{Const, ConstBool, ConstNil, Add, Sub, Mul, And, Or, Xor, Neg, Com, Div, Divu, Mod, Modu, Hmul, Hmulu, Lsh, Rsh, RshU, Eq, Neq, Less, LessU, Leq, LeqU, EqB, NeqB, AndB, OrB, Not, EqPtr, NeqPtr, IsNonNil, IsInBounds, IsSliceInBounds, SignExt, ZeroExt, Trunc, CvtBoolToUint8, Signmask, Zeromask, Ctz32, BitLen32, RotateLeft, CondSelect, AddPtr, SubPtr, OffPtr, Int64Make, Int64Hi, Int64Lo, AddHi32, SubHi32, Phi, Copy, Arg, InitMem, Sp, Sb, Addr, Load, Store, Zero, Move, NilCheck, PanicBounds, StaticLECall, SelectN, MakeResult, ArgWord, ArgReg, ResWord, ResReg, OutWord, RetWord, RetRegs, Call, CallRegs, Trap, Arm, Rv}
use Rattle.bk_ops.specs.declared.family.ArmOp.TheVariants as arm
use Rattle.bk_ops.specs.declared.family.RvOp.TheVariants as rv
use Rattle.bk_ops.specs.declared.table.Op.{Op}
use Rattle.bk_ops.specs.Table.{row, is_op}

-- the families whose names begin with a head of this length
unfoldable pub families_of : ℕ → List Family
families_of n =
    if n == 2 then Or ∷ Eq ∷ Sp ∷ Sb ∷ []
    else if n == 3 then Add ∷ Sub ∷ Mul ∷ And ∷ Xor ∷ Neg ∷ Com ∷ Div ∷ Divu ∷ Mod ∷ Modu ∷ Lsh ∷ Rsh ∷ RshU ∷ Neq ∷ Leq ∷ LeqU ∷ EqB ∷ OrB ∷ Not ∷ Ctz32 ∷ Int64Make ∷ Int64Hi ∷ Int64Lo ∷ Phi ∷ Arg ∷ []
    else if n == 4 then Hmul ∷ Hmulu ∷ Less ∷ LessU ∷ NeqB ∷ AndB ∷ Copy ∷ Addr ∷ Load ∷ Zero ∷ Move ∷ Call ∷ Trap ∷ Rv rv.Or ∷ []
    else if n == 5 then Const ∷ EqPtr ∷ Trunc ∷ AddHi32 ∷ SubHi32 ∷ Store ∷ Rv rv.Add ∷ Rv rv.Sub ∷ Rv rv.Mul ∷ Rv rv.And ∷ Rv rv.Xor ∷ Rv rv.Div ∷ Rv rv.Rem ∷ Rv rv.Slt ∷ Rv rv.Lsl ∷ Rv rv.Lsr ∷ Rv rv.Asr ∷ Rv rv.Neg ∷ Rv rv.Sel ∷ Rv rv.Ori ∷ Rv rv.Nil ∷ []
    else if n == 6 then NeqPtr ∷ BitLen32 ∷ AddPtr ∷ SubPtr ∷ OffPtr ∷ ArgReg ∷ ResReg ∷ Arm arm.Add ∷ Arm arm.Sub ∷ Arm arm.Mul ∷ Arm arm.And ∷ Arm arm.Orr ∷ Arm arm.Eor ∷ Arm arm.Lsl ∷ Arm arm.Lsr ∷ Arm arm.Asr ∷ Arm arm.Mvn ∷ Arm arm.Ctz ∷ Arm arm.Sel ∷ Arm arm.Nil ∷ Rv rv.Addr ∷ Rv rv.Mulh ∷ Rv rv.Divu ∷ Rv rv.Remu ∷ Rv rv.Sltu ∷ Rv rv.Rotl ∷ Rv rv.Seqz ∷ Rv rv.Snez ∷ Rv rv.Addi ∷ Rv rv.Andi ∷ Rv rv.Xori ∷ Rv rv.Slli ∷ Rv rv.Srli ∷ Rv rv.Srai ∷ Rv rv.Load ∷ Rv rv.Zero ∷ Rv rv.Move ∷ []
    else if n == 7 then SignExt ∷ ZeroExt ∷ InitMem ∷ SelectN ∷ ArgWord ∷ ResWord ∷ OutWord ∷ RetWord ∷ RetRegs ∷ Arm arm.Addr ∷ Arm arm.Sdiv ∷ Arm arm.Udiv ∷ Arm arm.Smod ∷ Arm arm.Umod ∷ Arm arm.Rotl ∷ Arm arm.Rsb0 ∷ Arm arm.Sxtb ∷ Arm arm.Sxth ∷ Arm arm.Uxtb ∷ Arm arm.Uxth ∷ Arm arm.Blen ∷ Arm arm.Addi ∷ Arm arm.Subi ∷ Arm arm.Andi ∷ Arm arm.Eori ∷ Arm arm.Lsli ∷ Arm arm.Lsri ∷ Arm arm.Asri ∷ Arm arm.Load ∷ Arm arm.Zero ∷ Arm arm.Move ∷ Rv rv.Const ∷ Rv rv.Mulhu ∷ Rv rv.Store ∷ []
    else if n == 8 then ConstNil ∷ IsNonNil ∷ Signmask ∷ Zeromask ∷ NilCheck ∷ CallRegs ∷ Arm arm.Const ∷ Arm arm.Smulh ∷ Arm arm.Umulh ∷ Arm arm.SetEq ∷ Arm arm.SetNe ∷ Arm arm.SetLt ∷ Arm arm.SetLe ∷ Arm arm.SetLo ∷ Arm arm.SetLs ∷ Arm arm.Zmask ∷ Arm arm.AddHi ∷ Arm arm.SubHi ∷ Arm arm.Store ∷ Rv rv.StoreB ∷ []
    else if n == 9 then ConstBool ∷ Arm arm.StoreB ∷ []
    else if n == 10 then IsInBounds ∷ RotateLeft ∷ CondSelect ∷ MakeResult ∷ []
    else if n == 11 then PanicBounds ∷ []
    else if n == 12 then StaticLECall ∷ []
    else if n == 13 then CvtBoolToUint8 ∷ []
    else if n == 15 then IsSliceInBounds ∷ []
    else []

-- the digits 1 to 9: the first byte of a width, and no byte of a head or a tail
unfoldable pub begins_width : ℕ → Bool
begins_width c = nat_le 49 c && nat_le c 57

abbrev pub front_to : Option ℕ → List ℕ → List ℕ
front_to None n = n
front_to (Some k) n = take k n

abbrev pub back_from : Option ℕ → List ℕ → List ℕ
back_from None n = []
back_from (Some k) n = drop k n

-- the text before the first width
unfoldable pub front : List ℕ → List ℕ
front n = front_to (position begins_width n) n

-- the text from the first width on
unfoldable pub back : List ℕ → List ℕ
back n = back_from (position begins_width n) n

abbrev pub one_digit : ℕ → List ℕ → ℕ × List ℕ
one_digit c n =
    if c == 49 then (1, n)
    else if c == 50 then (2, n)
    else if c == 52 then (4, n)
    else if c == 56 then (8, n)
    else (0, c ∷ n)

abbrev pub two_digits : ℕ → ℕ → List ℕ → ℕ × List ℕ
two_digits c d n =
    if c == 49 && d == 54 then (16, n)
    else if c == 51 && d == 50 then (32, n)
    else if c == 54 && d == 52 then (64, n)
    else one_digit c (d ∷ n)

-- the width at the front of a text and the text behind it; 0 where there is none
unfoldable pub width_at : List ℕ → ℕ × List ℕ
width_at [] = (0, [])
width_at (c ∷ []) = one_digit c []
width_at (c ∷ d ∷ n) = two_digits c d n

unfoldable pub is_spelt : ℕ → ℕ → List ℕ → List ℕ → Family → Bool
is_spelt a b h t f = bytes_eq (row f a b).head h && bytes_eq (row f a b).tail t

-- the family with this head and this tail
unfoldable pub family_of : ℕ → ℕ → List ℕ → List ℕ → Option Family
family_of a b h t = find (is_spelt a b h t) (families_of (length h))

abbrev pub op_at : Option Family → ℕ → ℕ → List ℕ → Option Op
op_at None a b n = None
op_at (Some f) a b n = if length n == 0 && is_op f a b then Some (record { family = f; a = a; b = b }) else None

abbrev pub with_second : List ℕ → ℕ → List ℕ → ℕ × List ℕ → Option Op
with_second h a t w = op_at (family_of a w.0 h t) a w.0 w.1

abbrev pub with_first : List ℕ → ℕ × List ℕ → Option Op
with_first h w = with_second h w.0 (front w.1) (width_at (back w.1))

-- the op that a name spells
unfoldable pub read : List ℕ → Option Op
read n = with_first (front n) (width_at (back n))
