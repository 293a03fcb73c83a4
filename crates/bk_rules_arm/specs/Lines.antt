-- The list of arm: its lines in order, each line one rule for each of its widths.
use Rattle.std.specs.Prelude.{List, [], ◌∷◌, ◌++◌, pos}
use Rattle.std.specs.List.{flat_map}
use Rattle.bk_ops.specs.declared.family.Family.TheVariants as generic
use Rattle.bk_ops.specs.declared.family.Family.TheVariants.{Arm}
use Rattle.bk_ops.specs.declared.family.ArmOp.TheVariants as arm
use Rattle.bk_rule.specs.declared.trees.Rule.{Rule}
use Rattle.bk_rules_words.specs.declared.lines.Fits.TheVariants.{ArmImm, Below, FromOne}
use Rattle.bk_rules_words.specs.declared.lines.Shape.TheVariants as shape
use Rattle.bk_rules_words.specs.declared.lines.Widths.TheVariants.{Alone, At32, At8, Narrow, Small, NarrowBySmall, SmallBy32, At32By32, From8, From16, FallingTo32, UpTo4}
use Rattle.bk_rules_words.specs.declared.lines.Line.{Line}
use Rattle.bk_rules_words.specs.Lines.{rules_of, line}

-- constants, sums, products and quotients
unfoldable pub arithmetic : List Line
arithmetic =
    line Narrow (shape.Constant generic.Const (Arm arm.Const)) ∷
    line Alone (shape.Constant generic.ConstBool (Arm arm.Const)) ∷
    line Alone (shape.Nil (Arm arm.Const)) ∷
    line Alone (shape.Address (Arm arm.Addr)) ∷
    line Narrow (shape.Two generic.Add (Arm arm.Add)) ∷
    line Narrow (shape.Two generic.Sub (Arm arm.Sub)) ∷
    line Narrow (shape.Two generic.Mul (Arm arm.Mul)) ∷
    line Narrow (shape.Two generic.And (Arm arm.And)) ∷
    line Narrow (shape.Two generic.Or (Arm arm.Orr)) ∷
    line Narrow (shape.Two generic.Xor (Arm arm.Eor)) ∷
    line Narrow (shape.One generic.Neg (Arm arm.Rsb0)) ∷
    line Narrow (shape.One generic.Com (Arm arm.Mvn)) ∷
    line Alone (shape.Two generic.AddPtr (Arm arm.Add)) ∷
    line Alone (shape.Two generic.SubPtr (Arm arm.Sub)) ∷
    line Alone (shape.Offset (Arm arm.Add) (Arm arm.Const)) ∷
    line At32 (shape.Two generic.Hmul (Arm arm.Smulh)) ∷
    line At32 (shape.Two generic.Hmulu (Arm arm.Umulh)) ∷
    line At32 (shape.Two generic.Div (Arm arm.Sdiv)) ∷
    line At32 (shape.Two generic.Divu (Arm arm.Udiv)) ∷
    line At32 (shape.Two generic.Mod (Arm arm.Smod)) ∷
    line At32 (shape.Two generic.Modu (Arm arm.Umod)) ∷
    line Small (shape.Widen generic.Div generic.SignExt 32) ∷
    line Small (shape.Widen generic.Mod generic.SignExt 32) ∷
    line Small (shape.Widen generic.Divu generic.ZeroExt 32) ∷
    line Small (shape.Widen generic.Modu generic.ZeroExt 32) ∷
    []

-- shifts
unfoldable pub shifts : List Line
shifts =
    line NarrowBySmall (shape.WidenCount generic.Lsh 32) ∷
    line NarrowBySmall (shape.WidenCount generic.Rsh 32) ∷
    line NarrowBySmall (shape.WidenCount generic.RshU 32) ∷
    line SmallBy32 (shape.AsWide generic.Lsh 32) ∷
    line SmallBy32 (shape.WidenShift generic.Rsh generic.SignExt 32) ∷
    line SmallBy32 (shape.WidenShift generic.RshU generic.ZeroExt 32) ∷
    line At32By32 (shape.Two generic.Lsh (Arm arm.Lsl)) ∷
    line At32By32 (shape.Two generic.RshU (Arm arm.Lsr)) ∷
    line At32By32 (shape.Two generic.Rsh (Arm arm.Asr)) ∷
    []

-- comparisons and truth values
unfoldable pub comparisons : List Line
comparisons =
    line Small (shape.Widen generic.Eq generic.ZeroExt 32) ∷
    line Small (shape.Widen generic.Neq generic.ZeroExt 32) ∷
    line Small (shape.Widen generic.Less generic.SignExt 32) ∷
    line Small (shape.Widen generic.Leq generic.SignExt 32) ∷
    line Small (shape.Widen generic.LessU generic.ZeroExt 32) ∷
    line Small (shape.Widen generic.LeqU generic.ZeroExt 32) ∷
    line At32 (shape.Two generic.Eq (Arm arm.SetEq)) ∷
    line At32 (shape.Two generic.Neq (Arm arm.SetNe)) ∷
    line At32 (shape.Two generic.Less (Arm arm.SetLt)) ∷
    line At32 (shape.Two generic.Leq (Arm arm.SetLe)) ∷
    line At32 (shape.Two generic.LessU (Arm arm.SetLo)) ∷
    line At32 (shape.Two generic.LeqU (Arm arm.SetLs)) ∷
    line Alone (shape.Two generic.EqPtr (Arm arm.SetEq)) ∷
    line Alone (shape.Two generic.NeqPtr (Arm arm.SetNe)) ∷
    line Alone (shape.Two generic.IsInBounds (Arm arm.SetLo)) ∷
    line Alone (shape.Two generic.IsSliceInBounds (Arm arm.SetLs)) ∷
    line Alone (shape.NotNil (Arm arm.SetNe) (Arm arm.Const)) ∷
    line Alone (shape.Two generic.AndB (Arm arm.And)) ∷
    line Alone (shape.Two generic.OrB (Arm arm.Orr)) ∷
    line Alone (shape.Two generic.NeqB (Arm arm.Eor)) ∷
    line Alone (shape.EqualBools (Arm arm.Eor) (Arm arm.Eori)) ∷
    line Alone (shape.OneWith generic.Not (Arm arm.Eori) (pos 1)) ∷
    line At8 (shape.OneWith generic.CvtBoolToUint8 (Arm arm.Andi) (pos 1)) ∷
    []

-- extensions, masks, bits, rotations, choices and halves
unfoldable pub conversions : List Line
conversions =
    line From8 (shape.One generic.SignExt (Arm arm.Sxtb)) ∷
    line From16 (shape.One generic.SignExt (Arm arm.Sxth)) ∷
    line From8 (shape.One generic.ZeroExt (Arm arm.Uxtb)) ∷
    line From16 (shape.One generic.ZeroExt (Arm arm.Uxth)) ∷
    line FallingTo32 shape.Truncate ∷
    line Alone (shape.OneWith generic.Signmask (Arm arm.Asri) (pos 31)) ∷
    line Alone (shape.One generic.Zeromask (Arm arm.Zmask)) ∷
    line At32 (shape.One generic.Ctz32 (Arm arm.Ctz)) ∷
    line At32 (shape.One generic.BitLen32 (Arm arm.Blen)) ∷
    line At32 (shape.Two generic.RotateLeft (Arm arm.Rotl)) ∷
    line Alone (shape.Three generic.CondSelect (Arm arm.Sel)) ∷
    line At32 (shape.Four generic.AddHi32 (Arm arm.AddHi)) ∷
    line At32 (shape.Four generic.SubHi32 (Arm arm.SubHi)) ∷
    []

-- loads, stores and checks
unfoldable pub accesses : List Line
accesses =
    line UpTo4 (shape.Load (Arm arm.Load)) ∷
    line Alone (shape.StoreBool (Arm arm.StoreB)) ∷
    line UpTo4 (shape.Store (Arm arm.Store)) ∷
    line Alone (shape.Zero (Arm arm.Zero)) ∷
    line Alone (shape.Move (Arm arm.Move)) ∷
    line Alone (shape.Two generic.NilCheck (Arm arm.Nil)) ∷
    line Alone shape.Panic ∷
    []

-- constants beside machine ops
unfoldable pub immediates : List Line
immediates =
    line Alone (shape.Immediate (Arm arm.Add) (Arm arm.Const) (Arm arm.Addi) ArmImm) ∷
    line Alone (shape.Negated (Arm arm.Add) (Arm arm.Const) (Arm arm.Subi) ArmImm) ∷
    line Alone (shape.Immediate (Arm arm.And) (Arm arm.Const) (Arm arm.Andi) ArmImm) ∷
    line Alone (shape.Immediate (Arm arm.Eor) (Arm arm.Const) (Arm arm.Eori) ArmImm) ∷
    line Alone (shape.Immediate (Arm arm.Lsl) (Arm arm.Const) (Arm arm.Lsli) (Below (pos 32))) ∷
    line Alone (shape.Immediate (Arm arm.Lsr) (Arm arm.Const) (Arm arm.Lsri) (FromOne (pos 31))) ∷
    line Alone (shape.Immediate (Arm arm.Asr) (Arm arm.Const) (Arm arm.Asri) (FromOne (pos 31))) ∷
    line UpTo4 (shape.LoadNear (Arm arm.Load) (Arm arm.Addi) (Below (pos 256))) ∷
    line UpTo4 (shape.StoreNear (Arm arm.Store) (Arm arm.Addi) (Below (pos 256))) ∷
    line Alone (shape.StoreNear (Arm arm.StoreB) (Arm arm.Addi) (Below (pos 256))) ∷
    []

-- the list
unfoldable pub arm_list : List Rule
arm_list = flat_map rules_of arithmetic ++ (flat_map rules_of shifts ++ (flat_map rules_of comparisons ++ (flat_map rules_of conversions ++ (flat_map rules_of accesses ++ flat_map rules_of immediates))))
