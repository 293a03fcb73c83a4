-- The list of riscv64: its lines in order, each line one rule for each of its widths.
use Rattle.std.specs.Prelude.{List, [], ◌∷◌, ◌++◌, pos, negsuc}
use Rattle.std.specs.List.{flat_map}
use Rattle.bk_ops.specs.declared.family.Family.TheVariants as generic
use Rattle.bk_ops.specs.declared.family.Family.TheVariants.{Rv}
use Rattle.bk_ops.specs.declared.family.RvOp.TheVariants as rv
use Rattle.bk_rule.specs.declared.trees.Rule.{Rule}
use Rattle.bk_rules_words.specs.declared.lines.Fits.TheVariants.{Is12, Below}
use Rattle.bk_rules_words.specs.declared.lines.Shape.TheVariants as shape
use Rattle.bk_rules_words.specs.declared.lines.Widths.TheVariants.{Alone, At64, At8, Each, Narrow, NarrowByEach, EachByNarrow, EachBy64, At64ByNarrow, At64By64, Rising, Falling, UpTo8}
use Rattle.bk_rules_words.specs.declared.lines.Line.{Line}
use Rattle.bk_rules_words.specs.Lines.{rules_of, line}

-- constants, sums, products and quotients
unfoldable pub arithmetic : List Line
arithmetic =
    line Each (shape.Constant generic.Const (Rv rv.Const)) ∷
    line Alone (shape.Constant generic.ConstBool (Rv rv.Const)) ∷
    line Alone (shape.Nil (Rv rv.Const)) ∷
    line Alone (shape.Address (Rv rv.Addr)) ∷
    line Each (shape.Two generic.Add (Rv rv.Add)) ∷
    line Each (shape.Two generic.Sub (Rv rv.Sub)) ∷
    line Each (shape.Two generic.Mul (Rv rv.Mul)) ∷
    line Each (shape.Two generic.And (Rv rv.And)) ∷
    line Each (shape.Two generic.Or (Rv rv.Or)) ∷
    line Each (shape.Two generic.Xor (Rv rv.Xor)) ∷
    line Each (shape.One generic.Neg (Rv rv.Neg)) ∷
    line Each (shape.OneWith generic.Com (Rv rv.Xori) (negsuc 0)) ∷
    line Alone (shape.Two generic.AddPtr (Rv rv.Add)) ∷
    line Alone (shape.Two generic.SubPtr (Rv rv.Sub)) ∷
    line Alone (shape.Offset (Rv rv.Add) (Rv rv.Const)) ∷
    line At64 (shape.Two generic.Hmul (Rv rv.Mulh)) ∷
    line At64 (shape.Two generic.Hmulu (Rv rv.Mulhu)) ∷
    line At64 (shape.Two generic.Div (Rv rv.Div)) ∷
    line At64 (shape.Two generic.Divu (Rv rv.Divu)) ∷
    line At64 (shape.Two generic.Mod (Rv rv.Rem)) ∷
    line At64 (shape.Two generic.Modu (Rv rv.Remu)) ∷
    line Alone (shape.High generic.Hmul generic.SignExt (Rv rv.Srai)) ∷
    line Alone (shape.High generic.Hmulu generic.ZeroExt (Rv rv.Srli)) ∷
    line Narrow (shape.Widen generic.Div generic.SignExt 64) ∷
    line Narrow (shape.Widen generic.Mod generic.SignExt 64) ∷
    line Narrow (shape.Widen generic.Divu generic.ZeroExt 64) ∷
    line Narrow (shape.Widen generic.Modu generic.ZeroExt 64) ∷
    []

-- shifts
unfoldable pub shifts : List Line
shifts =
    line NarrowByEach (shape.WidenShift generic.Rsh generic.SignExt 64) ∷
    line NarrowByEach (shape.WidenShift generic.RshU generic.ZeroExt 64) ∷
    line EachByNarrow (shape.ShiftCount generic.Lsh (Rv rv.Lsl)) ∷
    line EachBy64 (shape.Two generic.Lsh (Rv rv.Lsl)) ∷
    line At64ByNarrow (shape.ShiftCount generic.Rsh (Rv rv.Asr)) ∷
    line At64By64 (shape.Two generic.Rsh (Rv rv.Asr)) ∷
    line At64ByNarrow (shape.ShiftCount generic.RshU (Rv rv.Lsr)) ∷
    line At64By64 (shape.Two generic.RshU (Rv rv.Lsr)) ∷
    []

-- comparisons and truth values
unfoldable pub comparisons : List Line
comparisons =
    line At64 (shape.Test generic.Eq (Rv rv.Seqz)) ∷
    line Narrow (shape.TestLow generic.Eq (Rv rv.Seqz)) ∷
    line At64 (shape.Test generic.Neq (Rv rv.Snez)) ∷
    line Narrow (shape.TestLow generic.Neq (Rv rv.Snez)) ∷
    line Alone (shape.Test generic.EqPtr (Rv rv.Seqz)) ∷
    line Alone (shape.Test generic.NeqPtr (Rv rv.Snez)) ∷
    line At64 (shape.Two generic.Less (Rv rv.Slt)) ∷
    line At64 (shape.Two generic.LessU (Rv rv.Sltu)) ∷
    line Alone (shape.Two generic.IsInBounds (Rv rv.Sltu)) ∷
    line At64 (shape.AtMost generic.Leq (Rv rv.Slt)) ∷
    line At64 (shape.AtMost generic.LeqU (Rv rv.Sltu)) ∷
    line Alone (shape.AtMost generic.IsSliceInBounds (Rv rv.Sltu)) ∷
    line Narrow (shape.Widen generic.Less generic.SignExt 64) ∷
    line Narrow (shape.Widen generic.Leq generic.SignExt 64) ∷
    line Narrow (shape.Widen generic.LessU generic.ZeroExt 64) ∷
    line Narrow (shape.Widen generic.LeqU generic.ZeroExt 64) ∷
    line Alone (shape.One generic.IsNonNil (Rv rv.Snez)) ∷
    line Alone (shape.Two generic.AndB (Rv rv.And)) ∷
    line Alone (shape.Two generic.OrB (Rv rv.Or)) ∷
    line Alone (shape.Two generic.NeqB (Rv rv.Xor)) ∷
    line Alone (shape.EqualBools (Rv rv.Xor) (Rv rv.Xori)) ∷
    line Alone (shape.OneWith generic.Not (Rv rv.Xori) (pos 1)) ∷
    line At8 (shape.OneWith generic.CvtBoolToUint8 (Rv rv.Andi) (pos 1)) ∷
    []

-- extensions, masks, rotations and choices
unfoldable pub conversions : List Line
conversions =
    line Rising (shape.Extend generic.SignExt (Rv rv.Srai)) ∷
    line Rising (shape.Extend generic.ZeroExt (Rv rv.Srli)) ∷
    line Falling shape.Truncate ∷
    line Alone shape.SignMask ∷
    line Alone shape.ZeroMask ∷
    line At64 (shape.Two generic.RotateLeft (Rv rv.Rotl)) ∷
    line Alone shape.RotateHalf ∷
    line Alone (shape.Three generic.CondSelect (Rv rv.Sel)) ∷
    []

-- loads, stores and checks
unfoldable pub accesses : List Line
accesses =
    line UpTo8 (shape.Load (Rv rv.Load)) ∷
    line Alone (shape.StoreBool (Rv rv.StoreB)) ∷
    line UpTo8 (shape.Store (Rv rv.Store)) ∷
    line Alone (shape.Zero (Rv rv.Zero)) ∷
    line Alone (shape.Move (Rv rv.Move)) ∷
    line Alone (shape.Two generic.NilCheck (Rv rv.Nil)) ∷
    line Alone shape.Panic ∷
    []

-- constants beside machine ops
unfoldable pub immediates : List Line
immediates =
    line Alone (shape.Immediate (Rv rv.Add) (Rv rv.Const) (Rv rv.Addi) Is12) ∷
    line Alone (shape.Immediate (Rv rv.And) (Rv rv.Const) (Rv rv.Andi) Is12) ∷
    line Alone (shape.Immediate (Rv rv.Or) (Rv rv.Const) (Rv rv.Ori) Is12) ∷
    line Alone (shape.Immediate (Rv rv.Xor) (Rv rv.Const) (Rv rv.Xori) Is12) ∷
    line Alone (shape.Immediate (Rv rv.Lsl) (Rv rv.Const) (Rv rv.Slli) (Below (pos 64))) ∷
    line Alone (shape.Immediate (Rv rv.Lsr) (Rv rv.Const) (Rv rv.Srli) (Below (pos 64))) ∷
    line Alone (shape.Immediate (Rv rv.Asr) (Rv rv.Const) (Rv rv.Srai) (Below (pos 64))) ∷
    line UpTo8 (shape.LoadNear (Rv rv.Load) (Rv rv.Addi) Is12) ∷
    line UpTo8 (shape.StoreNear (Rv rv.Store) (Rv rv.Addi) Is12) ∷
    line Alone (shape.StoreNear (Rv rv.StoreB) (Rv rv.Addi) Is12) ∷
    []

-- the list
unfoldable pub rv_list : List Rule
rv_list = flat_map rules_of arithmetic ++ (flat_map rules_of shifts ++ (flat_map rules_of comparisons ++ (flat_map rules_of conversions ++ (flat_map rules_of accesses ++ flat_map rules_of immediates))))
