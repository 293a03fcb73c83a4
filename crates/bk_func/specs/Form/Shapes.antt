-- The types that the places of an op take, and the types that it gives.
use Rattle.std.specs.Prelude.{◌≡◌, ℕ, ℤ, pos, ◌+◌, ◌==◌, Bool, true, false, if◌then◌else◌, List, [], length, Option, Some, None, MatchOption, MatchBool, ◌⊎◌}
use Rattle.std.specs.List.{slice_get}
use Rattle.bk_ops.specs.Families.{is_word_call}
use Rattle.bk_ops.specs.Table.{info_of, is_op}
use Rattle.bk_ops.specs.Types.{width_of, word_width}
use Rattle.bk_ops.specs.declared.family.Family.{Family}
use Rattle.bk_ops.specs.declared.family.Family.TheVariants as op
use Rattle.bk_ops.specs.declared.table.Op.{Op}
use Rattle.bk_ops.specs.declared.table.Class.{Class}
use Rattle.bk_ops.specs.declared.table.Class.TheVariants.{Number, Word, Bool as Truth, Mem as State, Void as Nothing, Tuple as Results, ByType}
use Rattle.bk_ops.specs.declared.types.Ty.{Ty}
use Rattle.bk_ops.specs.declared.types.Ty.TheVariants.{Bool as Boolean, Mem, Void, Tuple}
use Rattle.bk_func.specs.declared.parts.Aux.{Aux}
use Rattle.bk_func.specs.declared.parts.Aux.TheVariants as beside
use Rattle.bk_func.specs.declared.parts.Kind.{Kind}
use Rattle.bk_func.specs.declared.parts.Kind.TheVariants.{Plain, If, First, Ret, Exit}
use Rattle.bk_func.specs.Records.{ValueRecord, BlockRecord, FuncRecord, SigRecord}
use Rattle.bk_func.specs.Form.Text.{HasValue}
use Rattle.bk_func.specs.Form.States.{StandsFor}
use Rattle.bk_func.specs.Form.Signatures.{Setting, places_of_sig, in_registers, sig_of, ResultOf, ArgumentOf}

-- numbers and truth values, which stand in machine words
abbrev pub IsData : Setting → Ty → Type 0
IsData s x = ¬ (width_of x s.target ≡ 0)

-- a place for so many bits, for a truth value and for what another type has: types of data are told apart by their
-- widths alone, and not at all where each machine word fits
abbrev pub FitsBits : Setting → ℕ → Ty → Type 0
FitsBits s n x = MatchBool s.loose (IsData s x) (width_of x s.target ≡ n)

abbrev pub FitsWord : Setting → Ty → Type 0
FitsWord s x = FitsBits s (word_width s.target) x

abbrev pub FitsTruth : Setting → Ty → Type 0
FitsTruth s x = MatchBool s.loose (IsData s x) (x ≡ Boolean)

abbrev pub IsAlike : Setting → Ty → Ty → Type 0
IsAlike s x y = IsData s x × FitsBits s (width_of x s.target) y

-- what a place of an op takes: a number of so many bits, a machine word, a truth value, memory, what the value itself
-- has, what it stores, the base of the variables, a call, or a word of an argument or a result
pub data Slot : Type 0 where
  bits : ℕ → Slot
  word : Slot
  truth : Slot
  memory : Slot
  same : Slot
  stored : Slot
  base : Slot
  call : Slot
  argument : Slot
  result : Slot

-- the first place, and the others
abbrev pub first_else : ℕ → Slot → Slot → Slot
first_else i x y = if i == 0 then x else y

abbrev pub is_last : Option ℕ → ℕ → Bool
is_last None i = false
is_last (Some n) i = i + 1 == n

-- words, with memory last where the op takes memory
abbrev pub words_and_memory : Op → ℕ → Slot
words_and_memory o i = if (info_of o).memory then (if is_last (info_of o).arity i then memory else word) else word

-- what the op takes at the place i
unfoldable pub slot : Op → Family → ℕ → Slot
slot o op.Lsh i = first_else i (bits o.a) (bits o.b)
slot o op.Rsh i = first_else i (bits o.a) (bits o.b)
slot o op.RshU i = first_else i (bits o.a) (bits o.b)
slot o op.RotateLeft i = first_else i (bits o.a) word
slot o op.CondSelect i = if i == 2 then truth else same
slot o op.Phi i = same
slot o op.Copy i = same
slot o op.EqB i = truth
slot o op.NeqB i = truth
slot o op.AndB i = truth
slot o op.OrB i = truth
slot o op.Not i = truth
slot o op.CvtBoolToUint8 i = truth
slot o op.EqPtr i = word
slot o op.NeqPtr i = word
slot o op.IsNonNil i = word
slot o op.IsInBounds i = word
slot o op.IsSliceInBounds i = word
slot o op.AddPtr i = word
slot o op.SubPtr i = word
slot o op.OffPtr i = word
slot o op.Signmask i = bits 32
slot o op.Zeromask i = bits 32
slot o op.Ctz32 i = bits 32
slot o op.BitLen32 i = bits 32
slot o op.Int64Make i = bits 32
slot o op.AddHi32 i = bits 32
slot o op.SubHi32 i = bits 32
slot o op.Int64Hi i = bits 64
slot o op.Int64Lo i = bits 64
slot o op.Addr i = base
slot o op.SelectN i = call
slot o op.ResWord i = call
slot o op.ResReg i = call
slot o op.Load i = words_and_memory o i
slot o op.Store i = if i == 1 then stored else words_and_memory o i
slot o op.Zero i = words_and_memory o i
slot o op.Move i = words_and_memory o i
slot o op.NilCheck i = words_and_memory o i
slot o op.PanicBounds i = words_and_memory o i
slot o op.OutWord i = first_else i argument memory
slot o op.RetWord i = first_else i result memory
slot o op.Call i = memory
slot o op.Trap i = memory
slot o (op.Arm m) i = words_and_memory o i
slot o (op.Rv m) i = words_and_memory o i
-- ops of one width, and ops without arguments or with those of a signature
slot o op.Const i = bits o.a
slot o op.ConstBool i = bits o.a
slot o op.ConstNil i = bits o.a
slot o op.Add i = bits o.a
slot o op.Sub i = bits o.a
slot o op.Mul i = bits o.a
slot o op.And i = bits o.a
slot o op.Or i = bits o.a
slot o op.Xor i = bits o.a
slot o op.Neg i = bits o.a
slot o op.Com i = bits o.a
slot o op.Div i = bits o.a
slot o op.Divu i = bits o.a
slot o op.Mod i = bits o.a
slot o op.Modu i = bits o.a
slot o op.Hmul i = bits o.a
slot o op.Hmulu i = bits o.a
slot o op.Eq i = bits o.a
slot o op.Neq i = bits o.a
slot o op.Less i = bits o.a
slot o op.LessU i = bits o.a
slot o op.Leq i = bits o.a
slot o op.LeqU i = bits o.a
slot o op.SignExt i = bits o.a
slot o op.ZeroExt i = bits o.a
slot o op.Trunc i = bits o.a
slot o op.Arg i = bits o.a
slot o op.InitMem i = bits o.a
slot o op.Sp i = bits o.a
slot o op.Sb i = bits o.a
slot o op.StaticLECall i = bits o.a
slot o op.MakeResult i = bits o.a
slot o op.ArgWord i = bits o.a
slot o op.ArgReg i = bits o.a
slot o op.CallRegs i = bits o.a
slot o op.RetRegs i = bits o.a

-- the base of the variables is an argument of addresses alone
abbrev pub IsFree : ValueRecord → Type 0
IsFree u = ¬ (u.op.family ≡ op.Sb)

-- a value takes the results of a call of this family
abbrev pub is_call_of : Family → Family → Bool
is_call_of op.SelectN op.StaticLECall = true
is_call_of op.SelectN _ = false
is_call_of _ g = is_word_call g

abbrev pub FitsStored : Setting → Aux → Ty → Type 0
FitsStored s (beside.Ty x) y = IsAlike s x y
FitsStored s _ y = ⊥

-- of these places the one with number n, where it is there, has a type like this
abbrev pub FitsPlaceOf : Setting → List Ty → ℤ → Ty → Type 0
FitsPlaceOf s ts n x = (k : ℕ) (y : Ty) → n ≡ pos k → slice_get ts k ≡ Some y → IsAlike s y x

-- word n of the signature, where it has one, has a type like this
abbrev pub FitsWordOf : Setting → SigRecord → ℤ → Ty → Type 0
FitsWordOf s g n x = FitsPlaceOf s (places_of_sig s g) n x

-- the argument u fits the place of the value v
abbrev pub FitsSlot : Setting → FuncRecord → ValueRecord → ValueRecord → Slot → Type 0
FitsSlot s f v u (bits n) = IsFree u × FitsBits s n u.ty
FitsSlot s f v u word = IsFree u × FitsWord s u.ty
FitsSlot s f v u truth = IsFree u × FitsTruth s u.ty
FitsSlot s f v u memory = u.ty ≡ Mem
FitsSlot s f v u same = ((v.ty ≡ Mem) × (u.ty ≡ Mem)) ⊎ (IsFree u × IsAlike s v.ty u.ty)
FitsSlot s f v u stored = IsFree u × FitsStored s v.aux u.ty
FitsSlot s f v u base = u.op.family ≡ op.Sb
FitsSlot s f v u call = is_call_of v.op.family u.op.family ≡ true
FitsSlot s f v u argument = IsFree u × IsData s u.ty × ((g : SigRecord) → ArgumentOf s.pkg f v g → FitsWordOf s g v.int u.ty)
FitsSlot s f v u result = IsFree u × IsData s u.ty × FitsWordOf s f.sig v.int u.ty

-- the argument u fits the place i of a list of types with memory behind it
abbrev pub FitsList : Setting → Option SigRecord → (SigRecord → List Ty) → ℕ → ValueRecord → Type 0
FitsList s None part i u = ⊥
FitsList s (Some g) part i u = MatchOption (slice_get (s.places (part g)) i) (u.ty ≡ Mem) (λ x. IsFree u × IsAlike s x u.ty)

-- the argument u fits the place i of the value v
unfoldable pub FitsPlace : Setting → FuncRecord → ValueRecord → Family → ℕ → ValueRecord → Type 0
FitsPlace s f v op.StaticLECall i u = FitsList s (sig_of s.pkg v.aux) (λ g. g.args) i u
FitsPlace s f v op.MakeResult i u = FitsList s (Some f.sig) (λ g. g.results) i u
FitsPlace s f v op.CallRegs i u = FitsList s (sig_of s.pkg v.aux) (λ g. in_registers s g.args) i u
FitsPlace s f v op.RetRegs i u = FitsList s (Some f.sig) (λ g. in_registers s g.results) i u
FitsPlace s f v o i u = FitsSlot s f v u (slot v.op o i)

-- a list of results, but memory alone where there is none
abbrev pub GivesList : Option SigRecord → Ty → Type 0
GivesList None x = ⊥
GivesList (Some g) x = ((g.results ≡ []) × (x ≡ Mem)) ⊎ (¬ (g.results ≡ []) × (x ≡ Tuple))

-- the type of the argument at a place of the signature
abbrev pub GivesArgument : Setting → List Ty → Aux → Ty → Type 0
GivesArgument s ts (beside.Arg k) x = (y : Ty) × (slice_get ts k ≡ Some y) × IsAlike s y x
GivesArgument s ts _ x = ⊥

-- result n of a call: memory after the last, and no type to fit past that
abbrev pub GivesResult : Setting → List Ty → ℤ → Ty → Type 0
GivesResult s ts n x = ((n ≡ pos (length ts)) → x ≡ Mem) × FitsPlaceOf s ts n x

-- the value's own type is one that its op gives; most ops say it by their class
unfoldable pub GivesByType : Setting → FuncRecord → ValueRecord → Family → Type 0
GivesByType s f v op.Phi = (v.ty ≡ Mem) ⊎ IsData s v.ty
GivesByType s f v op.Copy = (v.ty ≡ Mem) ⊎ IsData s v.ty
GivesByType s f v op.Arg = GivesArgument s (s.places f.sig.args) v.aux v.ty
GivesByType s f v op.SelectN = (g : SigRecord) × ResultOf s.pkg f v g × GivesResult s (s.places g.results) v.int v.ty
GivesByType s f v _ = IsData s v.ty

-- a machine word, but of a signature's word the type that fits it
unfoldable pub GivesWord : Setting → FuncRecord → ValueRecord → Family → Type 0
GivesWord s f v op.ArgWord = IsData s v.ty × FitsWordOf s f.sig v.int v.ty
GivesWord s f v op.ResWord = IsData s v.ty × ((g : SigRecord) → ResultOf s.pkg f v g → FitsWordOf s g v.int v.ty)
GivesWord s f v op.ArgReg = IsData s v.ty × FitsPlaceOf s (s.places f.sig.args) v.int v.ty
GivesWord s f v op.ResReg = IsData s v.ty × ((g : SigRecord) → ResultOf s.pkg f v g → FitsPlaceOf s (s.places g.results) v.int v.ty)
GivesWord s f v _ = FitsWord s v.ty

unfoldable pub GivesResults : Setting → FuncRecord → ValueRecord → Family → Type 0
GivesResults s f v op.MakeResult = GivesList (Some f.sig) v.ty
GivesResults s f v _ = GivesList (sig_of s.pkg v.aux) v.ty

abbrev pub Gives : Setting → FuncRecord → ValueRecord → Class → Type 0
Gives s f v (Number n) = FitsBits s n v.ty
Gives s f v Word = GivesWord s f v v.op.family
Gives s f v Truth = FitsTruth s v.ty
Gives s f v State = v.ty ≡ Mem
Gives s f v Nothing = (v.ty ≡ Void) ⊎ FitsWord s v.ty
Gives s f v Results = GivesResults s f v v.op.family
Gives s f v ByType = GivesByType s f v v.op.family

-- a store names the type that it writes, and no other op names one
unfoldable pub FitsAux : Setting → Family → Aux → Type 0
FitsAux s op.Store (beside.Ty x) = IsData s x
FitsAux s op.Store _ = ⊥
FitsAux s _ (beside.Ty x) = ⊥
FitsAux s _ _ = Unit {0}

-- the value is one of an op, and its types fit the op's row
pub record HasTypes (s : Setting) (f : FuncRecord) (v : ValueRecord) : Type 0 where
  pub op : is_op v.op.family v.op.a v.op.b ≡ true
  pub result : Gives s f v (info_of v.op).result
  pub aux : FitsAux s v.op.family v.aux
  pub args : (i : ℕ) (b : BlockRecord) (u : ValueRecord) → HasValue f b u → slice_get v.args i ≡ Some u.id → FitsPlace s f v v.op.family i u

-- the number stands for memory
abbrev pub IsMemory : FuncRecord → ℕ → (ValueRecord → Type 0) → Type 0
IsMemory f n P = (b : BlockRecord) × (u : ValueRecord) × HasValue f b u × StandsFor f n u.id × (u.ty ≡ Mem) × P u

-- the control is a truth value, the end of a function or memory, by the kind of the block
abbrev pub FitsControl : Setting → FuncRecord → ValueRecord → Kind → Type 0
FitsControl s f v Plain = Unit {0}
FitsControl s f v First = Unit {0}
FitsControl s f v If = IsFree v × FitsTruth s v.ty
FitsControl s f v Ret = (v.op.family ≡ op.MakeResult) ⊎ (v.op.family ≡ op.RetWord) ⊎ (v.op.family ≡ op.RetRegs) ⊎ ((f.sig.results ≡ []) × IsMemory f v.id (λ u. Unit {0}))
FitsControl s f v Exit = IsMemory f v.id (λ u. ¬ (u.op.family ≡ op.MakeResult))

abbrev pub HasControlType : Setting → FuncRecord → BlockRecord → Type 0
HasControlType s f b = (c : BlockRecord) (v : ValueRecord) → HasValue f c v → b.control ≡ Some v.id → FitsControl s f v b.kind
