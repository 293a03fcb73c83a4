-- What one block or one value must be by itself: edges, names, counts and the numbers beside ops.
use Rattle.std.specs.Prelude.{◌≡◌, ℕ, ℤ, pos, negsuc, ◌+◌, ◌-◌, ◌^◌, ◌<◌, ◌≤ℤ◌, ◌<ℤ◌, ◌==◌, if◌then◌else◌, List, [], length, sum_by, count_by, Option, Some, None, IsSome, IfSome}
use Rattle.std.specs.List.{All}
use Rattle.bk_ops.specs.Table.{info_of}
use Rattle.bk_ops.specs.declared.family.Family.{Family}
use Rattle.bk_ops.specs.declared.family.Family.TheVariants as op
use Rattle.bk_ops.specs.declared.family.ArmOp.TheVariants as arm
use Rattle.bk_ops.specs.declared.family.RvOp.TheVariants as rv
use Rattle.bk_ops.specs.declared.table.AuxKind.{AuxKind}
use Rattle.bk_ops.specs.declared.table.AuxKind.TheVariants as aux
use Rattle.bk_ops.specs.declared.types.Ty.{Ty}
use Rattle.bk_func.specs.declared.parts.Aux.{Aux}
use Rattle.bk_func.specs.declared.parts.Aux.TheVariants as beside
use Rattle.bk_func.specs.declared.parts.Kind.{Kind}
use Rattle.bk_func.specs.declared.parts.Kind.TheVariants.{Plain, If, First, Ret, Exit}
use Rattle.bk_func.specs.Records.{ValueRecord, BlockRecord, FuncRecord, SigRecord}
use Rattle.bk_func.specs.Form.Text.{IsEntry}
use Rattle.bk_func.specs.Form.Signatures.{Setting, places_of_sig, in_registers, sig_named, sig_of, IsVariable, ResultOf, ArgumentOf}

-- the count of successors of a block of the kind, and whether it has a control
abbrev pub FitsKind : Kind → List ℕ → Option ℕ → Type 0
FitsKind Plain ss c = (length ss ≡ 1) × (c ≡ None)
FitsKind If ss c = (length ss ≡ 2) × IsSome c
FitsKind First ss c = (length ss ≡ 2) × (c ≡ None)
FitsKind Ret ss c = (ss ≡ []) × IsSome c
FitsKind Exit ss c = (ss ≡ []) × IsSome c

-- how many edges lead from a to n by the successors of a, and by the predecessors of n
abbrev pub edges_out : FuncRecord → ℕ → ℕ → ℕ
edges_out f a n = sum_by (λ b. if b.id == a then count_by (λ s. s == n) b.succs else 0) f.blocks

abbrev pub edges_in : FuncRecord → ℕ → ℕ → ℕ
edges_in f a n = sum_by (λ b. if b.id == n then count_by (λ p. p == a) b.preds else 0) f.blocks

-- the block's kind, control and edges are in order
pub record KeepsControl (f : FuncRecord) (b : BlockRecord) : Type 0 where
  pub kind : FitsKind b.kind b.succs b.control
  pub entry : IsEntry f b → b.preds ≡ []
  pub out : (n : ℕ) → edges_out f b.id n ≡ edges_in f b.id n
  pub into : (n : ℕ) → edges_out f n b.id ≡ edges_in f n b.id

-- the number is that of one block, or of one value
unfoldable pub IsBlockNumber : FuncRecord → ℕ → Type 0
IsBlockNumber f n = count_by (λ b. b.id == n) f.blocks ≡ 1

unfoldable pub IsValueNumber : FuncRecord → ℕ → Type 0
IsValueNumber f n = sum_by (λ b. count_by (λ v. v.id == n) b.values) f.blocks ≡ 1

-- the block's numbers name one thing each
pub record NamesInBlock (f : FuncRecord) (b : BlockRecord) : Type 0 where
  pub own : IsBlockNumber f b.id
  pub preds : All (IsBlockNumber f) b.preds
  pub succs : All (IsBlockNumber f) b.succs
  pub control : IfSome b.control (IsValueNumber f)

-- what an op names: nothing, a function, a variable or an argument
pub data Symbol : Type 0 where
  nothing : Symbol
  function : Symbol
  variable : Symbol
  argument : Symbol

unfoldable pub symbol_of : Family → Symbol
symbol_of op.StaticLECall = function
symbol_of op.Call = function
symbol_of op.CallRegs = function
symbol_of op.Addr = variable
symbol_of (op.Arm arm.Addr) = variable
symbol_of (op.Rv rv.Addr) = variable
symbol_of op.Arg = argument
symbol_of _ = nothing

-- what stands beside the value is there, and is what its op names
abbrev pub FitsSymbol : Setting → FuncRecord → Symbol → Aux → Type 0
FitsSymbol s f nothing beside.Nothing = Unit {0}
FitsSymbol s f nothing (beside.Ty x) = Unit {0}
FitsSymbol s f function (beside.Sym n) = IsSome (sig_named s.pkg n)
FitsSymbol s f variable (beside.Sym n) = IsVariable s.pkg n
FitsSymbol s f argument (beside.Arg k) = k < length (s.places f.sig.args)
FitsSymbol s f _ _ = ⊥

-- the value's numbers name one thing each, and so does what stands beside it
pub record NamesInValue (s : Setting) (f : FuncRecord) (v : ValueRecord) : Type 0 where
  pub own : IsValueNumber f v.id
  pub args : All (IsValueNumber f) v.args
  pub symbol : FitsSymbol s f (symbol_of v.op.family) v.aux

-- the count of arguments that a call takes: those of the signature and memory
abbrev pub call_arity : Setting → Option SigRecord → Option ℕ
call_arity s None = None
call_arity s (Some g) = Some (length (s.places g.args) + 1)

-- the count of arguments of a call that passes words in registers: one for each of these, and memory
abbrev pub registers_arity : Setting → Option SigRecord → Option ℕ
registers_arity s None = None
registers_arity s (Some g) = Some (length (s.places (in_registers s g.args)) + 1)

-- the value has as many arguments as its op takes; a phi has one at least, and the results in registers are one at least
unfoldable pub HasArity : Setting → FuncRecord → BlockRecord → ValueRecord → Family → Type 0
HasArity s f b v op.Phi = (length v.args ≡ length b.preds) × ¬ (v.args ≡ [])
HasArity s f b v op.MakeResult = length v.args ≡ length (s.places f.sig.results) + 1
HasArity s f b v op.StaticLECall = call_arity s (sig_of s.pkg v.aux) ≡ Some (length v.args)
HasArity s f b v op.CallRegs = registers_arity s (sig_of s.pkg v.aux) ≡ Some (length v.args)
HasArity s f b v op.RetRegs = (length v.args ≡ length (s.places (in_registers s f.sig.results)) + 1) × (1 < length v.args)
HasArity s f b v _ = IfSome (info_of v.op).arity (λ n. length v.args ≡ n)

-- the number has so many bits with a sign
abbrev pub IsSigned : ℕ → ℤ → Type 0
IsSigned w n = (negsuc (2 ^ (w - 1) - 1) ≤ℤ n) × (n <ℤ pos (2 ^ (w - 1)))

abbrev pub IsBetween : ℤ → ℕ → ℕ → Type 0
IsBetween n low high = (pos low ≤ℤ n) × (n <ℤ pos high)

-- the number is that of a place of the signature: of its arguments, or of its results
abbrev pub IsArgumentWord : Setting → SigRecord → ℤ → Type 0
IsArgumentWord s g n = IsBetween n 0 (length (s.places g.args))

abbrev pub IsResultWord : Setting → SigRecord → ℤ → Type 0
IsResultWord s g n = IsBetween n (length (s.places g.args)) (length (places_of_sig s g))

-- the number is that of an argument or a result that is passed in a register
abbrev pub IsInRegister : Setting → List Ty → ℤ → Type 0
IsInRegister s ts n = IsBetween n 0 (length (s.places (in_registers s ts)))

-- the number beside an op that has one is in the op's range
unfoldable pub InRange : Setting → FuncRecord → ValueRecord → Family → Type 0
InRange s f v op.Const = IsSigned v.op.a v.int
InRange s f v op.ConstBool = IsBetween v.int 0 2
InRange s f v op.Trap = IsBetween v.int 1 7
InRange s f v op.SelectN = (g : SigRecord) × ResultOf s.pkg f v g × IsBetween v.int 0 (length (s.places g.results) + 1)
InRange s f v op.ArgWord = IsArgumentWord s f.sig v.int
InRange s f v op.RetWord = IsResultWord s f.sig v.int
InRange s f v op.OutWord = (g : SigRecord) × ArgumentOf s.pkg f v g × IsArgumentWord s g v.int
InRange s f v op.ResWord = (g : SigRecord) × ResultOf s.pkg f v g × IsResultWord s g v.int
InRange s f v op.ArgReg = IsInRegister s f.sig.args v.int
InRange s f v op.ResReg = (g : SigRecord) × ResultOf s.pkg f v g × IsInRegister s g.results v.int
InRange s f v _ = IsSigned 64 v.int

-- the number beside the op is in its range, and 0 beside an op that has none
abbrev pub HasRange : Setting → FuncRecord → ValueRecord → AuxKind → Type 0
HasRange s f v aux.Int = InRange s f v v.op.family
HasRange s f v _ = v.int ≡ pos 0
