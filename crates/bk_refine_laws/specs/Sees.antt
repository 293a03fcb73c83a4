-- When a package means what another one does: each of its functions stands for the other one's, which is in strict form and so sees
-- of numbers their low bits alone.
use Rattle.std.specs.Prelude.{ℕ, ◌≡◌, ◌%◌, ◌==◌, List, length, Option, Some, None, position, slice_get, slice_index}
use Rattle.bk_ops.specs.declared.types.Ty.{Ty}
use Rattle.bk_func.specs.Records.{ValueRecord, BlockRecord, FuncRecord, PackageRecord}
use Rattle.bk_func.specs.Edits.{block_of}
use Rattle.bk_func.specs.Symbols.{sig_of}
use Rattle.bk_func.specs.Words.{fitted}
use Rattle.bk_func.specs.Numbers.{Program, Env, numbers, value_in}
use Rattle.bk_func.specs.Effects.{effect_of, chain_from, order}
use Rattle.bk_func.specs.Meaning.{Outcome, wild, meaning, World, Activation, Calls, first_fault, first_state, in_state, done_by, phi_by, value_named}
use Rattle.bk_func.proofs.Faults.{In}
use Rattle.bk_func.proofs.Runs.{Keeps}
use Rattle.bk_rule.specs.WordSound.{Agree}
use Rattle.bk_refine_laws.specs.Possible.{Possible}
use Rattle.bk_refine_laws.specs.Low.{Widths, LowEnv}
use Rattle.bk_refine_laws.specs.Refines.{results_from, Refines}

-- how many low bits two runs have in common: of values, arguments and results, of each word that is written for the call that comes
-- after a state of memory, and of each word that is given back, in registers and after them
pub record RunWidths : Type 0 where
  pub env : Widths
  pub out : ℕ → ℕ → ℕ
  pub back : ℕ → ℕ
  pub regs : ℕ → ℕ

-- lists of one length whose numbers agree in their low bits
pub record LowList (width : ℕ → ℕ) (xs ys : List ℕ) : Type 0 where
  pub length : length xs ≡ length ys
  pub each : (j : ℕ) → Agree (width j) (slice_index xs j) (slice_index ys j)

-- calls that agree in the low bits of numbers and words, and in all else
pub record LowCall (width : RunWidths) (a b : Activation) : Type 0 where
  pub env : LowEnv width.env a.env b.env
  pub memory : a.memory ≡ b.memory
  pub out : (j : ℕ) → Agree (width.out a.memory j) (a.out j) (b.out j)
  pub back : (j : ℕ) → Agree (width.back j) (a.back j) (b.back j)
  pub regs : LowList width.regs a.regs b.regs
  pub stack : a.stack ≡ b.stack

-- numbers that agree in the low bits of the values that hold data
abbrev pub LowNumbers : (ℕ → Type 0) → (ℕ → ℕ) → (ℕ → ℕ) → (ℕ → ℕ) → Type 0
LowNumbers held width m n = (x : ℕ) → held x → Agree (width x) (m x) (n x)

-- calls that are such once memory is in the state that a value gives
abbrev pub AfterLow : RunWidths → ℕ → Activation → Activation → Type 0
AfterLow width id a b = (w : World) → LowCall width (in_state id a w) (in_state id b w)

-- numbers that fit to the same in the places of the types
abbrev pub FitSame : Program → List Ty → List ℕ → List ℕ → Type 0
FitSame p tys xs ys = fitted p.target (p.places tys) xs ≡ fitted p.target (p.places tys) ys

-- calls that are alike on arguments that fit to the same numbers: so do their results
abbrev pub LowCalls : Program → Calls → Calls → Type 0
LowCalls p calls calls' = (s : ℕ) (args args' : List ℕ) (stack : ℕ) (w : World) → FitSame p (sig_of p.pkg s).args args args' →
    Keeps (FitSame p (sig_of p.pkg s).results) (calls s args stack w) (calls' s args' stack w)

-- A block of a function in strict form sees of numbers their low bits alone.
pub record BlockSees (p : Program) (f : FuncRecord) (width : RunWidths) (b : BlockRecord) (m n : ℕ → ℕ) : Type 0 where
  pub phis : (x place old old' : ℕ) → Agree (width.env.value x) old old' →
      Agree (width.env.value x) (phi_by (value_in b.values x) place m old) (phi_by (value_in b.values x) place n old')
  pub faults : (window : List ℕ) (s : ℕ) → first_fault p.target m window (order f b s) ≡ first_fault p.target n window (order f b s)
  pub effects : (calls calls' : Calls) → LowCalls p calls calls' → (s : ℕ) (v : ValueRecord) → In v (chain_from f b s) → (x y : Activation) (w : World) → LowCall width x y →
      Keeps (AfterLow width v.id) (done_by (effect_of v.op.family v.ty) calls p m v x w) (done_by (effect_of v.op.family v.ty) calls' p n v y w)
  pub taken : (c : ℕ) → b.control ≡ Some c → m c % 2 ≡ n c % 2
  pub results : (x y : Activation) → LowCall width x y → FitSame p f.sig.results (results_from (value_named f b.control) p f m x) (results_from (value_named f b.control) p f n y)
  pub enters : (x y : Activation) → LowCall width x y → (j : ℕ) → Agree (width.out (first_state b x.memory) j) (x.out j) (y.out j)

-- A function in strict form sees of numbers their low bits alone.
pub record SeesLow (p : Program) (f : FuncRecord) (held : ℕ → Type 0) (width : RunWidths) : Type 0 where
  pub own : (e : Env) → Possible p f e (numbers p f e)
  pub agree : (e d : Env) (m n : ℕ → ℕ) → Possible p f e m → Possible p f d n → LowEnv width.env e d → LowNumbers held width.env.value m n
  pub begins : (args args' : List ℕ) → FitSame p f.sig.args args args' → (j : ℕ) → Agree (width.env.argument j) (slice_index args j) (slice_index args' j)
  pub blocks : (m n : ℕ → ℕ) → LowNumbers held width.env.value m n → (id : ℕ) (b : BlockRecord) → block_of f id ≡ Some b → BlockSees p f width b m n

-- the program with other functions
abbrev pub With : Program → PackageRecord → Program
With p k = record p { pkg = k }

-- g stands for f, which is in strict form, and its own numbers are possible
pub record FuncLow (p : Program) (k : PackageRecord) (f g : FuncRecord) (held : ℕ → Type 0) (width : RunWidths) : Type 0 where
  pub sees : SeesLow p f held width
  pub refines : Refines p f g
  pub own : (e : Env) → Possible p g e (numbers (With p k) g e)

-- functions at one place of two packages
abbrev pub BothFuncs : (FuncRecord → FuncRecord → Type 0) → Option FuncRecord → Option FuncRecord → Type 0
BothFuncs R None None = Unit {0}
BothFuncs R None (Some g) = ⊥
BothFuncs R (Some f) None = ⊥
BothFuncs R (Some f) (Some g) = R f g

-- each function of a package stands for that of the other one at its place, all of which are in strict form
pub record ProgramLow (p : Program) (k : PackageRecord) (held : ℕ → ℕ → Type 0) (width : ℕ → RunWidths) : Type 0 where
  pub sigs : (s : ℕ) → sig_of p.pkg s ≡ sig_of k s
  pub places : (s : ℕ) → position (λ g. g.name == s) p.pkg.funcs ≡ position (λ g. g.name == s) k.funcs
  pub named : (s i : ℕ) (f : FuncRecord) → position (λ g. g.name == s) p.pkg.funcs ≡ Some i → slice_get p.pkg.funcs i ≡ Some f → sig_of p.pkg s ≡ f.sig
  pub funcs : (i : ℕ) → BothFuncs (λ f g. FuncLow p k f g (held i) (width i)) (slice_get p.pkg.funcs i) (slice_get k.funcs i)

-- the run did not leave the data window
abbrev pub IsTame : Outcome → Type 0
IsTame (wild a) = ⊥
IsTame _ = Unit {0}

-- wherever the one program is not wild, the other one has the same outcome and data, for every count of blocks
abbrev pub MeansTheSame : Program → Program → Type 0
MeansTheSame p q = (n i : ℕ) (args window : List ℕ) (stack : ℕ) → IsTame (meaning p i args window stack n).0 → meaning q i args window stack n ≡ meaning p i args window stack n
