-- What a function is measured against, and the signatures and words that its ops speak of.
use Rattle.std.specs.Prelude.{◌≡◌, ℕ, nat_lt, ◌++◌, ◌<◌, ◌==◌, ◌||◌, Bool, true, false, if◌then◌else◌, List, [], ◌∷◌, length, take, Option, Some, None}
use Rattle.std.specs.List.{Contains, find, flat_map, slice_get}
use Rattle.bk_ops.specs.Types.{width_of}
use Rattle.bk_ops.specs.Families.{is_word_call}
use Rattle.bk_ops.specs.declared.types.Target.{Target}
use Rattle.bk_ops.specs.declared.types.Target.TheVariants.{Arm, Riscv64}
use Rattle.bk_ops.specs.declared.types.Ty.{Ty}
use Rattle.bk_ops.specs.declared.types.Ty.TheVariants.{Uint32}
use Rattle.bk_func.specs.declared.parts.Aux.{Aux}
use Rattle.bk_func.specs.declared.parts.Aux.TheVariants as beside
use Rattle.bk_func.specs.Records.{ValueRecord, BlockRecord, FuncRecord, SigRecord, PackageRecord, VarRecord}
use Rattle.bk_func.specs.Form.Text.{HasValue, IsPhi}
use Rattle.bk_func.specs.Form.States.{Names}
use Rattle.bk_func.specs.Symbols.{panic_divide, panic_shift, no_sig}
use Rattle.bk_func.specs.Words.{register_words}

-- the package and the target of a function; the types of the places that a list of a signature's types takes; and
-- whether each machine word fits each place of one
pub record Setting : Type 0 where
  pub pkg : PackageRecord
  pub target : Target
  pub places : List Ty → List Ty
  pub loose : Bool

-- one place for each type
abbrev pub whole : List Ty → List Ty
whole ts = ts

-- the machine words of a value of the type
abbrev pub words_of_type : Target → Ty → List Ty
words_of_type Riscv64 x = x ∷ []
words_of_type Arm x = if width_of x Arm == 64 then Uint32 ∷ Uint32 ∷ [] else x ∷ []

-- one place for each word
abbrev pub words_of : Target → List Ty → List Ty
words_of t ts = flat_map (words_of_type t) ts

-- the places of a signature, which words count: those of its arguments, then those of its results
abbrev pub places_of_sig : Setting → SigRecord → List Ty
places_of_sig s g = s.places g.args ++ s.places g.results

-- of these arguments or results those that a call passes in registers
abbrev pub in_registers : Setting → List Ty → List Ty
in_registers s ts = take (register_words s.target) ts

-- the types of the function with this name; the two panics have none

abbrev pub sig_in : Option FuncRecord → Option SigRecord
sig_in None = None
sig_in (Some g) = Some g.sig

abbrev pub sig_named : PackageRecord → ℕ → Option SigRecord
sig_named p s =
    if s == panic_divide || s == panic_shift then Some no_sig else (if nat_lt s (length p.names) then sig_in (find (λ g. g.name == s) p.funcs) else None)

abbrev pub sig_of : PackageRecord → Aux → Option SigRecord
sig_of p (beside.Sym s) = sig_named p s
sig_of p _ = None

abbrev pub IsVariable : PackageRecord → ℕ → Type 0
IsVariable p s = s < length p.names × ((v : VarRecord) × Contains p.vars v × (v.name ≡ s))

-- the call whose result the value is has this signature
abbrev pub ResultOf : PackageRecord → FuncRecord → ValueRecord → SigRecord → Type 0
ResultOf p f v g = (b : BlockRecord) × (c : ValueRecord) × HasValue f b c × (slice_get v.args 0 ≡ Some c.id) × (sig_of p c.aux ≡ Some g)

-- the call is the next one behind the value in the value's block: it names the value, or it is the next one behind a value
-- that does, which is neither a phi nor a call
pub data IsBefore (f : FuncRecord) (b : BlockRecord) : ValueRecord → ValueRecord → Type 0 where
  last : (u c : ValueRecord) → HasValue f b u → HasValue f b c → is_word_call c.op.family ≡ true → Names f c u.id → IsBefore f b u c
  before : (u w c : ValueRecord) → HasValue f b u → HasValue f b w → ¬ IsPhi w → is_word_call w.op.family ≡ false → Names f w u.id
      → IsBefore f b w c → IsBefore f b u c

-- the call whose argument the word is has this signature
abbrev pub ArgumentOf : PackageRecord → FuncRecord → ValueRecord → SigRecord → Type 0
ArgumentOf p f v g = (b : BlockRecord) × (c : ValueRecord) × IsBefore f b v c × (sig_of p c.aux ≡ Some g)
