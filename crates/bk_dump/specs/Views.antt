-- What contracts see of the reader.
use Rattle.std.specs.Prelude.{◌≡◌, ◌⊎◌, ℕ, List, [], ◌∷◌, ◌++◌, Option, Some, None, map, slice_index_or, string_bytes, Result, Ok, Err, All}
use Rattle.bk_ops.specs.declared.types.Target.{Target}
use Rattle.bk_func.specs.declared.form.FormKind.{FormKind}
use Rattle.bk_func.specs.declared.form.Place.{Place}
use Rattle.bk_func.specs.Records.{FuncRecord, PackageRecord}
use Rattle.bk_func.specs.Form.{IsInForm, IsFault}
use Rattle.bk_form.specs.declared.FormError.{FormError}
use Rattle.bk_form.specs.declared.FormError.TheVariants.{FormFault, Memory as NoMemory}
use Rattle.bk_dump.specs.declared.read.errors.Fault.{Fault}
use Rattle.bk_dump.specs.declared.read.errors.LineError.{LineError}
use Rattle.bk_dump.specs.declared.read.errors.LineError.TheVariants as line_error
use Rattle.bk_dump.specs.declared.read.errors.ReferenceError.{ReferenceError}
use Rattle.bk_dump.specs.declared.read.errors.ReferenceError.TheVariants as reference_error
use Rattle.bk_dump.specs.declared.read.state.Reader.{Reader}
use Rattle.bk_dump.specs.declared.read.errors.DumpError.{DumpError}
use Rattle.bk_dump.specs.declared.read.errors.DumpError.TheVariants as dump_error
use Rattle.bk_dump.specs.declared.read.errors.Fault.TheVariants as fault
use Rattle.bk_dump.specs.Drafts.{State}
use Rattle.bk_dump.specs.Texts.{Refusal, at_line, undefined}

abbrev pub state : Reader → State
state r = record { names = map (λ n. n.now) r.names.keys; funcs = r.funcs.items; vars = r.vars.items; window = r.window; stage = r.stage }

-- what a step of the reader does, want of memory aside: it leaves what is declared now, or gives the fault
abbrev pub Steps : {T : Type 0} → Result T LineError → Result State Fault → State → Type 0
Steps (Ok x) read new = read ≡ Ok new
Steps (Err line_error.Memory) read new = Unit {0}
Steps (Err (line_error.Fault f)) read new = read ≡ Err f

-- what a look-up gives, want of memory aside: what it reads as, or the reference that names nothing
abbrev pub Finds : {X Y : Type 0} → (X → Y) → Result X ReferenceError → Result Y (List ℕ) → Type 0
Finds view (Ok x) read = read ≡ Ok (view x)
Finds view (Err reference_error.Memory) read = Unit {0}
Finds view (Err (reference_error.Undefined name)) read = read ≡ Err (string_bytes name)

-- what a test finds, want of memory aside: nothing, or the reference that names nothing
abbrev pub Passes : {T : Type 0} → Result T ReferenceError → Option (List ℕ) → Type 0
Passes (Ok x) found = found ≡ None
Passes (Err reference_error.Memory) found = Unit {0}
Passes (Err (reference_error.Undefined name)) found = found ≡ Some (string_bytes name)

-- the error of a call says why the text is refused
abbrev pub Says : DumpError → Refusal → Type 0
Says (dump_error.Syntax line) refusal = refusal ≡ at_line fault.Syntax line
Says (dump_error.Limit which line) refusal = refusal ≡ at_line (fault.Limit which) line
Says (dump_error.Duplicate line) refusal = refusal ≡ at_line fault.Duplicate line
Says (dump_error.Undefined name) refusal = refusal ≡ undefined (string_bytes name)
Says (dump_error.FormFault func kind place) refusal = ⊥
Says dump_error.Memory refusal = ⊥

-- what stands in the way of a call: want of memory, or what is wrong with the text
abbrev pub Refused : {Y : Type 0} → DumpError → Result Y Refusal → Type 0
Refused e read = (e ≡ dump_error.Memory) ⊎ ((refusal : Refusal) × (read ≡ Err refusal) × Says e refusal)

-- what a call reads
abbrev pub Reads : {X Y : Type 0} → (X → Y) → Result X DumpError → Result Y Refusal → Type 0
Reads view (Ok x) read = read ≡ Ok (view x)
Reads view (Err e) read = Refused e read

-- what a step through the lines does: it leaves what is declared now, or is refused
abbrev pub Goes : {T : Type 0} → Result T DumpError → Result State Refusal → State → Type 0
Goes (Ok x) read new = read ≡ Ok new
Goes (Err e) read new = Refused e read

-- the refusal of a line that was not read
abbrev pub Tells : LineError → ℕ → DumpError → Type 0
Tells (line_error.Fault f) line e = Says e (at_line f line)
Tells line_error.Memory line e = e ≡ dump_error.Memory

-- the refusal for a reference
abbrev pub Names : ReferenceError → DumpError → Type 0
Names (reference_error.Undefined name) e = e ≡ dump_error.Undefined name
Names reference_error.Memory e = e ≡ dump_error.Memory

-- what a look-up of references gives, want of memory aside: what it reads as, or the refusal of one that names nothing
abbrev pub LooksUp : {X Y : Type 0} → (X → Y) → Result X DumpError → Result Y (List ℕ) → Type 0
LooksUp view (Ok x) read = read ≡ Ok (view x)
LooksUp view (Err e) read = (e ≡ dump_error.Memory) ⊎ ((name : List ℕ) × (read ≡ Err name) × Says e (undefined name))

-- the function of the package is in form
abbrev pub IsFormed : PackageRecord → Target → FuncRecord → Type 0
IsFormed p t f = IsInForm p f t

-- the first function that is not in form: those before it are, and it is refused for this
pub record Blames (p : PackageRecord) (t : Target) (name : List ℕ) (kind : FormKind) (place : Place) : Type 0 where
  pub front : List FuncRecord
  pub func : FuncRecord
  pub more : List FuncRecord
  pub whole : p.funcs ≡ front ++ (func ∷ more)
  pub formed : All (IsFormed p t) front
  pub refused : IsFault p func t kind place
  pub named : name ≡ slice_index_or p.names func.name []

-- the refusal for what the check says of a function
abbrev pub Blame : PackageRecord → FuncRecord → FormError → DumpError → Type 0
Blame p f (FormFault kind place) (dump_error.FormFault func k at) = (string_bytes func ≡ slice_index_or p.names f.name []) × (k ≡ kind) × (at ≡ place)
Blame p f (FormFault kind place) dump_error.Memory = Unit {0}
Blame p f (FormFault kind place) _ = ⊥
Blame p f NoMemory e = e ≡ dump_error.Memory

-- what the forms of a package's functions say of a refusal
abbrev pub BlamesForm : PackageRecord → Target → DumpError → Type 0
BlamesForm p t (dump_error.FormFault func kind place) = Blames p t (string_bytes func) kind place
BlamesForm p t dump_error.Memory = Unit {0}
BlamesForm p t (dump_error.Syntax line) = ⊥
BlamesForm p t (dump_error.Limit which line) = ⊥
BlamesForm p t (dump_error.Duplicate line) = ⊥
BlamesForm p t (dump_error.Undefined name) = ⊥

-- what the reader answers, want of memory aside: the package that the text reads as, where its functions are in form, or
-- why the text is refused: a function that is not in form only where the text reads as a package of which it is the first
abbrev pub IsReading : Target → Result PackageRecord DumpError → Result PackageRecord Refusal → Type 0
IsReading t (Ok p) read = (read ≡ Ok p) × All (IsFormed p t) p.funcs
IsReading t (Err (dump_error.FormFault func kind place)) read = (p : PackageRecord) × (read ≡ Ok p) × Blames p t (string_bytes func) kind place
IsReading t (Err dump_error.Memory) read = Unit {0}
IsReading t (Err (dump_error.Syntax line)) read = read ≡ Err (at_line fault.Syntax line)
IsReading t (Err (dump_error.Limit which line)) read = read ≡ Err (at_line (fault.Limit which) line)
IsReading t (Err (dump_error.Duplicate line)) read = read ≡ Err (at_line fault.Duplicate line)
IsReading t (Err (dump_error.Undefined name)) read = read ≡ Err (undefined (string_bytes name))
