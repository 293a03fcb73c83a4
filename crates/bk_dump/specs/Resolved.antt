-- References looked up: the package that whole functions and variables are, or the first reference that names nothing.
use Rattle.std.specs.Prelude.{ℕ, not, if◌then◌else◌, List, [], ◌∷◌, ◌++◌, length, Option, Some, None, Result, Ok, Err, codes, position}
use Rattle.std.specs.Fmt.{decimal}
use Rattle.std.specs.List.{find}
use Rattle.std.specs.Option.{option_map}
use Rattle.std.specs.Str.{bytes_eq}
use Rattle.bk_ops.specs.declared.family.Family.{Family}
use Rattle.bk_ops.specs.declared.family.Family.TheVariants as family
use Rattle.bk_func.specs.declared.parts.Aux.{Aux}
use Rattle.bk_func.specs.declared.parts.Aux.TheVariants as aux
use Rattle.bk_func.specs.Records.{ValueRecord, BlockRecord, FuncRecord, VarRecord, PackageRecord}
use Rattle.bk_func.specs.Symbols.{panic_divide, panic_shift}
use Rattle.bk_dump.specs.Front.{or_else}
use Rattle.bk_dump.specs.Trees.{MentionTree, ValueTree, LabelTree, BlockTree, EndTree, FuncTree}
use Rattle.bk_dump.specs.Drafts.{declares, divide_name, shift_name}

-- a step that may find a reference which names nothing; its error is what the text says there
infixl 10 ◌>>=◌
abbrev pub ◌>>=◌ : {A B : Type 0} → Result A (List ℕ) → (A → Result B (List ℕ)) → Result B (List ℕ)
(Ok x) >>= f = f x
(Err e) >>= f = Err e

-- each in order, up to the first that finds one
unfoldable pub each : {A B : Type 0} → (A → Result B (List ℕ)) → List A → Result (List B) (List ℕ)
each f [] = Ok []
each f (x ∷ xs) = f x >>= λ y. each f xs >>= λ ys. Ok (y ∷ ys)

-- the first of these numbers that is not declared, behind its letter
abbrev pub missing : List ℕ → List ℕ → List ℕ → Option (List ℕ)
missing letter ids ns = option_map (λ n. letter ++ decimal n) (find (λ n. not (declares ids n)) ns)

abbrev pub missing_control : List ℕ → Option ℕ → Option (List ℕ)
missing_control ids None = None
missing_control ids (Some n) = missing (codes "v") ids (n ∷ [])

abbrev pub unless : {A : Type 0} → Option (List ℕ) → Result A (List ℕ) → Result A (List ℕ)
unless None read = read
unless (Some text) read = Err text

-- the number of a name
abbrev pub place_of : List (List ℕ) → List ℕ → Option ℕ
place_of names name = position (λ n. bytes_eq name n) names

-- the number of a function or a variable
abbrev pub symbol_of : List (List ℕ) → List ℕ → Option Aux
symbol_of names name = option_map aux.Sym (place_of names name)

-- the place of a parameter
abbrev pub argument_of : List (List ℕ) → List ℕ → Option Aux
argument_of parameters name = option_map aux.Arg (place_of parameters name)

-- the number of a callee; the callees that panic have numbers of their own
abbrev pub callee_of : List (List ℕ) → List ℕ → Option Aux
callee_of names name =
    if bytes_eq name divide_name then Some (aux.Sym panic_divide)
    else if bytes_eq name shift_name then Some (aux.Sym panic_shift)
    else symbol_of names name

-- what the references of a function may name
pub record Scope : Type 0 where
  pub names : List (List ℕ)
  pub parameters : List (List ℕ)
  pub values : List ℕ
  pub blocks : List ℕ

abbrev pub scope_of : List (List ℕ) → FuncTree → Scope
scope_of names f = record { names = names; parameters = f.parameters; values = f.value_ids; blocks = f.block_ids }

-- what a name that a value mentions stands for
unfoldable pub aux_of : Scope → Family → List ℕ → Option Aux
aux_of s family.Arg name = argument_of s.parameters name
aux_of s family.StaticLECall name = callee_of s.names name
aux_of s _ name = symbol_of s.names name

abbrev pub or_name : List ℕ → Option Aux → Result Aux (List ℕ)
or_name name None = Err name
or_name name (Some x) = Ok x

abbrev pub if_named : Scope → Family → Aux → Option (List ℕ) → Result Aux (List ℕ)
if_named s family given None = Ok given
if_named s family given (Some name) = or_name name (aux_of s family name)

unfoldable pub looked_up : Scope → Family → MentionTree → Result Aux (List ℕ)
looked_up s family m = if_named s family m.aux m.name

-- a value: its name is looked up before its arguments
unfoldable pub value_of : Scope → ValueTree → Result ValueRecord (List ℕ)
value_of s v = do
  x ← looked_up s v.op.family v.mention
  unless (missing (codes "v") s.values v.args) (Ok (record { id = v.id; op = v.op; ty = v.ty; args = v.args; int = v.int; aux = x }))

-- the end of a block: its control is looked up before its successors
unfoldable pub missing_at_end : Scope → EndTree → Option (List ℕ)
missing_at_end s e = or_else (missing_control s.values e.control) (missing (codes "b") s.blocks e.succs)

abbrev pub made_block : LabelTree → List ValueRecord → EndTree → BlockRecord
made_block l vs e = record { id = l.id; kind = e.kind; control = e.control; preds = l.preds; succs = e.succs; likely = e.likely; values = vs }

-- a block: its predecessors, its values, its end
unfoldable pub block_of : Scope → BlockTree → Result BlockRecord (List ℕ)
block_of s b =
    unless (missing (codes "b") s.blocks b.label.preds) (each (value_of s) b.values >>= λ vs.
    unless (missing_at_end s b.end) (Ok (made_block b.label vs b.end)))

unfoldable pub func_of : List (List ℕ) → FuncTree → Result FuncRecord (List ℕ)
func_of names f = each (block_of (scope_of names f)) f.blocks >>= λ bs. Ok (record { name = f.name; sig = f.sig; blocks = bs; given = length f.value_ids })

-- the package of these names, functions and variables
unfoldable pub package_of : List (List ℕ) → List FuncTree → List VarRecord → Result PackageRecord (List ℕ)
package_of names funcs vars = each (func_of names) funcs >>= λ fs. Ok (record { names = names; funcs = fs; vars = vars })
