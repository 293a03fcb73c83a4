-- The declarations that a package's text spells, and which packages have a text that spells them.
use Rattle.std.specs.Prelude.{◌≡◌, ◌≢◌, ◌<◌, ◌≤◌, ◌+◌, ◌*◌, ◌^◌, ℕ, ℤ, pos, negsuc, true, false, List, [], ◌∷◌, ◌++◌, ◌⊎◌, length, map, take, drop, Option, Some, None}
use Rattle.std.specs.List.{AllByRecursion}
use Rattle.bk_ops.specs.Table.{is_op}
use Rattle.bk_ops.specs.declared.types.Ty.{Ty}
use Rattle.bk_ops.specs.declared.types.Ty.TheVariants.{Tuple}
use Rattle.bk_func.specs.declared.parts.Aux.{Aux}
use Rattle.bk_func.specs.declared.parts.Aux.TheVariants as aux
use Rattle.bk_func.specs.declared.parts.Kind.{Kind}
use Rattle.bk_func.specs.declared.parts.Kind.TheVariants.{Plain, If, First, Ret, Exit}
use Rattle.bk_func.specs.declared.parts.Likely.{Likely}
use Rattle.bk_func.specs.declared.parts.Likely.TheVariants as likely
use Rattle.bk_func.specs.Records.{ValueRecord, BlockRecord, SigRecord, FuncRecord, VarRecord, PackageRecord}
use Rattle.bk_dump.specs.declared.read.beside.Braces.{Braces}
use Rattle.bk_dump.specs.declared.read.beside.Braces.TheVariants as braces
use Rattle.bk_dump.specs.declared.read.beside.Square.{Square}
use Rattle.bk_dump.specs.declared.read.beside.Square.TheVariants as square
use Rattle.bk_dump.specs.Trees.{MentionTree, ValueTree, LabelTree, EndTree, VarTree, ParameterTree, HeaderTree, BlockTree, no_mention, of_type, of_name}
use Rattle.bk_dump.specs.Parts.{IsName}
use Rattle.bk_dump_laws.specs.Lines.{IsWordType}
use Rattle.bk_dump.specs.Values.{braces_of, square_of, constants_of, is_written}
use Rattle.bk_dump.specs.Print.{symbol, argument_name, tuple_types, hex_to, before}
use Rattle.bk_dump_laws.specs.Declarations.{Declaration, variable, function}
use Rattle.bk_dump.specs.Texts.{is_skipped}

-- What the lines of a package say.

-- what a value mentions
abbrev pub mention_of : List (List ℕ) → Aux → MentionTree
mention_of names aux.Nothing = no_mention
mention_of names (aux.Sym n) = of_name (symbol names n)
mention_of names (aux.Ty t) = of_type t
mention_of names (aux.Arg k) = of_name (argument_name k)

abbrev pub value_tree : List (List ℕ) → ValueRecord → ValueTree
value_tree names v = record { id = v.id; op = v.op; ty = v.ty; args = v.args; int = v.int; mention = mention_of names v.aux }

abbrev pub label_tree : BlockRecord → LabelTree
label_tree b = record { id = b.id; preds = b.preds }

abbrev pub end_tree : BlockRecord → EndTree
end_tree b = record { kind = b.kind; control = b.control; succs = b.succs; likely = b.likely }

abbrev pub block_tree : List (List ℕ) → BlockRecord → BlockTree
block_tree names b = record { label = label_tree b; values = map (value_tree names) b.values; end = end_tree b }

-- the parameters of these types, the first standing at place k: each is named by its place
abbrev pub parameters_of : ℕ → List Ty → List ParameterTree
parameters_of k [] = []
parameters_of k (t ∷ ts) = record { name = argument_name k; ty = t } ∷ parameters_of (k + 1) ts

abbrev pub header_tree : List (List ℕ) → FuncRecord → HeaderTree
header_tree names f = record { name = symbol names f.name; parameters = parameters_of 0 f.sig.args; results = f.sig.results }

abbrev pub var_tree : List (List ℕ) → VarRecord → VarTree
var_tree names v = record { name = symbol names v.name; size = v.size; hex = hex_to v.bytes v.size }

abbrev pub var_declaration : List (List ℕ) → VarRecord → Declaration
var_declaration names v = variable (var_tree names v)

abbrev pub func_declaration : List (List ℕ) → FuncRecord → Declaration
func_declaration names f = function (header_tree names f) (map (block_tree names) f.blocks)

-- functions and variables in the order of their names' numbers
abbrev pub declarations_in : List (List ℕ) → List FuncRecord → List VarRecord → List Declaration
declarations_in names [] vs = map (var_declaration names) vs
declarations_in names (f ∷ fs) vs =
    map (var_declaration names) (take (before f.name vs) vs) ++ (func_declaration names f ∷ declarations_in names fs (drop (before f.name vs) vs))

abbrev pub declarations_of : PackageRecord → List Declaration
declarations_of p = declarations_in p.names p.funcs p.vars

-- What has a line that says this.

-- numbers of values and blocks
abbrev pub IsShort : ℕ → Type 0
IsShort n = n < 2 ^ 32

abbrev pub AreShort : List ℕ → Type 0
AreShort ns = AllByRecursion IsShort ns

-- the type of a value: a list stands for some types of words
abbrev pub HasTypes : List Ty → Ty → Type 0
HasTypes results ty = ty ≡ Tuple → (0 < length results) × AllByRecursion IsWordType results

-- what an op has in braces
abbrev pub FitsBraces : List (List ℕ) → Braces → Aux → Type 0
FitsBraces names braces.Nothing x = x ≡ aux.Nothing
FitsBraces names braces.Type x = (t : Ty) × (x ≡ aux.Ty t) × (t ≢ Tuple)
FitsBraces names braces.Name x = ((n : ℕ) × (x ≡ aux.Sym n) × IsName (symbol names n)) ⊎ ((k : ℕ) × (x ≡ aux.Arg k) × (k < 2 ^ 64))
FitsBraces names braces.Callee x = (n : ℕ) × (x ≡ aux.Sym n) × IsName (symbol names n)
FitsBraces names braces.Ignored x = x ≡ aux.Nothing

-- a number that is read as itself by an op of W bits, where `all` is 2^W: the highest of these bits is not set, or it is below 0
abbrev pub IsKeptAs : ℕ → ℤ → Type 0
IsKeptAs all (pos n) = ((all ≤ n) ⊎ (2 * n < all)) × (n < 2 ^ 63)
IsKeptAs all (negsuc n) = n < 2 ^ 63

-- what an op has in square brackets
abbrev pub FitsSquare : Square → ℕ → ℤ → Type 0
FitsSquare square.Nothing all z = z ≡ pos 0
FitsSquare square.Number all z = IsKeptAs all z
FitsSquare square.Truth all z = IsKeptAs all z
FitsSquare square.Ignored all z = z ≡ pos 0
FitsSquare square.IgnoredTruth all z = z ≡ pos 0

pub record FitsValue (p : PackageRecord) (s : SigRecord) (v : ValueRecord) : Type 0 where
  pub id : IsShort v.id
  pub op : is_op v.op.family v.op.a v.op.b ≡ true
  pub written : is_written v.op.family ≡ true
  pub typed : HasTypes (tuple_types p s v.aux) v.ty
  pub braced : FitsBraces p.names (braces_of v.op.family) v.aux
  pub squared : FitsSquare (square_of v.op.family) (constants_of v.op.family v.op.a) v.int
  pub args : AreShort v.args

-- the control and the successors of a block of a kind; an If alone is marked
abbrev pub FitsKind : Kind → Option ℕ → List ℕ → Likely → Type 0
FitsKind Plain control succs l = (control ≡ None) × (length succs ≡ 1) × (l ≡ likely.No)
FitsKind If control succs l = ((v : ℕ) × (control ≡ Some v) × IsShort v) × (length succs ≡ 2)
FitsKind First control succs l = (control ≡ None) × (length succs ≡ 2) × (l ≡ likely.No)
FitsKind Ret control succs l = ((v : ℕ) × (control ≡ Some v) × IsShort v) × (succs ≡ []) × (l ≡ likely.No)
FitsKind Exit control succs l = ((v : ℕ) × (control ≡ Some v) × IsShort v) × (succs ≡ []) × (l ≡ likely.No)

pub record FitsBlock (p : PackageRecord) (s : SigRecord) (b : BlockRecord) : Type 0 where
  pub id : IsShort b.id
  pub preds : AreShort b.preds
  pub values : AllByRecursion (FitsValue p s) b.values
  pub kind : FitsKind b.kind b.control b.succs b.likely
  pub succs : AreShort b.succs

-- a function with a block, whose name begins no line that is skipped
pub record FitsFunc (p : PackageRecord) (f : FuncRecord) : Type 0 where
  pub name : IsName (symbol p.names f.name)
  pub shown : is_skipped (symbol p.names f.name) ≡ false
  pub few : length f.sig.args < 2 ^ 64
  pub args : AllByRecursion IsWordType f.sig.args
  pub results : AllByRecursion IsWordType f.sig.results
  pub some : 0 < length f.blocks
  pub blocks : AllByRecursion (FitsBlock p f.sig) f.blocks

pub record FitsVar (names : List (List ℕ)) (v : VarRecord) : Type 0 where
  pub name : IsName (symbol names v.name)
  pub size : v.size < 2 ^ 64
  pub bytes : AllByRecursion (λ b. b < 2 ^ 8) v.bytes

-- a package whose text spells what it declares
pub record FitsText (p : PackageRecord) : Type 0 where
  pub funcs : AllByRecursion (FitsFunc p) p.funcs
  pub vars : AllByRecursion (FitsVar p.names) p.vars
