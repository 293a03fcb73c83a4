-- The text of a package.
use Rattle.std.specs.Prelude.{ℕ, zero, suc, ℤ, ◌+◌, ◌==◌, nat_lt, false, if◌then◌else◌, List, [], ◌∷◌, ◌++◌, length, take, drop, slice_index, slice_index_or, Option, Some, None, codes}
use Rattle.std.specs.List.{find, position}
use Rattle.std.specs.Option.{unwrap_or}
use Rattle.std.specs.Fmt.{decimal, signed_decimal, digits}
use Rattle.bk_ops.specs.Names.{name_of}
use Rattle.bk_ops.specs.Table.{info_of}
use Rattle.bk_ops.specs.declared.table.AuxKind.{AuxKind}
use Rattle.bk_ops.specs.declared.table.AuxKind.TheVariants as kind_of_aux
use Rattle.bk_ops.specs.declared.types.Ty.{Ty}
use Rattle.bk_ops.specs.declared.types.Ty.TheVariants.{Bool as Truth, Int8, Uint8, Int16, Uint16, Int32, Uint32, Int64, Uint64, Int, Uint, Uintptr, Ptr, Mem, Void, Tuple}
use Rattle.bk_func.specs.declared.parts.Aux.{Aux}
use Rattle.bk_func.specs.declared.parts.Aux.TheVariants as aux
use Rattle.bk_func.specs.declared.parts.Kind.{Kind}
use Rattle.bk_func.specs.declared.parts.Kind.TheVariants.{Plain, If, First, Ret, Exit}
use Rattle.bk_func.specs.declared.parts.Likely.{Likely}
use Rattle.bk_func.specs.declared.parts.Likely.TheVariants as likely
use Rattle.bk_func.specs.Records.{ValueRecord, BlockRecord, SigRecord, FuncRecord, VarRecord, PackageRecord}
use Rattle.bk_func.specs.Symbols.{panic_divide, panic_shift}

-- the name of a type; a list of types has none
unfoldable pub type_name : Ty → List ℕ
type_name Truth = codes "bool"
type_name Int8 = codes "int8"
type_name Uint8 = codes "uint8"
type_name Int16 = codes "int16"
type_name Uint16 = codes "uint16"
type_name Int32 = codes "int32"
type_name Uint32 = codes "uint32"
type_name Int64 = codes "int64"
type_name Uint64 = codes "uint64"
type_name Int = codes "int"
type_name Uint = codes "uint"
type_name Uintptr = codes "uintptr"
type_name Ptr = codes "ptr"
type_name Mem = codes "mem"
type_name Void = codes "void"
type_name Tuple = []

-- a function's or a variable's name by its number; the two highest numbers stand for the callees that panic
unfoldable pub symbol : List (List ℕ) → ℕ → List ℕ
symbol names n =
    if n == panic_divide then codes "runtime.panicdivide"
    else if n == panic_shift then codes "runtime.panicshift"
    else slice_index_or names n []

-- the name of the argument at a place: a to z, then a26 and so on
unfoldable pub argument_name : ℕ → List ℕ
argument_name k = if nat_lt k 26 then (97 + k) ∷ [] else codes "a" ++ decimal k

-- what stands before an element of a list at a place
unfoldable pub separator : ℕ → List ℕ
separator k = if k == 0 then [] else codes ", "

-- numbers of values or blocks, each behind its letter
unfoldable pub numbers : List ℕ → List ℕ → List ℕ
numbers before [] = []
numbers before (n ∷ ns) = (before ++ decimal n) ++ numbers before ns

-- The signature.

unfoldable pub parameter : ℕ → Ty → List ℕ
parameter k t = separator k ++ (argument_name k ++ (codes " " ++ type_name t))

-- the parameters, the first standing at place k
unfoldable pub parameters : ℕ → List Ty → List ℕ
parameters k [] = []
parameters k (t ∷ ts) = parameter k t ++ parameters (k + 1) ts

-- types parted by commas, the first standing at place k
unfoldable pub listed : ℕ → List Ty → List ℕ
listed k [] = []
listed k (t ∷ ts) = (separator k ++ type_name t) ++ listed (k + 1) ts

-- no result, one type, or several in brackets
unfoldable pub results : List Ty → List ℕ
results ts =
    if length ts == 0 then []
    else if length ts == 1 then codes " " ++ listed 0 ts
    else codes " (" ++ (listed 0 ts ++ codes ")")

-- NAME func(PARAMETERS) RESULTS
unfoldable pub header : List ℕ → SigRecord → List ℕ
header name s = name ++ (codes " func(" ++ (parameters 0 s.args ++ (codes ")" ++ (results s.results ++ codes "\n"))))

-- A value.

-- the types of results, then that of memory
unfoldable pub members : List Ty → List ℕ
members [] = codes "mem"
members (t ∷ ts) = (type_name t ++ codes ",") ++ members ts

-- the function that a name's number names
abbrev pub function_of : PackageRecord → ℕ → Option FuncRecord
function_of p n = find (λ f. f.name == n) p.funcs

abbrev pub results_in : Option FuncRecord → List Ty
results_in None = []
results_in (Some f) = f.sig.results

-- the results that a list of types stands for: the callee's at a call, else those of the function that it stands in
unfoldable pub tuple_types : PackageRecord → SigRecord → Aux → List Ty
tuple_types p s aux.Nothing = s.results
tuple_types p s (aux.Sym n) = results_in (function_of p n)
tuple_types p s (aux.Ty t) = s.results
tuple_types p s (aux.Arg k) = s.results

-- the type of a value; a list of types is that of the results
unfoldable pub value_type : PackageRecord → SigRecord → Aux → Ty → List ℕ
value_type p s x Tuple = members (tuple_types p s x)
value_type p s x t = type_name t

-- a name or a type in braces
unfoldable pub aux_part : List (List ℕ) → Aux → List ℕ
aux_part names aux.Nothing = []
aux_part names (aux.Sym n) = codes " {" ++ (symbol names n ++ codes "}")
aux_part names (aux.Ty t) = codes " {" ++ (type_name t ++ codes "}")
aux_part names (aux.Arg k) = codes " {" ++ (argument_name k ++ codes "}")

-- a number in brackets, where the op has one
unfoldable pub int_part : AuxKind → ℤ → List ℕ
int_part kind_of_aux.None n = []
int_part kind_of_aux.Int n = codes " [" ++ (signed_decimal n ++ codes "]")
int_part kind_of_aux.Name n = []
int_part kind_of_aux.Ty n = []

-- vN = OP <TYPE>
unfoldable pub value_front : PackageRecord → SigRecord → ValueRecord → List ℕ
value_front p s v = codes "  v" ++ (decimal v.id ++ (codes " = " ++ (name_of v.op ++ (codes " <" ++ (value_type p s v.aux v.ty ++ codes ">")))))

-- {AUX} [INT] ARGUMENTS
unfoldable pub value_back : List (List ℕ) → ValueRecord → List ℕ
value_back names v = aux_part names v.aux ++ (int_part (info_of v.op).aux v.int ++ (numbers (codes " v") v.args ++ codes "\n"))

unfoldable pub value_line : PackageRecord → SigRecord → ValueRecord → List ℕ
value_line p s v = value_front p s v ++ value_back p.names v

unfoldable pub value_lines : PackageRecord → SigRecord → List ValueRecord → List ℕ
value_lines p s [] = []
value_lines p s (v ∷ vs) = value_line p s v ++ value_lines p s vs

-- A block.

-- an arrow and blocks, where there are any
unfoldable pub edges : List ℕ → List ℕ → List ℕ
edges arrow bs = if length bs == 0 then [] else arrow ++ numbers (codes " b") bs

-- bN: <- PREDECESSORS
unfoldable pub label : BlockRecord → List ℕ
label b = codes "b" ++ (decimal b.id ++ (codes ":" ++ (edges (codes " <-") b.preds ++ codes "\n")))

unfoldable pub kind_name : Kind → List ℕ
kind_name Plain = codes "  Plain"
kind_name If = codes "  If"
kind_name First = codes "  First"
kind_name Ret = codes "  Ret"
kind_name Exit = codes "  Exit"

unfoldable pub control_part : Option ℕ → List ℕ
control_part None = []
control_part (Some v) = codes " v" ++ decimal v

-- the successor that an If is expected to take
unfoldable pub mark : Likely → List ℕ
mark likely.No = []
mark likely.First = codes " (likely)"
mark likely.Second = codes " (unlikely)"

unfoldable pub mark_part : Kind → Likely → List ℕ
mark_part Plain l = []
mark_part If l = mark l
mark_part First l = []
mark_part Ret l = []
mark_part Exit l = []

-- KIND CONTROL -> SUCCESSORS (LIKELY)
unfoldable pub ending : BlockRecord → List ℕ
ending b = kind_name b.kind ++ (control_part b.control ++ (edges (codes " ->") b.succs ++ (mark_part b.kind b.likely ++ codes "\n")))

unfoldable pub block_text : PackageRecord → SigRecord → BlockRecord → List ℕ
block_text p s b = label b ++ (value_lines p s b.values ++ ending b)

unfoldable pub block_texts : PackageRecord → SigRecord → List BlockRecord → List ℕ
block_texts p s [] = []
block_texts p s (b ∷ bs) = block_text p s b ++ block_texts p s bs

-- Functions, variables and packages.

unfoldable pub function_text : PackageRecord → FuncRecord → List ℕ
function_text p f = header (symbol p.names f.name) f.sig ++ block_texts p f.sig f.blocks

-- a byte in two hexadecimal digits
unfoldable pub hex : ℕ → List ℕ
hex b = (if nat_lt b 16 then codes "0" else []) ++ digits 16 false b

-- the first k of a variable's bytes; those that are not given are 0
unfoldable pub hex_to : List ℕ → ℕ → List ℕ
hex_to bytes zero = []
hex_to bytes (suc k) = hex_to bytes k ++ hex (slice_index bytes k)

-- = BYTES, where there are any
unfoldable pub bytes_part : VarRecord → List ℕ
bytes_part v = if v.size == 0 then [] else codes " = " ++ hex_to v.bytes v.size

-- var NAME SIZE = BYTES
unfoldable pub variable_line : List (List ℕ) → VarRecord → List ℕ
variable_line names v = codes "var " ++ (symbol names v.name ++ (codes " " ++ (decimal v.size ++ (bytes_part v ++ codes "\n"))))

unfoldable pub variable_lines : List (List ℕ) → List VarRecord → List ℕ
variable_lines names [] = []
variable_lines names (v ∷ vs) = variable_line names v ++ variable_lines names vs

-- the place of the first variable whose name's number is above this one
abbrev pub first_behind : ℕ → List VarRecord → Option ℕ
first_behind n vs = position (λ v. nat_lt n v.name) vs

-- how many variables are declared before a function with this name's number
abbrev pub before : ℕ → List VarRecord → ℕ
before n vs = unwrap_or (first_behind n vs) (length vs)

-- functions and variables in the order of their names' numbers, in which they were declared
unfoldable pub declarations : PackageRecord → List FuncRecord → List VarRecord → List ℕ
declarations p [] vs = variable_lines p.names vs
declarations p (f ∷ fs) vs =
    variable_lines p.names (take (before f.name vs) vs) ++ (function_text p f ++ declarations p fs (drop (before f.name vs) vs))

unfoldable pub text_of : PackageRecord → List ℕ
text_of p = declarations p p.funcs p.vars
