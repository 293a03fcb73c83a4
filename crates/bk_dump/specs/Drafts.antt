-- What the lines of a text declare, one line further at a time, and the fault of a line.
use Rattle.std.specs.Prelude.{ℕ, Bool, true, not, nat_lt, nat_le, ◌==◌, ◌+◌, ◌-◌, ◌*◌, ◌/◌, ◌&&◌, ◌||◌, if◌then◌else◌, List, [], ◌∷◌, ◌++◌, length, map, take, replicate, Option, Some, None, Result, Ok, Err, codes}
use Rattle.std.specs.Char.{digit_value}
use Rattle.std.specs.List.{list_any, list_all}
use Rattle.std.specs.Option.{option_map_or}
use Rattle.std.specs.Str.{bytes_eq}
use Rattle.bk_func.specs.Records.{VarRecord}
use Rattle.bk_func.specs.Limits.{most_functions, most_variables, most_values, most_blocks, most_in_signature, most_window}
use Rattle.bk_dump.specs.declared.read.errors.Which.TheVariants as which
use Rattle.bk_dump.specs.declared.read.errors.Fault.{Fault}
use Rattle.bk_dump.specs.declared.read.errors.Fault.TheVariants.{Syntax, Limit, Duplicate}
use Rattle.bk_dump.specs.declared.read.draft.Stage.{Stage}
use Rattle.bk_dump.specs.declared.read.draft.Stage.TheVariants.{Between, Function, Block}
use Rattle.bk_dump.specs.Trees.{ValueTree, LabelTree, EndTree, VarTree, HeaderTree, OpenTree, FuncTree}
use Rattle.bk_dump.specs.Values.{value_at}
use Rattle.bk_dump.specs.Blocks.{block_at, end_at}
use Rattle.bk_dump.specs.Headers.{var_at, header_at}

-- what is declared so far: names in text order, finished functions, variables, the end of the data window,
-- and the function and the block that are open
pub record State : Type 0 where
  pub names : List (List ℕ)
  pub funcs : List FuncTree
  pub vars : List VarRecord
  pub window : ℕ
  pub stage : Stage

-- the next line is read at this stage
abbrev pub entered : State → Stage → State
entered s stage = record s { stage = stage }

-- values and blocks have numbers from 1 to 2^31 - 1
abbrev pub is_number : ℕ → Bool
is_number n = nat_le 1 n && nat_le n 2147483647

abbrev pub are_numbers : List ℕ → Bool
are_numbers ns = list_all is_number ns

-- the number is one of those declared
abbrev pub declares : List ℕ → ℕ → Bool
declares ids n = list_any (λ id. n == id) ids

-- a line of a value in a block

unfoldable pub value_fault : FuncTree → ValueTree → Option Fault
value_fault f v =
    if nat_le most_values (length f.value_ids) then Some (Limit which.Values)
    else if not (is_number v.id && are_numbers v.args) then Some (Limit which.Numbers)
    else if declares f.value_ids v.id then Some Duplicate
    else None

abbrev pub with_value : FuncTree → ValueTree → FuncTree
with_value f v = record f { value_ids = f.value_ids ++ v.id ∷ [] }

-- a line that opens a block

unfoldable pub block_fault : FuncTree → LabelTree → Option Fault
block_fault f b =
    if nat_le most_blocks (length f.block_ids) then Some (Limit which.Blocks)
    else if not (is_number b.id && are_numbers b.preds) then Some (Limit which.Numbers)
    else if declares f.block_ids b.id then Some Duplicate
    else None

abbrev pub with_block : FuncTree → LabelTree → FuncTree
with_block f b = record f { block_ids = f.block_ids ++ b.id ∷ [] }

-- a line that ends a block

abbrev pub control_is_number : Option ℕ → Bool
control_is_number None = true
control_is_number (Some n) = is_number n

unfoldable pub end_fault : EndTree → Option Fault
end_fault e = if control_is_number e.control && are_numbers e.succs then None else Some (Limit which.Numbers)

-- a line that declares a variable

abbrev pub divide_name : List ℕ
divide_name = codes "runtime.panicdivide"

abbrev pub shift_name : List ℕ
shift_name = codes "runtime.panicshift"

-- the name is one of those declared
abbrev pub is_declared : List (List ℕ) → List ℕ → Bool
is_declared names name = list_any (λ n. bytes_eq name n) names

-- the names of the callees that panic
unfoldable pub is_reserved : List ℕ → Bool
is_reserved name = bytes_eq name divide_name || bytes_eq name shift_name

-- the name may not be declared any more
unfoldable pub is_taken : List (List ℕ) → List ℕ → Bool
is_taken names name = is_reserved name || is_declared names name

unfoldable pub var_fault : State → VarTree → Option Fault
var_fault s v =
    if nat_le most_variables (length s.vars) then Some (Limit which.Variables)
    else if nat_lt most_window (s.window + v.size) then Some (Limit which.Window)
    else if is_taken s.names v.name then Some Duplicate
    else None

-- the value of a hexadecimal digit
abbrev pub hex_value : ℕ → ℕ
hex_value c = if nat_lt (digit_value c) 16 then digit_value c else 0

-- the bytes that pairs of hexadecimal digits give
unfoldable pub pairs : List ℕ → List ℕ
pairs [] = []
pairs (high ∷ []) = []
pairs (high ∷ low ∷ more) = (hex_value high * 16 + hex_value low) ∷ pairs more

-- so many bytes: the first of the list, and 0 where it has fewer
abbrev pub padded : ℕ → List ℕ → List ℕ
padded size bytes = take size bytes ++ replicate (size - length bytes) 0

-- each variable begins at a multiple of 8
abbrev pub next_window : ℕ → ℕ → ℕ
next_window window size = (window + size + 7) / 8 * 8

abbrev pub with_var : State → VarTree → State
with_var s v = record s {
  names = s.names ++ v.name ∷ [];
  vars = s.vars ++ record { name = length s.names; size = v.size; bytes = padded v.size (pairs v.hex) } ∷ [];
  window = next_window s.window v.size;
}

-- a line that declares a function

-- no name is one of those before it
abbrev pub are_fresh : List (List ℕ) → List (List ℕ) → Bool
are_fresh seen [] = true
are_fresh seen (n ∷ ns) = not (is_declared seen n) && are_fresh (seen ++ n ∷ []) ns

abbrev pub parameter_names : HeaderTree → List (List ℕ)
parameter_names h = map (λ p. p.name) h.parameters

unfoldable pub header_fault : State → HeaderTree → Option Fault
header_fault s h =
    if nat_le most_functions (length s.funcs) then Some (Limit which.Functions)
    else if nat_lt most_in_signature (length h.parameters + length h.results) then Some (Limit which.Signature)
    else if is_taken s.names h.name then Some Duplicate
    else None

-- the function before its first block, where no parameter's name comes again
unfoldable pub opened : ℕ → HeaderTree → Option FuncTree
opened number h =
    if are_fresh [] (parameter_names h) then Some (record {
      name = number;
      parameters = parameter_names h;
      sig = record { args = map (λ p. p.ty) h.parameters; results = h.results };
      blocks = [];
      value_ids = [];
      block_ids = [];
    }) else None

abbrev pub with_func : State → HeaderTree → Option FuncTree → Result State Fault
with_func s h None = Err Duplicate
with_func s h (Some f) = Ok (record s { names = s.names ++ h.name ∷ []; stage = Function f })

-- the next line

abbrev pub unless : {A : Type 0} → Option Fault → A → Result A Fault
unless None x = Ok x
unless (Some fault) x = Err fault

abbrev pub unless_then : {A : Type 0} → Option Fault → Result A Fault → Result A Fault
unless_then None read = read
unless_then (Some fault) read = Err fault

abbrev pub with_next : OpenTree → ValueTree → OpenTree
with_next b v = record b { values = b.values ++ v ∷ [] }

abbrev pub add_value : State → FuncTree → OpenTree → ValueTree → Result State Fault
add_value s f b v = unless (value_fault f v) (entered s (Block (with_value f v) (with_next b v)))

abbrev pub with_end : FuncTree → OpenTree → EndTree → FuncTree
with_end f b e = record f { blocks = f.blocks ++ record { label = b.label; values = b.values; end = e } ∷ [] }

abbrev pub end_block : State → FuncTree → OpenTree → EndTree → Result State Fault
end_block s f b e = unless (end_fault e) (entered s (Function (with_end f b e)))

-- in a block stands a value, or its end
unfoldable pub read_inside : State → FuncTree → OpenTree → List ℕ → Result State Fault
read_inside s f b line = option_map_or (add_value s f b) (value_at line) (option_map_or (end_block s f b) (end_at line) (Err Syntax))

abbrev pub declare_var : State → VarTree → Result State Fault
declare_var s v = unless (var_fault s v) (with_var s v)

abbrev pub declare_func : State → HeaderTree → Result State Fault
declare_func s h = unless_then (header_fault s h) (with_func s h (opened (length s.names) h))

-- where no function is open stands a variable, or a function's first line
unfoldable pub declare : State → List ℕ → Result State Fault
declare s line = option_map_or (declare_var s) (var_at line) (option_map_or (declare_func s) (header_at line) (Err Syntax))

-- the function is finished
abbrev pub closed : State → FuncTree → State
closed s f = record s { funcs = s.funcs ++ f ∷ []; stage = Between }

-- a function has a block
abbrev pub has_block : FuncTree → Bool
has_block f = nat_lt 0 (length f.blocks)

abbrev pub open_block : State → FuncTree → LabelTree → Result State Fault
open_block s f l = unless (block_fault f l) (entered s (Block (with_block f l) (record { label = l; values = [] })))

-- behind a function's first line stands a block, and behind a block another one or the next declaration
unfoldable pub read_behind : State → FuncTree → List ℕ → Result State Fault
read_behind s f line = option_map_or (open_block s f) (block_at line) (if has_block f then declare (closed s f) line else Err Syntax)

abbrev pub at_stage : State → Stage → List ℕ → Result State Fault
at_stage s Between line = declare s line
at_stage s (Function f) line = read_behind s f line
at_stage s (Block f b) line = read_inside s f b line

-- a byte that no line may hold: one below 32 that is no tab
abbrev pub has_control : List ℕ → Bool
has_control line = list_any (λ c. nat_lt c 32 && not (c == 9)) line

unfoldable pub read_line : State → List ℕ → Result State Fault
read_line s line = if has_control line then Err Syntax else at_stage s s.stage line

-- a function is whole where it has a block
abbrev pub finished_function : State → FuncTree → Result State Fault
finished_function s f = if has_block f then Ok (closed s f) else Err Syntax

-- no function is open, or the open one is whole
abbrev pub finished_at : State → Stage → Result State Fault
finished_at s Between = Ok s
finished_at s (Function f) = finished_function s f
finished_at s (Block f b) = Err Syntax

unfoldable pub finished : State → Result State Fault
finished s = finished_at s s.stage

abbrev pub at_start : State
at_start = record { names = []; funcs = []; vars = []; window = 0; stage = Between }
