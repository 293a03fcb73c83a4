-- The functions of an object by name.
use Rattle.std.specs.Prelude.{ℕ, Bool, ◌&&◌, if◌then◌else◌, List, [], ◌∷◌, drop, Option, Some, None}
use Rattle.std.specs.List.{list_any}
use Rattle.std.specs.Str.{bytes_eq}
use Rattle.bk_func.specs.Records.{SigRecord}
use Rattle.bk_elf.specs.Records.{SymbolRecord, ObjectRecord}

-- some function has the name
abbrev pub has_function : ObjectRecord → List ℕ → Bool
has_function o name = list_any (λ s. s.func && bytes_eq s.name name) o.symbols

-- an address with the first signature
abbrev pub with_first : ℕ → List SigRecord → Option (ℕ × SigRecord)
with_first address [] = None
with_first address (g ∷ gs) = Some (address, g)

-- the address and the signature of the first function of the name; each function takes one signature
abbrev pub function_in : List SymbolRecord → List SigRecord → List ℕ → Option (ℕ × SigRecord)
function_in [] sigs name = None
function_in (s ∷ ss) sigs name =
    if s.func
    then (if bytes_eq s.name name then with_first s.address sigs else function_in ss (drop 1 sigs) name)
    else function_in ss sigs name

abbrev pub function_of : ObjectRecord → List ℕ → Option (ℕ × SigRecord)
function_of o name = function_in o.symbols o.sigs name
