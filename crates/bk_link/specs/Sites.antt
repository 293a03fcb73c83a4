-- Where the code of functions and the bytes of variables lie.
use Rattle.std.specs.Prelude.{ℕ, ◌+◌, ◌*◌, ◌==◌, true, false, Bool, nat_lt, ◌||◌, List, [], ◌∷◌, ◌++◌, length, take, drop, map, filter, slice_index_or}
use Rattle.std.specs.List.{prefix_len, list_any}
use Rattle.bk_func.specs.Records.{FuncRecord, VarRecord}
use Rattle.bk_piece.specs.Pieces.{PieceOf}
use Rattle.bk_elf.specs.Layout.{aligned}
use Rattle.bk_elf.specs.Records.{SymbolRecord}
use Rattle.bk_link.specs.declared.sites.Site.{Site}

-- where text begins
abbrev pub text_base : ℕ
text_base = 65536

-- the code of each function, the first at an address
abbrev pub func_sites : {H : Type 0} → ℕ → List FuncRecord → List (PieceOf H) → List Site
func_sites address fs [] = []
func_sites address [] (p ∷ ps) = []
func_sites address (f ∷ fs) (p ∷ ps) =
    record { name = f.name; func = true; address = address; size = 4 * length p.code } ∷ func_sites (address + 4 * length p.code) fs ps

-- the bytes of each variable, the first at an address, each at a multiple of 8 behind the one before
abbrev pub var_sites : ℕ → List VarRecord → List Site
var_sites address [] = []
var_sites address (v ∷ vs) =
    record { name = v.name; func = false; address = address; size = v.size } ∷ var_sites (address + aligned v.size) vs

-- how many sites from the front on have a name before this one
abbrev pub count_before : ℕ → List Site → ℕ
count_before name sites = prefix_len (λ s. nat_lt s.name name) sites

-- functions and variables together, in order of their names' numbers
unfoldable pub by_name : List Site → List Site → List Site
by_name fs [] = fs
by_name fs (v ∷ vs) = take (count_before v.name fs) fs ++ (v ∷ by_name (drop (count_before v.name fs) fs) vs)

-- a name's key is among the keys of symbols
abbrev pub is_among : List ℕ → ℕ → Bool
is_among keys name = list_any (λ k. k == name + 1) keys

-- the symbol of a site
abbrev pub symbol_of : List (List ℕ) → Site → SymbolRecord
symbol_of names s = record { name = slice_index_or names s.name []; func = s.func; address = s.address; size = s.size }

-- functions and the variables that have a key, and their symbols
abbrev pub with_symbol : List ℕ → List Site → List Site
with_symbol keys sites = filter (λ s. s.func || is_among keys s.name) sites

abbrev pub symbols_of : List (List ℕ) → List ℕ → List Site → List SymbolRecord
symbols_of names keys sites = map (symbol_of names) (with_symbol keys sites)
