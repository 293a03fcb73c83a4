-- The lines that declare a variable or a function.
use Rattle.std.specs.Prelude.{ℕ, Bool, nat_lt, nat_le, ◌==◌, ◌%◌, ◌/◌, ◌&&◌, if◌then◌else◌, List, [], ◌∷◌, length, take, drop, Option, Some, None, codes}
use Rattle.std.specs.List.{prefix_len}
use Rattle.std.specs.Char.{is_ascii_hexdigit}
use Rattle.std.specs.Option.{option_map, option_map_or}
use Rattle.std.specs.Str.{bytes_eq}
use Rattle.bk_ops.specs.declared.types.Ty.{Ty}
use Rattle.bk_dump.specs.Front.{◌>>=◌, or_else, unblanked, mark_at, is_done, at_end, onto, every}
use Rattle.bk_dump.specs.Words.{name_at, plain_at, decimal_at}
use Rattle.bk_dump.specs.Types.{place_type_at, next_type_at}
use Rattle.bk_dump.specs.Trees.{VarTree, ParameterTree, HeaderTree}

-- a hexadecimal digit
unfoldable pub is_hex_byte : ℕ → Bool
is_hex_byte c = is_ascii_hexdigit c

-- how many hexadecimal digits the text begins with
abbrev pub hex_len : List ℕ → ℕ
hex_len text = prefix_len is_hex_byte text

-- so many digits are pairs: at least one, and at most one for each byte
abbrev pub are_pairs : ℕ → ℕ → Bool
are_pairs digits size = nat_lt 0 digits && digits % 2 == 0 && nat_le (digits / 2) size

-- the digits to the end of the line
unfoldable pub digits_to_end : ℕ → List ℕ → Option (List ℕ)
digits_to_end size text = if are_pairs (hex_len text) size then at_end (drop (hex_len text) text) (take (hex_len text) text) else None

-- `= HEX`, or nothing
unfoldable pub hex_at : ℕ → List ℕ → Option (List ℕ)
hex_at size text = option_map_or (λ a. digits_to_end size (unblanked a)) (mark_at (codes "=") text) (at_end text [])

-- `var NAME`
unfoldable pub var_name_at : List ℕ → Option (List ℕ × List ℕ)
var_name_at line = do
  w ← name_at line
  if bytes_eq w.0 (codes "var") then name_at w.1 else None

-- `var NAME SIZE` or `var NAME SIZE = HEX`
unfoldable pub var_at : List ℕ → Option VarTree
var_at line = do
  n ← var_name_at line
  s ← decimal_at (unblanked n.1)
  h ← hex_at s.0 s.1
  Some (record { name = n.0; size = s.0; hex = h })

-- `NAME func(`
unfoldable pub func_name_at : List ℕ → Option (List ℕ × List ℕ)
func_name_at line = do
  n ← name_at line
  a ← mark_at (codes "func") n.1
  b ← mark_at (codes "(") a
  Some (n.0, b)

-- a name and a type
unfoldable pub parameter_at : List ℕ → Option (ParameterTree × List ℕ)
parameter_at text = do
  n ← plain_at text
  t ← place_type_at n.1
  Some (record { name = n.0; ty = t.0 }, t.1)

unfoldable pub next_parameter_at : List ℕ → Option (ParameterTree × List ℕ)
next_parameter_at text = mark_at (codes ",") text >>= parameter_at

-- one and more of what is read, up to a `)`; the others stand behind commas
abbrev pub to_bracket : {A : Type 0} → List A × List ℕ → Option (List A × List ℕ)
to_bracket read = option_map (λ r. (read.0, r)) (mark_at (codes ")") read.1)

unfoldable pub some_parameters_at : List ℕ → Option (List ParameterTree × List ℕ)
some_parameters_at text = parameter_at text >>= λ p. to_bracket (onto p.0 (every next_parameter_at p.1))

-- the parameters up to their `)`
unfoldable pub parameters_at : List ℕ → Option (List ParameterTree × List ℕ)
parameters_at text = or_else (option_map (λ r. ([], r)) (mark_at (codes ")") text)) (some_parameters_at text)

-- the types up to a `)`
unfoldable pub types_at : List ℕ → Option (List Ty × List ℕ)
types_at text = place_type_at text >>= λ t. to_bracket (onto t.0 (every next_type_at t.1))

-- two and more types up to a `)` that ends the line
unfoldable pub several_at : List ℕ → Option (List Ty)
several_at text = types_at text >>= λ ts. if nat_lt (length ts.0) 2 then None else at_end ts.1 ts.0

-- one type that ends the line
unfoldable pub single_at : List ℕ → Option (List Ty)
single_at text = place_type_at text >>= λ t. at_end t.1 (t.0 ∷ [])

-- the results: none, one type, or two and more in round brackets
unfoldable pub results_at : List ℕ → Option (List Ty)
results_at text = if is_done text then Some [] else option_map_or several_at (mark_at (codes "(") text) (single_at text)

-- `NAME func(p T, q T) R`
unfoldable pub header_at : List ℕ → Option HeaderTree
header_at line = do
  n ← func_name_at line
  ps ← parameters_at n.1
  rs ← results_at ps.1
  Some (record { name = n.0; parameters = ps.0; results = rs })
