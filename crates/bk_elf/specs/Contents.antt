-- What the sections of an object hold.
use Rattle.std.specs.Prelude.{ℕ, ◌+◌, ◌*◌, ◌==◌, List, [], ◌∷◌, ◌++◌, length, map, position, replicate, Option, Some, None, unwrap_or}
use Rattle.std.specs.List.{flat_map}
use Rattle.byteorder.specs.Endian.{little_bytes}
use Rattle.bk_ops.specs.declared.types.Target.{Target}
use Rattle.bk_ops.specs.declared.types.Ty.{Ty}
use Rattle.bk_ops.specs.Types.{code_of}
use Rattle.bk_func.specs.Records.{SigRecord}
use Rattle.bk_elf.specs.declared.layout.Sizes.{Sizes}
use Rattle.bk_elf.specs.Fields.{spelled}
use Rattle.bk_elf.specs.Tables.{class_of, ended, symbol_entry}
use Rattle.bk_elf.specs.Records.{SymbolRecord, ObjectRecord}

-- words of 4 bytes and constants of 8 bytes
abbrev pub word_bytes : List ℕ → List ℕ
word_bytes words = flat_map (little_bytes 4) words

abbrev pub constant_bytes : List ℕ → List ℕ
constant_bytes constants = flat_map (little_bytes 8) constants

-- the place of a code among the codes
abbrev pub place_of_code : List ℕ → Option ℕ → ℕ
place_of_code codes None = 0
place_of_code codes (Some code) = unwrap_or (position (λ c. c == code) codes) 0

abbrev pub place_of_type : List ℕ → Ty → ℕ
place_of_type codes ty = place_of_code codes (code_of ty)

-- the counts of arguments and results, then the place of each type's code
unfoldable pub sig_words : List ℕ → SigRecord → List ℕ
sig_words codes s =
    length s.args ∷ length s.results ∷ (map (place_of_type codes) s.args ++ map (place_of_type codes) s.results)

-- the count of codes, the codes, and each function's signature
unfoldable pub gosig_words : List ℕ → List SigRecord → List ℕ
gosig_words codes sigs = length codes ∷ (codes ++ flat_map (sig_words codes) sigs)

abbrev pub names_of : List SymbolRecord → List (List ℕ)
names_of symbols = map (λ s. s.name) symbols

-- an empty name and the others, each ended by a 0
unfoldable pub name_bytes : List (List ℕ) → List ℕ
name_bytes names = flat_map ended ([] ∷ names)

-- symbols, the first name beginning at this place
unfoldable pub entry_bytes : Target → ℕ → List SymbolRecord → List ℕ
entry_bytes t place [] = []
entry_bytes t place (s ∷ ss) =
    spelled (symbol_entry t place s.func s.address s.size) ++ entry_bytes t (place + length s.name + 1) ss

-- a symbol of zeros and the others
unfoldable pub symbol_bytes : Target → List SymbolRecord → List ℕ
symbol_bytes t symbols = replicate (class_of t).st_entsize 0 ++ entry_bytes t 1 symbols

-- the sizes of the sections that differ from object to object
unfoldable pub sizes_of : ObjectRecord → Sizes
sizes_of o = record {
  text = 4 * length o.text;
  pool = 8 * length o.pool;
  window = length o.window;
  gosig = 4 * length (gosig_words o.types o.sigs);
  symtab = (class_of o.target).st_entsize * (length o.symbols + 1);
  strtab = length (name_bytes (names_of o.symbols));
}
