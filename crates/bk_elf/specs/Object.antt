-- What the fields of an object are.
use Rattle.std.specs.Prelude.{◌≡◌, ℕ, ◌+◌, ◌*◌, ◌%◌, ◌^◌, ◌<◌, ◌≤◌, Bool, true, nat_le, ◌&&◌, List, [], ◌∷◌, length, map, count_by, IsTrue}
use Rattle.std.specs.List.{All, list_all, IsDistinct, Contains}
use Rattle.std.specs.Option.{IsSomeAnd}
use Rattle.std.specs.Str.{IsUtf8, bytes_eq}
use Rattle.bk_ops.specs.declared.types.Target.{Target}
use Rattle.bk_ops.specs.declared.types.Ty.{Ty}
use Rattle.bk_ops.specs.Types.{code_of}
use Rattle.bk_func.specs.Records.{SigRecord}
use Rattle.bk_elf.specs.Fields.{bytes_of}
use Rattle.bk_elf.specs.Tables.{class_of}
use Rattle.bk_elf.specs.Layout.{e_shoff}
use Rattle.bk_elf.specs.Lists.{rises_from, is_rising}
use Rattle.bk_elf.specs.Records.{SymbolRecord, ObjectRecord}
use Rattle.bk_elf.specs.Contents.{names_of, sizes_of}

-- the codes of the thirteen types of machine words, rising
abbrev pub are_codes : List ℕ → Bool
are_codes codes = rises_from 0 codes && list_all (λ c. nat_le c 13) codes

-- a type with one of the codes
abbrev pub IsCoded : List ℕ → Ty → Type 0
IsCoded codes ty = IsSomeAnd (code_of ty) (Contains codes)

-- a signature of types with these codes
pub record IsSig (codes : List ℕ) (s : SigRecord) : Type 0 where
  pub few : length s.args + length s.results ≤ 64
  pub args : All (IsCoded codes) s.args
  pub results : All (IsCoded codes) s.results

-- a function begins at a word of the text
pub record IsCode (words address : ℕ) : Type 0 where
  pub whole : address % 4 ≡ 0
  pub low : 65536 ≤ address
  pub high : address < 65536 + 4 * words

-- where the names begin, the first of them at the place
abbrev pub name_places : ℕ → List (List ℕ) → List ℕ
name_places place [] = []
name_places place (n ∷ ns) = place ∷ name_places (place + length n + 1) ns

-- the fields are those of an object: at most 16 MiB of code and constants and 1 MiB of data, a signature for each
-- function, and a file whose offsets can be written
pub record IsObject (o : ObjectRecord) : Type 0 where
  pub code : 4 * length o.text + 8 * length o.pool ≤ 16777216
  pub pool : IsTrue (is_rising o.pool)
  pub window : length o.window ≤ 1048576
  pub whole : length o.window % 8 ≡ 0
  pub types : IsTrue (are_codes o.types)
  pub sigs : All (IsSig o.types) o.sigs
  pub counted : length o.sigs ≡ count_by (λ s. s.func) o.symbols
  pub placed : All (λ s. s.func ≡ true → IsCode (length o.text) s.address) o.symbols
  pub named : All (λ n. Contains n 0 → ⊥) (names_of o.symbols)
  pub distinct : IsDistinct bytes_eq (names_of o.symbols)
  pub offsets : e_shoff o.target (sizes_of o) < 256 ^ bytes_of (class_of o.target).address
  pub places : All (λ n. n < 2 ^ 32) (name_places 1 (names_of o.symbols))

-- a number fits a field of an address
abbrev pub FitsAddress : Target → ℕ → Type 0
FitsAddress t n = n < 256 ^ bytes_of (class_of t).address

-- the numbers and the names are such as their types hold
pub record IsTyped (o : ObjectRecord) : Type 0 where
  pub text : All (λ n. n < 2 ^ 32) o.text
  pub pool : All (λ n. n < 2 ^ 64) o.pool
  pub window : All (λ n. n < 2 ^ 8) o.window
  pub symbols : All (λ s. (s.address < 2 ^ 32) × (s.size < 2 ^ 32)) o.symbols
  pub names : All IsUtf8 (names_of o.symbols)

-- the same, but addresses and sizes of symbols are such as their fields hold
pub record IsWide (o : ObjectRecord) : Type 0 where
  pub text : All (λ n. n < 2 ^ 32) o.text
  pub pool : All (λ n. n < 2 ^ 64) o.pool
  pub window : All (λ n. n < 2 ^ 8) o.window
  pub symbols : All (λ s. FitsAddress o.target s.address × FitsAddress o.target s.size) o.symbols
  pub names : All IsUtf8 (names_of o.symbols)

-- the addresses and sizes of symbols modulo 2 ^ 32
abbrev pub narrow : SymbolRecord → SymbolRecord
narrow s = record { name = s.name; func = s.func; address = s.address % 2 ^ 32; size = s.size % 2 ^ 32 }

abbrev pub narrowed : ObjectRecord → ObjectRecord
narrowed o = record {
  target = o.target;
  text = o.text;
  pool = o.pool;
  window = o.window;
  types = o.types;
  sigs = o.sigs;
  symbols = map narrow o.symbols;
}
