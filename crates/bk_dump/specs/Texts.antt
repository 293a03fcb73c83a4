-- What a text reads as.
use Rattle.std.specs.Prelude.{ℕ, ◌+◌, ◌-◌, Bool, nat_lt, ◌==◌, ◌&&◌, ◌||◌, if◌then◌else◌, List, [], ◌∷◌, length, take, slice_index, Result, Ok, Err, codes}
use Rattle.std.specs.List.{slice_split}
use Rattle.std.specs.Option.{is_some}
use Rattle.bk_func.specs.Records.{PackageRecord}
use Rattle.bk_dump.specs.declared.read.errors.Fault.{Fault}
use Rattle.bk_dump.specs.Front.{is_done, mark_at}
use Rattle.bk_dump.specs.Drafts.{State, read_line, finished, at_start}
use Rattle.bk_dump.specs.Resolved.{package_of}

-- the line without the CR that it may end in
unfoldable pub without_cr : List ℕ → List ℕ
without_cr line = if nat_lt 0 (length line) && slice_index line (length line - 1) == 13 then take (length line - 1) line else line

-- the lines of the parts between the LFs of a text: the last one is a line only where it is not empty, and it keeps its CR
unfoldable pub lines_of : List (List ℕ) → List (List ℕ)
lines_of [] = []
lines_of (last ∷ []) = if length last == 0 then [] else last ∷ []
lines_of (line ∷ next ∷ more) = without_cr line ∷ lines_of (next ∷ more)

unfoldable pub lines : List ℕ → List (List ℕ)
lines text = lines_of (slice_split (λ c. c == 10) text)

-- a line that is skipped: blank, or begun by `#` or `//` behind its blanks
abbrev pub is_skipped : List ℕ → Bool
is_skipped line = is_done line || is_some (mark_at (codes "#") line) || is_some (mark_at (codes "//") line)

-- why a text is refused before its form is looked at: the fault of a line, or a reference that names nothing
pub data Refusal : Type 0 where
  at_line : (fault : Fault) (line : ℕ) → Refusal
  undefined : (name : List ℕ) → Refusal

abbrev pub at : {A : Type 0} → ℕ → Result A Fault → Result A Refusal
at line (Ok x) = Ok x
at line (Err fault) = Err (at_line fault line)

infixl 10 ◌>>=◌
abbrev pub ◌>>=◌ : {A B : Type 0} → Result A Refusal → (A → Result B Refusal) → Result B Refusal
(Ok x) >>= f = f x
(Err e) >>= f = Err e

-- the next line, which has this number
unfoldable pub read_next : ℕ → State → List ℕ → Result State Refusal
read_next number s line = if is_skipped line then Ok s else at number (read_line s line)

-- what the lines from this number on declare; a text that ends inside a function is at fault behind its last line
unfoldable pub read_lines : ℕ → State → List (List ℕ) → Result State Refusal
read_lines number s [] = at number (finished s)
read_lines number s (line ∷ more) = read_next number s line >>= λ t. read_lines (number + 1) t more

abbrev pub references : Result PackageRecord (List ℕ) → Result PackageRecord Refusal
references (Ok p) = Ok p
references (Err name) = Err (undefined name)

-- the package that a text reads as, whatever its form
unfoldable pub reading : List ℕ → Result PackageRecord Refusal
reading text = read_lines 1 at_start (lines text) >>= λ s. references (package_of s.names s.funcs s.vars)
