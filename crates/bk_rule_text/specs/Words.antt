-- Words, names and variables at the front of a text.
use Rattle.std.specs.Prelude.{ℕ, Bool, false, ◌==◌, ◌||◌, if◌then◌else◌, List, [], ◌∷◌, take, drop, Option, Some, None, codes}
use Rattle.std.specs.List.{prefix_len, find}
use Rattle.std.specs.Char.{is_ascii_alphanumeric, is_ascii_alphabetic}
use Rattle.std.specs.Option.{is_some}
use Rattle.std.specs.Str.{bytes_eq}
use Rattle.bk_ops.specs.declared.types.Ty.{Ty}
use Rattle.bk_ops.specs.declared.types.Ty.TheVariants as ty
use Rattle.bk_rule_text.specs.Front.{◌>>=◌, unblanked}
use Rattle.bk_rule_text.specs.Layout.{type_name}

-- a letter, a digit or `_`
unfoldable pub is_word_byte : ℕ → Bool
is_word_byte c = is_ascii_alphanumeric c || c == 95

-- the bytes of words that stand here, as many as there are
unfoldable pub run_at : List ℕ → List ℕ × List ℕ
run_at text = (take (prefix_len is_word_byte text) text, drop (prefix_len is_word_byte text) text)

-- the same behind blanks
unfoldable pub word_at : List ℕ → List ℕ × List ℕ
word_at text = run_at (unblanked text)

-- a byte of words stands here
unfoldable pub begins_word : List ℕ → Bool
begins_word [] = false
begins_word (c ∷ text) = is_word_byte c

-- a name begins with a letter
unfoldable pub begins_name : List ℕ → Bool
begins_name [] = false
begins_name (c ∷ word) = is_ascii_alphabetic c

-- the name of an op, a function, a type or a variable
unfoldable pub name_at : List ℕ → Option (List ℕ × List ℕ)
name_at text = if begins_name (word_at text).0 then Some (word_at text) else None

-- the types that a rule can name
unfoldable pub types : List Ty
types = ty.Bool ∷ ty.Int8 ∷ ty.Uint8 ∷ ty.Int16 ∷ ty.Uint16 ∷ ty.Int32 ∷ ty.Uint32 ∷ ty.Int64 ∷ ty.Uint64 ∷ ty.Int ∷ ty.Uint ∷ ty.Uintptr ∷ ty.Ptr ∷ ty.Mem ∷ ty.Void ∷ []

-- the type of this name
unfoldable pub type_of_name : List ℕ → Option Ty
type_of_name name = find (λ t. bytes_eq (type_name t) name) types

-- a variable: its name is no type's
unfoldable pub variable_at : List ℕ → Option (List ℕ × List ℕ)
variable_at text = name_at text >>= λ n. if is_some (type_of_name n.0) then None else Some n

-- the text behind the word `_`
unfoldable pub any_at : List ℕ → Option (List ℕ)
any_at text = if bytes_eq (word_at text).0 (codes "_") then Some (word_at text).1 else None
