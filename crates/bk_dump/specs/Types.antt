-- Types at the front of a text.
use Rattle.std.specs.Prelude.{ℕ, Bool, true, false, nat_lt, ◌==◌, ◌&&◌, ◌||◌, if◌then◌else◌, List, [], ◌∷◌, length, slice_index, Option, Some, None, codes}
use Rattle.std.specs.List.{find}
use Rattle.std.specs.Option.{option_map}
use Rattle.std.specs.Str.{bytes_eq}
use Rattle.bk_ops.specs.declared.types.Ty.{Ty}
use Rattle.bk_ops.specs.declared.types.Ty.TheVariants.{Bool as Truth, Int8, Uint8, Int16, Uint16, Int32, Uint32, Int64, Uint64, Int, Uint, Uintptr, Ptr, Mem, Void, Tuple}
use Rattle.bk_dump.specs.Front.{◌>>=◌, or_else, mark_at, every}
use Rattle.bk_dump.specs.Words.{plain_at}
use Rattle.bk_dump.specs.Print.{type_name}

-- the types of machine words
unfoldable pub word_types : List Ty
word_types = Truth ∷ Int8 ∷ Uint8 ∷ Int16 ∷ Uint16 ∷ Int32 ∷ Uint32 ∷ Int64 ∷ Uint64 ∷ Int ∷ Uint ∷ Uintptr ∷ Ptr ∷ []

-- how a pointer may be written besides `ptr`: `unsafe.Pointer`, or `*` and a name
unfoldable pub is_pointer : List ℕ → Bool
is_pointer name = bytes_eq name (codes "unsafe.Pointer") || (nat_lt 1 (length name) && slice_index name 0 == 42)

-- the type of a machine word with this name
unfoldable pub word_type : List ℕ → Option Ty
word_type name = if is_pointer name then Some Ptr else find (λ t. bytes_eq (type_name t) name) word_types

-- a type with this name
unfoldable pub named_type : List ℕ → Option Ty
named_type name =
    if bytes_eq name (codes "mem") then Some Mem
    else if bytes_eq name (codes "void") then Some Void
    else word_type name

-- the type that a name stands for, and the text behind the name
abbrev pub with_type : (List ℕ → Option Ty) → List ℕ × List ℕ → Option (Ty × List ℕ)
with_type of n = option_map (λ t. (t, n.1)) (of n.0)

-- the type of an argument or a result
unfoldable pub place_type_at : List ℕ → Option (Ty × List ℕ)
place_type_at text = plain_at text >>= with_type word_type

-- a type of one name
unfoldable pub one_type_at : List ℕ → Option (Ty × List ℕ)
one_type_at text = plain_at text >>= with_type named_type

-- a type behind a comma
unfoldable pub next_type_at : List ℕ → Option (Ty × List ℕ)
next_type_at text = mark_at (codes ",") text >>= place_type_at

-- the text behind `mem` and `>`, where they stand behind a comma
unfoldable pub memory_at : List ℕ → Option (List ℕ)
memory_at text = do
  a ← mark_at (codes ",") text
  n ← plain_at a
  if bytes_eq n.0 (codes "mem") then mark_at (codes ">") n.1 else None

abbrev pub is_word_type : Ty → Bool
is_word_type Mem = false
is_word_type Void = false
is_word_type Tuple = false
is_word_type _ = true

-- a list of types whose first was read: types of words, then `mem`
unfoldable pub list_at : Ty → List ℕ → Option (Ty × List ℕ)
list_at first text = if is_word_type first then option_map (λ r. (Tuple, r)) (memory_at (every next_type_at text).1) else None

-- `<T>`, or a list `<T, T, mem>`
unfoldable pub value_type_at : List ℕ → Option (Ty × List ℕ)
value_type_at text = do
  a ← mark_at (codes "<") text
  t ← one_type_at a
  or_else (option_map (λ r. (t.0, r)) (mark_at (codes ">") t.1)) (list_at t.0 t.1)
