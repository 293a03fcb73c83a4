-- Fields: numbers in so many bytes, the low byte first, one after the other.
use Rattle.std.specs.Prelude.{ℕ, ◌+◌, ◌==◌, if◌then◌else◌, List, [], ◌∷◌, ◌++◌, drop, Option, Some, None}
use Rattle.byteorder.specs.Endian.{little_bytes, little_number}
use Rattle.bk_elf.specs.declared.fields.Width.{Width}
use Rattle.bk_elf.specs.declared.fields.Width.TheVariants.{Byte, Half, Word, Xword}
use Rattle.bk_elf.specs.declared.fields.Field.{Field}

abbrev pub bytes_of : Width → ℕ
bytes_of Byte = 1
bytes_of Half = 2
bytes_of Word = 4
bytes_of Xword = 8

abbrev pub field : Width → ℕ → Field
field width number = record { width = width; number = number }

-- the number in `size` bytes from the place on; a byte past the end counts as 0
unfoldable pub number_at : List ℕ → ℕ → ℕ → ℕ
number_at bytes place size = little_number size (drop place bytes)

-- how many bytes the fields take
abbrev pub extent : List Field → ℕ
extent [] = 0
extent (f ∷ fs) = bytes_of f.width + extent fs

-- the bytes of the fields
unfoldable pub spelled : List Field → List ℕ
spelled [] = []
spelled (f ∷ fs) = little_bytes (bytes_of f.width) f.number ++ spelled fs

-- where the first field stands that does not read as its number, the first of all beginning at the place
unfoldable pub first_fault : List ℕ → ℕ → List Field → Option ℕ
first_fault bytes place [] = None
first_fault bytes place (f ∷ fs) =
    if number_at bytes place (bytes_of f.width) == f.number then first_fault bytes (place + bytes_of f.width) fs else Some place
