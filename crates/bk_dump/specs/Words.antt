-- Names, words, numbers and groups at the front of a text.
use Rattle.std.specs.Prelude.{ℕ, Bool, not, nat_lt, ◌==◌, ◌^◌, min, ◌&&◌, ◌||◌, if◌then◌else◌, List, [], ◌∷◌, slice_index, Option, Some, None, codes}
use Rattle.std.specs.List.{prefix_len}
use Rattle.std.specs.Char.{is_ascii_alphanumeric, is_ascii_digit}
use Rattle.std.specs.Option.{option_map, option_map_or}
use Rattle.std.specs.Str.{is_utf8}
use Rattle.std.specs.Str.Parse.{digits_value}
use Rattle.bk_dump.specs.Front.{◌>>=◌, or_else, unblanked, gap_at, after, mark_at, run_at, front_at, up_to, onto, every}

-- a byte of names: one above 32 but DEL and { } < > , = "
unfoldable pub is_name_byte : ℕ → Bool
is_name_byte c = nat_lt 32 c && not (c == 127 || c == 123 || c == 125 || c == 60 || c == 62 || c == 44 || c == 61 || c == 34)

-- a byte of names in types and lists of parameters: no round bracket
unfoldable pub is_plain_byte : ℕ → Bool
is_plain_byte c = is_name_byte c && not (c == 40 || c == 41)

-- the bytes, where they are UTF-8
abbrev pub as_utf8 : List ℕ → Option (List ℕ)
as_utf8 bytes = if is_utf8 bytes then Some bytes else None

-- the first bytes, which are UTF-8
unfoldable pub utf8_at : ℕ → List ℕ → Option (List ℕ × List ℕ)
utf8_at len text = do
  n ← front_at len text
  t ← as_utf8 n.0
  Some (t, n.1)

-- a name, the longest that stands here, and one without round brackets
unfoldable pub name_at : List ℕ → Option (List ℕ × List ℕ)
name_at text = utf8_at (prefix_len is_name_byte (unblanked text)) (unblanked text)

unfoldable pub plain_at : List ℕ → Option (List ℕ × List ℕ)
plain_at text = utf8_at (prefix_len is_plain_byte (unblanked text)) (unblanked text)

-- a letter or a digit
unfoldable pub is_word_byte : ℕ → Bool
is_word_byte c = is_ascii_alphanumeric c

-- the letters and digits that stand here
unfoldable pub word_at : List ℕ → List ℕ × List ℕ
word_at text = run_at is_word_byte (unblanked text)

-- what a group in round brackets holds, which runs to the next `)`
unfoldable pub group_at : List ℕ → Option (List ℕ × List ℕ)
group_at text = mark_at (codes "(") text >>= up_to 41

-- `->` or `→`
unfoldable pub arrow_at : List ℕ → Option (List ℕ)
arrow_at text = or_else (mark_at (codes "->") text) (mark_at (226 ∷ 134 ∷ 146 ∷ []) text)

-- `<-` or `←`
unfoldable pub back_arrow_at : List ℕ → Option (List ℕ)
back_arrow_at text = or_else (mark_at (codes "<-") text) (mark_at (226 ∷ 134 ∷ 144 ∷ []) text)

-- how many digits the text begins with
abbrev pub digits_len : List ℕ → ℕ
digits_len text = prefix_len is_ascii_digit text

-- the digits of a number, which has no leading zero unless it is 0
unfoldable pub digits_at : List ℕ → Option (List ℕ × List ℕ)
digits_at text = if digits_len text == 0 || (slice_index text 0 == 48 && nat_lt 1 (digits_len text)) then None else Some (run_at is_ascii_digit text)

-- a decimal number; from 2^64 on, where none may stand, it counts as 2^64
unfoldable pub decimal_at : List ℕ → Option (ℕ × List ℕ)
decimal_at text = option_map (λ d. (min (digits_value 10 d.0) (2 ^ 64), d.1)) (digits_at text)

-- the number of a value or a block behind its letter; past 2^32 - 1, where none may be, it counts as 2^32 - 1
unfoldable pub number_at : List ℕ → List ℕ → Option (ℕ × List ℕ)
number_at letter text = do
  a ← after letter text
  n ← decimal_at a
  Some (min n.0 4294967295, n.1)

-- a number behind blanks
unfoldable pub next_number_at : List ℕ → List ℕ → Option (ℕ × List ℕ)
next_number_at letter text = gap_at text >>= number_at letter

-- numbers with blanks between them, as many as stand here
unfoldable pub numbers_at : List ℕ → List ℕ → List ℕ × List ℕ
numbers_at letter text = option_map_or (λ n. onto n.0 (every (next_number_at letter) n.1)) (number_at letter (unblanked text)) ([], text)
