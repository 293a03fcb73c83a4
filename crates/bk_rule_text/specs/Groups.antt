-- Groups, as in `(64|32)`, and the rules that a line with groups stands for.
use Rattle.std.specs.Prelude.{ℕ, zero, suc, Bool, true, ◌==◌, if◌then◌else◌, List, [], ◌∷◌, ◌++◌, length, take, drop, Option, Some, None, slice_index_or, codes}
use Rattle.std.specs.List.{prefix_len, list_all}
use Rattle.std.specs.Char.{is_ascii_alphanumeric}
use Rattle.bk_rule_text.specs.Front.{◌>>=◌, Read, after, where_marked, onto}

-- a letter or a digit
unfoldable pub is_part_byte : ℕ → Bool
is_part_byte c = is_ascii_alphanumeric c

-- how many letters and digits the text begins with
abbrev pub part_len : List ℕ → ℕ
part_len text = prefix_len is_part_byte text

-- a part of a group: letters and digits, at least one
unfoldable pub part_at : Read (List ℕ)
part_at text = if part_len text == 0 then None else Some (take (part_len text) text, drop (part_len text) text)

-- parts with `|` between them, and the bracket that closes them; a text holds at most as many as it has bytes
unfoldable pub parts_at : ℕ → Read (List (List ℕ))
parts_at zero text = None
parts_at (suc n) text = do
  p ← part_at text
  where_marked (after (codes ")") p.1) (λ r. Some (p.0 ∷ [], r)) (after (codes "|") p.1 >>= λ r. onto p.0 (parts_at n r))

-- a group has two parts or more
unfoldable pub group_at : Read (List (List ℕ))
group_at text = do
  r ← after (codes "(") text
  g ← parts_at (length r) r
  if length g.0 == 1 then None else Some g

pub data BitTree : Type 0 where
  byte : ℕ → BitTree
  group : List (List ℕ) → BitTree

-- a group where one stands, else a byte
abbrev pub bit_at : Option (List (List ℕ) × List ℕ) → ℕ → List ℕ → BitTree × List ℕ
bit_at None c text = (byte c, text)
bit_at (Some g) c text = (group g.0, g.1)

-- the bits of a line, which are at most as many as its bytes
unfoldable pub bits_at : ℕ → List ℕ → List BitTree
bits_at zero text = []
bits_at (suc n) [] = []
bits_at (suc n) (c ∷ text) = (bit_at (group_at (c ∷ text)) c text).0 ∷ bits_at n (bit_at (group_at (c ∷ text)) c text).1

unfoldable pub bits : List ℕ → List BitTree
bits line = bits_at (length line) line

-- the count of the parts of the first group, 1 where there is none
unfoldable pub first_count : List BitTree → ℕ
first_count [] = 1
first_count (byte c ∷ bs) = first_count bs
first_count (group parts ∷ bs) = length parts

abbrev pub has_count : ℕ → BitTree → Bool
has_count n (byte c) = true
has_count n (group parts) = length parts == n

-- how many rules a line stands for, none where its groups have different numbers of parts
unfoldable pub count_of : List BitTree → Option ℕ
count_of bs = if list_all (has_count (first_count bs)) bs then Some (first_count bs) else None

-- what a bit stands for in the rule at a place
abbrev pub bytes_at : ℕ → BitTree → List ℕ
bytes_at k (byte c) = c ∷ []
bytes_at k (group parts) = slice_index_or parts k []

-- the text of the rule at a place
unfoldable pub expanded : ℕ → List BitTree → List ℕ
expanded k [] = []
expanded k (b ∷ bs) = bytes_at k b ++ expanded k bs
