-- Numbers at the front of a text.
use Rattle.std.specs.Prelude.{ℕ, ℤ, pos, negsuc, Bool, false, nat_lt, ◌==◌, ◌-◌, ◌^◌, ◌&&◌, ◌||◌, min, if◌then◌else◌, List, [], ◌∷◌, take, drop, slice_index, Option, Some, None, codes}
use Rattle.std.specs.List.{prefix_len}
use Rattle.std.specs.Char.{is_ascii_digit}
use Rattle.std.specs.Option.{option_map, option_map_or, is_some}
use Rattle.std.specs.Str.Parse.{digits_value}
use Rattle.bk_rule_text.specs.Front.{◌>>=◌, unblanked, after}
use Rattle.bk_rule_text.specs.Words.{begins_word}

-- how many digits the text begins with
abbrev pub digits_len : List ℕ → ℕ
digits_len text = prefix_len is_ascii_digit text

-- the digits of a number, which has no leading zero unless it is 0, and behind which no letter and no `_` stands
unfoldable pub digits_at : List ℕ → Option (List ℕ × List ℕ)
digits_at text =
    if digits_len text == 0 || (slice_index text 0 == 48 && nat_lt 1 (digits_len text)) then None
    else if begins_word (drop (digits_len text) text) then None
    else Some (take (digits_len text) text, drop (digits_len text) text)

-- a decimal number; from 2^64 on, where none may stand, it counts as 2^64
unfoldable pub decimal_at : List ℕ → Option (ℕ × List ℕ)
decimal_at text = option_map (λ d. (min (digits_value 10 d.0) (2 ^ 64), d.1)) (digits_at text)

abbrev pub begins_digit : List ℕ → Bool
begins_digit [] = false
begins_digit (c ∷ text) = is_ascii_digit c

-- the text behind a `-` right before a digit, which is part of the number
unfoldable pub sign_at : List ℕ → Option (List ℕ)
sign_at text = after (codes "-") text >>= λ r. if begins_digit r then Some r else None

-- a number begins here
unfoldable pub begins_number : List ℕ → Bool
begins_number text = begins_digit text || is_some (sign_at text)

-- a number from 0 to 2^63 - 1
unfoldable pub natural_at : List ℕ → Option (ℤ × List ℕ)
natural_at text = decimal_at text >>= λ n. if nat_lt n.0 (2 ^ 63) then Some (pos n.0, n.1) else None

-- a number from -2^63 to -1 behind its `-`; `-0` is none
unfoldable pub negative_at : List ℕ → Option (ℤ × List ℕ)
negative_at text = decimal_at text >>= λ n. if n.0 == 0 || nat_lt (2 ^ 63) n.0 then None else Some (negsuc (n.0 - 1), n.1)

-- a number
unfoldable pub number_at : List ℕ → Option (ℤ × List ℕ)
number_at text = option_map_or negative_at (sign_at (unblanked text)) (natural_at (unblanked text))
