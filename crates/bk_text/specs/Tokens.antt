-- The tokens of a line.
use Rattle.std.specs.Prelude.{◌≡◌, ◌≢◌, ◌≤◌, ◌<◌, ◌-◌, ◌==◌, ◌||◌, ℕ, Bool, false, true, List, [], ◌∷◌, All, AllPairs, Any, filter, length, slice_index, slice_range}
use Rattle.std.specs.List.{slice_split}
use Rattle.bk_text.specs.declared.Token.{Token}

-- a blank: a space or a tab
abbrev pub is_blank : ℕ → Bool
is_blank byte = (byte == 32) || (byte == 9)

-- a byte that no line may hold: one below 32 that is no tab
abbrev pub IsBad : ℕ → Type 0
IsBad byte = (byte < 32) × (byte ≢ 9)

-- a maximal run of bytes that are not blanks
pub record IsRun (line : List ℕ) (token : Token) : Type 0 where
  pub some : token.start < token.end
  pub within : token.end ≤ length line
  pub solid : (k : ℕ) → token.start ≤ k → k < token.end → is_blank (slice_index line k) ≡ false
  pub begun : 0 < token.start → is_blank (slice_index line (token.start - 1)) ≡ true
  pub ended : token.end < length line → is_blank (slice_index line token.end) ≡ true

-- a token holds a place
abbrev pub Covers : ℕ → Token → Type 0
Covers place token = (token.start ≤ place) × (place < token.end)

-- all the maximal runs of a line, in order
pub record AreTokens (line : List ℕ) (tokens : List Token) : Type 0 where
  pub runs : All (IsRun line) tokens
  pub rising : AllPairs (λ one later. one.end ≤ later.start) tokens
  pub complete : (k : ℕ) → k < length line → is_blank (slice_index line k) ≡ false → Any (Covers k) tokens

-- the bytes of a token
abbrev pub bytes_of : List ℕ → Token → List ℕ
bytes_of line token = slice_range line token.start token.end

-- whether a part has a byte
abbrev pub has_byte : List ℕ → Bool
has_byte [] = false
has_byte (byte ∷ rest) = true

-- the parts of a line between its blanks that are not empty
abbrev pub words : List ℕ → List (List ℕ)
words line = filter has_byte (slice_split is_blank line)
