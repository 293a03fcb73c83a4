-- The parts of a line, and how a line lays them out.
use Rattle.std.specs.Prelude.{◌≡◌, ◌≢◌, ◌<◌, ℕ, Bool, true, min, List, [], ◌∷◌, ◌++◌, ◌⊎◌, length, slice_index, codes}
use Rattle.std.specs.List.{AllByRecursion}
use Rattle.std.specs.Str.{is_utf8}
use Rattle.std.specs.Str.Parse.{AllDigits, digits_value}
use Rattle.bk_text.specs.Tokens.{is_blank}
use Rattle.bk_dump.specs.Words.{is_name_byte, is_plain_byte}

-- a part: a word, which stands for names and numbers too, or a mark
pub data Part : Type 0 where
  word : (bytes : List ℕ) → Part
  mark : (bytes : List ℕ) → Part

abbrev pub bytes_of : Part → List ℕ
bytes_of (word bytes) = bytes
bytes_of (mark bytes) = bytes

-- spaces and tabs
abbrev pub AreBlanks : List ℕ → Type 0
AreBlanks gap = AllByRecursion (λ c. is_blank c ≡ true) gap

-- the text begins with a blank
abbrev pub BeginsBlank : List ℕ → Type 0
BeginsBlank [] = ⊥
BeginsBlank (c ∷ text) = is_blank c ≡ true

-- where this part is a word, and so is the first of those behind it, a blank stands at the front of the text
abbrev pub Apart : Part → List Part → List ℕ → Type 0
Apart (mark bytes) more text = Unit {0}
Apart (word bytes) [] text = Unit {0}
Apart (word bytes) ((mark other) ∷ more) text = Unit {0}
Apart (word bytes) ((word other) ∷ more) text = BeginsBlank text

-- the line is these parts in order, with any blanks before, between and behind them, and some between two words
abbrev pub Lays : List Part → List ℕ → Type 0
Lays [] line = AreBlanks line
Lays (part ∷ more) line =
    (gap : List ℕ) × (rest : List ℕ) × (line ≡ gap ++ (bytes_of part ++ rest)) × AreBlanks gap × Apart part more rest × Lays more rest

-- the line is laid out by parts that spell this
abbrev pub Spells : {A : Type 0} → (List Part → A → Type 0) → List ℕ → A → Type 0
Spells spell line x = (parts : List Part) × Lays parts line × spell parts x

-- each of these lists of parts behind a comma
abbrev pub behind_commas : List (List Part) → List Part
behind_commas [] = []
behind_commas (parts ∷ more) = mark (codes ",") ∷ (parts ++ behind_commas more)

-- these lists of parts with commas between them
abbrev pub listed : List (List Part) → List Part
listed [] = []
listed (first ∷ more) = first ++ behind_commas more

-- some bytes that pass a test, in UTF-8
pub record IsNameOf (p : ℕ → Bool) (name : List ℕ) : Type 0 where
  pub some : 0 < length name
  pub bytes : AllByRecursion (λ c. p c ≡ true) name
  pub utf8 : is_utf8 name ≡ true

-- a name, and a name in a type or a list of parameters
abbrev pub IsName : List ℕ → Type 0
IsName name = IsNameOf is_name_byte name

abbrev pub IsPlainName : List ℕ → Type 0
IsPlainName name = IsNameOf is_plain_byte name

-- decimal digits, with no leading zero unless they are `0`, and their number
pub record IsDecimal (text : List ℕ) (n : ℕ) : Type 0 where
  pub some : 0 < length text
  pub digits : AllDigits 10 text
  pub leading : slice_index text 0 ≡ 48 → length text ≡ 1
  pub value : n ≡ digits_value 10 text

-- a group, which holds no `)`
pub record IsGroup (part : Part) (inside : List ℕ) : Type 0 where
  pub spelled : part ≡ mark (codes "(" ++ (inside ++ codes ")"))
  pub closed : AllByRecursion (λ c. c ≢ 41) inside

-- `->` or `→`
abbrev pub IsArrow : Part → Type 0
IsArrow part = (part ≡ mark (codes "->")) ⊎ (part ≡ mark (226 ∷ 134 ∷ 146 ∷ []))

-- `<-` or `←`
abbrev pub IsBackArrow : Part → Type 0
IsBackArrow part = (part ≡ mark (codes "<-")) ⊎ (part ≡ mark (226 ∷ 134 ∷ 144 ∷ []))

-- the number of a value or a block behind its letter; past 2^32 - 1, where none may be, it counts as 2^32 - 1
abbrev pub IsNumbered : List ℕ → Part → ℕ → Type 0
IsNumbered letter part n = (digits : List ℕ) × (all : ℕ) × IsDecimal digits all × (part ≡ word (letter ++ digits)) × (n ≡ min all 4294967295)
