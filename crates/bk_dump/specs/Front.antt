-- Reading at the front of a text: a reader gives what it reads there and the text behind it, or nothing.
use Rattle.std.specs.Prelude.{ℕ, zero, suc, Bool, ◌==◌, cond, if◌then◌else◌, List, [], ◌∷◌, length, take, drop, Option, Some, None, position}
use Rattle.std.specs.List.{prefix_len}
use Rattle.std.specs.Option.{option_map_or}
use Rattle.bk_text.specs.Tokens.{is_blank}

infixl 10 ◌>>=◌
abbrev pub ◌>>=◌ : {A B : Type 0} → Option A → (A → Option B) → Option B
None >>= f = None
(Some x) >>= f = f x

-- what the first gives, or else the second
abbrev pub or_else : {A : Type 0} → Option A → Option A → Option A
or_else None other = other
or_else (Some x) other = Some x

-- the text behind its first blanks
unfoldable pub unblanked : List ℕ → List ℕ
unblanked text = drop (prefix_len is_blank text) text

-- nothing but blanks is left
abbrev pub is_done : List ℕ → Bool
is_done text = length (unblanked text) == 0

-- the text behind at least one blank
unfoldable pub gap_at : List ℕ → Option (List ℕ)
gap_at [] = None
gap_at (c ∷ text) = if is_blank c then Some (unblanked text) else None

-- the text behind this mark
unfoldable pub after : List ℕ → List ℕ → Option (List ℕ)
after [] text = Some text
after (c ∷ mark) [] = None
after (c ∷ mark) (d ∷ text) = cond (c == d) (after mark text) None

-- the same, where blanks may stand before the mark
unfoldable pub mark_at : List ℕ → List ℕ → Option (List ℕ)
mark_at mark text = after mark (unblanked text)

-- the bytes that pass the test, as many as stand here
abbrev pub run_at : (ℕ → Bool) → List ℕ → List ℕ × List ℕ
run_at p text = (take (prefix_len p text) text, drop (prefix_len p text) text)

-- the first bytes, at least one of them
abbrev pub front_at : ℕ → List ℕ → Option (List ℕ × List ℕ)
front_at len text = if len == 0 then None else Some (take len text, drop len text)

-- the bytes before the first of this byte, and the text behind it
abbrev pub cut_at : Option ℕ → List ℕ → Option (List ℕ × List ℕ)
cut_at None text = None
cut_at (Some k) text = Some (take k text, drop (suc k) text)

unfoldable pub up_to : ℕ → List ℕ → Option (List ℕ × List ℕ)
up_to c text = cut_at (position (λ d. d == c) text) text

-- a value with what was read behind it
abbrev pub onto : {A : Type 0} → A → List A × List ℕ → List A × List ℕ
onto x more = (x ∷ more.0, more.1)

-- as many as stand here, at most so many
unfoldable pub many : {A : Type 0} → (List ℕ → Option (A × List ℕ)) → ℕ → List ℕ → List A × List ℕ
many read zero text = ([], text)
many read (suc most) text = option_map_or (λ x. onto x.0 (many read most x.1)) (read text) ([], text)

-- as many as stand here: a text holds at most as many as it has bytes
unfoldable pub every : {A : Type 0} → (List ℕ → Option (A × List ℕ)) → List ℕ → List A × List ℕ
every read text = many read (length text) text

-- what was read, where nothing but blanks is left
abbrev pub at_end : {A : Type 0} → List ℕ → A → Option A
at_end text x = if is_done text then Some x else None
