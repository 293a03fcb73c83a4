-- Reading at the front of a text: a reader gives what it reads there and the text behind it, or nothing.
use Rattle.std.specs.Prelude.{ℕ, zero, suc, Bool, ◌==◌, cond, List, [], ◌∷◌, length, drop, Option, Some, None, codes}
use Rattle.std.specs.List.{prefix_len}
use Rattle.bk_text.specs.Tokens.{is_blank}

abbrev pub Read : Type 0 → Type 0
Read A = List ℕ → Option (A × List ℕ)

infixl 10 ◌>>=◌
abbrev pub ◌>>=◌ : {A B : Type 0} → Option A → (A → Option B) → Option B
None >>= f = None
(Some x) >>= f = f x

-- what the first gives, or else the second
abbrev pub or_else : {A : Type 0} → Option A → Option A → Option A
or_else None other = other
or_else (Some x) other = Some x

-- the text behind its first blanks
unfoldable pub unblanked : List ℕ → List ℕ
unblanked text = drop (prefix_len is_blank text) text

-- nothing but blanks is left
abbrev pub is_done : List ℕ → Bool
is_done text = length (unblanked text) == 0

-- the text behind this mark
unfoldable pub after : List ℕ → List ℕ → Option (List ℕ)
after [] text = Some text
after (c ∷ mark) [] = None
after (c ∷ mark) (d ∷ text) = cond (c == d) (after mark text) None

-- the same, where blanks may stand before the mark
unfoldable pub mark_at : List ℕ → List ℕ → Option (List ℕ)
mark_at mark text = after mark (unblanked text)

-- what this reader reads, and the mark behind it
unfoldable pub closed : {A : Type 0} → List ℕ → Read A → Read A
closed close read text = do
  x ← read text
  r ← mark_at close x.1
  Some (x.0, r)

-- one more in front of what was read
abbrev pub onto : {A : Type 0} → A → Option (List A × List ℕ) → Option (List A × List ℕ)
onto x None = None
onto x (Some more) = Some (x ∷ more.0, more.1)

-- what comes of a mark that may stand here
abbrev pub where_marked : {B : Type 0} → Option (List ℕ) → (List ℕ → B) → B → B
where_marked None f other = other
where_marked (Some r) f other = f r

-- as many as stand here up to a closing bracket, and the bracket; a text holds at most as many as it has bytes
unfoldable pub until_bracket : {A : Type 0} → Read A → ℕ → Read (List A)
until_bracket read zero text = None
until_bracket read (suc n) text = where_marked (mark_at (codes ")") text) (λ r. Some ([], r)) (read text >>= λ x. onto x.0 (until_bracket read n x.1))
