-- Code in the text, by the function that reads a word as an instruction.
use Rattle.std.specs.Prelude.{◌≡◌, ℕ, List, [], ◌∷◌, ◌+◌, ◌-◌, ◌/◌, ◌%◌, nat_le, ◌&&◌, ◌==◌, if◌then◌else◌, Option, Some, None, slice_get}
use Rattle.bk_num.specs.Addresses.{text_base}

-- the instruction of a word, if there is a word
abbrev pub decoded : {I : Type 0} → (ℕ → Option I) → Option ℕ → Option I
decoded decoding None = None
decoded decoding (Some w) = decoding w

-- the instruction at the pc: none outside the text, between its words, and at a word outside the table
abbrev pub fetch : {I : Type 0} → (ℕ → Option I) → List ℕ → ℕ → Option I
fetch decoding text pc = if nat_le text_base pc && pc % 4 == 0 then decoded decoding (slice_get text ((pc - text_base) / 4)) else None

-- these instructions stand in the text from the pc on
abbrev pub HasAt : {I : Type 0} → (ℕ → Option I) → List ℕ → ℕ → List I → Type 0
HasAt decoding text pc [] = Unit {0}
HasAt decoding text pc (i ∷ is) = (fetch decoding text pc ≡ Some i) × HasAt decoding text (pc + 4) is

-- the words begin with these instructions
abbrev pub Begins : {I : Type 0} → (ℕ → Option I) → List ℕ → List I → Type 0
Begins decoding words [] = Unit {0}
Begins decoding [] (i ∷ is) = ⊥
Begins decoding (w ∷ ws) (i ∷ is) = (decoding w ≡ Some i) × Begins decoding ws is
