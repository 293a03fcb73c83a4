-- Words on lists of bytes and numbers.
use Rattle.std.specs.Prelude.{ℕ, zero, suc, ◌==◌, Bool, true, nat_lt, ◌&&◌, List, [], ◌∷◌, drop, Option, Some, None}
use Rattle.std.specs.List.{list_all, list_any}
use Rattle.byteorder.specs.Endian.{little_number}

-- whether the numbers rise, the first from above `low`
abbrev pub rises_from : ℕ → List ℕ → Bool
rises_from low [] = true
rises_from low (x ∷ xs) = nat_lt low x && rises_from x xs

-- whether each number is below the next
abbrev pub is_rising : List ℕ → Bool
is_rising [] = true
is_rising (x ∷ xs) = rises_from x xs

abbrev pub is_zero : List ℕ → Bool
is_zero bytes = list_all (λ b. b == 0) bytes

abbrev pub has_zero : List ℕ → Bool
has_zero bytes = list_any (λ b. b == 0) bytes

-- what f makes of the bytes from the front on, and from each of the next places `size` bytes further, `count` in all
unfoldable pub each : {X : Type 0} → (List ℕ → X) → ℕ → ℕ → List ℕ → List X
each f size zero bytes = []
each f size (suc count) bytes = f bytes ∷ each f size count (drop size bytes)

-- the first `count` numbers of `size` bytes each
abbrev pub numbers : ℕ → ℕ → List ℕ → List ℕ
numbers size count bytes = each (little_number size) size count bytes

infixl 10 ◌>>=◌
-- what f makes of a value, where there is one
abbrev pub ◌>>=◌ : {A B : Type 0} → Option A → (A → Option B) → Option B
None >>= f = None
(Some x) >>= f = f x

-- a list of what there is, where all is there
abbrev pub option_cons : {A : Type 0} → Option A → Option (List A) → Option (List A)
option_cons None more = None
option_cons (Some x) None = None
option_cons (Some x) (Some xs) = Some (x ∷ xs)
