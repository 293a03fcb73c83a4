-- One number in words.
use Rattle.std.specs.Prelude.{ℕ, ◌+◌, Bool, true, false, List, [], ◌∷◌, Option, Some, None, slice_get}
use Rattle.bk_ops.specs.declared.family.Family.TheVariants as op
use Rattle.bk_ops.specs.declared.types.Target.TheVariants.{Arm}
use Rattle.bk_ops.specs.declared.types.Ty.{Ty}
use Rattle.bk_func.specs.Words.{is_double}
use Rattle.bk_dec64.specs.declared.halves.Words.{Words}
use Rattle.bk_dec64.specs.declared.halves.Words.TheVariants.{One, Two}
use Rattle.bk_dec64.specs.declared.made.Made.{Made}
use Rattle.bk_dec64.specs.Halves.{made, half}

abbrev pub is_double_one : Option Ty → Bool
is_double_one None = false
is_double_one (Some ty) = is_double Arm ty

-- the type at a place is one of 64 bits
abbrev pub double_at : List Ty → ℕ → Bool
double_at tys i = is_double_one (slice_get tys i)

-- the words of the number x, of which halves are made under n and the next number
abbrev pub words_of : Bool → ℕ → ℕ → Words
words_of true n x = Two n (n + 1)
words_of false n x = One x

abbrev pub parts_of : Bool → ℕ → ℕ → ℕ → List Made
parts_of true b n x = made b (half op.Int64Lo n x) ∷ made b (half op.Int64Hi (n + 1) x) ∷ []
parts_of false b n x = []

abbrev pub listed_words : Words → List ℕ
listed_words (One x) = x ∷ []
listed_words (Two x y) = x ∷ y ∷ []
