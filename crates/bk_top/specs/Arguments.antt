-- What a call of a function begins with: its stack, and the numbers that words give to its arguments.
use Rattle.std.specs.Prelude.{◌≡◌, ℕ, ℤ, pos, negsuc, ◌^◌, ◌-◌, ◌<◌, List, [], ◌∷◌}
use Rattle.std.specs.Fmt.{signed_decimal}
use Rattle.bk_num.specs.Word.{residue}
use Rattle.bk_ops.specs.Types.{width_of}
use Rattle.bk_ops.specs.declared.types.Target.{Target}
use Rattle.bk_ops.specs.declared.types.Ty.{Ty}
use Rattle.bk_ops.specs.declared.types.Ty.TheVariants as ty

-- the bytes of stack that a call begins with
unfoldable pub own_stack : ℕ
own_stack = 65536

-- a number that w bits spell, without a sign or with one
abbrev pub FitsBits : ℕ → ℤ → Type 0
FitsBits w (pos n) = n < 2 ^ w
FitsBits w (negsuc n) = n < 2 ^ (w - 1)

abbrev pub IsTruth : ℤ → Type 0
IsTruth (pos n) = n < 2
IsTruth (negsuc n) = ⊥

-- a number of a type of machine words
abbrev pub FitsType : Target → Ty → ℤ → Type 0
FitsType target ty.Bool z = IsTruth z
FitsType target type z = (0 < width_of type target) × FitsBits (width_of type target) z

-- the word spells a number of the type, which is n modulo 2 to the width
abbrev pub GivesOne : Target → Ty → List ℕ → ℕ → Type 0
GivesOne target type word n = (z : ℤ) × (word ≡ signed_decimal z) × FitsType target type z × (n ≡ residue (width_of type target) z)

-- the words give these numbers, one for each type
abbrev pub Gives : Target → List Ty → List (List ℕ) → List ℕ → Type 0
Gives target [] [] [] = Unit {0}
Gives target (type ∷ types) (word ∷ words) (n ∷ ns) = GivesOne target type word n × Gives target types words ns
Gives target types words ns = ⊥

-- the words give no numbers, one for each type
abbrev pub DoNotFit : Target → List Ty → List (List ℕ) → Type 0
DoNotFit target types words = (ns : List ℕ) → Gives target types words ns → ⊥
