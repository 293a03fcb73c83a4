-- The machine words of arguments and results.
use Rattle.std.specs.Prelude.{ℕ, zero, suc, ◌+◌, ◌/◌, ◌%◌, ◌^◌, Bool, nat_lt, if◌then◌else◌, List, [], ◌∷◌, ◌++◌}
use Rattle.bk_ops.specs.Types.{word_width, width_of}
use Rattle.bk_ops.specs.declared.types.Target.{Target}
use Rattle.bk_ops.specs.declared.types.Target.TheVariants.{Arm, Riscv64}
use Rattle.bk_ops.specs.declared.types.Ty.{Ty}

-- a number of the type takes two words
abbrev pub is_double : Target → Ty → Bool
is_double t ty = nat_lt (word_width t) (width_of ty t)

-- the words of a number of the type, the low one first
abbrev pub words_of : Target → Ty → ℕ → List ℕ
words_of t ty n = if is_double t ty then n % 2 ^ 32 ∷ n / 2 ^ 32 ∷ [] else n ∷ []

-- the words of numbers of the types, one after the other
abbrev pub all_words : Target → List Ty → List ℕ → List ℕ
all_words t [] ns = []
all_words t (ty ∷ tys) [] = []
all_words t (ty ∷ tys) (n ∷ ns) = words_of t ty n ++ all_words t tys ns

-- the words from a place on, as many as asked for
abbrev pub words_at : (ℕ → ℕ) → ℕ → ℕ → List ℕ
words_at word k zero = []
words_at word k (suc n) = word k ∷ words_at word (suc k) n

-- how many words of arguments, and of results, a call passes in registers
abbrev pub register_words : Target → ℕ
register_words Arm = 0
register_words Riscv64 = 8

-- how many words numbers of the types take
abbrev pub count_words : Target → List Ty → ℕ
count_words t [] = 0
count_words t (ty ∷ tys) = (if is_double t ty then 2 else 1) + count_words t tys

-- each number modulo 2 to the width of its type
abbrev pub fitted : Target → List Ty → List ℕ → List ℕ
fitted t [] ns = []
fitted t (ty ∷ tys) [] = []
fitted t (ty ∷ tys) (n ∷ ns) = n % 2 ^ width_of ty t ∷ fitted t tys ns
