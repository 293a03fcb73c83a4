-- The values that stand for the halves of numbers of 64 bits.
--
-- Each half is a `uint32`. In a list of words the low half stands first, in memory it has the lower address.
use Rattle.std.specs.Prelude.{ℕ, pos, ◌+◌, Bool, false, if◌then◌else◌, List, [], ◌∷◌, ◌++◌, length, map, drop, take}
use Rattle.bk_ops.specs.declared.family.Family.{Family}
use Rattle.bk_ops.specs.declared.family.Family.TheVariants as op
use Rattle.bk_ops.specs.declared.table.Op.{Op}
use Rattle.bk_ops.specs.declared.types.Target.TheVariants.{Arm}
use Rattle.bk_ops.specs.declared.types.Ty.{Ty}
use Rattle.bk_ops.specs.declared.types.Ty.TheVariants.{Uint32, Ptr, Mem}
use Rattle.bk_func.specs.declared.parts.Aux.TheVariants as beside
use Rattle.bk_func.specs.Records.{ValueRecord}
use Rattle.bk_func.specs.Edits.{value_of}
use Rattle.bk_func.specs.Words.{is_double, count_words}
use Rattle.bk_dec64.specs.declared.made.Made.{Made}

abbrev pub made : ℕ → ValueRecord → Made
made b v = record { block = b; value = v }

abbrev pub plain : Family → Op
plain o = record { family = o; a = 0; b = 0 }

-- an op of a number of 64 bits
abbrev pub of_64 : Family → Op
of_64 o = record { family = o; a = 64; b = 0 }

-- the half of x that the op takes, under the number n
abbrev pub half : Family → ℕ → ℕ → ValueRecord
half o n x = value_of n (of_64 o) Uint32 (x ∷ []) (pos 0) beside.Nothing

-- the argument at word w
abbrev pub argument : ℕ → ℕ → ValueRecord
argument n w = value_of n (plain op.Arg) Uint32 [] (pos 0) (beside.Arg w)

-- word w of what a call gave
abbrev pub selection : ℕ → ℕ → ℕ → ValueRecord
selection n call w = value_of n (plain op.SelectN) Uint32 (call ∷ []) (pos w) beside.Nothing

abbrev pub phi : ℕ → List ℕ → ValueRecord
phi n xs = value_of n (plain op.Phi) Uint32 xs (pos 0) beside.Nothing

abbrev pub load : ℕ → ℕ → ℕ → ValueRecord
load n address memory = value_of n (plain op.Load) Uint32 (address ∷ memory ∷ []) (pos 0) beside.Nothing

-- a store whose arguments are an address, a number and memory
abbrev pub store : ℕ → List ℕ → ValueRecord
store n args = value_of n (plain op.Store) Mem args (pos 0) (beside.Ty Uint32)

-- the address of the word behind
abbrev pub next_word : ℕ → ℕ → ValueRecord
next_word n address = value_of n (plain op.OffPtr) Ptr (address ∷ []) (pos 4) beside.Nothing

-- a value that becomes the number of two halves
abbrev pub joined : ℕ → ℕ → ValueRecord → ValueRecord
joined high low v = record v { op = of_64 op.Int64Make; args = high ∷ low ∷ []; int = pos 0; aux = beside.Nothing }

-- halves of these numbers, each in its block, numbered from n on
unfoldable pub halves_in : Family → ℕ → List ℕ → List ℕ → List Made
halves_in o n [] xs = []
halves_in o n (b ∷ bs) [] = []
halves_in o n (b ∷ bs) (x ∷ xs) = made b (half o n x) ∷ halves_in o (n + 1) bs xs

abbrev pub numbers : List Made → List ℕ
numbers ms = map (λ m. m.value.id) ms

-- the number of a phi that is made behind them
abbrev pub phi_number : Family → ℕ → List ℕ → List ℕ → ℕ
phi_number o n bs xs = n + length (halves_in o n bs xs)

-- a half of a phi in block b, behind the halves of its arguments in the predecessors
abbrev pub half_of_phi : Family → ℕ → ℕ → List ℕ → List ℕ → List Made
half_of_phi o b n bs xs = halves_in o n bs xs ++ made b (phi (phi_number o n bs xs) (numbers (halves_in o n bs xs))) ∷ []

-- both halves of a phi, the low one first
abbrev pub halves_of_phi : ℕ → List ℕ → ℕ → List ℕ → List Made
halves_of_phi b bs n xs =
    half_of_phi op.Int64Lo b n bs xs ++ half_of_phi op.Int64Hi b (phi_number op.Int64Lo n bs xs + 1) bs xs

abbrev pub high_phi : List ℕ → ℕ → List ℕ → ℕ
high_phi bs n xs = phi_number op.Int64Hi (phi_number op.Int64Lo n bs xs + 1) bs xs

-- the first of these types is one of 64 bits
abbrev pub first_is_double : List Ty → Bool
first_is_double [] = false
first_is_double (ty ∷ tys) = is_double Arm ty

-- the halves of those of these numbers that are of 64 bits by their types, numbered from n on
unfoldable pub parts : ℕ → ℕ → List Ty → List ℕ → List Made
parts b n tys [] = []
parts b n tys (x ∷ xs) =
    if first_is_double tys then made b (half op.Int64Lo n x) ∷ made b (half op.Int64Hi (n + 1) x) ∷ parts b (n + 2) (drop 1 tys) xs else parts b n (drop 1 tys) xs

-- the numbers with these halves in their places
unfoldable pub in_words : ℕ → List Ty → List ℕ → List ℕ
in_words n tys [] = []
in_words n tys (x ∷ xs) = if first_is_double tys then n ∷ (n + 1) ∷ in_words (n + 2) (drop 1 tys) xs else x ∷ in_words n (drop 1 tys) xs

-- the first word of the number at a place, where numbers have these types
abbrev pub word_at : List Ty → ℕ → ℕ
word_at tys i = count_words Arm (take i tys)
