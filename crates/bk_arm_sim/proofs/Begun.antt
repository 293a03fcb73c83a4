-- What a started machine keeps.
use Rattle.std.proofs.Common.{◌≡◌, ℕ, zero, suc, ◌+◌, ◌-◌, ◌*◌, ◌/◌, ◌%◌, ◌^◌, ◌<◌, List, [], ◌∷◌, ◌++◌, length, ◌∙◌, refl, arith, true, false, length-append}
use Rattle.std.specs.Prelude.{slice_index, replicate, nat_lt, if◌then◌else◌}
use Rattle.bk_ops.specs.declared.types.Ty.{Ty}
use Rattle.bk_ops.specs.declared.types.Target.TheVariants.{Arm}
use Rattle.bk_ops.specs.Types.{width_of}
use Rattle.bk_func.specs.Records.{SigRecord}
use Rattle.bk_arm_isa.specs.Machine.{word_bytes, start_regs}
use Rattle.bk_arm_isa.proofs.Start.{length-start}
use Rattle.bk_func.specs.Words.{is_double, words_of, all_words, count_words}
use Rattle.bk_func.specs.Arguments.{fit}
use Rattle.bk_arm_sim.specs.Signature.{words_of_sig}
use Rattle.bk_func.proofs.Arguments.{rest_fits}

length-words_of : (ty : Ty) (n : ℕ) → length (words_of Arm ty n) ≡ (if is_double Arm ty then 2 else 1)
length-words_of ty n = elim (is_double Arm ty) as (λ b. length (if b then n % 2 ^ 32 ∷ n / 2 ^ 32 ∷ [] else n ∷ []) ≡ (if b then 2 else 1)) [ true ↦ refl | false ↦ refl ]

pub length-all_words : (types : List Ty) (args : List ℕ) → fit Arm types args ≡ true → length (all_words Arm types args) ≡ count_words Arm types
length-all_words [] args h = refl
length-all_words (ty ∷ types) [] h = cc
length-all_words (ty ∷ types) (n ∷ args) h =
    let r = length-all_words types args (rest_fits (nat_lt n (2 ^ width_of ty Arm)) (fit Arm types args) h) in
    omega (arith, length-append (words_of Arm ty n) (all_words Arm types args), length-words_of ty n, r)

-- each number of a list is below a bound
record Below (b : ℕ) (xs : List ℕ) : Type 0 where
  at : (k : ℕ) → slice_index xs k < b

none_below : (b : ℕ) → 0 < b → Below b []
none_below b h = record { at = λ k. h }

one_below : (b x : ℕ) (xs : List ℕ) → x < b → Below b xs → Below b (x ∷ xs)
one_below b x xs h r = record { at = first }
  where
    first : (k : ℕ) → slice_index (x ∷ xs) k < b
    first zero = h
    first (suc k) = r.at k

zero_below : (xs : List ℕ) → Below 4294967296 xs → Below 4294967296 (0 ∷ xs)
zero_below xs r = one_below 4294967296 0 xs (omega arith) r

start_below : (bound : ℕ) → bound < 4294967296 → Below 4294967296 (0 ∷ 0 ∷ 0 ∷ 0 ∷ 0 ∷ 0 ∷ 0 ∷ 0 ∷ 0 ∷ 0 ∷ bound ∷ 0 ∷ 0 ∷ 536870912 ∷ 61440 ∷ [])
start_below bound h =
    let halts = one_below 4294967296 61440 [] (omega arith) (none_below 4294967296 (omega arith)) in
    let top = zero_below _ (zero_below _ (one_below 4294967296 536870912 (61440 ∷ []) (omega arith) halts)) in
    let five = zero_below _ (zero_below _ (zero_below _ (zero_below _ (zero_below _ (one_below 4294967296 bound (0 ∷ 0 ∷ 536870912 ∷ 61440 ∷ []) h top))))) in
    zero_below _ (zero_below _ (zero_below _ (zero_below _ (zero_below _ five))))

pub start_regs_fit : (stack k : ℕ) → slice_index (start_regs stack) k < 4294967296
start_regs_fit stack k = (start_below (536870912 - stack) (omega arith)).at k

-- the stack window holds the stack and the words of the signature
pub length-stack : (sig : SigRecord) (args : List ℕ) (stack : ℕ) → fit Arm sig.args args ≡ true → length (replicate stack 0 ++ (word_bytes (all_words Arm sig.args args) ++ replicate (4 * count_words Arm sig.results) 0)) ≡ stack + 4 * words_of_sig sig
length-stack sig args stack h =
    length-start stack (count_words Arm sig.results) (all_words Arm sig.args args)
    ∙ (let e = length-all_words sig.args args h in omega arith)
