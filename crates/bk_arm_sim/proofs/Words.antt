-- The words of values as bytes.
use Rattle.std.proofs.Common.{◌≡◌, ℕ, zero, suc, ◌+◌, ◌*◌, ◌/◌, ◌%◌, ◌^◌, ◌<◌, List, [], ◌∷◌, ◌++◌, length, drop, get_or, ap, subst, ◌∙◌, sym, refl, arith, append_assoc, true, false}
use Rattle.std.specs.Prelude.{nat_lt, if◌then◌else◌}
use Rattle.bk_ops.specs.declared.types.Ty.{Ty}
use Rattle.bk_ops.specs.declared.types.Ty.TheVariants.{Bool as Truth}
use Rattle.bk_ops.specs.declared.types.Target.TheVariants.{Arm}
use Rattle.bk_ops.specs.Types.{width_of}
use Rattle.bk_func.specs.Words.{is_double, words_of, all_words}
use Rattle.bk_func.specs.Arguments.{fit}
use Rattle.bk_func.proofs.Arguments.{rest_fits}
use Rattle.bk_num.specs.Bytes.{bytes}
use Rattle.bk_arm_isa.specs.Machine.{word_bytes}

drop-nil : (i : ℕ) → ◌≡◌ {A = List ℕ} (drop i []) []
drop-nil zero = refl
drop-nil (suc i) = refl

pub word_bytes-append : (xs ys : List ℕ) → word_bytes (xs ++ ys) ≡ word_bytes xs ++ word_bytes ys
word_bytes-append [] ys = refl
word_bytes-append (x ∷ xs) ys = ap (λ l. bytes 4 x ++ l) (word_bytes-append xs ys) ∙ sym (append_assoc (bytes 4 x) (word_bytes xs) (word_bytes ys))

-- two words are eight bytes
halves : (n : ℕ) → bytes 4 (n % 2 ^ 32) ++ (bytes 4 (n / 2 ^ 32) ++ []) ≡ bytes 8 n
unfolding bytes
halves n =
    let a0 : n % 4294967296 % 256 ≡ n % 256 = omega arith in
    let a1 : n % 4294967296 / 256 % 256 ≡ n / 256 % 256 = omega arith in
    let a2 : n % 4294967296 / 256 / 256 % 256 ≡ n / 256 / 256 % 256 = omega arith in
    let a3 : n % 4294967296 / 256 / 256 / 256 % 256 ≡ n / 256 / 256 / 256 % 256 = omega arith in
    let a4 : n / 4294967296 ≡ n / 256 / 256 / 256 / 256 = omega arith in
    cc

one_word : (n : ℕ) → bytes 4 n ++ [] ≡ bytes 4 n
unfolding bytes
one_word n = refl

pub value_bytes : (ty : Ty) (n : ℕ) → word_bytes (words_of Arm ty n) ≡ bytes (4 * (if is_double Arm ty then 2 else 1)) n
value_bytes ty n =
    elim (is_double Arm ty) as (λ b. word_bytes (if b then n % 2 ^ 32 ∷ n / 2 ^ 32 ∷ [] else n ∷ []) ≡ bytes (4 * (if b then 2 else 1)) n) [
      | true ↦ halves n
      | false ↦ one_word n
    ]

-- one type and its argument, of which there is one where all fit
pub record Next (types : List Ty) (args : List ℕ) (i j : ℕ) : Type 0 where
  pub words : word_bytes (all_words Arm (drop i types) (drop i args)) ≡ bytes (4 * (if is_double Arm (get_or types i Truth) then 2 else 1)) (get_or args i 0) ++ word_bytes (all_words Arm (drop j types) (drop j args))
  pub fitting : fit Arm (drop j types) (drop j args) ≡ true

next : (types : List Ty) (args : List ℕ) (i : ℕ) → i < length types → fit Arm (drop i types) (drop i args) ≡ true → Next types args i (suc i)
next [] args i h f = absurd (omega arith)
next (ty ∷ types) [] zero h f = absurd (let q = f in cc)
next (ty ∷ types) (n ∷ args) zero h f = record {
  words = word_bytes-append (words_of Arm ty n) (all_words Arm types args) ∙ ap (λ l. l ++ word_bytes (all_words Arm types args)) (value_bytes ty n);
  fitting = rest_fits (nat_lt n (2 ^ width_of ty Arm)) (fit Arm types args) f;
}
next (ty ∷ types) [] (suc i) h f = let r = next types [] i (omega arith) (subst (λ l. fit Arm (drop i types) l ≡ true) (sym (drop-nil i)) f) in record {
  words = ap (λ l. word_bytes (all_words Arm (drop i types) l)) (sym (drop-nil i)) ∙ r.words;
  fitting = r.fitting;
}
next (ty ∷ types) (n ∷ args) (suc i) h f = let r = next types args i (omega arith) f in record { words = r.words; fitting = r.fitting }

pub next_value : (types : List Ty) (args : List ℕ) (i : ℕ) → i < length types → fit Arm (drop i types) (drop i args) ≡ true → Next types args i (i + 1)
next_value types args i h f = let e : suc i ≡ i + 1 = omega arith in subst (λ j. Next types args i j) e (next types args i h f)
