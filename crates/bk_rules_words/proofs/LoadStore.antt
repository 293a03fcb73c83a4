-- Laws of loads and stores: types and their sizes, addresses, windows.
use Rattle.std.proofs.Common.{◌≡◌, ℕ, ◌+◌, ◌%◌, ◌^◌, ◌≤◌, refl, ap, subst, sym, ◌∙◌, arith, ℤ, pos, List, Option, Some, None, unwrap_or, Bool, true, false, if◌then◌else◌, ◌==◌, ◌⊎◌, inl, inr}
use Rattle.std.proofs.lemmas.Bool.{eqb-true, false≢true}
use Rattle.std.proofs.Math.Nat.{mod-eq_of_lt, mod-mod, mod-add-mod, add-mod-mod}
use Rattle.bk_num.specs.Word.{residue}
use Rattle.bk_num.specs.Bytes.{is_within}
use Rattle.bk_num.specs.Memory.{data_base}
use Rattle.bk_ops.specs.declared.types.Target.{Target}
use Rattle.bk_ops.specs.declared.types.Target.TheVariants.{Arm, Riscv64}
use Rattle.bk_ops.specs.declared.types.Ty.{Ty}
use Rattle.bk_ops.specs.declared.types.Ty.TheVariants as ty
use Rattle.bk_ops.specs.Types.{width_of, size_of_ty, word_size}
use Rattle.bk_ops.specs.Memory.{number_at, with_number}
use Rattle.bk_ops.proofs.LowBits.{residue-low, residue-signed}
use Rattle.bk_func.specs.Numbers.{is_truth}
use Rattle.bk_func.specs.Meaning.{Outcome, wild, Activation, World, with_window}
use Rattle.bk_rule.specs.Expressions.{word, wrap, truth, is_true, is_bool}

-- ---- conditions
no : {X : Type 0} → false ≡ true → X
no e = absurd (false≢true e)

-- a condition of a truth value that is met
abbrev pub is_met : Bool → Bool
is_met t = if is_true (Some (truth t)) then true else false

pub met : (t : Bool) → is_met t ≡ true → t ≡ true
met true d = refl
met false d = d

-- the condition that two numbers are equal
same_size : (n w : ℕ) → n ≤ 8 → w ≤ 8 → is_met (n % 2 ^ 64 == w % 2 ^ 64) ≡ true → n ≡ w
same_size n w l h d =
    let a : n % 2 ^ 64 ≡ n = mod-eq_of_lt (omega arith) in
    let b : w % 2 ^ 64 ≡ w = mod-eq_of_lt (omega arith) in
    sym a ∙ (eqb-true (n % 2 ^ 64) (w % 2 ^ 64) (met (n % 2 ^ 64 == w % 2 ^ 64) d) ∙ b)

-- ---- types
a_word_is_small : (t : Target) → word_size t ≤ 8
a_word_is_small Arm = omega arith
a_word_is_small Riscv64 = omega arith

at_most_8 : (y : Ty) (t : Target) → size_of_ty y t ≤ 8
at_most_8 ty.Bool t = omega arith
at_most_8 ty.Int8 t = omega arith
at_most_8 ty.Uint8 t = omega arith
at_most_8 ty.Int16 t = omega arith
at_most_8 ty.Uint16 t = omega arith
at_most_8 ty.Int32 t = omega arith
at_most_8 ty.Uint32 t = omega arith
at_most_8 ty.Int64 t = omega arith
at_most_8 ty.Uint64 t = omega arith
at_most_8 ty.Int t = a_word_is_small t
at_most_8 ty.Uint t = a_word_is_small t
at_most_8 ty.Uintptr t = a_word_is_small t
at_most_8 ty.Ptr t = a_word_is_small t
at_most_8 ty.Mem t = omega arith
at_most_8 ty.Void t = omega arith
at_most_8 ty.Tuple t = omega arith

-- a type is bool, or no test takes it for bool
bool_or_not : (y : Ty) → (y ≡ ty.Bool) ⊎ ((is_bool y ≡ false) × (is_truth y ≡ false))
bool_or_not ty.Bool = inl refl
bool_or_not ty.Int8 = inr (refl, refl)
bool_or_not ty.Uint8 = inr (refl, refl)
bool_or_not ty.Int16 = inr (refl, refl)
bool_or_not ty.Uint16 = inr (refl, refl)
bool_or_not ty.Int32 = inr (refl, refl)
bool_or_not ty.Uint32 = inr (refl, refl)
bool_or_not ty.Int64 = inr (refl, refl)
bool_or_not ty.Uint64 = inr (refl, refl)
bool_or_not ty.Int = inr (refl, refl)
bool_or_not ty.Uint = inr (refl, refl)
bool_or_not ty.Uintptr = inr (refl, refl)
bool_or_not ty.Ptr = inr (refl, refl)
bool_or_not ty.Mem = inr (refl, refl)
bool_or_not ty.Void = inr (refl, refl)
bool_or_not ty.Tuple = inr (refl, refl)

-- the size that a condition says
pub size_is : (y : Ty) (t : Target) (w : ℕ) → w ≤ 8 → is_met (size_of_ty y t % 2 ^ 64 == w % 2 ^ 64) ≡ true → size_of_ty y t ≡ w
size_is y t w h d = same_size (size_of_ty y t) w (at_most_8 y t) h d

pub bool_is : (y : Ty) → is_met (is_bool y) ≡ true → y ≡ ty.Bool
bool_is y d =
    elim (bool_or_not y) [
      | inl e ↦ e
      | inr c ↦ no (subst (λ (b : Bool). is_met b ≡ true) c.0 d)
    ]

pub bool_size : (y : Ty) (t : Target) → is_met (is_bool y) ≡ true → size_of_ty y t ≡ 1
bool_size y t d = ap (λ (z : Ty). size_of_ty z t) (bool_is y d)

pub bool_stored : (y : Ty) (n : ℕ) → is_met (is_bool y) ≡ true → (if is_truth y then n % 2 else n) ≡ n % 2
bool_stored y n d = ap (λ (z : Ty). if is_truth z then n % 2 else n) (bool_is y d)

-- the conditions that the type is not bool and has a size
abbrev pub plain_of_size : Bool → Ty → Target → ℕ → Bool
plain_of_size b y t w = if is_true (Some (truth (word (truth b) == word (pos 0)))) then is_met (size_of_ty y t % 2 ^ 64 == w % 2 ^ 64) else false

pub plain_size : (y : Ty) (t : Target) (w : ℕ) → w ≤ 8 → plain_of_size (is_bool y) y t w ≡ true → size_of_ty y t ≡ w
plain_size y t w h d =
    elim (bool_or_not y) [
      | inl e ↦ no (subst (λ (z : Ty). plain_of_size (is_bool z) y t w ≡ true) e d)
      | inr c ↦ size_is y t w h (subst (λ (b : Bool). plain_of_size b y t w ≡ true) c.0 d)
    ]

pub plain_stored : (y : Ty) (t : Target) (w n : ℕ) → plain_of_size (is_bool y) y t w ≡ true → (if is_truth y then n % 2 else n) ≡ n
plain_stored y t w n d =
    elim (bool_or_not y) [
      | inl e ↦ no (subst (λ (z : Ty). plain_of_size (is_bool z) y t w ≡ true) e d)
      | inr c ↦ ap (λ (b : Bool). if b then n % 2 else n) c.1
    ]

-- of a bool one bit is loaded, and that is all it has
pub loaded_bits : (y : Ty) (t : Target) (m : ℕ) → m % 2 ^ width_of y t ≡ (if is_truth y then m % 2 else m) % 2 ^ width_of y t
loaded_bits y t m =
    elim (bool_or_not y) [
      | inl e ↦ subst (λ (z : Ty). m % 2 ^ width_of z t ≡ (if is_truth z then m % 2 else m) % 2 ^ width_of z t) (sym e) (sym (mod-mod m 2))
      | inr c ↦ ap (λ (b : Bool). (if b then m % 2 else m) % 2 ^ width_of y t) (sym c.1)
    ]

-- the number of the bytes at an address, as a load reads it
abbrev pub bytes_at : List ℕ → ℕ → ℕ → ℕ
bytes_at d w b = unwrap_or (number_at d w b) 0

-- ---- one address for another
pub at_address : (k p : ℕ) (i : ℤ) → i ≡ pos 0 → (p + residue k i) % 2 ^ k ≡ (p + residue k (pos 0)) % 2 ^ k
at_address k p i e = ap (λ (z : ℤ). (p + residue k z) % 2 ^ k) e

near_address : (k p b c y : ℕ) → y % 2 ^ k ≡ (p % 2 ^ k + c) % 2 ^ k % 2 ^ k → (y + b) % 2 ^ k ≡ (p + (b + c) % 2 ^ k) % 2 ^ k
near_address k p b c y e =
    let a : p % 2 ^ k + c + b ≡ p % 2 ^ k + (b + c) = omega arith in
    sym (mod-add-mod y (2 ^ k) b) ∙
    (ap (λ i. (i + b) % 2 ^ k) (e ∙ mod-mod (p % 2 ^ k + c) (2 ^ k)) ∙
    (mod-add-mod (p % 2 ^ k + c) (2 ^ k) b ∙
    (ap (λ i. i % 2 ^ k) a ∙ (mod-add-mod p (2 ^ k) (b + c) ∙ sym (add-mod-mod p (b + c) (2 ^ k))))))

wrapped_sum : (k : ℕ) (o c : ℤ) → k ≤ 64 → residue k (wrap (word o + word c)) ≡ (residue k o + residue k c) % 2 ^ k
wrapped_sum k o c h =
    residue-signed k 64 (word o + word c) h ∙
    (sym (mod-add-mod (word o) (2 ^ k) (word c)) ∙
    (sym (add-mod-mod (word o % 2 ^ k) (word c) (2 ^ k)) ∙ rw (residue-low k 64 o h, residue-low k 64 c h) refl))

-- the offsets of two places, added
pub sum_address : (k p y : ℕ) (o c : ℤ) → k ≤ 64 → y % 2 ^ k ≡ (p % 2 ^ k + residue k c) % 2 ^ k % 2 ^ k →
    (y + residue k o) % 2 ^ k ≡ (p + residue k (wrap (word o + word c))) % 2 ^ k
sum_address k p y o c h e = near_address k p (residue k o) (residue k c) y e ∙ ap (λ i. (p + i) % 2 ^ k) (sym (wrapped_sum k o c h))

-- ---- the same access
abbrev pub fault_of : List ℕ → ℕ → ℕ → Option Outcome
fault_of d z b = if is_within data_base d z b then None else Some (wild b)

pub same_fault : (d : List ℕ) (z z' b b' : ℕ) → z ≡ z' → b ≡ b' → fault_of d z b ≡ fault_of d z' b'
same_fault d z z' b b' e f = ap (λ i. fault_of d i b) e ∙ ap (λ i. fault_of d z' i) f

pub same_store : (a : Activation) (w : World) (z z' b b' n n' : ℕ) → z ≡ z' → b ≡ b' → n ≡ n' →
    Some (with_window {A = Activation} (with_number w.window z b n) b a w) ≡ Some (with_window {A = Activation} (with_number w.window z' b' n') b' a w)
same_store a w z z' b b' n n' e f g =
    ap (λ i. Some (with_window {A = Activation} (with_number w.window i b n) b a w)) e ∙
    (ap (λ i. Some (with_window {A = Activation} (with_number w.window z' i n) i a w)) f ∙ ap (λ i. Some (with_window {A = Activation} (with_number w.window z' b' i) b' a w)) g)
