-- The value of an op fits the width of its result.
use Rattle.std.proofs.Common.{◌≡◌, ℕ, zero, suc, ◌-◌, ◌*◌, ◌/◌, ◌%◌, ◌^◌, ◌<◌, ◌≤◌, sym, subst, arith, ℤ, Bool, true, false, ◌&&◌, ◌||◌, ◌==◌, if◌then◌else◌, Some, List, [], ◌∷◌, nat_lt, int_div, int_rem, bit_and}
use Rattle.std.proofs.lemmas.Bool.Decides.{nat_tests}
use Rattle.std.proofs.lemmas.Nat.{pow_pos, mod_below, and_le_l, or_lt, xor_lt, trailing_le, mul-lt, div_below}
use Rattle.std.proofs.Math.Nat.{mod-lt, mod-le, div-le_self, pow-suc}
use Rattle.std.proofs.Math.Pow.{pow_mono}
use Rattle.bk_num.specs.Word.{signed, residue, rotated, high_half}
use Rattle.bk_num.proofs.Signs.{residue_below}
use Rattle.bk_num.proofs.Powers.{turned_below}
use Rattle.bk_ops.specs.declared.types.Target.{Target}
use Rattle.bk_ops.specs.declared.types.Target.TheVariants as target
use Rattle.bk_ops.specs.declared.family.Family.{Family}
use Rattle.bk_ops.specs.declared.family.Family.TheVariants.{Const, ConstBool, ConstNil, Add, Sub, Mul, And, Or, Xor, Neg, Com, Div, Divu, Mod, Modu, Hmul, Hmulu, Lsh, Rsh, RshU, Eq, Neq, Less, LessU, Leq, LeqU, EqB, NeqB, AndB, OrB, Not, EqPtr, NeqPtr, IsNonNil, IsInBounds, IsSliceInBounds, SignExt, ZeroExt, Trunc, CvtBoolToUint8, Signmask, Zeromask, Ctz32, BitLen32, RotateLeft, CondSelect, AddPtr, SubPtr, OffPtr, Int64Make, Int64Hi, Int64Lo, AddHi32, SubHi32, Copy, Sp, Sb, Arm, Rv}
use Rattle.bk_ops.specs.declared.family.ArmOp.{ArmOp}
use Rattle.bk_ops.specs.declared.family.ArmOp.TheVariants as arm
use Rattle.bk_ops.specs.declared.family.RvOp.{RvOp}
use Rattle.bk_ops.specs.declared.family.RvOp.TheVariants as rv
use Rattle.bk_ops.specs.declared.table.Op.{Op}
use Rattle.bk_ops.specs.Types.{word_width}
use Rattle.bk_ops.specs.Table.{is_op, row, entry, is_width, arm_row, rv_row}
use Rattle.bk_ops.specs.Arithmetic.{as_bit, complement, quotient, quotient_unsigned, remainder, remainder_unsigned, zero_mask, over_zero}
use Rattle.bk_ops.specs.Formulas.{Formula, no_value, constant, of_one, of_two, of_three, of_four, formula, arm_formula, rv_formula}
use Rattle.bk_ops.specs.Values.{value_row, places, places_of, cut, computed, op_value, result_width, FitPlaces}
use Rattle.bk_ops.proofs.Pure.{same_places}

-- ---- a formula whose values are numbers of w bits
abbrev pub Bounded : Formula → ℕ → Type 0
Bounded no_value w = Unit {0}
Bounded (constant v) w = v < 2 ^ w
Bounded (of_one p f) w = (x : ℕ) → x < 2 ^ p → f x < 2 ^ w
Bounded (of_two p q f) w = (x y : ℕ) → x < 2 ^ p → y < 2 ^ q → f x y < 2 ^ w
Bounded (of_three p q r f) w = (x y z : ℕ) → x < 2 ^ p → y < 2 ^ q → z < 2 ^ r → f x y z < 2 ^ w
Bounded (of_four p q r s f) w = (x y z u : ℕ) → x < 2 ^ p → y < 2 ^ q → z < 2 ^ r → u < 2 ^ s → f x y z u < 2 ^ w

-- ---- the formulas
some_below : (u v m : ℕ) → u < m → Some u ≡ Some v → v < m
some_below u v m l e = let f : u ≡ v = cc in omega arith

cut_below : (w n : ℕ) → n % 2 ^ w < 2 ^ w
cut_below w n = mod-lt n (pow_pos w)

if_below : (t : Bool) (u v m : ℕ) → u < m → v < m → (if t then u else v) < m
if_below true u v m l h = l
if_below false u v m l h = h

bit_below : (t : Bool) (w : ℕ) → 1 ≤ w → as_bit t < 2 ^ w
bit_below t w h = let l : 2 ^ 1 ≤ 2 ^ w = pow_mono h in if_below t 1 0 (2 ^ w) (omega arith) (omega arith)

ones_below : (w : ℕ) → 2 ^ w - 1 < 2 ^ w
ones_below w = let p : 0 < 2 ^ w = pow_pos w in omega arith

and_below : (w x y : ℕ) → x < 2 ^ w → bit_and x y < 2 ^ w
and_below w x y l = omega (arith, and_le_l x y)

complement_below : (w x : ℕ) → complement w x < 2 ^ w
complement_below w x = let p : 0 < 2 ^ w = pow_pos w in omega arith

over_zero_below : (t : Target) (w : ℕ) → over_zero t w < 2 ^ w
over_zero_below target.Arm w = pow_pos w
over_zero_below target.Riscv64 w = ones_below w

quotient_below : (t : Target) (w x y : ℕ) → quotient t w x y < 2 ^ w
quotient_below t w x y = if_below (y == 0) (over_zero t w) (residue w (int_div (signed w x) (signed w y))) (2 ^ w) (over_zero_below t w) (residue_below w (int_div (signed w x) (signed w y)))

quotient_unsigned_below : (t : Target) (w x y : ℕ) → x < 2 ^ w → quotient_unsigned t w x y < 2 ^ w
quotient_unsigned_below t w x y l = if_below (y == 0) (over_zero t w) (x / y) (2 ^ w) (over_zero_below t w) (omega (arith, div-le_self x y))

remainder_below : (w x y : ℕ) → x < 2 ^ w → remainder w x y < 2 ^ w
remainder_below w x y l = if_below (y == 0) x (residue w (int_rem (signed w x) (signed w y))) (2 ^ w) l (residue_below w (int_rem (signed w x) (signed w y)))

remainder_unsigned_below : (w x y : ℕ) → x < 2 ^ w → remainder_unsigned x y < 2 ^ w
remainder_unsigned_below w x y l = if_below (y == 0) x (x % y) (2 ^ w) l (omega (arith, mod-le x y))

high_below : (w x y : ℕ) (t : Bool) → high_half w x y t < 2 ^ w
high_below w x y true = residue_below w _
high_below w x y false = div_below (x % 2 ^ w * (y % 2 ^ w)) (2 ^ w) (2 ^ w) (pow_pos w) (mul-lt (x % 2 ^ w) (y % 2 ^ w) (2 ^ w) (2 ^ w) (cut_below w x) (cut_below w y))

shifted_below : (w x y : ℕ) → x < 2 ^ w → x / 2 ^ y < 2 ^ w
shifted_below w x y l = omega (arith, div-le_self x (2 ^ y))

rotated_below : (w x y : ℕ) → 1 ≤ w → rotated w x y < 2 ^ w
rotated_below w x y h = turned_below w (y % w) x (mod_below y w h)

-- a count of at most w is a number of w bits
count_below : (w n : ℕ) → n ≤ w → n < 2 ^ w
count_below w n l = omega (arith, own_power w)
  where
    own_power : (k : ℕ) → k < 2 ^ k
    own_power zero = omega arith
    own_power (suc k) = let p : 2 ^ suc k ≡ 2 ^ k * 2 = pow-suc 2 k in omega (arith, own_power k)

zero_mask_below : (w x : ℕ) → zero_mask w x < 2 ^ w
zero_mask_below w x = if_below (x == 0) 0 (2 ^ w - 1) (2 ^ w) (pow_pos w) (ones_below w)

wider : (v w x : ℕ) → v ≤ w → x < 2 ^ v → x < 2 ^ w
wider v w x h l = let m : 2 ^ v ≤ 2 ^ w = pow_mono h in omega arith

-- ---- the rows
rising : (a b : ℕ) → (is_width a && is_width b && nat_lt a b) ≡ true → a ≤ b
rising a b h = grind (arith, nat_tests)

long : (a b : ℕ) → ((a == 32 || a == 64) && b == 0) ≡ true → 1 ≤ a
long a b h = grind (arith, nat_tests)

word_at_least : (t : Target) → 16 ≤ word_width t
word_at_least target.Arm = omega arith
word_at_least target.Riscv64 = omega arith

arm_bounded : (m : ArmOp) (w : ℕ) (n : ℤ) (t : Target) → 16 ≤ w → Bounded (arm_formula m w n t) w
unfolding arm_formula
arm_bounded arm.Const w n t g = residue_below w n
arm_bounded arm.Addr w n t g = tt
arm_bounded arm.Add w n t g = λ x y l m. cut_below w _
arm_bounded arm.Sub w n t g = λ x y l m. cut_below w _
arm_bounded arm.Mul w n t g = λ x y l m. cut_below w _
arm_bounded arm.And w n t g = λ x y l m. and_below w x _ l
arm_bounded arm.Orr w n t g = λ x y l m. or_lt w x y l m
arm_bounded arm.Eor w n t g = λ x y l m. xor_lt w x y l m
arm_bounded arm.Smulh w n t g = λ x y l m. high_below w x y true
arm_bounded arm.Umulh w n t g = λ x y l m. high_below w x y false
arm_bounded arm.Sdiv w n t g = λ x y l m. quotient_below t w x y
arm_bounded arm.Udiv w n t g = λ x y l m. quotient_unsigned_below t w x y l
arm_bounded arm.Smod w n t g = λ x y l m. remainder_below w x y l
arm_bounded arm.Umod w n t g = λ x y l m. remainder_unsigned_below w x y l
arm_bounded arm.Lsl w n t g = λ x y l m. cut_below w _
arm_bounded arm.Lsr w n t g = λ x y l m. shifted_below w x y l
arm_bounded arm.Asr w n t g = λ x y l m. residue_below w _
arm_bounded arm.SetEq w n t g = λ x y l m. bit_below _ w (omega arith)
arm_bounded arm.SetNe w n t g = λ x y l m. bit_below _ w (omega arith)
arm_bounded arm.SetLt w n t g = λ x y l m. bit_below _ w (omega arith)
arm_bounded arm.SetLe w n t g = λ x y l m. bit_below _ w (omega arith)
arm_bounded arm.SetLo w n t g = λ x y l m. bit_below _ w (omega arith)
arm_bounded arm.SetLs w n t g = λ x y l m. bit_below _ w (omega arith)
arm_bounded arm.Rotl w n t g = λ x y l m. rotated_below w x y (omega arith)
arm_bounded arm.Rsb0 w n t g = λ x l. cut_below w _
arm_bounded arm.Mvn w n t g = λ x l. complement_below w x
arm_bounded arm.Sxtb w n t g = λ x l. residue_below w _
arm_bounded arm.Sxth w n t g = λ x l. residue_below w _
arm_bounded arm.Uxtb w n t g = λ x l. wider 8 w x (omega arith) l
arm_bounded arm.Uxth w n t g = λ x l. wider 16 w x (omega arith) l
arm_bounded arm.Zmask w n t g = λ x l. zero_mask_below w x
arm_bounded arm.Ctz w n t g = λ x l. count_below w _ (trailing_le w x)
arm_bounded arm.Blen w n t g = λ x l. count_below w _ (omega arith)
arm_bounded arm.Sel w n t g = λ x y c l m k. if_below (c == 0) y x (2 ^ w) m l
arm_bounded arm.AddHi w n t g = λ x y c d l m k h. cut_below w _
arm_bounded arm.SubHi w n t g = λ x y c d l m k h. cut_below w _
arm_bounded arm.Addi w n t g = λ x l. cut_below w _
arm_bounded arm.Subi w n t g = λ x l. cut_below w _
arm_bounded arm.Andi w n t g = λ x l. and_below w x _ l
arm_bounded arm.Eori w n t g = λ x l. xor_lt w x (residue w n) l (residue_below w n)
arm_bounded arm.Lsli w n t g = λ x l. cut_below w _
arm_bounded arm.Lsri w n t g = λ x l. shifted_below w x (residue 64 n) l
arm_bounded arm.Asri w n t g = λ x l. residue_below w _
arm_bounded arm.Load w n t g = tt
arm_bounded arm.Store w n t g = tt
arm_bounded arm.StoreB w n t g = tt
arm_bounded arm.Zero w n t g = tt
arm_bounded arm.Move w n t g = tt
arm_bounded arm.Nil w n t g = tt

rv_bounded : (m : RvOp) (w : ℕ) (n : ℤ) (t : Target) → 16 ≤ w → Bounded (rv_formula m w n t) w
unfolding rv_formula
rv_bounded rv.Const w n t g = residue_below w n
rv_bounded rv.Addr w n t g = tt
rv_bounded rv.Add w n t g = λ x y l m. cut_below w _
rv_bounded rv.Sub w n t g = λ x y l m. cut_below w _
rv_bounded rv.Mul w n t g = λ x y l m. cut_below w _
rv_bounded rv.And w n t g = λ x y l m. and_below w x _ l
rv_bounded rv.Or w n t g = λ x y l m. or_lt w x y l m
rv_bounded rv.Xor w n t g = λ x y l m. xor_lt w x y l m
rv_bounded rv.Mulh w n t g = λ x y l m. high_below w x y true
rv_bounded rv.Mulhu w n t g = λ x y l m. high_below w x y false
rv_bounded rv.Div w n t g = λ x y l m. quotient_below t w x y
rv_bounded rv.Divu w n t g = λ x y l m. quotient_unsigned_below t w x y l
rv_bounded rv.Rem w n t g = λ x y l m. remainder_below w x y l
rv_bounded rv.Remu w n t g = λ x y l m. remainder_unsigned_below w x y l
rv_bounded rv.Slt w n t g = λ x y l m. bit_below _ w (omega arith)
rv_bounded rv.Sltu w n t g = λ x y l m. bit_below _ w (omega arith)
rv_bounded rv.Lsl w n t g = λ x y l m. cut_below w _
rv_bounded rv.Lsr w n t g = λ x y l m. shifted_below w x y l
rv_bounded rv.Asr w n t g = λ x y l m. residue_below w _
rv_bounded rv.Rotl w n t g = λ x y l m. rotated_below w x y (omega arith)
rv_bounded rv.Neg w n t g = λ x l. cut_below w _
rv_bounded rv.Seqz w n t g = λ x l. bit_below _ w (omega arith)
rv_bounded rv.Snez w n t g = λ x l. bit_below _ w (omega arith)
rv_bounded rv.Sel w n t g = λ x y c l m k. if_below (c == 0) y x (2 ^ w) m l
rv_bounded rv.Addi w n t g = λ x l. cut_below w _
rv_bounded rv.Andi w n t g = λ x l. and_below w x _ l
rv_bounded rv.Ori w n t g = λ x l. or_lt w x (residue w n) l (residue_below w n)
rv_bounded rv.Xori w n t g = λ x l. xor_lt w x (residue w n) l (residue_below w n)
rv_bounded rv.Slli w n t g = λ x l. cut_below w _
rv_bounded rv.Srli w n t g = λ x l. shifted_below w x (residue 64 n) l
rv_bounded rv.Srai w n t g = λ x l. residue_below w _
rv_bounded rv.Load w n t g = tt
rv_bounded rv.Store w n t g = tt
rv_bounded rv.StoreB w n t g = tt
rv_bounded rv.Zero w n t g = tt
rv_bounded rv.Move w n t g = tt
rv_bounded rv.Nil w n t g = tt

-- a machine op that has a value gives a word
arm_words : (m : ArmOp) (w : ℕ) (n : ℤ) (t : Target) → Bounded (arm_formula m w n t) (word_width t) → Bounded (arm_formula m w n t) (result_width (arm_row m).info.result t)
unfolding arm_formula arm_row entry
arm_words arm.Load w n t b = tt
arm_words arm.Store w n t b = tt
arm_words arm.StoreB w n t b = tt
arm_words arm.Zero w n t b = tt
arm_words arm.Move w n t b = tt
arm_words arm.Nil w n t b = tt
arm_words _ w n t b = b

rv_words : (m : RvOp) (w : ℕ) (n : ℤ) (t : Target) → Bounded (rv_formula m w n t) (word_width t) → Bounded (rv_formula m w n t) (result_width (rv_row m).info.result t)
unfolding rv_formula rv_row entry
rv_words rv.Load w n t b = tt
rv_words rv.Store w n t b = tt
rv_words rv.StoreB w n t b = tt
rv_words rv.Zero w n t b = tt
rv_words rv.Move w n t b = tt
rv_words rv.Nil w n t b = tt
rv_words _ w n t b = b

bounded : (f : Family) (a b : ℕ) (n : ℤ) (t : Target) → is_op f a b ≡ true → Bounded (formula f a b n t) (result_width (row f a b).info.result t)
unfolding is_op row entry formula
bounded Const a b n t g = residue_below a n
bounded ConstBool a b n t g = residue_below 1 n
bounded ConstNil a b n t g = pow_pos (word_width t)
bounded Add a b n t g = λ x y l m. cut_below a _
bounded Sub a b n t g = λ x y l m. cut_below a _
bounded Mul a b n t g = λ x y l m. cut_below a _
bounded And a b n t g = λ x y l m. and_below a x _ l
bounded Or a b n t g = λ x y l m. or_lt a x y l m
bounded Xor a b n t g = λ x y l m. xor_lt a x y l m
bounded Neg a b n t g = λ x l. cut_below a _
bounded Com a b n t g = λ x l. complement_below a x
bounded Div a b n t g = λ x y l m. quotient_below t a x y
bounded Divu a b n t g = λ x y l m. quotient_unsigned_below t a x y l
bounded Mod a b n t g = λ x y l m. remainder_below a x y l
bounded Modu a b n t g = λ x y l m. remainder_unsigned_below a x y l
bounded Hmul a b n t g = λ x y l m. high_below a x y true
bounded Hmulu a b n t g = λ x y l m. high_below a x y false
bounded Lsh a b n t g = λ x y l m. cut_below a _
bounded Rsh a b n t g = λ x y l m. residue_below a _
bounded RshU a b n t g = λ x y l m. shifted_below a x y l
bounded Eq a b n t g = λ x y l m. bit_below _ 1 (omega arith)
bounded Neq a b n t g = λ x y l m. bit_below _ 1 (omega arith)
bounded Less a b n t g = λ x y l m. bit_below _ 1 (omega arith)
bounded LessU a b n t g = λ x y l m. bit_below _ 1 (omega arith)
bounded Leq a b n t g = λ x y l m. bit_below _ 1 (omega arith)
bounded LeqU a b n t g = λ x y l m. bit_below _ 1 (omega arith)
bounded EqB a b n t g = λ x y l m. bit_below _ 1 (omega arith)
bounded NeqB a b n t g = λ x y l m. bit_below _ 1 (omega arith)
bounded AndB a b n t g = λ x y l m. and_below 1 x _ l
bounded OrB a b n t g = λ x y l m. or_lt 1 x y l m
bounded Not a b n t g = λ x l. omega arith
bounded EqPtr a b n t g = λ x y l m. bit_below _ 1 (omega arith)
bounded NeqPtr a b n t g = λ x y l m. bit_below _ 1 (omega arith)
bounded IsNonNil a b n t g = λ x l. bit_below _ 1 (omega arith)
bounded IsInBounds a b n t g = λ x y l m. bit_below _ 1 (omega arith)
bounded IsSliceInBounds a b n t g = λ x y l m. bit_below _ 1 (omega arith)
bounded SignExt a b n t g = λ x l. residue_below b _
bounded ZeroExt a b n t g = λ x l. wider a b x (rising a b g) l
bounded Trunc a b n t g = λ x l. cut_below b _
bounded CvtBoolToUint8 a b n t g = λ x l. omega arith
bounded Signmask a b n t g = λ x l. if_below _ 0 (2 ^ 32 - 1) (2 ^ 32) (omega arith) (omega arith)
bounded Zeromask a b n t g = λ x l. zero_mask_below 32 x
bounded Ctz32 a b n t g = λ x l. count_below 32 _ (trailing_le 32 x)
bounded BitLen32 a b n t g = λ x l. count_below 32 _ (omega arith)
bounded RotateLeft a b n t g = λ x y l m. rotated_below a x y (long a b g)
bounded CondSelect a b n t g = λ x y c l m k. if_below (c == 0) y x (2 ^ 64) m l
bounded AddPtr a b n t g = λ x y l m. cut_below (word_width t) _
bounded SubPtr a b n t g = λ x y l m. cut_below (word_width t) _
bounded OffPtr a b n t g = λ x l. cut_below (word_width t) _
bounded Int64Make a b n t g = λ x y l m. omega arith
bounded Int64Hi a b n t g = λ x l. omega arith
bounded Int64Lo a b n t g = λ x l. cut_below 32 _
bounded AddHi32 a b n t g = λ x y c d l m k h. cut_below 32 _
bounded SubHi32 a b n t g = λ x y c d l m k h. cut_below 32 _
bounded Copy a b n t g = λ x l. l
bounded Sp a b n t g = pow_pos (word_width t)
bounded Sb a b n t g = pow_pos (word_width t)
bounded (Arm m) a b n t g = arm_words m (word_width t) n t (arm_bounded m (word_width t) n t (word_at_least t))
bounded (Rv m) a b n t g = rv_words m (word_width t) n t (rv_bounded m (word_width t) n t (word_at_least t))
bounded _ a b n t g = tt

-- ---- the values
-- arguments below 2 to the widths of their places give a value of w bits
pub computed_below : (g : Formula) (w : ℕ) (xs : List ℕ) (v : ℕ) → Bounded g w → FitPlaces (places_of g) xs → computed g xs ≡ Some v → v < 2 ^ w
computed_below no_value w xs v b f e = cc
computed_below (constant u) w [] v b f e = some_below u v (2 ^ w) b e
computed_below (constant u) w (x ∷ xs) v b f e = cc
computed_below (of_one p h) w [] v b f e = cc
computed_below (of_one p h) w (x ∷ []) v b (l, _) e = some_below (h x) v (2 ^ w) (b x l) e
computed_below (of_one p h) w (x ∷ y ∷ xs) v b f e = cc
computed_below (of_two p q h) w [] v b f e = cc
computed_below (of_two p q h) w (x ∷ []) v b f e = cc
computed_below (of_two p q h) w (x ∷ y ∷ []) v b (l, (m, _)) e = some_below (h x y) v (2 ^ w) (b x y l m) e
computed_below (of_two p q h) w (x ∷ y ∷ z ∷ xs) v b f e = cc
computed_below (of_three p q r h) w [] v b f e = cc
computed_below (of_three p q r h) w (x ∷ []) v b f e = cc
computed_below (of_three p q r h) w (x ∷ y ∷ []) v b f e = cc
computed_below (of_three p q r h) w (x ∷ y ∷ z ∷ []) v b (l, (m, (k, _))) e = some_below (h x y z) v (2 ^ w) (b x y z l m k) e
computed_below (of_three p q r h) w (x ∷ y ∷ z ∷ u ∷ xs) v b f e = cc
computed_below (of_four p q r s h) w [] v b f e = cc
computed_below (of_four p q r s h) w (x ∷ []) v b f e = cc
computed_below (of_four p q r s h) w (x ∷ y ∷ []) v b f e = cc
computed_below (of_four p q r s h) w (x ∷ y ∷ z ∷ []) v b f e = cc
computed_below (of_four p q r s h) w (x ∷ y ∷ z ∷ u ∷ []) v b (l, (m, (k, (j, _)))) e = some_below (h x y z u) v (2 ^ w) (b x y z u l m k j) e
computed_below (of_four p q r s h) w (x ∷ y ∷ z ∷ u ∷ o ∷ xs) v b f e = cc

-- cut arguments fit their places
pub FitPlaces-cut : (ws xs : List ℕ) → FitPlaces ws (cut ws xs)
FitPlaces-cut [] xs = tt
FitPlaces-cut (w ∷ ws) [] = tt
FitPlaces-cut (w ∷ ws) (x ∷ xs) = (cut_below w x, FitPlaces-cut ws xs)

-- the value of an op is a number of its result's width
pub row_below : (f : Family) (a b : ℕ) (n : ℤ) (t : Target) (xs : List ℕ) (v : ℕ) → is_op f a b ≡ true → FitPlaces (places f a b t) xs →
    value_row f a b n t xs ≡ Some v → v < 2 ^ result_width (row f a b).info.result t
row_below f a b n t xs v h k e =
    let P : List ℕ → Type 0 = λ ws. FitPlaces ws xs in
    computed_below (formula f a b n t) (result_width (row f a b).info.result t) xs v (bounded f a b n t h) (subst P (sym (same_places f a b n t)) k) e

pub op_value_below : (o : Op) (n : ℤ) (xs : List ℕ) (t : Target) (v : ℕ) → is_op o.family o.a o.b ≡ true →
    op_value o n xs t ≡ Some v → v < 2 ^ result_width (row o.family o.a o.b).info.result t
op_value_below o n xs t v h e =
    computed_below (formula o.family o.a o.b n t) (result_width (row o.family o.a o.b).info.result t) (cut (places_of (formula o.family o.a o.b n t)) xs) v
    (bounded o.family o.a o.b n t h) (FitPlaces-cut (places_of (formula o.family o.a o.b n t)) xs) e
