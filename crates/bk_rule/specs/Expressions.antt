-- The values of expressions: numbers of 64 bits in two's complement.
use Rattle.std.specs.Prelude.{ℕ, zero, suc, ◌+◌, ◌-◌, ◌*◌, ◌^◌, min, List, [], ◌∷◌, Option, Some, None, ℤ, pos, negsuc, Bool, true, false, ◌||◌, nat_lt, nat_le, int_lt, int_le, ◌==◌, not, if◌then◌else◌, bit_and, bit_or, bit_xor}
use Rattle.std.specs.Int.{int_div_euclid}
use Rattle.bk_num.specs.Word.{signed, residue, rotated, fits_signed}
use Rattle.bk_ops.specs.declared.types.Target.{Target}
use Rattle.bk_ops.specs.declared.types.Ty.{Ty}
use Rattle.bk_ops.specs.declared.types.Ty.TheVariants as ty
use Rattle.bk_ops.specs.Types.{size_of_ty}
use Rattle.bk_rule.specs.declared.trees.Fun.{Fun}
use Rattle.bk_rule.specs.declared.trees.Fun.TheVariants.{Neg, Com, Mul, Shl, Shr, And, Add, Sub, Or, Xor, Eq, Ne, Lt, Le, IsPowerOfTwo, Log2, Ult, Ule, Zext8, Zext16, Zext32, Is12, ArmImm, Size, IsBool, Uses}
use Rattle.bk_rule.specs.declared.trees.Expr.{Expr, Row_of-Expr, end_of-Expr, more_of-Expr}
use Rattle.bk_rule.specs.declared.trees.Expr as expr

-- What the variables of a rule stand for, each by its number: a value, an AuxInt, a type, a symbol, an argument's place;
-- and how many argument places and controls name a value. What says no kind is not read.
pub record Env : Type 0 where
  pub value : ℕ → ℕ
  pub int : ℕ → ℤ
  pub ty : ℕ → Ty
  pub symbol : ℕ → ℕ
  pub place : ℕ → ℕ
  pub uses : ℕ → ℕ

-- ---- numbers
-- the 64 bits of z as a number without a sign
abbrev pub word : ℤ → ℕ
word z = residue 64 z

-- the number that the low 64 bits of n spell
abbrev pub wrap : ℕ → ℤ
wrap n = signed 64 n

abbrev pub truth : Bool → ℤ
truth t = if t then pos 1 else pos 0

-- a left shift by 64 or more leaves 0, as one by 64 does
abbrev pub up_by : ℤ → ℕ
up_by z = 2 ^ min (word z) 64

-- a right shift by 63 or more leaves the sign
abbrev pub down_by : ℤ → ℕ
down_by z = 2 ^ min (word z) 63

-- the place of the bit in n, if n is one of 2 ^ 0 to 2 ^ (k - 1)
abbrev pub log2_below : ℕ → ℕ → Option ℤ
log2_below zero n = None
log2_below (suc k) n = if n == 2 ^ k then Some (pos k) else log2_below k n

-- the exponent of a power of two above 0
unfoldable pub log2_of : ℤ → Option ℤ
log2_of (pos n) = log2_below 63 n
log2_of (negsuc n) = None

abbrev pub is_some : Option ℤ → Bool
is_some None = false
is_some (Some z) = true

-- n of 32 bits is a byte rotated right by an even number below 2 * k
abbrev pub rotated_byte : ℕ → ℕ → Bool
rotated_byte zero n = false
rotated_byte (suc k) n = nat_lt (rotated 32 n (2 * k)) 256 || rotated_byte k n

unfoldable pub arm_immediate : ℕ → Bool
arm_immediate n = rotated_byte 16 n

-- ---- operators and functions
-- of one operand
abbrev pub unary : Fun → ℤ → Option ℤ
unary Neg x = Some (wrap (2 ^ 64 - word x))
unary Com x = Some (wrap (2 ^ 64 - 1 - word x))
unary IsPowerOfTwo x = Some (truth (is_some (log2_of x)))
unary Log2 x = log2_of x
unary Zext8 x = Some (pos (residue 8 x))
unary Zext16 x = Some (pos (residue 16 x))
unary Zext32 x = Some (pos (residue 32 x))
unary Is12 x = Some (truth (fits_signed 12 x))
unary ArmImm x = Some (truth (arm_immediate (residue 32 x)))
unary _ x = None

-- of two operands
abbrev pub binary : Fun → ℤ → ℤ → Option ℤ
binary Mul x y = Some (wrap (word x * word y))
binary Shl x y = Some (wrap (word x * up_by y))
binary Shr x y = Some (int_div_euclid x (pos (down_by y)))
binary And x y = Some (wrap (bit_and (word x) (word y)))
binary Add x y = Some (wrap (word x + word y))
binary Sub x y = Some (wrap (word x + (2 ^ 64 - word y)))
binary Or x y = Some (wrap (bit_or (word x) (word y)))
binary Xor x y = Some (wrap (bit_xor (word x) (word y)))
binary Eq x y = Some (truth (word x == word y))
binary Ne x y = Some (truth (not (word x == word y)))
binary Lt x y = Some (truth (int_lt x y))
binary Le x y = Some (truth (int_le x y))
binary Ult x y = Some (truth (nat_lt (word x) (word y)))
binary Ule x y = Some (truth (nat_le (word x) (word y)))
binary _ x y = None

abbrev pub is_bool : Ty → Bool
is_bool ty.Bool = true
is_bool _ = false

-- of what a variable stands for
abbrev pub of_variable : Target → Env → Fun → ℕ → Option ℤ
of_variable t e Size i = Some (pos (size_of_ty (e.ty i) t))
of_variable t e IsBool i = Some (truth (is_bool (e.ty i)))
of_variable t e Uses i = Some (wrap (e.uses i))
of_variable t e _ i = None

-- the function is of what a variable stands for
abbrev pub asks : Fun → Bool
asks Size = true
asks IsBool = true
asks Uses = true
asks _ = false

abbrev pub on_one : Option ℤ → (ℤ → Option ℤ) → Option ℤ
on_one None f = None
on_one (Some x) f = f x

abbrev pub on_two : Option ℤ → Option ℤ → (ℤ → ℤ → Option ℤ) → Option ℤ
on_two None y f = None
on_two (Some x) y f = on_one y (f x)

-- an operand: the variable that it is, and its value
abbrev pub Operand : Type 0
Operand = Option ℕ × Option ℤ

abbrev pub at_variable : Option ℕ → (ℕ → Option ℤ) → Option ℤ
at_variable None f = None
at_variable (Some i) f = f i

-- a function at its operands; none has no operand or more than two
abbrev pub applied : Target → Env → Fun → List Operand → Option ℤ
applied t e f [] = None
applied t e f (x ∷ []) = if asks f then at_variable x.0 (of_variable t e f) else on_one x.1 (unary f)
applied t e f (x ∷ y ∷ []) = on_two x.1 y.1 (binary f)
applied t e f (x ∷ y ∷ z ∷ zs) = None

abbrev pub variable_of : Expr → Option ℕ
variable_of (expr.Number k) = None
variable_of (expr.Var i) = Some i
variable_of (expr.Call' f shape row) = None

abbrev mutual
  -- the value of an expression, None where it has none
  pub expr_value : Target → Env → Expr → Option ℤ
  expr_value t e (expr.Number k) = Some k
  expr_value t e (expr.Var i) = Some (e.int i)
  expr_value t e (expr.Call' f shape row) = applied t e f (operands t e row)

  pub operands : Target → Env → {m : _} → Row_of-Expr m → List Operand
  operands t e end_of-Expr = []
  operands t e (more_of-Expr x xs) = (variable_of x, expr_value t e x) ∷ operands t e xs

-- ---- conditions
-- the condition has a value other than 0
abbrev pub is_true : Option ℤ → Bool
is_true None = false
is_true (Some z) = not (word z == 0)

-- each condition holds
abbrev pub hold_each : Target → Env → List Expr → Bool
hold_each t e [] = true
hold_each t e (x ∷ xs) = if is_true (expr_value t e x) then hold_each t e xs else false
