-- The values of ops.
use Rattle.std.specs.Prelude.{ℕ, ◌<◌, ◌≤◌, ℤ, pos, List, [], ◌∷◌, ◌%◌, ◌^◌, Bool, true, false, ◌&&◌, ◌==◌, not, if◌then◌else◌, Option, Some, None}
use Rattle.bk_ops.specs.declared.types.Target.{Target}
use Rattle.bk_ops.specs.declared.family.Family.{Family}
use Rattle.bk_ops.specs.declared.family.Family.TheVariants.{Phi, Arg, Addr, SelectN, ArgWord, ArgReg, ResWord, ResReg, Arm, Rv}
use Rattle.bk_ops.specs.declared.family.ArmOp.TheVariants as arm
use Rattle.bk_ops.specs.declared.family.RvOp.TheVariants as rv
use Rattle.bk_ops.specs.declared.table.Op.{Op}
use Rattle.bk_ops.specs.declared.table.Class.{Class}
use Rattle.bk_ops.specs.declared.table.Class.TheVariants.{Number, Word, Bool as Truth, Mem, Void, Tuple, ByType}
use Rattle.bk_ops.specs.Types.{word_width}
use Rattle.bk_ops.specs.Table.{is_op, info_of}
use Rattle.bk_ops.specs.Formulas.{Formula, no_value, constant, of_one, of_two, of_three, of_four, formula, any_width}

-- the widths of a formula's places
abbrev pub places_of : Formula → List ℕ
places_of no_value = []
places_of (constant v) = []
places_of (of_one p f) = p ∷ []
places_of (of_two p q f) = p ∷ q ∷ []
places_of (of_three p q r f) = p ∷ q ∷ r ∷ []
places_of (of_four p q r s f) = p ∷ q ∷ r ∷ s ∷ []

-- a formula's value, if there are as many arguments as places
abbrev pub on_none : List ℕ → ℕ → Option ℕ
on_none [] v = Some v
on_none (x ∷ xs) v = None

abbrev pub on_one : List ℕ → (ℕ → ℕ) → Option ℕ
on_one (x ∷ []) f = Some (f x)
on_one [] f = None
on_one (x ∷ y ∷ xs) f = None

abbrev pub on_two : List ℕ → (ℕ → ℕ → ℕ) → Option ℕ
on_two (x ∷ xs) f = on_one xs (f x)
on_two [] f = None

abbrev pub on_three : List ℕ → (ℕ → ℕ → ℕ → ℕ) → Option ℕ
on_three (x ∷ xs) f = on_two xs (f x)
on_three [] f = None

abbrev pub on_four : List ℕ → (ℕ → ℕ → ℕ → ℕ → ℕ) → Option ℕ
on_four (x ∷ xs) f = on_three xs (f x)
on_four [] f = None

abbrev pub computed : Formula → List ℕ → Option ℕ
computed no_value xs = None
computed (constant v) xs = on_none xs v
computed (of_one p f) xs = on_one xs f
computed (of_two p q f) xs = on_two xs f
computed (of_three p q r f) xs = on_three xs f
computed (of_four p q r s f) xs = on_four xs f

-- the value of an op at arguments that fit their places
abbrev pub value_row : Family → ℕ → ℕ → ℤ → Target → List ℕ → Option ℕ
value_row f a b n t xs = computed (formula f a b n t) xs

-- the widths of an op's places
abbrev pub places : Family → ℕ → ℕ → Target → List ℕ
places f a b t = places_of (formula f a b (pos 0) t)

-- each argument modulo 2 to the width of its place
abbrev pub cut : List ℕ → List ℕ → List ℕ
cut [] xs = xs
cut (w ∷ ws) [] = []
cut (w ∷ ws) (x ∷ xs) = x % 2 ^ w ∷ cut ws xs

-- each argument is below 2 to the width of its place
abbrev pub FitPlaces : List ℕ → List ℕ → Type 0
FitPlaces [] xs = Unit {0}
FitPlaces (w ∷ ws) [] = Unit {0}
FitPlaces (w ∷ ws) (x ∷ xs) = (x < 2 ^ w) × FitPlaces ws xs

-- a formula's value at any arguments
abbrev pub valued : Formula → List ℕ → Option ℕ
valued g xs = computed g (cut (places_of g) xs)

-- the value of an op at any arguments, whatever the widths in its name
abbrev pub op_value : Op → ℤ → List ℕ → Target → Option ℕ
op_value o n xs t = valued (formula o.family o.a o.b n t) xs

-- the widths in an op's name are at most 64 bits, and none is 0
abbrev pub IsSized : Op → Type 0
IsSized o = (1 ≤ o.a) × (o.a ≤ 64) × (1 ≤ o.b) × (o.b ≤ 64)

-- a width, or 1 where a name has none
abbrev pub at_least_one : ℕ → ℕ
at_least_one a = if a == 0 then 1 else a

-- the value of a pure op at as many arguments as it takes
unfoldable pub pure_value : Op → ℤ → List ℕ → Target → Option ℕ
pure_value o n xs t = if is_op o.family o.a o.b then op_value o n xs t else None

-- the value comes from an edge, the caller, a callee or the addresses of an object
abbrev pub is_given : Family → Bool
is_given Phi = true
is_given Arg = true
is_given Addr = true
is_given SelectN = true
is_given ArgWord = true
is_given ArgReg = true
is_given ResWord = true
is_given ResReg = true
is_given (Arm arm.Addr) = true
is_given (Rv rv.Addr) = true
is_given _ = false

-- the op's arguments alone determine its value: it neither takes nor gives memory, and its value is not given otherwise
unfoldable pub is_pure : Op → Bool
is_pure o = is_op o.family o.a o.b && not (info_of o).memory && not (is_given o.family)

-- the width of a result; one that the value's type says has at most 64 bits
abbrev pub result_width : Class → Target → ℕ
result_width (Number w) t = w
result_width Word t = word_width t
result_width Truth t = 1
result_width Mem t = 0
result_width Void t = 0
result_width Tuple t = 0
result_width ByType t = any_width
