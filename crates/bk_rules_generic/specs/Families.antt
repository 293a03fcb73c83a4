-- The families of the generic list, each as one rule over the widths in its ops' names: w, and v where there is a second.
use Rattle.std.specs.Prelude.{ℕ, [], ◌∷◌, ℤ, pos, negsuc, ◌==◌, if◌then◌else◌}
use Rattle.bk_ops.specs.declared.family.Family.{Family}
use Rattle.bk_ops.specs.declared.family.Family.TheVariants.{Const, ConstBool, Add, Sub, Mul, And, Neg, Div, Divu, Modu, Lsh, RshU, Not, SignExt, ZeroExt, Trunc, Signmask, Zeromask, CondSelect, AddPtr, OffPtr}
use Rattle.bk_rule.specs.declared.trees.Pattern.{Pattern}
use Rattle.bk_rule.specs.declared.trees.Build.{Build}
use Rattle.bk_rule.specs.declared.trees.Expr.{Expr}
use Rattle.bk_rule.specs.declared.trees.Fun.{Fun}
use Rattle.bk_rule.specs.declared.trees.Fun.TheVariants as fun
use Rattle.bk_rule.specs.declared.trees.Rule.{Rule}
use Rattle.bk_rule.specs.Trees.{op, any, var, node, node_with, node_at, named, make, make_with, number, held, call, rule, rule_if}

-- ---- constants
-- (Constw [c]) and (Constw [k]), c a variable and k a number
abbrev pub const : ℕ → ℕ → Pattern
const w c = node_with (op Const w 0) c []

abbrev pub const_at : ℕ → ℤ → Pattern
const_at w k = node_at (op Const w 0) k []

abbrev pub make_const : ℕ → Expr → Build
make_const w e = make_with (op Const w 0) e []

-- (ConstBool [k])
abbrev pub truth_at : ℤ → Pattern
truth_at k = node_at (op ConstBool 0 0) k []

abbrev pub make_truth : Expr → Build
make_truth e = make_with (op ConstBool 0 0) e []

-- ---- arithmetic
-- (f (Const [c]) (Const [d])) => (Const [c g d])
abbrev pub fold : Family → Fun → ℕ → Rule
fold f g w = rule (node (op f w 0) (const w 0 ∷ const w 1 ∷ [])) (make_const w (call g (held 0 ∷ held 1 ∷ [])))

-- (f (Const [c])) => (Const [g c])
abbrev pub fold_one : Family → Fun → ℕ → Rule
fold_one f g w = rule (node (op f w 0) (const w 0 ∷ [])) (make_const w (call g (held 0 ∷ [])))

-- (f (Const [k]) x) => x
abbrev pub unit : Family → ℤ → ℕ → Rule
unit f k w = rule (node (op f w 0) (const_at w k ∷ var 0 ∷ [])) (named 0)

-- (f (Const [k]) _) => (Const [k])
abbrev pub absorb : Family → ℤ → ℕ → Rule
absorb f k w = rule (node (op f w 0) (const_at w k ∷ any ∷ [])) (make_const w (number k))

-- (f x x) => (Const [0])
abbrev pub cancel : Family → ℕ → Rule
cancel f w = rule (node (op f w 0) (var 0 ∷ var 0 ∷ [])) (make_const w (number (pos 0)))

-- (f x x) => x
abbrev pub same : Family → ℕ → Rule
same f w = rule (node (op f w 0) (var 0 ∷ var 0 ∷ [])) (named 0)

-- (f (f x)) => x
abbrev pub twice : Family → ℕ → Rule
twice f w = rule (node (op f w 0) (node (op f w 0) (var 0 ∷ []) ∷ [])) (named 0)

-- (f (Const [-1]) x) => (g x)
abbrev pub turn : Family → Family → ℕ → Rule
turn f g w = rule (node (op f w 0) (const_at w (negsuc 0) ∷ var 0 ∷ [])) (make (op g w 0) (named 0 ∷ []))

-- (Sub x (Const [c])) => (Add (Const [-c]) x)
abbrev pub sub_const : ℕ → Rule
sub_const w = rule (node (op Sub w 0) (var 0 ∷ const w 1 ∷ []))
    (make (op Add w 0) (make_const w (call fun.Neg (held 1 ∷ [])) ∷ named 0 ∷ []))

-- (Add (Const [c]) (Add (Const [d]) x)) => (Add (Const [c+d]) x)
abbrev pub add_twice : ℕ → Rule
add_twice w = rule (node (op Add w 0) (const w 0 ∷ node (op Add w 0) (const w 1 ∷ var 2 ∷ []) ∷ []))
    (make (op Add w 0) (make_const w (call fun.Add (held 0 ∷ held 1 ∷ [])) ∷ named 2 ∷ []))

-- (Add x (Neg y)) => (Sub x y)
abbrev pub add_neg : ℕ → Rule
add_neg w = rule (node (op Add w 0) (var 0 ∷ node (op Neg w 0) (var 1 ∷ []) ∷ [])) (make (op Sub w 0) (named 0 ∷ named 1 ∷ []))

-- (Mul (Const [c]) x) && isPowerOfTwo(c) => (Lshx32 x (Const32 [log2(c)]))
abbrev pub mul_power : ℕ → Rule
mul_power w = rule_if (node (op Mul w 0) (const w 0 ∷ var 1 ∷ [])) (call fun.IsPowerOfTwo (held 0 ∷ []) ∷ [])
    (make (op Lsh w 32) (named 1 ∷ make_const 32 (call fun.Log2 (held 0 ∷ [])) ∷ []))

-- (Div x (Const [1])) => x
abbrev pub div_one : ℕ → Rule
div_one w = rule (node (op Div w 0) (var 0 ∷ const_at w (pos 1) ∷ [])) (named 0)

-- (Divu x (Const [c])) && isPowerOfTwo(c) => (RshUx32 x (Const32 [log2(c)]))
abbrev pub div_power : ℕ → Rule
div_power w = rule_if (node (op Divu w 0) (var 0 ∷ const w 1 ∷ [])) (call fun.IsPowerOfTwo (held 1 ∷ []) ∷ [])
    (make (op RshU w 32) (named 0 ∷ make_const 32 (call fun.Log2 (held 1 ∷ [])) ∷ []))

-- (Modu x (Const [c])) && isPowerOfTwo(c) => (And x (Const [c-1]))
abbrev pub mod_power : ℕ → Rule
mod_power w = rule_if (node (op Modu w 0) (var 0 ∷ const w 1 ∷ [])) (call fun.IsPowerOfTwo (held 1 ∷ []) ∷ [])
    (make (op And w 0) (named 0 ∷ make_const w (call fun.Sub (held 1 ∷ number (pos 1) ∷ [])) ∷ []))

-- ---- comparisons and truth values
-- (f (Const [c]) (Const [d])) => (ConstBool [c g d])
abbrev pub compare : Family → Fun → ℕ → Rule
compare f g w = rule (node (op f w 0) (const w 0 ∷ const w 1 ∷ [])) (make_truth (call g (held 0 ∷ held 1 ∷ [])))

-- (f x x) => (ConstBool [k])
abbrev pub compare_same : Family → ℤ → ℕ → Rule
compare_same f k w = rule (node (op f w 0) (var 0 ∷ var 0 ∷ [])) (make_truth (number k))

-- (Not (ConstBool [c])) => (ConstBool [1-c])
abbrev pub not_const : Rule
not_const = rule (node (op Not 0 0) (node_with (op ConstBool 0 0) 0 [] ∷ [])) (make_truth (call fun.Sub (number (pos 1) ∷ held 0 ∷ [])))

-- (Not (f x y))
abbrev pub not_of : Family → ℕ → Pattern
not_of f w = node (op Not 0 0) (node (op f w 0) (var 0 ∷ var 1 ∷ []) ∷ [])

-- (Not (f x y)) => (g x y)
abbrev pub not_compare : Family → Family → ℕ → Rule
not_compare f g w = rule (not_of f w) (make (op g w 0) (named 0 ∷ named 1 ∷ []))

-- (Not (f x y)) => (g y x)
abbrev pub not_order : Family → Family → ℕ → Rule
not_order f g w = rule (not_of f w) (make (op g w 0) (named 1 ∷ named 0 ∷ []))

-- (f (ConstBool [k]) x) => x
abbrev pub truth_unit : Family → ℤ → Rule
truth_unit f k = rule (node (op f 0 0) (truth_at k ∷ var 0 ∷ [])) (named 0)

-- (f (ConstBool [k]) _) => (ConstBool [k])
abbrev pub truth_absorb : Family → ℤ → Rule
truth_absorb f k = rule (node (op f 0 0) (truth_at k ∷ any ∷ [])) (make_truth (number k))

-- ---- shifts, extensions and masks
-- (f x (Constv [0])) => x, a shift of w bits by a count of v bits
abbrev pub shift_none : Family → ℕ → ℕ → Rule
shift_none f w v = rule (node (op f w v) (var 0 ∷ const_at v (pos 0) ∷ [])) (named 0)

-- (SignExtwtov (Constw [c])) => (Constv [c])
abbrev pub sign_const : ℕ → ℕ → Rule
sign_const w v = rule (node (op SignExt w v) (const w 0 ∷ [])) (make_const v (held 0))

-- the function that keeps the low w bits
abbrev pub low_bits : ℕ → Fun
low_bits w = if w == 32 then fun.Zext32 else if w == 16 then fun.Zext16 else fun.Zext8

-- (ZeroExtwtov (Constw [c])) => (Constv [zextw(c)])
abbrev pub zero_const : ℕ → ℕ → Rule
zero_const w v = rule (node (op ZeroExt w v) (const w 0 ∷ [])) (make_const v (call (low_bits w) (held 0 ∷ [])))

-- (Truncvtow (Constv [c])) => (Constw [c])
abbrev pub trunc_const : ℕ → ℕ → Rule
trunc_const w v = rule (node (op Trunc v w) (const v 0 ∷ [])) (make_const w (held 0))

-- (Truncvtow (fwtov x)) => x
abbrev pub trunc_ext : Family → ℕ → ℕ → Rule
trunc_ext f w v = rule (node (op Trunc v w) (node (op f w v) (var 0 ∷ []) ∷ [])) (named 0)

-- (Zeromask (Const32 [0])) => (Const32 [0])
abbrev pub zero_mask : Rule
zero_mask = rule (node (op Zeromask 0 0) (const_at 32 (pos 0) ∷ [])) (make_const 32 (number (pos 0)))

-- (Zeromask (Const32 [c])) && c != 0 => (Const32 [-1])
abbrev pub full_mask : Rule
full_mask = rule_if (node (op Zeromask 0 0) (const 32 0 ∷ [])) (call fun.Ne (held 0 ∷ number (pos 0) ∷ []) ∷ []) (make_const 32 (number (negsuc 0)))

-- (Signmask (Const32 [c])) => (Const32 [c>>63])
abbrev pub sign_mask : Rule
sign_mask = rule (node (op Signmask 0 0) (const 32 0 ∷ [])) (make_const 32 (call fun.Shr (held 0 ∷ number (pos 63) ∷ [])))

-- ---- pointers and choices
-- (OffPtr [0] p) => p
abbrev pub no_offset : Rule
no_offset = rule (node_at (op OffPtr 0 0) (pos 0) (var 0 ∷ [])) (named 0)

-- (OffPtr [c] (OffPtr [d] p)) => (OffPtr [c+d] p)
abbrev pub offset_twice : Rule
offset_twice = rule (node_with (op OffPtr 0 0) 0 (node_with (op OffPtr 0 0) 1 (var 2 ∷ []) ∷ []))
    (make_with (op OffPtr 0 0) (call fun.Add (held 0 ∷ held 1 ∷ [])) (named 2 ∷ []))

-- (AddPtr p (Const [c])) => (OffPtr [c] p)
abbrev pub add_offset : ℕ → Rule
add_offset w = rule (node (op AddPtr 0 0) (var 0 ∷ const w 1 ∷ [])) (make_with (op OffPtr 0 0) (held 1) (named 0 ∷ []))

-- (CondSelect x _ (ConstBool [1])) => x
abbrev pub select_first : Rule
select_first = rule (node (op CondSelect 0 0) (var 0 ∷ any ∷ truth_at (pos 1) ∷ [])) (named 0)

-- (CondSelect _ x (ConstBool [0])) => x
abbrev pub select_second : Rule
select_second = rule (node (op CondSelect 0 0) (any ∷ var 0 ∷ truth_at (pos 0) ∷ [])) (named 0)
