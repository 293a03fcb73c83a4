-- The families of the list, each as one rule over the width w in its ops' names. The halves of x are H x, the high one, and L x.
use Rattle.std.specs.Prelude.{ℕ, [], ◌∷◌, pos}
use Rattle.bk_ops.specs.declared.family.Family.{Family}
use Rattle.bk_ops.specs.declared.family.Family.TheVariants as generic
use Rattle.bk_rule.specs.declared.trees.Build.{Build}
use Rattle.bk_rule.specs.declared.trees.Fun.TheVariants as fun
use Rattle.bk_rule.specs.declared.trees.Rule.{Rule}
use Rattle.bk_rule.specs.Trees.{op, any, var, node, node_with, named, make, make_with, number, held, call, rule, rule_if}
use Rattle.bk_rules_dec64.specs.Nodes.{high, low, pair, plain, word, constant_at, shift, whole, chosen, choice}

-- ---- halves and constants
-- (Int64Hi (Int64Make x _)) => x
abbrev pub high_of_pair : Rule
high_of_pair = rule (node (op generic.Int64Hi 64 0) (node (op generic.Int64Make 64 0) (var 0 ∷ any ∷ []) ∷ [])) (named 0)

-- (Int64Lo (Int64Make _ y)) => y
abbrev pub low_of_pair : Rule
low_of_pair = rule (node (op generic.Int64Lo 64 0) (node (op generic.Int64Make 64 0) (any ∷ var 0 ∷ []) ∷ [])) (named 0)

-- (Const64 [c]) => (Int64Make (Const32 [c>>32]) (Const32 [c]))
abbrev pub constant : Rule
constant = rule (node_with (op generic.Const 64 0) 0 [])
    (pair (constant_at (call fun.Shr (held 0 ∷ number (pos 32) ∷ []))) (constant_at (held 0)))

-- ---- sums, products and bits
-- (f64 x y) => (Int64Make (g H x H y L x L y) (f32 L x L y))
abbrev pub sum : Family → Family → Rule
sum f g = rule (whole f) (pair (make (op g 32 0) (high 0 ∷ high 1 ∷ low 0 ∷ low 1 ∷ [])) (word f (low 0) (low 1)))

-- (f64 x y) => (Int64Make (f32 H x H y) (f32 L x L y))
abbrev pub each : Family → Rule
each f = rule (whole f) (pair (word f (high 0) (high 1)) (word f (low 0) (low 1)))

-- (Com64 x) => (Int64Make (Com32 H x) (Com32 L x))
abbrev pub complement : Rule
complement = rule (node (op generic.Com 64 0) (var 0 ∷ []))
    (pair (make (op generic.Com 32 0) (high 0 ∷ [])) (make (op generic.Com 32 0) (low 0 ∷ [])))

-- (Neg64 x) => (Sub64 (Const64 [0]) x)
abbrev pub negate : Rule
negate = rule (node (op generic.Neg 64 0) (var 0 ∷ []))
    (make (op generic.Sub 64 0) (make_with (op generic.Const 64 0) (number (pos 0)) [] ∷ named 0 ∷ []))

-- (Mul64 x y) => (Int64Make (Add32 (Mul32 L x H y) (Add32 (Mul32 H x L y) (Hmul32u L x L y))) (Mul32 L x L y))
abbrev pub product : Rule
product = rule (whole generic.Mul)
    (pair
    (word generic.Add (word generic.Mul (low 0) (high 1)) (word generic.Add (word generic.Mul (high 0) (low 1)) (word generic.Hmulu (low 0) (low 1))))
    (word generic.Mul (low 0) (low 1)))

-- ---- comparisons
-- (f64 x y) => (f32 (Or32 (Xor32 H x H y) (Xor32 L x L y)) (Const32 [0]))
abbrev pub test : Family → Rule
test f = rule (whole f)
    (word f (word generic.Or (word generic.Xor (high 0) (high 1)) (word generic.Xor (low 0) (low 1))) (constant_at (number (pos 0))))

-- (f64 x y) => (OrB (g32 H x H y) (AndB (Eq32 H x H y) (l32 L x L y)))
abbrev pub order : Family → Family → Family → Rule
order f g l = rule (whole f)
    (make (op generic.OrB 0 0)
    (word g (high 0) (high 1) ∷ make (op generic.AndB 0 0) (word generic.Eq (high 0) (high 1) ∷ word l (low 0) (low 1) ∷ []) ∷ []))

-- ---- extensions and truncations
-- (SignExt32to64 x) => (Int64Make (Signmask x) x)
abbrev pub sign_above : Rule
sign_above = rule (node (op generic.SignExt 32 64) (var 0 ∷ [])) (pair (plain generic.Signmask (named 0)) (named 0))

-- (ZeroExt32to64 x) => (Int64Make (Const32 [0]) x)
abbrev pub zero_above : Rule
zero_above = rule (node (op generic.ZeroExt 32 64) (var 0 ∷ [])) (pair (constant_at (number (pos 0))) (named 0))

-- (fwto64 x) => (f32to64 (fwto32 x))
abbrev pub extend : Family → ℕ → Rule
extend f w = rule (node (op f w 64) (var 0 ∷ [])) (make (op f 32 64) (make (op f w 32) (named 0 ∷ []) ∷ []))

-- (Trunc64to32 x) => L x
abbrev pub truncate_to_word : Rule
truncate_to_word = rule (node (op generic.Trunc 64 32) (var 0 ∷ [])) (low 0)

-- (Trunc64tow x) => (Trunc32tow L x)
abbrev pub truncate : ℕ → Rule
truncate w = rule (node (op generic.Trunc 64 w) (var 0 ∷ [])) (make (op generic.Trunc 32 w) (low 0 ∷ []))

-- ---- shifts, the rotation and the choice
-- (fwx64 x y) => (fwx32 x (Or32 (Zeromask H y) L y))
abbrev pub long_count : Family → ℕ → Rule
long_count f w = rule (node (op f w 64) (var 0 ∷ var 1 ∷ []))
    (shift f w (named 0) (word generic.Or (plain generic.Zeromask (high 1)) (low 1)))

-- (f64xw x y) => (f64x32 x (ZeroExtwto32 y))
abbrev pub short_count : Family → ℕ → Rule
short_count f w = rule (node (op f 64 w) (var 0 ∷ var 1 ∷ [])) (shift f 64 (named 0) (make (op generic.ZeroExt w 32) (named 1 ∷ [])))

-- (Sub32 (Const32 [32]) s) and (Sub32 s (Const32 [32])), s the second variable
abbrev pub left_over : Build
left_over = word generic.Sub (constant_at (number (pos 32))) (named 1)

abbrev pub beyond : Build
beyond = word generic.Sub (named 1) (constant_at (number (pos 32)))

-- (Lsh64x32 x s) => (Int64Make
--   (Or32 (Or32 (Lsh32x32 H x s) (Rsh32Ux32 L x (Sub32 (Const32 [32]) s))) (Lsh32x32 L x (Sub32 s (Const32 [32]))))
--   (Lsh32x32 L x s))
abbrev pub left : Rule
left = rule (node (op generic.Lsh 64 32) (var 0 ∷ var 1 ∷ []))
    (pair
    (word generic.Or (word generic.Or (shift generic.Lsh 32 (high 0) (named 1)) (shift generic.RshU 32 (low 0) left_over)) (shift generic.Lsh 32 (low 0) beyond))
    (shift generic.Lsh 32 (low 0) (named 1)))

-- the low half of a shift right as far as it does not reach beyond the high half:
-- (Or32 (Rsh32Ux32 L x s) (Lsh32x32 H x (Sub32 (Const32 [32]) s)))
abbrev pub near_right : Build
near_right = word generic.Or (shift generic.RshU 32 (low 0) (named 1)) (shift generic.Lsh 32 (high 0) left_over)

-- (Rsh64Ux32 x s) => (Int64Make
--   (Rsh32Ux32 H x s)
--   (Or32 (Or32 (Rsh32Ux32 L x s) (Lsh32x32 H x (Sub32 (Const32 [32]) s))) (Rsh32Ux32 H x (Sub32 s (Const32 [32])))))
abbrev pub right : Rule
right = rule (node (op generic.RshU 64 32) (var 0 ∷ var 1 ∷ []))
    (pair
    (shift generic.RshU 32 (high 0) (named 1))
    (word generic.Or near_right (shift generic.RshU 32 (high 0) beyond)))

-- (Rsh64x32 x s) => (Int64Make
--   (Rsh32x32 H x s)
--   (Or32 (Or32 (Rsh32Ux32 L x s) (Lsh32x32 H x (Sub32 (Const32 [32]) s)))
--     (And32 (Rsh32x32 H x (Sub32 s (Const32 [32]))) (Zeromask (Rsh32Ux32 s (Const32 [5]))))))
abbrev pub right_signed : Rule
right_signed = rule (node (op generic.Rsh 64 32) (var 0 ∷ var 1 ∷ []))
    (pair
    (shift generic.Rsh 32 (high 0) (named 1))
    (word generic.Or near_right
    (word generic.And (shift generic.Rsh 32 (high 0) beyond) (plain generic.Zeromask (shift generic.RshU 32 (named 1) (constant_at (number (pos 5))))))))

-- (And32 x (Const32 [63]))
abbrev pub below_64 : Build → Build
below_64 x = word generic.And x (constant_at (number (pos 63)))

-- (RotateLeft64 x k) => (Or64 (Lsh64x32 x (And32 k (Const32 [63]))) (Rsh64Ux32 x (And32 (Neg32 k) (Const32 [63]))))
abbrev pub rotate : Rule
rotate = rule (node (op generic.RotateLeft 64 0) (var 0 ∷ var 1 ∷ []))
    (make (op generic.Or 64 0)
    (shift generic.Lsh 64 (named 0) (below_64 (named 1)) ∷
    shift generic.RshU 64 (named 0) (below_64 (make (op generic.Neg 32 0) (named 1 ∷ []))) ∷
    []))

-- (CondSelect <t> x y c) && size(t) == 8 => (Int64Make (CondSelect <uint32> H x H y c) (CondSelect <uint32> L x L y c))
abbrev pub choose : Rule
choose = rule_if chosen (call fun.Eq (call fun.Size (held 0 ∷ []) ∷ number (pos 8) ∷ []) ∷ []) (pair (choice (high 1) (high 2)) (choice (low 1) (low 2)))
