-- The families of the lists, each as one rule over the widths in its ops' names: w, and v where there is a second.
use Rattle.std.specs.Prelude.{ℕ, ◌-◌, [], ◌∷◌, ℤ, pos}
use Rattle.bk_ops.specs.declared.family.Family.{Family}
use Rattle.bk_ops.specs.declared.family.Family.TheVariants as generic
use Rattle.bk_ops.specs.declared.family.Family.TheVariants.{Rv}
use Rattle.bk_ops.specs.declared.family.RvOp.TheVariants as rv
use Rattle.bk_ops.specs.declared.table.Op.{Op}
use Rattle.bk_rule.specs.declared.trees.Pattern.{Pattern}
use Rattle.bk_rule.specs.declared.trees.Expr.{Expr}
use Rattle.bk_rule.specs.declared.trees.Fun.TheVariants as fun
use Rattle.bk_rule.specs.declared.trees.Rule.{Rule}
use Rattle.bk_rule.specs.Trees.{op, any, var, node, node_with, named, make, make_with, number, held, call, rule, rule_if}
use Rattle.bk_rules_words.specs.declared.lines.Fits.{Fits}
use Rattle.bk_rules_words.specs.Nodes.{machine, unit, unit_at, constant_at, wide, node_beside, node_typed, make_beside, sum, condition}

-- ---- one machine op for one generic op
-- (f [c]) => (k [c])
abbrev pub constant : Family → Family → ℕ → Rule
constant f k w = rule (node_with (op f w 0) 0 []) (constant_at k (held 0))

-- (ConstNil) => (k [0])
abbrev pub nil : Family → Rule
nil k = rule (node (op generic.ConstNil 0 0) []) (constant_at k (number (pos 0)))

-- (Addr {s} _) => (m {s})
abbrev pub address : Family → Rule
address m = rule (node_beside (op generic.Addr 0 0) 0 (any ∷ [])) (make_beside (machine m) 0 [])

-- (f x) => (m x)
abbrev pub one : Family → Family → ℕ → ℕ → Rule
one f m w v = rule (node (op f w v) (var 0 ∷ [])) (unit m (named 0 ∷ []))

-- (f x y) => (m x y)
abbrev pub two : Family → Family → ℕ → ℕ → Rule
two f m w v = rule (node (op f w v) (var 0 ∷ var 1 ∷ [])) (unit m (named 0 ∷ named 1 ∷ []))

-- (f x y z) => (m x y z)
abbrev pub three : Family → Family → Rule
three f m = rule (node (op f 0 0) (var 0 ∷ var 1 ∷ var 2 ∷ [])) (unit m (named 0 ∷ named 1 ∷ named 2 ∷ []))

-- (f a b c d) => (m a b c d)
abbrev pub four : Family → Family → ℕ → Rule
four f m w = rule (node (op f w 0) (var 0 ∷ var 1 ∷ var 2 ∷ var 3 ∷ [])) (unit m (named 0 ∷ named 1 ∷ named 2 ∷ named 3 ∷ []))

-- (f x) => (m [n] x)
abbrev pub one_with : Family → Family → ℤ → ℕ → Rule
one_with f m n w = rule (node (op f w 0) (var 0 ∷ [])) (unit_at m n (named 0))

-- (OffPtr [c] p) => (m p (k [c]))
abbrev pub offset : Family → Family → Rule
offset m k = rule (node_with (op generic.OffPtr 0 0) 0 (var 1 ∷ [])) (unit m (named 1 ∷ constant_at k (held 0) ∷ []))

-- (IsNonNil p) => (m p (k [0]))
abbrev pub not_nil : Family → Family → Rule
not_nil m k = rule (node (op generic.IsNonNil 0 0) (var 0 ∷ [])) (unit m (named 0 ∷ constant_at k (number (pos 0)) ∷ []))

-- ---- narrow numbers at a wider width
-- (f x y)
abbrev pub compared : Op → Pattern
compared f = node f (var 0 ∷ var 1 ∷ [])

-- (f32 x y) => (m [32] (RVMUL (e32to64 x) (e32to64 y)))
abbrev pub high : Family → Family → Family → Rule
high f e m = rule (compared (op f 32 0)) (unit_at m (pos 32) (unit (Rv rv.Mul) (wide e 32 64 (named 0) ∷ wide e 32 64 (named 1) ∷ [])))

-- (f x y) => (g (e x) (e y)), e from the first width of f to that of g
abbrev pub widen : Op → Op → Family → Rule
widen f g e = rule (compared f) (make g (wide e f.a g.a (named 0) ∷ wide e f.a g.a (named 1) ∷ []))

-- (f x y) => (g (e x) y), e from the first width of f to that of g
abbrev pub widen_shift : Op → Op → Family → Rule
widen_shift f g e = rule (compared f) (make g (wide e f.a g.a (named 0) ∷ named 1 ∷ []))

-- (f x y) => (g x (ZeroExt y)), from the second width of f to that of g
abbrev pub widen_count : Op → Op → Rule
widen_count f g = rule (compared f) (make g (named 0 ∷ wide generic.ZeroExt f.b g.b (named 1) ∷ []))

-- (f x y) => (g x y)
abbrev pub as_wide : Op → Op → Rule
as_wide f g = rule (compared f) (make g (named 0 ∷ named 1 ∷ []))

-- (fwxv x y) => (m x (ZeroExtvto64 y))
abbrev pub shift_count : Family → Family → ℕ → ℕ → Rule
shift_count f m w v = rule (compared (op f w v)) (unit m (named 0 ∷ wide generic.ZeroExt v 64 (named 1) ∷ []))

-- ---- comparisons
-- (f x y) => (m (RVXOR x y))
abbrev pub test : Family → Family → ℕ → Rule
test f m w = rule (compared (op f w 0)) (unit m (unit (Rv rv.Xor) (named 0 ∷ named 1 ∷ []) ∷ []))

-- (fw x y) => (m (ZeroExtwto64 (RVXOR x y)))
abbrev pub test_low : Family → Family → ℕ → Rule
test_low f m w = rule (compared (op f w 0)) (unit m (wide generic.ZeroExt w 64 (unit (Rv rv.Xor) (named 0 ∷ named 1 ∷ [])) ∷ []))

-- (f x y) => (RVXORI [1] (m y x))
abbrev pub at_most : Family → Family → ℕ → Rule
at_most f m w = rule (compared (op f w 0)) (unit_at (Rv rv.Xori) (pos 1) (unit m (named 1 ∷ named 0 ∷ [])))

-- (EqB x y) => (i [1] (m x y))
abbrev pub equal_bools : Family → Family → Rule
equal_bools m i = rule (compared (op generic.EqB 0 0)) (unit_at i (pos 1) (unit m (named 0 ∷ named 1 ∷ [])))

-- ---- extensions, masks and rotations
-- (fwtov x) => (m [64-w] (RVSLLI [64-w] x))
abbrev pub extend : Family → Family → ℕ → ℕ → Rule
extend f m w v = rule (node (op f w v) (var 0 ∷ [])) (unit_at m (pos (64 - w)) (unit_at (Rv rv.Slli) (pos (64 - w)) (named 0)))

-- (Truncwtov x) => x
abbrev pub truncate : ℕ → ℕ → Rule
truncate w v = rule (node (op generic.Trunc w v) (var 0 ∷ [])) (named 0)

-- (Signmask x) => (RVSRAI [63] (SignExt32to64 x))
abbrev pub sign_mask : Rule
sign_mask = rule (node (op generic.Signmask 0 0) (var 0 ∷ [])) (unit_at (Rv rv.Srai) (pos 63) (wide generic.SignExt 32 64 (named 0)))

-- (Zeromask x) => (RVNEG (RVSNEZ (ZeroExt32to64 x)))
abbrev pub zero_mask : Rule
zero_mask =
    rule (node (op generic.Zeromask 0 0) (var 0 ∷ [])) (unit (Rv rv.Neg) (unit (Rv rv.Snez) (wide generic.ZeroExt 32 64 (named 0) ∷ []) ∷ []))

-- (RotateLeft32 x k) => (RVOR (RVLSL x (RVANDI [31] k)) (RVLSR (ZeroExt32to64 x) (RVANDI [31] (RVNEG k))))
abbrev pub rotate_half : Rule
rotate_half = rule (node (op generic.RotateLeft 32 0) (var 0 ∷ var 1 ∷ []))
    (unit (Rv rv.Or)
    (unit (Rv rv.Lsl) (named 0 ∷ unit_at (Rv rv.Andi) (pos 31) (named 1) ∷ []) ∷
    unit (Rv rv.Lsr) (wide generic.ZeroExt 32 64 (named 0) ∷ unit_at (Rv rv.Andi) (pos 31) (unit (Rv rv.Neg) (named 1 ∷ [])) ∷ []) ∷
    []))

-- ---- loads, stores and checks
-- size(t) == w, t the first variable
abbrev pub has_size : ℕ → Expr
has_size w = call fun.Eq (call fun.Size (held 0 ∷ []) ∷ number (pos w) ∷ [])

-- (Load <t> p m) && size(t) == w => (lw p m)
abbrev pub load : Family → ℕ → Rule
load l w = rule_if (node_typed (op generic.Load 0 0) 0 (var 1 ∷ var 2 ∷ [])) (has_size w ∷ []) (make (op l w 0) (named 1 ∷ named 2 ∷ []))

-- (Store {t} p x m)
abbrev pub stored : Pattern
stored = node_beside (op generic.Store 0 0) 0 (var 1 ∷ var 2 ∷ var 3 ∷ [])

-- (Store {t} p x m) && isBool(t) => (m p x m)
abbrev pub store_bool : Family → Rule
store_bool m = rule_if stored (call fun.IsBool (held 0 ∷ []) ∷ []) (unit m (named 1 ∷ named 2 ∷ named 3 ∷ []))

-- (Store {t} p x m) && isBool(t) == 0 && size(t) == w => (mw p x m)
abbrev pub store : Family → ℕ → Rule
store m w = rule_if stored (call fun.Eq (call fun.IsBool (held 0 ∷ []) ∷ number (pos 0) ∷ []) ∷ has_size w ∷ [])
    (make (op m w 0) (named 1 ∷ named 2 ∷ named 3 ∷ []))

-- (Zero [c] p m) => (z [c] p m)
abbrev pub zero : Family → Rule
zero z = rule (node_with (op generic.Zero 0 0) 0 (var 1 ∷ var 2 ∷ [])) (make_with (machine z) (held 0) (named 1 ∷ named 2 ∷ []))

-- (Move [c] p q m) => (v [c] p q m)
abbrev pub move_bytes : Family → Rule
move_bytes v = rule (node_with (op generic.Move 0 0) 0 (var 1 ∷ var 2 ∷ var 3 ∷ []))
    (make_with (machine v) (held 0) (named 1 ∷ named 2 ∷ named 3 ∷ []))

-- (PanicBounds _ _ m) => (TRAP [2] m)
abbrev pub panic : Rule
panic = rule (node (op generic.PanicBounds 0 0) (any ∷ any ∷ var 0 ∷ [])) (make_with (op generic.Trap 0 0) (number (pos 2)) (named 0 ∷ []))

-- ---- constants beside machine ops
-- (m x (k [c]))
abbrev pub with_constant : Family → Family → Pattern
with_constant m k = node (machine m) (var 0 ∷ node_with (machine k) 1 [] ∷ [])

-- (m x (k [c])) && fits(c) => (i [c] x)
abbrev pub immediate : Family → Family → Family → Fits → Rule
immediate m k i fits = rule_if (with_constant m k) (condition fits (held 1) ∷ []) (make_with (machine i) (held 1) (named 0 ∷ []))

-- (m x (k [c])) && fits(-c) => (i [-c] x)
abbrev pub negated : Family → Family → Family → Fits → Rule
negated m k i fits = rule_if (with_constant m k) (condition fits (call fun.Neg (held 1 ∷ [])) ∷ []) (make_with (machine i) (call fun.Neg (held 1 ∷ [])) (named 0 ∷ []))

-- (i [c] p), c the second variable and p the third
abbrev pub near : Family → Pattern
near i = node_with (machine i) 1 (var 2 ∷ [])

-- (lw [o] (i [c] p) m) && fits(o+c) => (lw [o+c] p m)
abbrev pub load_near : Family → Family → Fits → ℕ → Rule
load_near l i fits w = rule_if (node_with (op l w 0) 0 (near i ∷ var 3 ∷ [])) (condition fits (sum 0 1) ∷ [])
    (make_with (op l w 0) (sum 0 1) (named 2 ∷ named 3 ∷ []))

-- (mw [o] (i [c] p) x m) && fits(o+c) => (mw [o+c] p x m)
abbrev pub store_near : Family → Family → Fits → ℕ → Rule
store_near m i fits w = rule_if (node_with (op m w 0) 0 (near i ∷ var 3 ∷ var 4 ∷ [])) (condition fits (sum 0 1) ∷ [])
    (make_with (op m w 0) (sum 0 1) (named 2 ∷ named 3 ∷ named 4 ∷ []))
