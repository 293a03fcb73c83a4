-- Lists as lines: each line one rule for each of its widths.
use Rattle.std.specs.Prelude.{ℕ, List, [], ◌∷◌, map}
use Rattle.bk_rule.specs.declared.trees.Rule.{Rule}
use Rattle.bk_rule.specs.Trees.{op}
use Rattle.bk_rules_words.specs.declared.lines.Shape.{Shape}
use Rattle.bk_rules_words.specs.declared.lines.Shape.TheVariants as shape
use Rattle.bk_rules_words.specs.declared.lines.Widths.{Widths}
use Rattle.bk_rules_words.specs.declared.lines.Widths.TheVariants.{Alone, At64, At32, At8, Each, Narrow, Small, NarrowByEach, EachByNarrow, EachBy64, At64ByNarrow, At64By64, NarrowBySmall, SmallBy32, At32By32, Rising, Falling, From8, From16, FallingTo32, UpTo8, UpTo4}
use Rattle.bk_rules_words.specs.declared.lines.Line.{Line}
use Rattle.bk_rules_words.specs.Families.{constant, nil, address, one, two, three, four, one_with, offset, not_nil, high, widen, widen_shift, widen_count, as_wide, shift_count, test, test_low, at_most, equal_bools, extend, truncate, sign_mask, zero_mask, rotate_half, load, store_bool, store, zero, move_bytes, panic, immediate, negated, load_near, store_near}

-- the rule of a family at widths w and v
unfoldable pub family : Shape → ℕ → ℕ → Rule
family (shape.Constant f k) w v = constant f k w
family (shape.Nil k) w v = nil k
family (shape.Address m) w v = address m
family (shape.One f m) w v = one f m w v
family (shape.Two f m) w v = two f m w v
family (shape.Three f m) w v = three f m
family (shape.Four f m) w v = four f m w
family (shape.OneWith f m n) w v = one_with f m n w
family (shape.Offset m k) w v = offset m k
family (shape.NotNil m k) w v = not_nil m k
family (shape.High f e m) w v = high f e m
family (shape.Widen f e u) w v = widen (op f w 0) (op f u 0) e
family (shape.WidenShift f e u) w v = widen_shift (op f w v) (op f u v) e
family (shape.WidenCount f u) w v = widen_count (op f w v) (op f w u)
family (shape.AsWide f u) w v = as_wide (op f w v) (op f u v)
family (shape.ShiftCount f m) w v = shift_count f m w v
family (shape.Test f m) w v = test f m w
family (shape.TestLow f m) w v = test_low f m w
family (shape.AtMost f m) w v = at_most f m w
family (shape.EqualBools m i) w v = equal_bools m i
family (shape.Extend f m) w v = extend f m w v
family shape.Truncate w v = truncate w v
family shape.SignMask w v = sign_mask
family shape.ZeroMask w v = zero_mask
family shape.RotateHalf w v = rotate_half
family (shape.Load l) w v = load l w
family (shape.StoreBool m) w v = store_bool m
family (shape.Store m) w v = store m w
family (shape.Zero z) w v = zero z
family (shape.Move m) w v = move_bytes m
family shape.Panic w v = panic
family (shape.Immediate m k i fits) w v = immediate m k i fits
family (shape.Negated m k i fits) w v = negated m k i fits
family (shape.LoadNear l i fits) w v = load_near l i fits w
family (shape.StoreNear m i fits) w v = store_near m i fits w

-- w and v, in the order of a line's rules
unfoldable pub pairs : Widths → List (ℕ × ℕ)
pairs Alone = (0, 0) ∷ []
pairs At64 = (64, 0) ∷ []
pairs At32 = (32, 0) ∷ []
pairs At8 = (8, 0) ∷ []
pairs Each = (64, 0) ∷ (32, 0) ∷ (16, 0) ∷ (8, 0) ∷ []
pairs Narrow = (32, 0) ∷ (16, 0) ∷ (8, 0) ∷ []
pairs Small = (16, 0) ∷ (8, 0) ∷ []
pairs NarrowByEach = (32, 64) ∷ (16, 64) ∷ (8, 64) ∷ (32, 32) ∷ (16, 32) ∷ (8, 32) ∷ (32, 16) ∷ (16, 16) ∷ (8, 16) ∷ (32, 8) ∷ (16, 8) ∷ (8, 8) ∷ []
pairs EachByNarrow = (64, 32) ∷ (64, 16) ∷ (64, 8) ∷ (32, 32) ∷ (32, 16) ∷ (32, 8) ∷ (16, 32) ∷ (16, 16) ∷ (16, 8) ∷ (8, 32) ∷ (8, 16) ∷ (8, 8) ∷ []
pairs EachBy64 = (64, 64) ∷ (32, 64) ∷ (16, 64) ∷ (8, 64) ∷ []
pairs At64ByNarrow = (64, 32) ∷ (64, 16) ∷ (64, 8) ∷ []
pairs At64By64 = (64, 64) ∷ []
pairs NarrowBySmall = (32, 16) ∷ (16, 16) ∷ (8, 16) ∷ (32, 8) ∷ (16, 8) ∷ (8, 8) ∷ []
pairs SmallBy32 = (16, 32) ∷ (8, 32) ∷ []
pairs At32By32 = (32, 32) ∷ []
pairs Rising = (8, 16) ∷ (8, 32) ∷ (8, 64) ∷ (16, 32) ∷ (16, 64) ∷ (32, 64) ∷ []
pairs Falling = (16, 8) ∷ (32, 8) ∷ (32, 16) ∷ (64, 8) ∷ (64, 16) ∷ (64, 32) ∷ []
pairs From8 = (8, 16) ∷ (8, 32) ∷ []
pairs From16 = (16, 32) ∷ []
pairs FallingTo32 = (16, 8) ∷ (32, 8) ∷ (32, 16) ∷ []
pairs UpTo8 = (8, 0) ∷ (4, 0) ∷ (2, 0) ∷ (1, 0) ∷ []
pairs UpTo4 = (4, 0) ∷ (2, 0) ∷ (1, 0) ∷ []

abbrev pub rule_at : Shape → (ℕ × ℕ) → Rule
rule_at s (w, v) = family s w v

-- the rules of a line
unfoldable pub rules_of : Line → List Rule
rules_of l = map (rule_at l.0) (pairs l.1)

abbrev pub line : Widths → Shape → Line
line w s = record { 0 = s; 1 = w }
