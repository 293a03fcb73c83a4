-- The list: its lines in order, each line one rule for each of its widths.
use Rattle.std.specs.Prelude.{ℕ, List, [], ◌∷◌, ◌++◌, map}
use Rattle.std.specs.List.{flat_map}
use Rattle.bk_ops.specs.declared.family.Family.TheVariants as generic
use Rattle.bk_rule.specs.declared.trees.Rule.{Rule}
use Rattle.bk_rules_dec64.specs.declared.lines.Shape.{Shape}
use Rattle.bk_rules_dec64.specs.declared.lines.Shape.TheVariants as shape
use Rattle.bk_rules_dec64.specs.declared.lines.Widths.{Widths}
use Rattle.bk_rules_dec64.specs.declared.lines.Widths.TheVariants.{Alone, Any, Short}
use Rattle.bk_rules_dec64.specs.declared.lines.Line.{Line}
use Rattle.bk_rules_dec64.specs.Families.{high_of_pair, low_of_pair, constant, sum, each, complement, negate, product, test, order, sign_above, zero_above, extend, truncate_to_word, truncate, long_count, short_count, left, right, right_signed, rotate, choose}

-- the rule of a family at width w
unfoldable pub family : Shape → ℕ → Rule
family shape.HighOfPair w = high_of_pair
family shape.LowOfPair w = low_of_pair
family shape.Constant w = constant
family (shape.Sum f g) w = sum f g
family (shape.Each f) w = each f
family shape.Complement w = complement
family shape.Negate w = negate
family shape.Product w = product
family (shape.Test f) w = test f
family (shape.Order f g l) w = order f g l
family shape.SignAbove w = sign_above
family shape.ZeroAbove w = zero_above
family (shape.Extend f) w = extend f w
family shape.TruncateToWord w = truncate_to_word
family shape.Truncate w = truncate w
family (shape.LongCount f) w = long_count f w
family (shape.ShortCount f) w = short_count f w
family shape.Left w = left
family shape.Right w = right
family shape.RightSigned w = right_signed
family shape.Rotate w = rotate
family shape.Choose w = choose

-- the widths of a line's rules, in their order
unfoldable pub widths_of : Widths → List ℕ
widths_of Alone = 0 ∷ []
widths_of Any = 64 ∷ 32 ∷ 16 ∷ 8 ∷ []
widths_of Short = 16 ∷ 8 ∷ []

-- the rules of a line
unfoldable pub rules_of : Line → List Rule
rules_of l = map (family l.0) (widths_of l.1)

abbrev pub line : Widths → Shape → Line
line w s = record { 0 = s; 1 = w }

-- halves, constants, sums, products and bits
unfoldable pub arithmetic : List Line
arithmetic =
    line Alone shape.HighOfPair ∷
    line Alone shape.LowOfPair ∷
    line Alone shape.Constant ∷
    line Alone (shape.Sum generic.Add generic.AddHi32) ∷
    line Alone (shape.Sum generic.Sub generic.SubHi32) ∷
    line Alone (shape.Each generic.And) ∷
    line Alone (shape.Each generic.Or) ∷
    line Alone (shape.Each generic.Xor) ∷
    line Alone shape.Complement ∷
    line Alone shape.Negate ∷
    line Alone shape.Product ∷
    []

-- comparisons
unfoldable pub comparisons : List Line
comparisons =
    line Alone (shape.Test generic.Eq) ∷
    line Alone (shape.Test generic.Neq) ∷
    line Alone (shape.Order generic.Less generic.Less generic.LessU) ∷
    line Alone (shape.Order generic.LessU generic.LessU generic.LessU) ∷
    line Alone (shape.Order generic.Leq generic.Less generic.LeqU) ∷
    line Alone (shape.Order generic.LeqU generic.LessU generic.LeqU) ∷
    []

-- extensions and truncations
unfoldable pub conversions : List Line
conversions =
    line Alone shape.SignAbove ∷
    line Alone shape.ZeroAbove ∷
    line Short (shape.Extend generic.SignExt) ∷
    line Short (shape.Extend generic.ZeroExt) ∷
    line Alone shape.TruncateToWord ∷
    line Short shape.Truncate ∷
    []

-- shifts, the rotation and the choice
unfoldable pub shifts : List Line
shifts =
    line Any (shape.LongCount generic.Lsh) ∷
    line Any (shape.LongCount generic.Rsh) ∷
    line Any (shape.LongCount generic.RshU) ∷
    line Short (shape.ShortCount generic.Lsh) ∷
    line Short (shape.ShortCount generic.Rsh) ∷
    line Short (shape.ShortCount generic.RshU) ∷
    line Alone shape.Left ∷
    line Alone shape.Right ∷
    line Alone shape.RightSigned ∷
    line Alone shape.Rotate ∷
    line Alone shape.Choose ∷
    []

-- the list
unfoldable pub dec64_list : List Rule
dec64_list = flat_map rules_of arithmetic ++ (flat_map rules_of comparisons ++ (flat_map rules_of conversions ++ flat_map rules_of shifts))
