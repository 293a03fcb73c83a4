-- The generic list: its lines in order, each line one rule for each of its widths.
use Rattle.std.specs.Prelude.{ℕ, List, [], ◌∷◌, ◌++◌, map, pos, negsuc}
use Rattle.std.specs.List.{flat_map}
use Rattle.bk_ops.specs.declared.family.Family.TheVariants.{Add, Sub, Mul, And, Or, Xor, Neg, Com, Lsh, Rsh, RshU, Eq, Neq, Less, LessU, Leq, LeqU, AndB, OrB, Not, SignExt, ZeroExt}
use Rattle.bk_rule.specs.declared.trees.Fun.TheVariants as fun
use Rattle.bk_rule.specs.declared.trees.Rule.{Rule}
use Rattle.bk_rules_generic.specs.declared.lines.Shape.{Shape}
use Rattle.bk_rules_generic.specs.declared.lines.Shape.TheVariants.{Fold, FoldOne, Unit as Unit', Absorb, Cancel, Same, Twice, Turn, SubConst, AddTwice, AddNeg, MulPower, DivOne, DivPower, ModPower, Compare, CompareSame, NotConst, NotCompare, NotOrder, TruthUnit, TruthAbsorb, ShiftNone, SignConst, ZeroConst, TruncConst, TruncExt, ZeroMask, FullMask, SignMask, NoOffset, OffsetTwice, AddOffset, SelectFirst, SelectSecond}
use Rattle.bk_rules_generic.specs.declared.lines.Widths.{Widths}
use Rattle.bk_rules_generic.specs.declared.lines.Widths.TheVariants.{Alone, Each, Words, Pairs, To64, To32}
use Rattle.bk_rules_generic.specs.declared.lines.Line.{Line}
use Rattle.bk_rules_generic.specs.Families.{fold, fold_one, unit, absorb, cancel, same, twice, turn, sub_const, add_twice, add_neg, mul_power, div_one, div_power, mod_power, compare, compare_same, not_const, not_compare, not_order, truth_unit, truth_absorb, shift_none, sign_const, zero_const, trunc_const, trunc_ext, zero_mask, full_mask, sign_mask, no_offset, offset_twice, add_offset, select_first, select_second}

-- the rule of a family at widths w and v
unfoldable pub family : Shape → ℕ → ℕ → Rule
family (Fold f g) w v = fold f g w
family (FoldOne f g) w v = fold_one f g w
family (Unit' f k) w v = unit f k w
family (Absorb f k) w v = absorb f k w
family (Cancel f) w v = cancel f w
family (Same f) w v = same f w
family (Twice f) w v = twice f w
family (Turn f g) w v = turn f g w
family SubConst w v = sub_const w
family AddTwice w v = add_twice w
family AddNeg w v = add_neg w
family MulPower w v = mul_power w
family DivOne w v = div_one w
family DivPower w v = div_power w
family ModPower w v = mod_power w
family (Compare f g) w v = compare f g w
family (CompareSame f k) w v = compare_same f k w
family NotConst w v = not_const
family (NotCompare f g) w v = not_compare f g w
family (NotOrder f g) w v = not_order f g w
family (TruthUnit f k) w v = truth_unit f k
family (TruthAbsorb f k) w v = truth_absorb f k
family (ShiftNone f) w v = shift_none f w v
family SignConst w v = sign_const w v
family ZeroConst w v = zero_const w v
family TruncConst w v = trunc_const w v
family (TruncExt f) w v = trunc_ext f w v
family ZeroMask w v = zero_mask
family FullMask w v = full_mask
family SignMask w v = sign_mask
family NoOffset w v = no_offset
family OffsetTwice w v = offset_twice
family AddOffset w v = add_offset w
family SelectFirst w v = select_first
family SelectSecond w v = select_second

-- w and v, in the order of a line's rules
unfoldable pub pairs : Widths → List (ℕ × ℕ)
pairs Alone = (0, 0) ∷ []
pairs Each = (64, 0) ∷ (32, 0) ∷ (16, 0) ∷ (8, 0) ∷ []
pairs Words = (64, 0) ∷ (32, 0) ∷ []
pairs Pairs = (64, 64) ∷ (32, 64) ∷ (16, 64) ∷ (8, 64) ∷ (64, 32) ∷ (32, 32) ∷ (16, 32) ∷ (8, 32) ∷ (64, 16) ∷ (32, 16) ∷ (16, 16) ∷ (8, 16) ∷ (64, 8) ∷ (32, 8) ∷ (16, 8) ∷ (8, 8) ∷ []
pairs To64 = (32, 64) ∷ (16, 64) ∷ (8, 64) ∷ []
pairs To32 = (16, 32) ∷ (8, 32) ∷ []

abbrev pub rule_at : Shape → (ℕ × ℕ) → Rule
rule_at s (w, v) = family s w v

-- the rules of a line
unfoldable pub rules_of : Line → List Rule
rules_of l = map (rule_at l.0) (pairs l.1)

abbrev pub one : Shape → Line
one s = record { 0 = s; 1 = Alone }

abbrev pub each : Shape → Line
each s = record { 0 = s; 1 = Each }

abbrev pub words : Shape → Line
words s = record { 0 = s; 1 = Words }

abbrev pub shifts : Shape → Line
shifts s = record { 0 = s; 1 = Pairs }

abbrev pub to64 : Shape → Line
to64 s = record { 0 = s; 1 = To64 }

abbrev pub to32 : Shape → Line
to32 s = record { 0 = s; 1 = To32 }

unfoldable pub arithmetic : List Line
arithmetic =
    each (Fold Add fun.Add) ∷
    each (Fold Sub fun.Sub) ∷
    each (Fold Mul fun.Mul) ∷
    each (Fold And fun.And) ∷
    each (Fold Or fun.Or) ∷
    each (Fold Xor fun.Xor) ∷
    each (FoldOne Neg fun.Neg) ∷
    each (FoldOne Com fun.Com) ∷
    each (Unit' Add (pos 0)) ∷
    each (Cancel Sub) ∷
    each SubConst ∷
    each AddTwice ∷
    each AddNeg ∷
    each (Absorb Mul (pos 0)) ∷
    each (Unit' Mul (pos 1)) ∷
    each (Turn Mul Neg) ∷
    each MulPower ∷
    each DivOne ∷
    each DivPower ∷
    each ModPower ∷
    []

unfoldable pub bits : List Line
bits =
    each (Same And) ∷
    each (Same Or) ∷
    each (Absorb And (pos 0)) ∷
    each (Unit' And (negsuc 0)) ∷
    each (Unit' Or (pos 0)) ∷
    each (Absorb Or (negsuc 0)) ∷
    each (Cancel Xor) ∷
    each (Unit' Xor (pos 0)) ∷
    each (Turn Xor Com) ∷
    each (Twice Neg) ∷
    each (Twice Com) ∷
    []

unfoldable pub comparisons : List Line
comparisons =
    each (Compare Eq fun.Eq) ∷
    each (Compare Neq fun.Ne) ∷
    each (Compare Less fun.Lt) ∷
    each (Compare Leq fun.Le) ∷
    each (Compare LessU fun.Ult) ∷
    each (Compare LeqU fun.Ule) ∷
    each (CompareSame Eq (pos 1)) ∷
    each (CompareSame Leq (pos 1)) ∷
    each (CompareSame LeqU (pos 1)) ∷
    each (CompareSame Neq (pos 0)) ∷
    each (CompareSame Less (pos 0)) ∷
    each (CompareSame LessU (pos 0)) ∷
    one NotConst ∷
    one (Twice Not) ∷
    each (NotCompare Eq Neq) ∷
    each (NotCompare Neq Eq) ∷
    each (NotOrder Less Leq) ∷
    each (NotOrder Leq Less) ∷
    each (NotOrder LessU LeqU) ∷
    each (NotOrder LeqU LessU) ∷
    one (TruthAbsorb AndB (pos 0)) ∷
    one (TruthUnit AndB (pos 1)) ∷
    one (TruthAbsorb OrB (pos 1)) ∷
    one (TruthUnit OrB (pos 0)) ∷
    one (Same AndB) ∷
    one (Same OrB) ∷
    []

unfoldable pub conversions : List Line
conversions =
    shifts (ShiftNone Lsh) ∷
    shifts (ShiftNone Rsh) ∷
    shifts (ShiftNone RshU) ∷
    to64 SignConst ∷
    to32 SignConst ∷
    to64 ZeroConst ∷
    to32 ZeroConst ∷
    to64 TruncConst ∷
    to32 TruncConst ∷
    to64 (TruncExt SignExt) ∷
    to64 (TruncExt ZeroExt) ∷
    to32 (TruncExt SignExt) ∷
    to32 (TruncExt ZeroExt) ∷
    one ZeroMask ∷
    one FullMask ∷
    one SignMask ∷
    one NoOffset ∷
    one OffsetTwice ∷
    words AddOffset ∷
    one SelectFirst ∷
    one SelectSecond ∷
    []

-- the list
unfoldable pub generic_list : List Rule
generic_list = flat_map rules_of arithmetic ++ (flat_map rules_of bits ++ (flat_map rules_of comparisons ++ flat_map rules_of conversions))
