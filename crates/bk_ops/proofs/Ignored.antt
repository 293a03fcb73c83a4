-- An op takes no notice of a width that its name does not have.
use Rattle.std.proofs.Common.{◌≡◌, ℕ, zero, suc, ◌≤◌, refl, ap, ◌∙◌, arith, ℤ, Bool, true, false, ◌&&◌, nat_le, if◌then◌else◌, Option, Some, None, List}
use Rattle.bk_ops.specs.declared.types.Target.{Target}
use Rattle.bk_ops.specs.declared.table.Op.{Op}
use Rattle.bk_ops.specs.declared.family.Family.{Family}
use Rattle.bk_ops.specs.declared.family.Family.TheVariants.{Const, Lsh, Rsh, RshU, SignExt, ZeroExt, Trunc, Arm, Rv}
use Rattle.bk_ops.specs.declared.family.ArmOp.TheVariants as arm
use Rattle.bk_ops.specs.declared.family.RvOp.TheVariants as rv
use Rattle.bk_ops.specs.declared.table.Widths.{Widths}
use Rattle.bk_ops.specs.declared.table.Widths.TheVariants.{Alone, Each, Long, Only, Pairs, Rising, Falling, UpTo4, UpTo8}
use Rattle.std.proofs.lemmas.Bool.Decides.{nat_tests}
use Rattle.bk_ops.specs.Table.{is_op, row, entry, is_width, allows, arm_row, rv_row}
use Rattle.bk_ops.specs.Formulas.{Formula, formula}
use Rattle.bk_ops.specs.Values.{valued, at_least_one, op_value, pure_value}

-- the formula, where a name has these widths
abbrev named : Family → ℕ → ℕ → Formula → Option Formula
named f a b g = if is_op f a b then Some g else None

-- the first width; without it there is no second
no_first : (f : Family) (b k : ℕ) (n : ℤ) (t : Target) → named f 0 b (formula f 1 k n t) ≡ named f 0 b (formula f 0 b n t)
unfolding is_op row entry formula
no_first Const b k n t = refl
no_first (Arm m) b k n t = refl
no_first (Rv m) b k n t = refl
no_first _ b k n t = refl

-- a test of two widths, the second of which is 0
second : (t : Bool) (g h : Formula) → (if t && false then Some g else None) ≡ (if t && false then Some h else None)
second true g h = refl
second false g h = refl

third : (t u : Bool) (g h : Formula) → (if t && false && u then Some g else None) ≡ (if t && false && u then Some h else None)
third true u g h = refl
third false u g h = refl

-- the second width
no_second : (f : Family) (a : ℕ) (n : ℤ) (t : Target) → named f a 0 (formula f a 1 n t) ≡ named f a 0 (formula f a 0 n t)
unfolding is_op row entry formula
no_second Lsh a n t = second (is_width a) _ _
no_second Rsh a n t = second (is_width a) _ _
no_second RshU a n t = second (is_width a) _ _
no_second SignExt a n t = third (is_width a) _ _ _
no_second ZeroExt a n t = third (is_width a) _ _ _
no_second Trunc a n t = third (is_width a) _ _ _
no_second (Arm m) a n t = refl
no_second (Rv m) a n t = refl
no_second _ a n t = refl

-- ---- the widths of an op are at most 64
abbrev is_small : Widths → Bool
is_small (Only n) = nat_le n 64
is_small _ = true

small : (f : Family) (a b : ℕ) → is_small (row f a b).widths ≡ true
unfolding row entry arm_row rv_row
small Const a b = refl
small (Arm arm.Const) a b = refl
small (Arm _) a b = refl
small (Rv rv.Const) a b = refl
small (Rv _) a b = refl
small _ a b = refl

allowed : (w : Widths) (a b : ℕ) → is_small w ≡ true → allows w a b ≡ true → (a ≤ 64) × (b ≤ 64)
allowed Alone a b s h = (grind (arith, nat_tests), grind (arith, nat_tests))
allowed Each a b s h = (grind (arith, nat_tests), grind (arith, nat_tests))
allowed Long a b s h = (grind (arith, nat_tests), grind (arith, nat_tests))
allowed (Only n) a b s h = (grind (arith, nat_tests), grind (arith, nat_tests))
allowed Pairs a b s h = (grind (arith, nat_tests), grind (arith, nat_tests))
allowed Rising a b s h = (grind (arith, nat_tests), grind (arith, nat_tests))
allowed Falling a b s h = (grind (arith, nat_tests), grind (arith, nat_tests))
allowed UpTo4 a b s h = (grind (arith, nat_tests), grind (arith, nat_tests))
allowed UpTo8 a b s h = (grind (arith, nat_tests), grind (arith, nat_tests))

pub op_within : (f : Family) (a b : ℕ) → is_op f a b ≡ true → (a ≤ 64) × (b ≤ 64)
unfolding is_op
op_within f a b h = allowed (row f a b).widths a b (small f a b) h

-- ---- the value of an op is that of the op with a width of 1 for each that its name does not have
abbrev at_formula : Option Formula → List ℕ → Option ℕ
at_formula None xs = None
at_formula (Some g) xs = valued g xs

-- formulas that are equal under a test that holds
same_under : (t : Bool) (g h : Formula) (xs : List ℕ) → t ≡ true → (if t then Some g else None) ≡ (if t then Some h else None) → valued g xs ≡ valued h xs
same_under true g h xs e p = ap (λ o. at_formula o xs) p
same_under false g h xs e p = cc

positive : (a : ℕ) → 1 ≤ a → at_least_one a ≡ a
positive a l = grind (arith, nat_tests)

second_again : (f : Family) (a b : ℕ) (n : ℤ) (t : Target) (xs : List ℕ) → is_op f a b ≡ true → valued (formula f a (at_least_one b) n t) xs ≡ valued (formula f a b n t) xs
second_again f a zero n t xs h = same_under (is_op f a 0) (formula f a 1 n t) (formula f a 0 n t) xs h (no_second f a n t)
second_again f a (suc b) n t xs h = ap (λ k. valued (formula f a k n t) xs) (positive (suc b) (omega arith))

both_again : (f : Family) (a b : ℕ) (n : ℤ) (t : Target) (xs : List ℕ) → is_op f a b ≡ true → valued (formula f (at_least_one a) (at_least_one b) n t) xs ≡ valued (formula f a b n t) xs
both_again f zero b n t xs h = same_under (is_op f 0 b) (formula f 1 (at_least_one b) n t) (formula f 0 b n t) xs h (no_first f b (at_least_one b) n t)
both_again f (suc a) b n t xs h = ap (λ k. valued (formula f k (at_least_one b) n t) xs) (positive (suc a) (omega arith)) ∙ second_again f (suc a) b n t xs h

pub sized_value : (o p : Op) (n : ℤ) (t : Target) (xs : List ℕ) → is_op o.family o.a o.b ≡ true → p ≡ record { family = o.family; a = at_least_one o.a; b = at_least_one o.b } → op_value p n xs t ≡ pure_value o n xs t
unfolding pure_value
sized_value o p n t xs h e =
    ap (λ q. op_value q n xs t) e ∙ both_again o.family o.a o.b n t xs h ∙ rw h refl
