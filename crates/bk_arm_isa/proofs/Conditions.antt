-- What the conditions say after CMP.
use Rattle.std.proofs.Common.{◌≡◌, ℕ, ◌^◌, ◌<◌, arith}
use Rattle.std.specs.Prelude.{nat_lt, nat_le, ◌==◌, int_lt, int_le}
use Rattle.std.proofs.lemmas.Bool.Decides.{nat_tests}
use Rattle.std.proofs.lemmas.Int.{ints}
use Rattle.bk_num.specs.Word.{signed}
use Rattle.bk_arm_isa.specs.declared.flags.Flags.{Flags}
use Rattle.bk_arm_isa.specs.declared.Condition.TheVariants.{Eq, Cc, Ls, Lt, Le}
use Rattle.bk_arm_isa.specs.declared.TestOp.TheVariants.{Cmp}
use Rattle.bk_arm_isa.specs.Operands.{passes, test_flags}

pub compares_eq : (x y : ℕ) (f : Flags) → x < 2 ^ 32 → y < 2 ^ 32 → passes Eq (test_flags Cmp x y f) ≡ (x == y)
compares_eq x y f h k = grind (arith, nat_tests)

pub compares_cc : (x y : ℕ) (f : Flags) → x < 2 ^ 32 → y < 2 ^ 32 → passes Cc (test_flags Cmp x y f) ≡ nat_lt x y
compares_cc x y f h k = grind (arith, nat_tests)

pub compares_ls : (x y : ℕ) (f : Flags) → x < 2 ^ 32 → y < 2 ^ 32 → passes Ls (test_flags Cmp x y f) ≡ nat_le x y
compares_ls x y f h k = grind (arith, nat_tests)

pub compares_lt : (x y : ℕ) (f : Flags) → x < 2 ^ 32 → y < 2 ^ 32 → passes Lt (test_flags Cmp x y f) ≡ int_lt (signed 32 x) (signed 32 y)
compares_lt x y f h k = grind (arith, nat_tests, ints)

pub compares_le : (x y : ℕ) (f : Flags) → x < 2 ^ 32 → y < 2 ^ 32 → passes Le (test_flags Cmp x y f) ≡ int_le (signed 32 x) (signed 32 y)
compares_le x y f h k = grind (arith, nat_tests, ints)
