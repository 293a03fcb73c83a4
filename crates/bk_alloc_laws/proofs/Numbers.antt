-- The registers of a target are numbered in rising order.
use Rattle.std.proofs.Common.{◌≡◌, ℕ, ◌<◌, ◌≤◌, true, Bool, List, [], ◌∷◌, length, refl, arith, get_or, ◌⊎◌, inl, inr, zero, suc}
use Rattle.std.specs.Prelude.{nat_lt, nat_le, ◌&&◌}
use Rattle.std.proofs.lemmas.Bool.{and_parts, cases_lt}
use Rattle.std.proofs.lemmas.Bool.Decides.{nat_tests}
use Rattle.bk_ops.specs.declared.types.Target.{Target}
use Rattle.bk_ops.specs.declared.types.Target.TheVariants.{Arm, Riscv64}
use Rattle.bk_alloc.specs.Placement.{number_of, registers_of}
use Rattle.bk_alloc_laws.specs.Mirror.{Names}

-- each number is at least so much, above the one before, and below a limit
rises : ℕ → ℕ → List ℕ → Bool
rises least top [] = true
rises least top (n ∷ ns) = (nat_le least n && nat_lt n top) && rises (suc n) top ns

record IsWithin (least top n : ℕ) : Type 0 where
  enough : least ≤ n
  below : n < top

within : (least top n : ℕ) → (nat_le least n && nat_lt n top) ≡ true → IsWithin least top n
within least top n e = record { enough = grind (arith, nat_tests); below = grind (arith, nat_tests) }

at_least : (xs : List ℕ) (least top r d : ℕ) → rises least top xs ≡ true → r < length xs → IsWithin least top (get_or xs r d)
unfolding rises
at_least [] least top r d e l = absurd (omega arith)
at_least (n ∷ ns) least top zero d e l = within least top n (and_parts _ _ e).0
at_least (n ∷ ns) least top (suc r) d e l =
    let first = within least top n (and_parts _ _ e).0 in
    let rest = at_least ns (suc n) top r d (and_parts _ _ e).1 (omega arith) in
    record { enough = omega (arith, first.enough, rest.enough); below = rest.below }

rising_at : (xs : List ℕ) (least top q r d : ℕ) → rises least top xs ≡ true → q < r → r < length xs → get_or xs q d < get_or xs r d
unfolding rises
rising_at [] least top q r d e l m = absurd (omega arith)
rising_at (n ∷ ns) least top q zero d e l m = absurd (omega arith)
rising_at (n ∷ ns) least top zero (suc r) d e l m = let rest = at_least ns (suc n) top r d (and_parts _ _ e).1 (omega arith) in omega (arith, rest.enough)
rising_at (n ∷ ns) least top (suc q) (suc r) d e l m = rising_at ns (suc n) top q r d (and_parts _ _ e).1 (omega arith) (omega arith)

are_rising : (t : Target) → rises 0 256 (registers_of t) ≡ true
unfolding rises
are_rising Arm = refl
are_rising Riscv64 = refl

one_number : (t : Target) (q r : ℕ) → q < length (registers_of t) → r < length (registers_of t) → number_of t q ≡ number_of t r → (q < r) ⊎ (r ≤ q) → (r < q) ⊎ (q ≤ r) → q ≡ r
one_number t q r l m e (inl f) g = let h = rising_at (registers_of t) 0 256 q r 0 (are_rising t) f m in absurd (omega (arith, h, e))
one_number t q r l m e (inr f) (inl g) = let h = rising_at (registers_of t) 0 256 r q 0 (are_rising t) g l in absurd (omega (arith, h, e))
one_number t q r l m e (inr f) (inr g) = omega arith

few_registers : (t : Target) → length (registers_of t) ≤ 256
few_registers Arm = omega arith
few_registers Riscv64 = omega arith

pub target_names : (t : Target) → Names (length (registers_of t)) (number_of t)
target_names t = record {
  few = few_registers t;
  apart = λ q r l m e. one_number t q r l m e (cases_lt q r) (cases_lt r q);
  below = λ r l. (at_least (registers_of t) 0 256 r 0 (are_rising t) l).below;
}
