-- A commutative op has the same value with its arguments swapped.
use Rattle.std.proofs.Common.{◌≡◌, ℕ, ◌+◌, ◌/◌, ◌^◌, ◌%◌, refl, ap, subst, sym, ◌∙◌, arith, List, [], ◌∷◌, map, Bool, true, false, ℤ, pos, ◌*ℤ◌, not, Some}
use Rattle.std.specs.Prelude.{if◌then◌else◌, ◌==◌}
use Rattle.std.specs.Int.{int_div_euclid}
use Rattle.std.proofs.Math.Nat.{mul_comm}
use Rattle.std.proofs.lemmas.Nat.{and_comm, or_comm, xor_comm}
use Rattle.std.proofs.lemmas.Bool.Decides.{nat_tests}
use Rattle.std.proofs.Math.IntN.{*ℤ_comm}
use Rattle.bk_num.specs.Word.{signed, residue}
use Rattle.bk_ops.specs.Arithmetic.{as_bit}
use Rattle.bk_ops.specs.Types.{word_width}
use Rattle.bk_ops.specs.Formulas.{Formula, no_value, constant, of_one, of_two, of_three, of_four, formula, arm_formula, rv_formula}
use Rattle.bk_ops.specs.Table.{is_op, row, entry, arm_row, rv_row, unknown, info_of}
use Rattle.bk_ops.specs.Values.{places, places_of, computed, value_row, valued}
use Rattle.bk_ops.specs.declared.table.Op.{Op}
use Rattle.bk_ops.specs.declared.types.Target.{Target}
use Rattle.bk_ops.specs.declared.family.Family.{Family}
use Rattle.bk_ops.specs.declared.family.Family.TheVariants.{Add, Mul, And, Or, Xor, Hmul, Hmulu, Eq, Neq, AndB, OrB, Arm, Rv}
use Rattle.bk_ops.specs.declared.family.ArmOp.TheVariants as arm
use Rattle.bk_ops.specs.declared.family.RvOp.TheVariants as rv
use Rattle.bk_func.specs.Records.{FuncRecord}
use Rattle.bk_rule.specs.Sound.{Gives}
use Rattle.bk_rule.specs.Match.{swapped, is_commutative}
use Rattle.bk_refine_laws.specs.Known.{FitsAt, FitEach}

-- two places of one width, and a value that does not go by their order
abbrev pub Turns : Formula → Type 0
Turns (of_two p q h) = (p ≡ q) × ((x y : ℕ) → h x y ≡ h y x)
Turns _ = ⊥

same_test : (x y : ℕ) → (x == y) ≡ (y == x)
same_test x y = grind (arith, nat_tests)

mul_turns : (x y : ℤ) → (x *ℤ y) ≡ (y *ℤ x)
mul_turns x y = *ℤ_comm x y

commutes : (f : Family) (a b : ℕ) (n : ℤ) (t : Target) → (row f a b).info.commutative ≡ true → Turns (formula f a b n t)
unfolding row entry arm_row rv_row formula arm_formula rv_formula
commutes Add a b n t e = (refl, λ x y. ap (λ s. s % 2 ^ a) (let d : x + y ≡ y + x = omega arith in d))
commutes Mul a b n t e = (refl, λ x y. ap (λ s. s % 2 ^ a) (mul_comm x y))
commutes And a b n t e = (refl, and_comm)
commutes Or a b n t e = (refl, or_comm)
commutes Xor a b n t e = (refl, xor_comm)
commutes Hmul a b n t e = (refl, λ x y. ap (λ z. residue a (int_div_euclid z (pos (2 ^ a)))) (mul_turns (signed a x) (signed a y)))
commutes Hmulu a b n t e = (refl, λ x y. ap (λ z. z / 2 ^ a) (mul_comm (x % 2 ^ a) (y % 2 ^ a)))
commutes Eq a b n t e = (refl, λ x y. ap as_bit (same_test x y))
commutes Neq a b n t e = (refl, λ x y. ap (λ c. as_bit (not c)) (same_test x y))
commutes AndB a b n t e = (refl, and_comm)
commutes OrB a b n t e = (refl, or_comm)
commutes (Arm arm.Add) a b n t e = (refl, λ x y. ap (λ s. s % 2 ^ word_width t) (let d : x + y ≡ y + x = omega arith in d))
commutes (Arm arm.And) a b n t e = (refl, and_comm)
commutes (Arm arm.Orr) a b n t e = (refl, or_comm)
commutes (Arm arm.Eor) a b n t e = (refl, xor_comm)
commutes (Arm _) a b n t e = absurd cc
commutes (Rv rv.Add) a b n t e = (refl, λ x y. ap (λ s. s % 2 ^ word_width t) (let d : x + y ≡ y + x = omega arith in d))
commutes (Rv rv.And) a b n t e = (refl, and_comm)
commutes (Rv rv.Or) a b n t e = (refl, or_comm)
commutes (Rv rv.Xor) a b n t e = (refl, xor_comm)
commutes (Rv _) a b n t e = absurd cc
commutes _ a b n t e = absurd cc

in_row : (o : Op) → is_commutative o ≡ true → (row o.family o.a o.b).info.commutative ≡ true
unfolding info_of
in_row o e = go (is_op o.family o.a o.b) e
  where
    go : (c : Bool) → (if c then (row o.family o.a o.b).info else unknown).commutative ≡ true → (row o.family o.a o.b).info.commutative ≡ true
    go true d = d
    go false d = absurd cc

turns : (o : Op) (n : ℤ) (t : Target) → is_commutative o ≡ true → Turns (formula o.family o.a o.b n t)
turns o n t e = commutes o.family o.a o.b n t (in_row o e)

fits_swapped : (g : Formula) → Turns g → (t : Target) (f : FuncRecord) (m : ℕ → ℕ) (o : Op) (ids : List ℕ) → FitEach t f m o (places_of g) ids → FitEach t f m o (places_of g) (swapped ids)
fits_swapped (of_two p q h) c t f m o [] k = elim k [ ]
fits_swapped (of_two p q h) c t f m o (x ∷ []) (k, l) = elim l [ ]
fits_swapped (of_two p q h) c t f m o (x ∷ y ∷ []) (k, (l, z)) =
    (subst (λ w. FitsAt t f m o w y) (sym c.0) l, (subst (λ w. FitsAt t f m o w x) c.0 k, tt))
fits_swapped (of_two p q h) c t f m o (x ∷ y ∷ z ∷ zs) (k, (l, a)) = elim a [ ]
fits_swapped no_value c t f m o ids k = elim c [ ]
fits_swapped (constant v) c t f m o ids k = elim c [ ]
fits_swapped (of_one p h) c t f m o ids k = elim c [ ]
fits_swapped (of_three p q r h) c t f m o ids k = elim c [ ]
fits_swapped (of_four p q r s h) c t f m o ids k = elim c [ ]

pub swapped_fits : (t : Target) (f : FuncRecord) (m : ℕ → ℕ) (o : Op) → is_commutative o ≡ true → (ids : List ℕ) → FitEach t f m o (places o.family o.a o.b t) ids →
    FitEach t f m o (places o.family o.a o.b t) (swapped ids)
swapped_fits t f m o e ids k = fits_swapped (formula o.family o.a o.b (pos 0) t) (turns o (pos 0) t e) t f m o ids k

gives_swapped : (g : Formula) → Turns g → (m : ℕ → ℕ) (ids : List ℕ) → computed g (map m (swapped ids)) ≡ computed g (map m ids)
gives_swapped (of_two p q h) c m [] = refl
gives_swapped (of_two p q h) c m (x ∷ []) = refl
gives_swapped (of_two p q h) c m (x ∷ y ∷ []) = ap Some (c.1 (m y) (m x))
gives_swapped (of_two p q h) c m (x ∷ y ∷ z ∷ zs) = refl
gives_swapped no_value c m ids = elim c [ ]
gives_swapped (constant v) c m ids = elim c [ ]
gives_swapped (of_one p h) c m ids = elim c [ ]
gives_swapped (of_three p q r h) c m ids = elim c [ ]
gives_swapped (of_four p q r s h) c m ids = elim c [ ]

pub swapped_gives : (t : Target) (m : ℕ → ℕ) (o : Op) (k : ℤ) → is_commutative o ≡ true → (ids : List ℕ) (n : ℕ) → Gives (value_row o.family o.a o.b k t (map m ids)) n →
    Gives (value_row o.family o.a o.b k t (map m (swapped ids))) n
swapped_gives t m o k e ids n h = subst (λ r. Gives r n) (sym (gives_swapped (formula o.family o.a o.b k t) (turns o k t e) m ids)) h

-- the same of ops that take the low bits of their arguments
low_swapped : (g : Formula) → Turns g → (m : ℕ → ℕ) (ids : List ℕ) → valued g (map m (swapped ids)) ≡ valued g (map m ids)
low_swapped (of_two p q h) c m [] = refl
low_swapped (of_two p q h) c m (x ∷ []) = refl
low_swapped (of_two p q h) c m (x ∷ y ∷ []) = ap Some (c.1 (m y % 2 ^ p) (m x % 2 ^ q) ∙ ap (λ w. h (m x % 2 ^ w) (m y % 2 ^ p)) (sym c.0) ∙ ap (λ w. h (m x % 2 ^ p) (m y % 2 ^ w)) c.0)
low_swapped (of_two p q h) c m (x ∷ y ∷ z ∷ zs) = refl
low_swapped no_value c m ids = elim c [ ]
low_swapped (constant v) c m ids = elim c [ ]
low_swapped (of_one p h) c m ids = elim c [ ]
low_swapped (of_three p q r h) c m ids = elim c [ ]
low_swapped (of_four p q r s h) c m ids = elim c [ ]

pub swapped_low : (t : Target) (m : ℕ → ℕ) (o : Op) (k : ℤ) → is_commutative o ≡ true → (ids : List ℕ) →
    valued (formula o.family o.a o.b k t) (map m (swapped ids)) ≡ valued (formula o.family o.a o.b k t) (map m ids)
swapped_low t m o k e ids = low_swapped (formula o.family o.a o.b k t) (turns o k t e) m ids
