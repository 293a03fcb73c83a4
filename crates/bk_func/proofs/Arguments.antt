-- Words and arguments of signatures, from a place on.
use Rattle.std.proofs.Common.{◌≡◌, ℕ, zero, suc, ◌+◌, ◌^◌, ◌≤◌, ◌<◌, List, [], ◌∷◌, length, take, drop, get_or, ap, ◌∙◌, sym, refl, arith, Bool, true, false}
use Rattle.std.specs.Prelude.{nat_lt, ◌&&◌, ◌==◌, if◌then◌else◌}
use Rattle.std.proofs.lemmas.Bool.Decides.{nat_tests}
use Rattle.bk_ops.specs.declared.types.Ty.{Ty}
use Rattle.bk_ops.specs.declared.types.Target.{Target}
use Rattle.bk_ops.specs.Types.{width_of}
use Rattle.bk_func.specs.Words.{is_double, count_words}
use Rattle.bk_func.specs.Arguments.{fit}

pub rest_fits : (a b : Bool) → a && b ≡ true → b ≡ true
rest_fits true b h = h
rest_fits false b h = cc

drop-nil : (i : ℕ) → ◌≡◌ {A = List ℕ} (drop i []) []
drop-nil zero = refl
drop-nil (suc i) = refl

-- numbers that fit are as many as the types
pub length-fit : (t : Target) (types : List Ty) (numbers : List ℕ) → fit t types numbers ≡ true → length numbers ≡ length types
length-fit t [] [] h = refl
length-fit t [] (n ∷ numbers) h = cc
length-fit t (ty ∷ types) [] h = cc
length-fit t (ty ∷ types) (n ∷ numbers) h = ap suc (length-fit t types numbers (rest_fits (nat_lt n (2 ^ width_of ty t)) (fit t types numbers) h))

-- where the numbers end before the types, they do not fit
pub fit_short : (t : Target) (types : List Ty) (numbers : List ℕ) (i : ℕ) → i < length types → length numbers ≤ i → fit t (drop i types) (drop i numbers) ≡ false
fit_short t [] numbers i h k = absurd (omega arith)
fit_short t (ty ∷ types) [] zero h k = refl
fit_short t (ty ∷ types) (n ∷ numbers) zero h k = absurd (omega arith)
fit_short t (ty ∷ types) [] (suc i) h k = ap (λ l. fit t (drop i types) l) (sym (drop-nil i)) ∙ fit_short t types [] i (omega arith) (omega arith)
fit_short t (ty ∷ types) (n ∷ numbers) (suc i) h k = fit_short t types numbers i (omega arith) (omega arith)

-- where the types end, the numbers end too if all fit
pub fit_end : (t : Target) (types : List Ty) (numbers : List ℕ) (i : ℕ) → length types ≡ i → i ≤ length numbers → (length types == length numbers) ≡ fit t (drop i types) (drop i numbers)
fit_end t [] [] zero h k = refl
fit_end t [] (n ∷ numbers) zero h k = grind (arith, nat_tests)
fit_end t (ty ∷ types) numbers zero h k = absurd (omega arith)
fit_end t [] numbers (suc i) h k = absurd (omega arith)
fit_end t (ty ∷ types) [] (suc i) h k = absurd (omega arith)
fit_end t (ty ∷ types) (n ∷ numbers) (suc i) h k =
    let e : (suc (length types) == suc (length numbers)) ≡ (length types == length numbers) = grind (arith, nat_tests) in
    e ∙ fit_end t types numbers i (omega arith) (omega arith)

-- the words of the types up to a place and of the type there
pub count_words_more : (t : Target) (types : List Ty) (i : ℕ) (d : Ty) → i < length types → count_words t (take i types) + (if is_double t (get_or types i d) then 2 else 1) ≤ count_words t types
count_words_more t [] i d h = absurd (omega arith)
count_words_more t (ty ∷ types) zero d h = omega arith
count_words_more t (ty ∷ types) (suc i) d h = let r = count_words_more t types i d (omega arith) in omega arith
