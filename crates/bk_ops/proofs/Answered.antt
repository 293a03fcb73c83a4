-- The value at a list of arguments, from its elements.
use Rattle.std.proofs.Common.{◌≡◌, ℕ, ◌<◌, ◌≤◌, refl, ap, ◌∙◌, arith, ℤ, Option, List, [], ◌∷◌, length, get_or}
use Rattle.bk_ops.specs.declared.types.Target.{Target}
use Rattle.bk_ops.specs.declared.table.Op.{Op}
use Rattle.bk_ops.specs.Values.{op_value}

-- lists by their elements
pub empty : (xs : List ℕ) → length xs < 1 → [] ≡ xs
empty [] l = refl
empty (x ∷ xs) l = absurd (omega arith)

pub single : (xs : List ℕ) → 1 ≤ length xs → length xs < 2 → get_or xs 0 0 ∷ [] ≡ xs
single [] h l = absurd (omega arith)
single (x ∷ []) h l = refl
single (x ∷ y ∷ xs) h l = absurd (omega arith)

pub pair : (xs : List ℕ) → 2 ≤ length xs → length xs < 3 → get_or xs 0 0 ∷ get_or xs 1 0 ∷ [] ≡ xs
pair [] h l = absurd (omega arith)
pair (x ∷ xs) h l = ap (λ ys. x ∷ ys) (single xs (omega arith) (omega arith))

pub triple : (xs : List ℕ) → 3 ≤ length xs → length xs < 4 → get_or xs 0 0 ∷ get_or xs 1 0 ∷ get_or xs 2 0 ∷ [] ≡ xs
triple [] h l = absurd (omega arith)
triple (x ∷ xs) h l = ap (λ ys. x ∷ ys) (pair xs (omega arith) (omega arith))

pub quadruple : (xs : List ℕ) → 4 ≤ length xs → length xs < 5 → get_or xs 0 0 ∷ get_or xs 1 0 ∷ get_or xs 2 0 ∷ get_or xs 3 0 ∷ [] ≡ xs
quadruple [] h l = absurd (omega arith)
quadruple (x ∷ xs) h l = ap (λ ys. x ∷ ys) (triple xs (omega arith) (omega arith))

-- what was computed of a list's elements
pub answered : (o : Op) (n m : ℤ) (t : Target) (xs ys : List ℕ) (r : Option ℕ) → m ≡ n → ys ≡ xs → r ≡ op_value o m ys t → r ≡ op_value o n xs t
answered o n m t xs ys r f g k = k ∙ ap (λ z. op_value o z ys t) f ∙ ap (λ zs. op_value o n zs t) g
