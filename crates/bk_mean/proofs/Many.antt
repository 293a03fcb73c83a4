-- No op takes more than four arguments.
use Rattle.std.proofs.Common.{◌≡◌, ℕ, ℤ, refl, List, [], ◌∷◌, length, ◌≤◌, arith, None, Bool, true, false}
use Rattle.std.specs.Prelude.{if◌then◌else◌}
use Rattle.bk_ops.specs.declared.types.Target.{Target}
use Rattle.bk_ops.specs.declared.table.Op.{Op}
use Rattle.bk_ops.specs.Table.{is_op}
use Rattle.bk_ops.specs.Formulas.{Formula, no_value, constant, of_one, of_two, of_three, of_four, formula}
use Rattle.bk_ops.specs.Values.{valued, op_value, pure_value}

valued_many : (g : Formula) (a b c d e : ℕ) (xs : List ℕ) → valued g (a ∷ b ∷ c ∷ d ∷ e ∷ xs) ≡ None
valued_many no_value a b c d e xs = refl
valued_many (constant v) a b c d e xs = refl
valued_many (of_one p f) a b c d e xs = refl
valued_many (of_two p q f) a b c d e xs = refl
valued_many (of_three p q r f) a b c d e xs = refl
valued_many (of_four p q r s f) a b c d e xs = refl

pure_many : (o : Op) (n : ℤ) (t : Target) (a b c d e : ℕ) (xs : List ℕ) → pure_value o n (a ∷ b ∷ c ∷ d ∷ e ∷ xs) t ≡ None
unfolding pure_value
pure_many o n t a b c d e xs = go (is_op o.family o.a o.b)
  where
    go : (t' : Bool) → (if t' then op_value o n (a ∷ b ∷ c ∷ d ∷ e ∷ xs) t else None) ≡ None
    go true = valued_many (formula o.family o.a o.b n t) a b c d e xs
    go false = refl

pub too_many : (o : Op) (n : ℤ) (t : Target) (xs : List ℕ) → 5 ≤ length xs → pure_value o n xs t ≡ None
too_many o n t [] l = absurd (omega arith)
too_many o n t (a ∷ []) l = absurd (omega arith)
too_many o n t (a ∷ b ∷ []) l = absurd (omega arith)
too_many o n t (a ∷ b ∷ c ∷ []) l = absurd (omega arith)
too_many o n t (a ∷ b ∷ c ∷ d ∷ []) l = absurd (omega arith)
too_many o n t (a ∷ b ∷ c ∷ d ∷ e ∷ xs) l = pure_many o n t a b c d e xs
