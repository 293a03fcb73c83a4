-- The first place of an element that passes a test.
use Rattle.std.proofs.Common.{◌≡◌, ℕ, zero, suc, refl, ap, ◌∙◌, arith, List, [], ◌∷◌, Option, Some, None, Bool, false, cond}
use Rattle.std.specs.Prelude.{find, position, slice_get}
use Rattle.bk_places.proofs.Positions.{IsFirstAt, position_first}

pub first_find : {A : Type 0} (t : A → Bool) (xs : List A) (i : ℕ) (x : A) → IsFirstAt t xs i x → find t xs ≡ Some x
first_find t [] i x h = let g = h.got in absurd cc
first_find t (y ∷ ys) zero x h =
    let g = h.got in
    let d : y ≡ x = cc in
    ap (λ b. cond b (Some y) (find t ys)) (ap t d ∙ h.passes) ∙ ap Some d
first_find t (y ∷ ys) (suc i) x h =
    ap (λ b. cond b (Some y) (find t ys)) (h.before 0 y (omega arith) refl)
    ∙ first_find t ys i x (record { got = h.got; passes = h.passes; before = λ k z l g. h.before (suc k) z (omega (arith, l)) g })

-- where there is none
pub no_position : {A : Type 0} (t : A → Bool) (xs : List A) → ((k : ℕ) (y : A) → slice_get xs k ≡ Some y → t y ≡ false) → position t xs ≡ None
no_position t xs h = go (position t xs) refl
  where
    go : (o : Option ℕ) → position t xs ≡ o → position t xs ≡ None
    go None e = e
    go (Some i) e =
        let q = position_first t xs i e in
        let a = h i q.0 q.1.got in
        let b = q.1.passes in
        absurd cc
