-- The places of signatures, and the numbers that count them.
use Rattle.std.proofs.Common.{◌≡◌, ◌∙◌, sym, refl, ap, subst, ℕ, ◌+◌, ◌-◌, ◌<◌, ◌≤◌, ◌↔◌, nat_lt, leb, List, ◌++◌, length, ℤ, pos, to_z, of_z, w64, FitsSigned, None, Some, arith}
use Rattle.std.specs.List.{slice_get}
use Rattle.std.specs.Bool.{IsTrue}
use Rattle.std.proofs.lemmas.Bool.{lt-ltb, ltb-true, leb-true}
use Rattle.std.proofs.lemmas.Int.{to_z-of_z, ints}
use Rattle.std.proofs.lemmas.Option.{none-some, same_Some}
use Rattle.bk_ops.specs.declared.types.Ty.{Ty}
use Rattle.bk_func.specs.Form.Signatures.{Setting}
use Rattle.bk_func.specs.Form.Parts.{IsBetween}
use Rattle.bk_func.specs.Form.Shapes.{IsAlike, FitsPlaceOf}
use Rattle.bk_places.proofs.Elements.{at_some}
use Rattle.bk_form.proofs.Standing.{slice_get_left, slice_get_right}

pub before_end : {A : Type 0} (xs ys : List A) (k : ℕ) → k < length xs → slice_get (xs ++ ys) k ≡ slice_get xs k
before_end xs ys k l = let (x, e) = at_some xs k l in slice_get_left xs ys k x e ∙ sym e

pub past_end : {A : Type 0} (xs ys : List A) (k : ℕ) → length xs ≤ k → slice_get (xs ++ ys) k ≡ slice_get ys (k - length xs)
past_end xs ys k l = let e : k ≡ length xs + (k - length xs) = omega arith in ap (slice_get (xs ++ ys)) e ∙ slice_get_right xs ys (k - length xs)

-- a number that is passed stays the same
pub passed : (P : ℤ → Type 0) (z : ℤ) → FitsSigned w64 z → P (to_z w64 (of_z w64 z)) → P z
passed P z fits h = subst P (to_z-of_z w64 z fits) h

pub same_pos : (j k : ℕ) → pos j ≡ pos k → j ≡ k
same_pos j k e = cc

-- a type that fits the place with the number
pub place_there : (s : Setting) (ts : List Ty) (n : ℤ) (x y : Ty) (k : ℕ) → n ≡ pos k → slice_get ts k ≡ Some y → IsAlike s y x ↔ FitsPlaceOf s ts n x
place_there s ts n x y k e w = (
  (λ a j z h v.
      let same : j ≡ k = same_pos j k (sym h ∙ e) in
      let word : y ≡ z = same_Some y z (sym w ∙ (rw same at v)) in
      subst (λ (u : Ty). IsAlike s u x) word a),
  (λ fits. fits k y e w),
)

pub no_place_there : (s : Setting) (ts : List Ty) (n : ℤ) (x : Ty) (k : ℕ) → n ≡ pos k → slice_get ts k ≡ None → FitsPlaceOf s ts n x
no_place_there s ts n x k e w = λ j z h v. absurd (none-some z (sym w ∙ (rw (same_pos j k (sym h ∙ e)) at v)))

pub no_such_place : (s : Setting) (ts : List Ty) (n : ℤ) (x : Ty) → ((k : ℕ) → n ≡ pos k → ⊥) → FitsPlaceOf s ts n x
no_such_place s ts n x none = λ j z h v. absurd (none j h)

-- a place in the first of two lists, and one in the second
pub fits_first : (s : Setting) (xs ys : List Ty) (k : ℕ) (x : Ty) → k < length xs → FitsPlaceOf s xs (pos k) x ↔ FitsPlaceOf s (xs ++ ys) (pos k) x
fits_first s xs ys k x l = (
  (λ fits j z e h. let same : j ≡ k = same_pos j k (sym e) in fits j z e (sym (before_end xs ys j (omega (arith, same))) ∙ h)),
  (λ fits j z e h. let same : j ≡ k = same_pos j k (sym e) in fits j z e (before_end xs ys j (omega (arith, same)) ∙ h)),
)

pub fits_second : (s : Setting) (xs ys : List Ty) (k : ℕ) (x : Ty) → length xs ≤ k → FitsPlaceOf s ys (pos (k - length xs)) x ↔ FitsPlaceOf s (xs ++ ys) (pos k) x
fits_second s xs ys k x l = (
  (λ fits j z e h.
      let same : j ≡ k = same_pos j k (sym e) in
      fits (k - length xs) z refl (sym (past_end xs ys k l) ∙ (ap (slice_get (xs ++ ys)) (sym same) ∙ h))),
  (λ fits j z e h.
      let same : j ≡ k - length xs = same_pos j (k - length xs) (sym e) in
      fits k z refl (past_end xs ys k l ∙ (ap (slice_get ys) (sym same) ∙ h))),
)

-- a number among those of the places behind the first
pub is_between_words : (n : ℤ) (k a b low high : ℕ) → n ≡ pos k → a ≡ low → high ≡ a + b → a ≤ k → IsTrue (nat_lt (k - a) b) ↔ IsBetween n low high
is_between_words n k a b low high e f g l = rw (e, ← f, g) (
  (λ t. let m = ltb-true (k - a) b t in (omega (arith, ints), omega (arith, ints, m))),
  (λ (x, y). lt-ltb (k - a) b (omega (arith, ints, y))),
)

pub not_between_words : (n : ℤ) (k a low high : ℕ) → n ≡ pos k → a ≡ low → k < a → IsTrue (leb a k) ↔ IsBetween n low high
not_between_words n k a low high e f l = rw (e, ← f) (
  (λ t. let m = leb-true a k t in absurd (omega (arith, m))),
  (λ (x, y). absurd (omega (arith, ints, x))),
)
