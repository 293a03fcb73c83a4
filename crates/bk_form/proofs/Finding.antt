-- The first place at which what is asked does not hold, found one by one.
use Rattle.std.proofs.Common.{◌≡◌, ◌∙◌, sym, refl, ap, subst, ℕ, ◌+◌, ◌<◌, ◌≤◌, ◌⊎◌, List, length, get_or, Option, None, Some, true, false, inl, inr, ⊎_elim, arith}
use Rattle.std.specs.List.{Contains, slice_get}
use Rattle.std.specs.Option.{is_some}
use Rattle.std.proofs.lemmas.Bool.{cases_lt, false≢true}
use Rattle.std.proofs.lemmas.Option.{slice_get_read, slice_get_within, get_or_from_slice_get, same_Some}
use Rattle.bk_func.specs.declared.form.Place.{Place}
use Rattle.bk_func.specs.declared.form.Place.TheVariants.{Value}
use Rattle.bk_func.specs.Records.{ValueRecord, BlockRecord, FuncRecord}
use Rattle.bk_func.specs.Form.Text.{IsFirstNotIn}
use Rattle.bk_func.specs.Form.{Holds, IsPlaceIn}
use Rattle.bk_form.specs.Finds.{Finds, FindsIn}

-- the fact holds of the first i elements
pub record HoldsUpTo {A : Type 0} (R : A → Type 0) (xs : List A) (i : ℕ) : Type 0 where
  pub each : (j : ℕ) (x : A) → j < i → slice_get xs j ≡ Some x → R x

less_or_here : (j i : ℕ) → j < i + 1 → (j < i) ⊎ (j ≡ i)
less_or_here j i m = ⊎_elim (λ l. inl l) (λ g. inr (omega arith)) (cases_lt j i)

pub holds_more : {A : Type 0} {R : A → Type 0} {xs ys : List A} {i : ℕ} → xs ≡ ys → HoldsUpTo R ys i → (x : A) → i < length xs → x ≡ get_or xs i x → R x → HoldsUpTo R ys (i + 1)
holds_more {A} {R} {xs} {ys} {i} same holds x l e here = record { each = at }
  where
    at : (j : ℕ) (y : A) → j < i + 1 → slice_get ys j ≡ Some y → R y
    at j y m f = ⊎_elim
        (λ below. holds.each j y below f)
        (λ (last : j ≡ i). subst (λ (z : A). R z) (same_Some x y (sym (slice_get_read xs (length xs) i x refl l e) ∙ (rw (same, ← last) f))) here)
        (less_or_here j i m)

pub holds_in : {A : Type 0} {R : A → Type 0} {xs ys : List A} {i : ℕ} → xs ≡ ys → HoldsUpTo R ys i → length xs ≤ i → (x : A) → Contains ys x → R x
holds_in {A} {R} {xs} {ys} {i} same holds l x (k, m, e) =
    let long : length ys ≤ i = rw (← same) l in
    holds.each k x (omega arith) (slice_get_read ys (length ys) k x refl m (sym e))

pub first_not : {A : Type 0} {R : A → Type 0} {xs ys : List A} {i : ℕ} → xs ≡ ys → HoldsUpTo R ys i → (x : A) → i < length xs → x ≡ get_or xs i x → ¬ R x → IsFirstNotIn R ys x
first_not {A} {R} {xs} {ys} {i} same holds x l e broken = (i, rw (← same) (slice_get_read xs (length xs) i x refl l e), broken, holds.each)

-- where values ask nothing
pub block_holds : (P : BlockRecord → Type 0) (b : BlockRecord) → P b → Holds P (λ b v. Unit {0}) b
block_holds P b p = record { block = p; value = λ v at. tt }

pub block_not : (P : BlockRecord → Type 0) (b : BlockRecord) → ¬ P b → ¬ Holds P (λ b v. Unit {0}) b
block_not P b n h = n h.block

-- a place in the block is where something does not hold
pub not_held : (P : BlockRecord → Type 0) (Q : BlockRecord → ValueRecord → Type 0) (b : BlockRecord) (place : Place) → IsPlaceIn P Q b place → ¬ Holds P Q b
not_held P Q b place at h = ⊎_elim
    (λ (n, e). n h.block)
    (λ (p, (v, (j, f, n, before), e)). n (h.value v (j, slice_get_within b.values j v f, get_or_from_slice_get b.values j v v f)))
    at

-- what the search in a block answers is what the search in the function answers, where all held before
pub found : (P : BlockRecord → Type 0) (Q : BlockRecord → ValueRecord → Type 0) (f : FuncRecord) {xs : List BlockRecord} {i : ℕ} → xs ≡ f.blocks
    → HoldsUpTo (Holds P Q) f.blocks i → (b : BlockRecord) → i < length xs → b ≡ get_or xs i b → (r : Option Place) → FindsIn P Q b r → is_some r ≡ true → Finds P Q f r
found P Q f same holds b l e None finds t = absurd (false≢true t)
found P Q f same holds b l e (Some place) finds t = (b, first_not same holds b l e (not_held P Q b place finds), finds)

pub not_found : (P : BlockRecord → Type 0) (Q : BlockRecord → ValueRecord → Type 0) (b : BlockRecord) (r : Option Place) → FindsIn P Q b r → is_some r ≡ false → Holds P Q b
not_found P Q b None finds t = finds
not_found P Q b (Some place) finds t = absurd (false≢true (sym t))

-- the first value of a block that does not hold, or none
pub value_found : (P : BlockRecord → Type 0) (Q : BlockRecord → ValueRecord → Type 0) (b : BlockRecord) {xs : List ValueRecord} {j : ℕ} → xs ≡ b.values
    → HoldsUpTo (Q b) b.values j → P b → (v : ValueRecord) → j < length xs → v ≡ get_or xs j v → ¬ Q b v → (id : ℕ) → id ≡ v.id → IsPlaceIn P Q b (Value id)
value_found P Q b same holds p v l e broken id named = inr (p, (v, first_not same holds v l e broken, ap Value named))

pub no_value : (P : BlockRecord → Type 0) (Q : BlockRecord → ValueRecord → Type 0) (b : BlockRecord) {xs : List ValueRecord} {j : ℕ} → xs ≡ b.values
    → HoldsUpTo (Q b) b.values j → P b → length xs ≤ j → Holds P Q b
no_value P Q b same holds p l = record { block = p; value = λ v at. holds_in same holds l v at }

-- an element that a loop is at
pub item_in : {A : Type 0} {xs ys : List A} {i : ℕ} (x : A) → xs ≡ ys → i < length xs → x ≡ get_or xs i x → Contains ys x
item_in {A} {xs} {ys} {i} x same l e = subst (λ (zs : List A). Contains zs x) same (i, l, sym e)
