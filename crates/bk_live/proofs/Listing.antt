-- Uses that are listed one by one.
use Rattle.std.proofs.Common.{◌≡◌, ◌∙◌, sym, refl, ap, ℕ, ◌↔◌, List, Option, None, Some, inl, inr, ⊎_elim}
use Rattle.std.specs.List.{Contains, slice_get}
use Rattle.std.specs.Option.{option_and_then}
use Rattle.std.proofs.lemmas.Option.{none-some}
use Rattle.bk_func.specs.Records.{ValueRecord, BlockRecord}
use Rattle.bk_func.specs.Form.Text.{IsPhi}
use Rattle.bk_live.specs.declared.homes.Spot.{Spot}
use Rattle.bk_live.specs.declared.uses.Use.{Use}
use Rattle.bk_live.specs.Adds.{Adds, Some_of}
use Rattle.bk_live.specs.Homes.{end_of}
use Rattle.bk_live.specs.Uses.{IsTakenAt, IsSentAt, IsUseOf, IsUseIn, end_behind}
use Rattle.bk_live.proofs.Adding.{adds_same, adds_both}
use Rattle.bk_live.proofs.Alone.{contains_at, at_contains}

pub taken_is : (s : Option Spot) (ns : List ℕ) (u : Use) → Some_of ns (λ (k n : ℕ) (u : Use). (s ≡ Some u.spot) × (u.value ≡ n)) u ↔ IsTakenAt s ns u
taken_is s ns u = (
  (λ (k, n, at, (e, same)). (e, contains_at ns k u.value (at ∙ ap Some (sym same)))),
  (λ (e, c). let (k, at) = at_contains ns u.value c in (k, u.value, at, (e, refl))),
)

chosen : (h : ℕ → Option Spot) (o : Option ℕ) (s : Spot) → option_and_then h o ≡ Some s → (q : ℕ) × (o ≡ Some q) × (h q ≡ Some s)
chosen h None s e = absurd (none-some s e)
chosen h (Some q) s e = (q, refl, e)

pub sent_is : (os : List (List ℕ)) (p : ℕ → Option ℕ) (preds ns : List ℕ) (u : Use)
    → Some_of ns (λ (k n : ℕ) (u : Use). (option_and_then (end_behind os p) (slice_get preds k) ≡ Some u.spot) × (u.value ≡ n)) u ↔ IsSentAt os p preds ns u
sent_is os p preds ns u = (
  (λ (k, n, at, (e, same)). let (q, pred, is) = chosen (end_behind os p) (slice_get preds k) u.spot e in (k, q, pred, at ∙ ap Some (sym same), is)),
  (λ (k, q, pred, at, is). (k, u.value, at, (ap (option_and_then (end_behind os p)) pred ∙ is, refl))),
)

-- what a value uses, by whether it is a phi
pub phi_uses : (os : List (List ℕ)) (h : ℕ → Option Spot) (p : ℕ → Option ℕ) (preds : List ℕ) (v : ValueRecord) (P Q : Use → Type 0) → IsPhi v → Adds P (IsSentAt os p preds v.args) Q
    → Adds P (IsUseOf os h p preds v) Q
phi_uses os h p preds v P Q phi a =
    adds_same P (IsSentAt os p preds v.args) (IsUseOf os h p preds v) Q
    (λ u. ((λ s. inl (phi, s)), (λ x. ⊎_elim (λ (is, s). s) (λ (plain, t). absurd (plain phi)) x))) a

pub plain_uses : (os : List (List ℕ)) (h : ℕ → Option Spot) (p : ℕ → Option ℕ) (preds : List ℕ) (v : ValueRecord) (P Q : Use → Type 0) → ¬ IsPhi v → Adds P (IsTakenAt (h v.id) v.args) Q
    → Adds P (IsUseOf os h p preds v) Q
plain_uses os h p preds v P Q plain a =
    adds_same P (IsTakenAt (h v.id) v.args) (IsUseOf os h p preds v) Q
    (λ u. ((λ t. inr (plain, t)), (λ x. ⊎_elim (λ (phi, s). absurd (plain phi)) (λ (is, t). t) x))) a

-- what a block uses
pub block_uses : (os : List (List ℕ)) (h : ℕ → Option Spot) (p : ℕ → Option ℕ) (i : ℕ) (b : BlockRecord) (P Q T : Use → Type 0)
    → Adds P (λ u. (b.control ≡ Some u.value) × (end_of os i ≡ u.spot)) Q → Adds Q (λ u. (v : ValueRecord) × Contains b.values v × IsUseOf os h p b.preds v u) T → Adds P (IsUseIn os h p i b) T
block_uses os h p i b P Q T a c =
    adds_both P (λ u. (b.control ≡ Some u.value) × (end_of os i ≡ u.spot)) Q (λ u. (v : ValueRecord) × Contains b.values v × IsUseOf os h p b.preds v u) T (IsUseIn os h p i b)
    (λ u. ((λ x. x), (λ x. x))) a c
