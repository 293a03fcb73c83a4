-- What is added step by step.
use Rattle.std.proofs.Common.{◌≡◌, ◌∙◌, sym, refl, ap, subst, ℕ, ◌+◌, ◌<◌, ◌≤◌, ◌⊎◌, ◌↔◌, List, [], ◌∷◌, ◌++◌, length, get_or, Option, None, Some, inl, inr, ⊎_elim, arith}
use Rattle.std.specs.Borrow.{Bor}
use Rattle.std.specs.List.{Contains, slice_get}
use Rattle.std.specs.Option.{option_copied}
use Rattle.std.specs.Slice.{IsItemAt}
use Rattle.std.proofs.lemmas.Bool.{cases_lt}
use Rattle.std.proofs.lemmas.List.Elements.{Contains-push, Contains-push_cases, Contains-append_left}
use Rattle.std.proofs.lemmas.Option.{same_Some, slice_get_past, slice_get_read, slice_get_within, get_or_from_slice_get}
use Rattle.bk_live.specs.Adds.{Adds, Some_of, Some_before}

-- nothing is added
pub adds_none : {U : Type 0} (P R : U → Type 0) → ((u : U) → ¬ R u) → Adds P R P
adds_none {U} P R none = record { each = λ u. ((λ p. inl p), (λ h. ⊎_elim (λ p. p) (λ r. absurd (none u r)) h)) }

-- one more element of a list
pub adds_push : {U : Type 0} (xs : List U) (x : U) (R : U → Type 0) → ((u : U) → R u ↔ (x ≡ u)) → Adds (Contains xs) R (Contains (xs ++ x ∷ []))
adds_push {U} xs x R r = record {
  each = λ u. (
    (λ c. ⊎_elim (λ old. inl old) (λ (same : x ≡ u). inr ((r u).1 same)) (Contains-push_cases xs x u c)),
    (λ h. ⊎_elim
        (λ old. Contains-append_left xs (x ∷ []) u old)
        (λ new. subst (λ (y : U). Contains (xs ++ x ∷ []) y) ((r u).0 new) (Contains-push xs x))
        h),
  );
}

-- what is added, said otherwise
pub adds_same : {U : Type 0} (P R T Q : U → Type 0) → ((u : U) → R u ↔ T u) → Adds P R Q → Adds P T Q
adds_same {U} P R T Q r a = record {
  each = λ u. (
    (λ q. ⊎_elim (λ p. inl p) (λ x. inr ((r u).0 x)) ((a.each u).0 q)),
    (λ h. (a.each u).1 (⊎_elim (λ p. inl p) (λ x. inr ((r u).1 x)) h)),
  );
}

-- two additions
pub adds_both : {U : Type 0} (P R Q S T V : U → Type 0) → ((u : U) → V u ↔ (R u ⊎ S u)) → Adds P R Q → Adds Q S T → Adds P V T
adds_both {U} P R Q S T V v a b = record {
  each = λ u. (
    (λ t. ⊎_elim
        (λ q. ⊎_elim (λ p. inl p) (λ r. inr ((v u).1 (inl r))) ((a.each u).0 q))
        (λ s. inr ((v u).1 (inr s)))
        ((b.each u).0 t)),
    (λ h. (b.each u).1 (⊎_elim
        (λ p. inl ((a.each u).1 (inl p)))
        (λ x. ⊎_elim (λ r. inl ((a.each u).1 (inr r))) (λ s. inr s) ((v u).0 x))
        h)),
  );
}

-- a loop: at first nothing is added
pub before_none : {U A : Type 0} (P : U → Type 0) (xs : List A) (R : ℕ → A → U → Type 0) → Adds P (Some_before xs R 0) P
before_none {U} {A} P xs R = adds_none P (Some_before xs R 0) (λ u (k, x, l, at, r). absurd (omega arith))

-- one more element
pub before_more : {U A : Type 0} (P Q T : U → Type 0) (xs : List A) (R : ℕ → A → U → Type 0) (i : ℕ) (x : A) → slice_get xs i ≡ Some x
    → Adds P (Some_before xs R i) Q → Adds Q (R i x) T → Adds P (Some_before xs R (i + 1)) T
before_more {U} {A} P Q T xs R i x at a b = adds_both P (Some_before xs R i) Q (R i x) T (Some_before xs R (i + 1)) (λ u. (to u, from u)) a b
  where
    to : (u : U) → Some_before xs R (i + 1) u → Some_before xs R i u ⊎ R i x u
    to u (k, y, l, e, r) = ⊎_elim
        (λ (low : k < i). inl (k, y, low, e, r))
        (λ (high : i ≤ k).
        let last : k ≡ i = omega arith in
        let same : y ≡ x = same_Some y x (sym e ∙ (ap (slice_get xs) last ∙ at)) in
        inr (subst (λ (z : A). R i z u) same (subst (λ (j : ℕ). R j y u) last r)))
        (cases_lt k i)

    from : (u : U) → Some_before xs R i u ⊎ R i x u → Some_before xs R (i + 1) u
    from u h = ⊎_elim (λ (k, y, l, e, r). (k, y, omega arith, e, r)) (λ r. (i, x, omega arith, at, r)) h

-- at the end
pub before_all : {U A : Type 0} (P Q : U → Type 0) (xs : List A) (R : ℕ → A → U → Type 0) (i : ℕ) → length xs ≤ i → Adds P (Some_before xs R i) Q → Adds P (Some_of xs R) Q
before_all {U} {A} P Q xs R i over a =
    adds_same P (Some_before xs R i) (Some_of xs R) Q
    (λ u. ((λ (k, x, l, e, r). (k, x, e, r)), (λ (k, x, e, r). (k, x, (let within : k < length xs = slice_get_within xs k x e in omega arith), e, r)))) a

-- where the place does not matter
pub some_in : {U A : Type 0} (xs : List A) (R : A → U → Type 0) (u : U) → Some_of xs (λ k x u. R x u) u ↔ ((x : A) × Contains xs x × R x u)
some_in {U} {A} xs R u = (
  (λ (k, x, e, r). (x, (k, slice_get_within xs k x e, get_or_from_slice_get xs k x x e), r)),
  (λ (x, (k, l, e), r). (k, x, slice_get_read xs (length xs) k x refl l (sym e), r)),
)

-- the element of a step
pub item_at : {A : Type 0} {xs ys : List A} → xs ≡ ys → (i : ℕ) (x : A) → i < length xs → x ≡ get_or xs i x → slice_get ys i ≡ Some x
item_at {A} {xs} {ys} same i x l e = subst (λ (zs : List A). slice_get zs i ≡ Some x) same (slice_get_read xs (length xs) i x refl l e)

-- what a slice lends at an index
pub lent : {A : Type 0} (xs : List A) (i : ℕ) (r : Option (Bor A)) → IsItemAt xs i r → option_copied r ≡ slice_get xs i
lent xs i None h = sym (slice_get_past xs i h.3)
lent xs i (Some x) h = sym (slice_get_read xs (length xs) i x.now refl h.3.0 h.1)
