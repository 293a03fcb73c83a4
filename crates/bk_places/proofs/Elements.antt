-- Elements of lists.
use Rattle.std.proofs.Common.{◌≡◌, sym, refl, subst, ℕ, zero, suc, ◌<◌, ◌⊎◌, inl, inr, arith, List, [], ◌∷◌, ◌++◌, length, Option, None, Some}
use Rattle.std.specs.List.{Contains, slice_get}
use Rattle.std.specs.Borrow.{Bor}
use Rattle.std.specs.Option.{MatchOption, option_copied}
use Rattle.std.specs.Slice.{IsItemAt}
use Rattle.std.proofs.lemmas.Option.{none-some, same_Some, slice_get_past, slice_get_read, slice_get_within, get_or_from_slice_get}
use Rattle.bk_func.proofs.Faults.{In}

pub none_in : {A : Type 0} (y : A) → Contains [] y → ⊥
none_in y (k, l, e) = absurd (omega arith)

pub to_in : {A : Type 0} (x : A) (xs : List A) → Contains xs x → In x xs
to_in x [] (k, l, e) = absurd (omega arith)
to_in x (y ∷ ys) (zero, l, e) = inl e
to_in x (y ∷ ys) (suc k, l, e) = inr (to_in x ys (k, omega arith, e))

pub to_contains : {A : Type 0} (x : A) (xs : List A) → In x xs → Contains xs x
to_contains x [] i = elim i [ ]
to_contains x (y ∷ ys) (inl e) = (0, omega arith, e)
to_contains x (y ∷ ys) (inr i) = let r = to_contains x ys i in (suc r.0, omega (arith, r.1), r.2)

pub in_left : {A : Type 0} (x : A) (xs ys : List A) → In x xs → In x (xs ++ ys)
in_left x [] ys i = elim i [ ]
in_left x (z ∷ xs) ys (inl e) = inl e
in_left x (z ∷ xs) ys (inr i) = inr (in_left x xs ys i)

pub in_right : {A : Type 0} (x : A) (xs ys : List A) → In x ys → In x (xs ++ ys)
in_right x [] ys i = i
in_right x (z ∷ xs) ys i = inr (in_right x xs ys i)

pub in_either : {A : Type 0} (x : A) (xs ys : List A) → In x (xs ++ ys) → In x xs ⊎ In x ys
in_either x [] ys i = inr i
in_either {A} x (z ∷ xs) ys (inl e) = inl (inl e)
in_either {A} x (z ∷ xs) ys (inr i) = go (in_either x xs ys i)
  where
    go : In x xs ⊎ In x ys → In x (z ∷ xs) ⊎ In x ys
    go (inl j) = inl (inr j)
    go (inr j) = inr j

-- an element is contained, and what is contained stands somewhere
pub contains_at : {A : Type 0} (xs : List A) (i : ℕ) (x : A) → slice_get xs i ≡ Some x → Contains xs x
contains_at xs i x e = (i, slice_get_within xs i x e, get_or_from_slice_get xs i x x e)

pub at_contains : {A : Type 0} (xs : List A) (x : A) → Contains xs x → (i : ℕ) × (slice_get xs i ≡ Some x)
at_contains xs x (i, l, e) = (i, slice_get_read xs (length xs) i x refl l (sym e))

pub at_some : {A : Type 0} (xs : List A) (i : ℕ) → i < length xs → (x : A) × (slice_get xs i ≡ Some x)
at_some [] i l = absurd (omega arith)
at_some (x ∷ xs) zero l = (x, refl)
at_some (x ∷ xs) (suc i) l = at_some xs i (omega arith)

-- what `get` lends
pub lent : {A : Type 0} (xs : List A) (i : ℕ) (r : Option (Bor A)) → IsItemAt xs i r → option_copied r ≡ slice_get xs i
lent xs i None h = sym (slice_get_past xs i h.3)
lent xs i (Some x) h = sym (slice_get_read xs (length xs) i x.now refl h.3.0 h.1)

-- what an `Option` says
pub nothing_found : (o : Option ℕ) → ((x : ℕ) → o ≡ Some x → ⊥) → o ≡ None
nothing_found None never = refl
nothing_found (Some x) never = absurd (never x refl)

pub none_says : {A : Type 0} (P : Type 0) (Q : A → Type 0) (o : Option A) → o ≡ None → MatchOption o P Q → P
none_says P Q None e h = h
none_says P Q (Some x) e h = absurd (none-some x (sym e))

pub some_says : {A : Type 0} (P : Type 0) (Q : A → Type 0) (o : Option A) (x : A) → o ≡ Some x → MatchOption o P Q → Q x
some_says P Q None x e h = absurd (none-some x e)
some_says {A} P Q (Some y) x e h = subst Q (same_Some y x e) h
