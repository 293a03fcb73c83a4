-- What is known where a reader read something.
use Rattle.std.proofs.Common.{◌≡◌, ◌⊎◌, inl, inr, ℕ, List, [], ◌∷◌, ap, ◌∙◌, sym, refl, Bool, true, false, cond, Option, Some, None}
use Rattle.std.specs.Prelude.{◌&&◌, if◌then◌else◌}
use Rattle.std.specs.List.{list_all, find}
use Rattle.std.specs.Option.{option_map_or}
use Rattle.bk_rule_text.specs.Front.{◌>>=◌, Read, or_else, mark_at, closed, where_marked}

-- this, and the text behind it, was read
abbrev pub Was : {A : Type 0} → Option (A × List ℕ) → A → List ℕ → Type 0
Was o x rest = o ≡ Some (x, rest)

pub none_is_some : {A B : Type 0} (x : A) → None ≡ Some x → B
none_is_some x e = absurd (cc)

pub same : {A : Type 0} (x y : A) → Some x ≡ Some y → x ≡ y
same x y e = cc

-- what was read first, and then the rest
pub steps : {A B : Type 0} (o : Option A) (f : A → Option B) (y : B) → (o >>= f) ≡ Some y → (x : A) × (o ≡ Some x) × (f x ≡ Some y)
steps None f y e = none_is_some y e
steps (Some x) f y e = (x, refl, e)

-- what was read where a mark stands, or where none does
pub marked : {B : Type 0} (o : Option (List ℕ)) (f : List ℕ → B) (d y : B) → where_marked o f d ≡ y → ((r : List ℕ) × (o ≡ Some r) × (f r ≡ y)) ⊎ ((o ≡ None) × (d ≡ y))
marked None f d y e = inr (refl, e)
marked (Some r) f d y e = inl (r, refl, e)

pub mapped : {A B : Type 0} (f : A → B) (o : Option A) (d y : B) → option_map_or f o d ≡ y → ((x : A) × (o ≡ Some x) × (f x ≡ y)) ⊎ ((o ≡ None) × (d ≡ y))
mapped f None d y e = inr (refl, e)
mapped f (Some x) d y e = inl (x, refl, e)

pub either : {A : Type 0} (o p : Option A) (y : A) → or_else o p ≡ Some y → (o ≡ Some y) ⊎ (p ≡ Some y)
either None p y e = inr e
either (Some x) p y e = inl e

pub tested_by : {B : Type 0} (b : Bool) (p d y : B) → (if b then p else d) ≡ y → ((b ≡ true) × (p ≡ y)) ⊎ ((b ≡ false) × (d ≡ y))
tested_by true p d y e = inl (refl, e)
tested_by false p d y e = inr (refl, e)

-- what is found in a list has what all of it has
pub found_has : {A : Type 0} (p q : A → Bool) (xs : List A) (x : A) → list_all q xs ≡ true → find p xs ≡ Some x → q x ≡ true
found_has p q [] x h e = none_is_some x e
found_has {A} p q (y ∷ xs) x h e = by (p y) refl (q y) refl (found_has p q xs x)
  where
    by : (b : Bool) → p y ≡ b → (c : Bool) → q y ≡ c → (list_all q xs ≡ true → find p xs ≡ Some x → q x ≡ true) → q x ≡ true
    by true t true u on = let i : y ≡ x = same y x (sym (ap (λ d. cond d (Some y) (find p xs)) t) ∙ e) in ap q (sym i) ∙ u
    by false t true u on = on (sym (ap (λ d. d && list_all q xs) u) ∙ h) (sym (ap (λ d. cond d (Some y) (find p xs)) t) ∙ e)
    by true t false u on = absurd (let f : false ≡ true = sym (ap (λ d. d && list_all q xs) u) ∙ h in cc)
    by false t false u on = absurd (let f : false ≡ true = sym (ap (λ d. d && list_all q xs) u) ∙ h in cc)

-- what was read before a closing mark
pub before_mark : {A : Type 0} (close : List ℕ) (read : Read A) (text rest : List ℕ) (x : A) → closed close read text ≡ Some (x, rest) → (r : List ℕ) × (read text ≡ Some (x, r)) × (mark_at close r ≡ Some rest)
unfolding closed
before_mark close read text rest x e =
    let a = steps (read text) (λ y. mark_at close y.1 >>= λ r. Some (y.0, r)) (x, rest) e in
    let b = steps (mark_at close a.0.1) (λ r. Some (a.0.0, r)) (x, rest) a.2 in
    let c = same (a.0.0, b.0) (x, rest) b.2 in
    (a.0.1, a.1 ∙ ap (λ p. Some (p.0, a.0.1)) c, b.1 ∙ ap (λ p. Some p.1) c)
