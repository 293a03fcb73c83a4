-- What is picked, place by place.
use Rattle.std.proofs.Common.{◌≡◌, ◌∙◌, sym, refl, ap, ℕ, zero, suc, ◌+◌, ◌<◌, ◌≤◌, Bool, true, false, if◌then◌else◌, List, [], ◌∷◌, ◌++◌, length, map, get_or, take, arith, add-zero, zero-add}
use Rattle.std.specs.Prelude.{slice_set}
use Rattle.std.proofs.lemmas.List.{take_more, map_more, length-take-le}
use Rattle.bk_graph.specs.Lists.{picked}

abbrev one : {A B : Type 0} → (ℕ → Bool) → (ℕ → A → B) → ℕ → A → List B
one test made k x = if test k then made k x ∷ [] else []

picked_push : {A B : Type 0} (test : ℕ → Bool) (made : ℕ → A → B) (k : ℕ) (xs : List A) (x : A)
    → picked test made k (xs ++ x ∷ []) ≡ picked test made k xs ++ one test made (k + length xs) x
unfolding picked
picked_push {A} {B} test made k [] x = ap (λ (j : ℕ). one test made j x) (sym (add-zero k))
picked_push {A} {B} test made k (y ∷ ys) x =
    let e : (k + 1) + length ys ≡ k + suc (length ys) = omega arith in
    let h : picked test made (k + 1) (ys ++ x ∷ []) ≡ picked test made (k + 1) ys ++ one test made (k + suc (length ys)) x =
    picked_push test made (k + 1) ys x ∙ ap (λ (j : ℕ). picked test made (k + 1) ys ++ one test made j x) e in
    elim (test k) as
    (λ t. ◌≡◌ {A = List B} (if t then made k y ∷ picked test made (k + 1) (ys ++ x ∷ []) else picked test made (k + 1) (ys ++ x ∷ []))
    ((if t then made k y ∷ picked test made (k + 1) ys else picked test made (k + 1) ys) ++ one test made (k + suc (length ys)) x))
    [ true ↦ ap (λ (zs : List B). made k y ∷ zs) h | false ↦ h ]

-- one item more is looked at: t says whether it stays, and y is what is made of it
pub picked_more : {A B : Type 0} (test : ℕ → Bool) (made : ℕ → A → B) (xs : List A) (i : ℕ) (d : A) (before after : List B) (t : Bool) (y : B) → i < length xs
    → before ≡ picked test made 0 (take i xs) → t ≡ test i → y ≡ made i (get_or xs i d) → after ≡ before ++ (if t then y ∷ [] else [])
    → after ≡ picked test made 0 (take (i + 1) xs)
picked_more {A} {B} test made xs i d before after t y l is passes value more =
    more ∙ ap (λ (u : Bool). before ++ (if u then y ∷ [] else [])) passes ∙ ap (λ (z : B). before ++ (if test i then z ∷ [] else [])) value
    ∙ ap (λ (zs : List B). zs ++ one test made i (get_or xs i d)) is
    ∙ sym (ap (picked test made 0) (take_more xs i d l) ∙ picked_push test made 0 (take i xs) (get_or xs i d)
    ∙ ap (λ (j : ℕ). picked test made 0 (take i xs) ++ one test made j (get_or xs i d)) (zero-add (length (take i xs)) ∙ length-take-le i xs (omega arith)))

-- one number more is mapped
pub mapped_more : {B : Type 0} (h : ℕ → B) (ns : List ℕ) (i : ℕ) (before after : List B) (y : B) → i < length ns → before ≡ map h (take i ns)
    → y ≡ h (get_or ns i 0) → after ≡ before ++ y ∷ [] → after ≡ map h (take (i + 1) ns)
mapped_more {B} h ns i before after y l is value more =
    more ∙ ap (λ (zs : List B). zs ++ y ∷ []) is ∙ ap (λ (z : B). map h (take i ns) ++ z ∷ []) value
    ∙ sym (map_more h ns i 0 l)

-- a write past the end
pub past_set : {A : Type 0} (xs : List A) (i : ℕ) (x : A) → length xs ≤ i → slice_set xs i x ≡ xs
past_set [] i x h = refl
past_set (y ∷ ys) zero x h = absurd (omega (arith, h))
past_set (y ∷ ys) (suc i) x h = ap (λ zs. y ∷ zs) (past_set ys i x (omega (arith, h)))
