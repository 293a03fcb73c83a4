-- Elements of lists.
use Rattle.std.proofs.Common.{◌≡◌, ◌∙◌, sym, refl, ap, subst, ℕ, ◌⊎◌, List, [], ◌∷◌, ◌++◌, map, get_or, Option, None, Some, inl, inr, ⊎_elim, arith}
use Rattle.std.specs.List.{Contains, cons_option, filter_map}
use Rattle.std.proofs.lemmas.List.Elements.{Contains-append_right, Contains-append_cases}
use Rattle.std.proofs.lemmas.Option.{none-some, same_Some}
use Rattle.bk_places.proofs.Elements.{none_in}

-- the first element, and those behind it
pub first_in : {A : Type 0} (x : A) (xs : List A) → Contains (x ∷ xs) x
first_in x xs = (0, omega arith, refl)

pub later_in : {A : Type 0} (x : A) (xs : List A) (y : A) → Contains xs y → Contains (x ∷ xs) y
later_in x xs y m = Contains-append_right (x ∷ []) xs y m

alone_in : {A : Type 0} (x y : A) → Contains (x ∷ []) y → x ≡ y
alone_in x y (k, l, e) = let z : k ≡ 0 = omega arith in subst (λ (j : ℕ). get_or (x ∷ []) j y ≡ y) z e

pub first_or_later : {A : Type 0} (x : A) (xs : List A) (y : A) → Contains (x ∷ xs) y → (x ≡ y) ⊎ Contains xs y
first_or_later x xs y m = ⊎_elim (λ h. inl (alone_in x y h)) (λ h. inr h) (Contains-append_cases (x ∷ []) xs y m)

-- what a choice keeps of a list
kept_first : (h : ℕ → Option ℕ) (n : ℕ) (ns : List ℕ) (ys : List ℕ) (q : ℕ) → (Contains ys q → (m : ℕ) × Contains ns m × (h m ≡ Some q)) → (o : Option ℕ) → h n ≡ o
    → Contains (cons_option o ys) q → (m : ℕ) × Contains (n ∷ ns) m × (h m ≡ Some q)
kept_first h n ns ys q rest None e c = let (m, d, f) = rest c in (m, later_in n ns m d, f)
kept_first h n ns ys q rest (Some p) e c = ⊎_elim
    (λ (same : p ≡ q). (n, first_in n ns, e ∙ ap Some same))
    (λ later. let (m, d, f) = rest later in (m, later_in n ns m d, f))
    (first_or_later p ys q c)

pub kept_from : (h : ℕ → Option ℕ) (ns : List ℕ) (q : ℕ) → Contains (filter_map h ns) q → (n : ℕ) × Contains ns n × (h n ≡ Some q)
kept_from h [] q c = absurd (none_in q c)
kept_from h (n ∷ ns) q c = kept_first h n ns (filter_map h ns) q (kept_from h ns q) (h n) refl c

behind_choice : (o : Option ℕ) (ys : List ℕ) (q : ℕ) → Contains ys q → Contains (cons_option o ys) q
behind_choice None ys q c = c
behind_choice (Some p) ys q c = later_in p ys q c

chosen : (o : Option ℕ) (ys : List ℕ) (q : ℕ) → o ≡ Some q → Contains (cons_option o ys) q
chosen None ys q e = absurd (none-some q e)
chosen (Some p) ys q e = subst (λ (z : ℕ). Contains (p ∷ ys) z) (same_Some p q e) (first_in p ys)

pub kept_in : (h : ℕ → Option ℕ) (ns : List ℕ) (n q : ℕ) → Contains ns n → h n ≡ Some q → Contains (filter_map h ns) q
kept_in h [] n q c e = absurd (none_in n c)
kept_in h (x ∷ ns) n q c e = ⊎_elim
    (λ (same : x ≡ n). chosen (h x) (filter_map h ns) q (ap h same ∙ e))
    (λ later. behind_choice (h x) (filter_map h ns) q (kept_in h ns n q later e))
    (first_or_later x ns n c)

-- elements of a list that is mapped
pub mapped_in : {A B : Type 0} (h : A → B) (xs : List A) (x : A) → Contains xs x → Contains (map h xs) (h x)
mapped_in h [] x c = absurd (none_in x c)
mapped_in {A} {B} h (y ∷ xs) x c = ⊎_elim
    (λ (same : y ≡ x). subst (λ (z : A). Contains (h y ∷ map h xs) (h z)) same (first_in (h y) (map h xs)))
    (λ later. later_in (h y) (map h xs) (h x) (mapped_in h xs x later))
    (first_or_later y xs x c)

pub mapped_from : {A B : Type 0} (h : A → B) (xs : List A) (y : B) → Contains (map h xs) y → (x : A) × Contains xs x × (h x ≡ y)
mapped_from h [] y c = absurd (none_in y c)
mapped_from h (x ∷ xs) y c = ⊎_elim
    (λ (same : h x ≡ y). (x, first_in x xs, same))
    (λ later. let (z, m, e) = mapped_from h xs y later in (z, later_in x xs z m, e))
    (first_or_later (h x) (map h xs) y c)

-- the last element
pub last_in : {A : Type 0} (xs : List A) (x : A) → Contains (xs ++ x ∷ []) x
last_in [] x = first_in x []
last_in (y ∷ xs) x = later_in y (xs ++ x ∷ []) x (last_in xs x)

longer : (xs : List ℕ) (x y : ℕ) → [] ≡ xs ++ y ∷ [] → x ≡ y
longer [] x y e = absurd (no_list e)
  where
    no_list : [] ≡ y ∷ [] → ⊥
    no_list h = cc
longer (z ∷ xs) x y e = absurd (no_list e)
  where
    no_list : [] ≡ z ∷ (xs ++ y ∷ []) → ⊥
    no_list h = cc

pub same_end : (xs ys : List ℕ) (x y : ℕ) → xs ++ x ∷ [] ≡ ys ++ y ∷ [] → x ≡ y
same_end [] [] x y e = heads e
  where
    heads : x ∷ [] ≡ y ∷ [] → x ≡ y
    heads h = cc
same_end [] (z ∷ ys) x y e = longer ys x y (tails e)
  where
    tails : x ∷ [] ≡ z ∷ (ys ++ y ∷ []) → [] ≡ ys ++ y ∷ []
    tails h = cc
same_end (z ∷ xs) [] x y e = sym (longer xs y x (sym (tails e)))
  where
    tails : z ∷ (xs ++ x ∷ []) ≡ y ∷ [] → xs ++ x ∷ [] ≡ []
    tails h = cc
same_end (z ∷ xs) (u ∷ ys) x y e = same_end xs ys x y (tails e)
  where
    tails : z ∷ (xs ++ x ∷ []) ≡ u ∷ (ys ++ y ∷ []) → xs ++ x ∷ [] ≡ ys ++ y ∷ []
    tails h = cc
