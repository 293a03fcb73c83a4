-- What is said of one variable, and a map from each variable to what was said of it last.
use Rattle.std.proofs.Common.{◌≡◌, ◌⊎◌, inl, inr, ℕ, ◌+◌, ◌<◌, ◌≤◌, List, [], ◌∷◌, ◌++◌, length, take, drop, get_or, ap, ◌∙◌, sym, refl, subst, arith, Bool, true, false, Option, Some, None, Contains, nat_eq}
use Rattle.std.specs.Prelude.{◌==◌, ◌&&◌, ◌||◌, not}
use Rattle.std.specs.Cmp.{IsEquivalence}
use Rattle.std.specs.List.{list_all}
use Rattle.std.specs.Option.{option_map_or}
use Rattle.std.proofs.lemmas.Bool.Decides.{nat_tests}
use Rattle.std.proofs.lemmas.List.{take_more, take_all, take-append-drop}
use Rattle.std.proofs.lemmas.List.Elements.{All-contains, Contains-get_or, Contains-append_left, Contains-append_right, Contains-push, Contains-push_cases}
use Rattle.std.proofs.lemmas.List.Sums.{AllPass-from_list_all}
use Rattle.bk_rule_text.specs.Stands.{agree}

-- ---- tests of all elements
all_true : {A : Type 0} (p : A → Bool) (xs : List A) → ((x : A) → Contains xs x → p x ≡ true) → list_all p xs ≡ true
all_true p [] h = refl
all_true p (x ∷ xs) h = ap (λ b. b && list_all p xs) (h x (Contains-get_or (x ∷ xs) 0 x (omega arith))) ∙ all_true p xs (λ y i. h y (Contains-append_right (x ∷ []) xs y i))

one_false : {A : Type 0} (p : A → Bool) (xs : List A) (x : A) → Contains xs x → p x ≡ false → list_all p xs ≡ false
one_false {A} p xs x i e = by (list_all p xs) refl
  where
    by : (b : Bool) → list_all p xs ≡ b → b ≡ false
    by true h = let t : p x ≡ true = All-contains (λ (y : A). p y ≡ true) xs x (AllPass-from_list_all p xs h) i in cc
    by false h = refl

is_same : (i j : ℕ) → (i == j) ≡ true → i ≡ j
is_same i j e = grind (arith, nat_tests)

same_is : (i j : ℕ) → i ≡ j → (i == j) ≡ true
same_is i j e = grind (arith, nat_tests)

tested : (i j : ℕ) (s : Bool) → (i ≡ j → s ≡ true) → (not (i == j) || s) ≡ true
tested i j s h = by (i == j) refl
  where
    by : (b : Bool) → (i == j) ≡ b → (not b || s) ≡ true
    by true e = h (is_same i j e)
    by false e = refl

-- ---- agreement
agree_yes : {A : Type 0} (same : A → A → Bool) (xs : List (ℕ × A)) → ((x y : ℕ × A) → Contains xs x → Contains xs y → x.0 ≡ y.0 → same x.1 y.1 ≡ true) → agree same xs ≡ true
unfolding agree
agree_yes same xs h = all_true (λ x. list_all (λ y. not (x.0 == y.0) || same x.1 y.1) xs) xs (λ x i. all_true (λ y. not (x.0 == y.0) || same x.1 y.1) xs (λ y j. tested x.0 y.0 (same x.1 y.1) (λ e. h x y i j e)))

agree_no : {A : Type 0} (same : A → A → Bool) (xs : List (ℕ × A)) (x y : ℕ × A) → Contains xs x → Contains xs y → x.0 ≡ y.0 → same x.1 y.1 ≡ false → agree same xs ≡ false
unfolding agree
agree_no same xs x y i j e h =
    one_false (λ x. list_all (λ y. not (x.0 == y.0) || same x.1 y.1) xs) xs x i
    (one_false (λ y. not (x.0 == y.0) || same x.1 y.1) xs y j (ap (λ b. not b || same x.1 y.1) (same_is x.0 y.0 e) ∙ h))

-- ---- a map of what was said last
-- all that was said is the same as what the map has, which was said
pub record Noted {A : Type 0} (same : A → A → Bool) (found : ℕ → Option A) (said : List (ℕ × A)) : Type 0 where
  pub held : (x : ℕ × A) → Contains said x → (y : A) × (found x.0 ≡ Some y) × (same y x.1 ≡ true)
  pub told : (i : ℕ) (y : A) → found i ≡ Some y → Contains said (i, y)

noted_agree : {A : Type 0} (same : A → A → Bool) (found : ℕ → Option A) (xs : List (ℕ × A)) → IsEquivalence same → Noted same found xs → agree same xs ≡ true
noted_agree {A} same found xs laws noted = agree_yes same xs both
  where
    both : (x y : ℕ × A) → Contains xs x → Contains xs y → x.0 ≡ y.0 → same x.1 y.1 ≡ true
    both x y i j e =
        let p = noted.held x i in
        let q = noted.held y j in
        let one : p.0 ≡ q.0 = let d : Some p.0 ≡ Some q.0 = sym p.1 ∙ ap found e ∙ q.1 in cc in
        let there : same q.0 x.1 ≡ true = ap (λ z. same z x.1) (sym one) ∙ p.2 in
        sym (laws.congr q.0 x.1 y.1 there) ∙ q.2

nothing_contained : {A B : Type 0} (x : A) → Contains [] x → B
nothing_contained x h = absurd (omega (arith, h.1))

pub nothing_noted : {A : Type 0} (same : A → A → Bool) (found : ℕ → Option A) → ((i : ℕ) → found i ≡ None) → Noted same found []
nothing_noted same found h = record { held = λ x i. nothing_contained x i; told = λ i y e. absurd (let d : None ≡ Some y = sym (h i) ∙ e in cc) }

is_key : (k q : ℕ) → nat_eq k q ≡ true → k ≡ q
is_key k q e = grind (arith, nat_tests)

module _ {A : Type 0} (same : A → A → Bool) (found more : ℕ → Option A) (said : List (ℕ × A)) (k : ℕ) (v : A) (laws : IsEquivalence same) (noted : Noted same found said)
    (alike : (y : A) → found k ≡ Some y → same y v ≡ true) (there : more k ≡ Some v) (others : (q : ℕ) → nat_eq k q ≡ false → more q ≡ found q) where
  before : (x : ℕ × A) (y : A) → found x.0 ≡ Some y → same y x.1 ≡ true → (b : Bool) → nat_eq k x.0 ≡ b → (z : A) × (more x.0 ≡ Some z) × (same z x.1 ≡ true)
  before x y e s true t =
      let i : k ≡ x.0 = is_key k x.0 t in
      (v, sym (ap more i) ∙ there, sym (laws.congr y v x.1 (alike y (ap found i ∙ e))) ∙ s)
  before x y e s false t = (y, others x.0 t ∙ e, s)

  held_on : (x : ℕ × A) → Contains said x ⊎ ((k, v) ≡ x) → (z : A) × (more x.0 ≡ Some z) × (same z x.1 ≡ true)
  held_on x (inl i) = let h = noted.held x i in before x h.0 h.1 h.2 (nat_eq k x.0) refl
  held_on x (inr e) = (v, sym (ap (λ p. more p.0) e) ∙ there, sym (ap (λ p. same v p.1) e) ∙ laws.refl v)

  told_on : (i : ℕ) (y : A) → more i ≡ Some y → (b : Bool) → nat_eq k i ≡ b → Contains (said ++ (k, v) ∷ []) (i, y)
  told_on i y e true t =
      let d : k ≡ i = is_key k i t in
      let f : v ≡ y = let g : Some v ≡ Some y = sym there ∙ ap more d ∙ e in cc in
      subst (λ p. Contains (said ++ (k, v) ∷ []) p) (ap (λ n. (n, v)) d ∙ ap (λ z. (i, z)) f) (Contains-push said (k, v))
  told_on i y e false t = Contains-append_left said ((k, v) ∷ []) (i, y) (noted.told i y (sym (others i t) ∙ e))

  one_noted : Noted same more (said ++ (k, v) ∷ [])
  one_noted = record {
    held = λ x h. held_on x (Contains-push_cases said (k, v) x h);
    told = λ i y e. told_on i y e (nat_eq k i) refl;
  }

-- ---- a loop that notes what is said
pub one_more_noted : {A : Type 0} (same : A → A → Bool) (found more : ℕ → Option A) (said : List (ℕ × A)) (i : ℕ) (x : ℕ × A) → IsEquivalence same → Noted same found (take i said) → i < length said → x ≡ get_or said i x →
    option_map_or (λ y. same y x.1) (found x.0) true ≡ true → more x.0 ≡ Some x.1 → ((q : ℕ) → nat_eq x.0 q ≡ false → more q ≡ found q) → Noted same more (take (i + 1) said)
one_more_noted {A} same found more said i x laws noted l e alike there others =
    subst (λ (xs : List (ℕ × A)). Noted same more xs) (sym (take_more said i x l ∙ ap (λ y. take i said ++ y ∷ []) (sym e)))
    (one_noted same found more (take i said) x.0 x.1 laws noted (λ y f. sym (ap (λ o. option_map_or (λ z. same z x.1) o true) f) ∙ alike) there others)

differs : {A : Type 0} (f : A → Bool) (o : Option A) → option_map_or f o true ≡ false → (y : A) × (o ≡ Some y) × (f y ≡ false)
differs f None h = absurd (let e : true ≡ false = h in cc)
differs f (Some y) h = (y, refl, h)

pub one_differs : {A : Type 0} (same : A → A → Bool) (found : ℕ → Option A) (said : List (ℕ × A)) (i : ℕ) (x : ℕ × A) → Noted same found (take i said) → i < length said → x ≡ get_or said i x → option_map_or (λ y. same y x.1) (found x.0) true ≡ false → agree same said ≡ false
one_differs {A} same found said i x noted l e d =
    let h = differs (λ y. same y x.1) (found x.0) d in
    agree_no same said (x.0, h.0) x (subst (λ (xs : List (ℕ × A)). Contains xs (x.0, h.0)) (take-append-drop i said) (Contains-append_left (take i said) (drop i said) (x.0, h.0) (noted.told x.0 h.0 h.1)))
    (subst (λ (y : ℕ × A). Contains said y) (sym e) (Contains-get_or said i x l)) refl h.2

pub all_noted : {A : Type 0} (same : A → A → Bool) (found : ℕ → Option A) (said : List (ℕ × A)) (i : ℕ) → IsEquivalence same → Noted same found (take i said) → length said ≤ i → agree same said ≡ true
all_noted {A} same found said i laws noted l = noted_agree same found said laws (subst (λ (xs : List (ℕ × A)). Noted same found xs) (take_all i said l) noted)
