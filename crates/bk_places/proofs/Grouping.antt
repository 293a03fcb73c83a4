-- The members of groups.
use Rattle.std.proofs.Common.{◌≡◌, ◌∙◌, sym, refl, ap, subst, ℕ, ◌+◌, ◌<◌, ◌≤◌, Bool, true, false, cond, List, [], ◌∷◌, ◌++◌, length, get_or, set, replicate, Option, None, Some, ⊎_elim, arith, length-set, get_or-set_same, get_or-set_other}
use Rattle.std.specs.List.{Contains}
use Rattle.std.proofs.lemmas.Bool.{cases_eq, cases_lt}
use Rattle.std.proofs.lemmas.List.{get_or_append_left, get_or_past, get_or_push, get_or-replicate, length_push, length-replicate}
use Rattle.std.proofs.lemmas.List.Elements.{Contains-append_left, Contains-get_or, Contains-push, Contains-push_cases}
use Rattle.std.proofs.lemmas.Option.{none-some, same_Some}
use Rattle.bk_places.specs.Order.{AreMembers}
use Rattle.bk_places.specs.Search.{with_edge}
use Rattle.bk_places.proofs.Elements.{none_in}

-- no place below the first is a member
pub members_none : (n : ℕ) (gs : List (Option ℕ)) (cs : List Bool) (es : List (List ℕ)) → es ≡ replicate n [] → AreMembers n gs cs 0 es
members_none n gs cs es none = record {
  size = ap length none ∙ length-replicate n [];
  each = λ g p. ((λ c. absurd (none_in p (subst (λ (us : List ℕ). Contains us p) (ap (λ us. get_or us g []) none ∙ nothing g) c))), (λ (l, a, h). absurd (omega (arith, l))));
  rising = λ g j k l b. absurd (omega (arith, l, b, ap length (ap (λ us. get_or us g []) none ∙ nothing g)));
}
  where
    nothing : (p : ℕ) → get_or {A = List ℕ} (replicate n []) p [] ≡ []
    nothing p = ⊎_elim (λ (b : p < n). get_or-replicate n p [] [] b) (λ a. get_or_past (replicate n []) p [] (rw length-replicate a)) (cases_lt p n)

-- a list of chosen places, one more place being looked at
pub members_more : (n : ℕ) (gs : List (Option ℕ)) (cs : List Bool) (i : ℕ) (es : List (List ℕ)) (o : Option ℕ) → ((p g : ℕ) → get_or gs p None ≡ Some g → g < n) → AreMembers n gs cs i es
    → o ≡ cond (get_or cs i false) (get_or gs i None) None → AreMembers n gs cs (i + 1) (with_edge es o i)
members_more n gs cs i es None range m is = record {
  size = m.size;
  each = λ g p. (
    λ c. let (b, at, is') = (m.each g p).0 c in (omega arith, at, is'),
    λ (l, at, chosen). (m.each g p).1 (
      ⊎_elim
          (λ (b : p < i). b)
          (λ (a : i ≤ p).
          let last : p ≡ i = omega arith in
          absurd (none-some g (is ∙ (ap (λ t. cond t (get_or gs i None) None) (ap (λ j. get_or cs j false) (sym last) ∙ chosen) ∙ (ap (λ j. get_or gs j None) (sym last) ∙ at)))))
          (cases_lt p i),
      at,
      chosen,
    ),
  );
  rising = m.rising;
}
members_more n gs cs i es (Some x) range m is = record {
  size = length-set es x (get_or es x [] ++ i ∷ []) ∙ m.size;
  each = λ g p. ⊎_elim
      (λ (same : g ≡ x). (to_same g p same, from_same g p same))
      (λ (apart : g ≡ x → ⊥). (to_other g p apart, from_other g p apart))
      (cases_eq g x);
  rising = λ g j k l b. ⊎_elim (λ (same : g ≡ x). rising_same g j k same l b) (λ (apart : g ≡ x → ⊥). rising_other g j k apart l b) (cases_eq g x);
}
  where
    chosen_is : (t : Bool) (h : Option ℕ) → Some x ≡ cond t h None → (t ≡ true) × (h ≡ Some x)
    chosen_is true h e = (refl, sym e)
    chosen_is false h e = absurd (none-some x (sym e))

    here : (get_or cs i false ≡ true) × (get_or gs i None ≡ Some x)
    here = chosen_is (get_or cs i false) (get_or gs i None) is

    within : x < length es
    within = omega (arith, m.size, range i x here.1)

    at_same : (g : ℕ) → g ≡ x → get_or (set es x (get_or es x [] ++ i ∷ [])) g [] ≡ get_or es x [] ++ i ∷ []
    at_same g same = ap (λ j. get_or (set es x (get_or es x [] ++ i ∷ [])) j []) same ∙ get_or-set_same es x (get_or es x [] ++ i ∷ []) [] within

    at_other : (g : ℕ) → (g ≡ x → ⊥) → get_or (set es x (get_or es x [] ++ i ∷ [])) g [] ≡ get_or es g []
    at_other g apart = get_or-set_other es x g (get_or es x [] ++ i ∷ []) [] apart

    to_same : (g p : ℕ) → g ≡ x → Contains (get_or (set es x (get_or es x [] ++ i ∷ [])) g []) p → p < i + 1 × (get_or gs p None ≡ Some g) × (get_or cs p false ≡ true)
    to_same g p same c = ⊎_elim
        (λ old. let (b, at, chosen) = (m.each x p).0 old in (omega arith, at ∙ ap Some (sym same), chosen))
        (λ (new : i ≡ p). (omega arith, ap (λ j. get_or gs j None) (sym new) ∙ (here.1 ∙ ap Some (sym same)), ap (λ j. get_or cs j false) (sym new) ∙ here.0))
        (Contains-push_cases (get_or es x []) i p (subst (λ (us : List ℕ). Contains us p) (at_same g same) c))

    from_same : (g p : ℕ) → g ≡ x → p < i + 1 × (get_or gs p None ≡ Some g) × (get_or cs p false ≡ true) → Contains (get_or (set es x (get_or es x [] ++ i ∷ [])) g []) p
    from_same g p same (l, at, chosen) = subst (λ (us : List ℕ). Contains us p) (sym (at_same g same)) (⊎_elim
        (λ (b : p < i). Contains-append_left (get_or es x []) (i ∷ []) p ((m.each x p).1 (b, at ∙ ap Some same, chosen)))
        (λ (a : i ≤ p). let last : i ≡ p = omega arith in subst (λ (j : ℕ). Contains (get_or es x [] ++ i ∷ []) j) last (Contains-push (get_or es x []) i))
        (cases_lt p i))

    to_other : (g p : ℕ) → (g ≡ x → ⊥) → Contains (get_or (set es x (get_or es x [] ++ i ∷ [])) g []) p → p < i + 1 × (get_or gs p None ≡ Some g) × (get_or cs p false ≡ true)
    to_other g p apart c =
        let (b, at, chosen) = (m.each g p).0 (subst (λ (us : List ℕ). Contains us p) (at_other g apart) c) in (omega arith, at, chosen)

    from_other : (g p : ℕ) → (g ≡ x → ⊥) → p < i + 1 × (get_or gs p None ≡ Some g) × (get_or cs p false ≡ true) → Contains (get_or (set es x (get_or es x [] ++ i ∷ [])) g []) p
    from_other g p apart (l, at, chosen) = subst (λ (us : List ℕ). Contains us p) (sym (at_other g apart)) ((m.each g p).1 (
      ⊎_elim
          (λ (b : p < i). b)
          (λ (a : i ≤ p). let last : p ≡ i = omega arith in absurd (apart (same_Some g x (sym at ∙ (ap (λ j. get_or gs j None) last ∙ here.1)))))
          (cases_lt p i),
      at,
      chosen,
    ))

    below : (j : ℕ) → j < length (get_or es x []) → get_or (get_or es x []) j 0 < i
    below j b = ((m.each x (get_or (get_or es x []) j 0)).0 (Contains-get_or (get_or es x []) j 0 b)).0

    pushed : (j k : ℕ) → j < k → k < length (get_or es x [] ++ i ∷ []) → get_or (get_or es x [] ++ i ∷ []) j 0 < get_or (get_or es x [] ++ i ∷ []) k 0
    pushed j k l b =
        let long = length_push (get_or es x []) i in
        let low : get_or (get_or es x [] ++ i ∷ []) j 0 ≡ get_or (get_or es x []) j 0 = get_or_append_left (get_or es x []) (i ∷ []) 0 j (omega (arith, long)) in
        ⊎_elim
        (λ (c : k < length (get_or es x [])). omega (arith, low, get_or_append_left (get_or es x []) (i ∷ []) 0 k c, m.rising x j k l c))
        (λ (d : length (get_or es x []) ≤ k). omega (arith, low, get_or_push (get_or es x []) i 0 k (omega (arith, long)), below j (omega (arith, long))))
        (cases_lt k (length (get_or es x [])))

    rising_same : (g j k : ℕ) → g ≡ x → j < k → k < length (get_or (set es x (get_or es x [] ++ i ∷ [])) g []) → get_or (get_or (set es x (get_or es x [] ++ i ∷ [])) g []) j 0 < get_or (get_or (set es x (get_or es x [] ++ i ∷ [])) g []) k 0
    rising_same g j k same l b = subst (λ (us : List ℕ). j < k → k < length us → get_or us j 0 < get_or us k 0) (sym (at_same g same)) (pushed j k) l b

    rising_other : (g j k : ℕ) → (g ≡ x → ⊥) → j < k → k < length (get_or (set es x (get_or es x [] ++ i ∷ [])) g []) → get_or (get_or (set es x (get_or es x [] ++ i ∷ [])) g []) j 0 < get_or (get_or (set es x (get_or es x [] ++ i ∷ [])) g []) k 0
    rising_other g j k apart l b = subst (λ (us : List ℕ). j < k → k < length us → get_or us j 0 < get_or us k 0) (sym (at_other g apart)) (m.rising g j k) l b
