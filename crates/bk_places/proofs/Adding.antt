-- Edges that are added one after the other.
use Rattle.std.proofs.Common.{◌≡◌, ◌∙◌, sym, refl, ap, subst, ℕ, ◌+◌, ◌-◌, ◌<◌, ◌≤◌, ◌⊎◌, ◌↔◌, List, [], ◌∷◌, ◌++◌, length, get_or, set, take, inl, inr, ⊎_elim, arith}
use Rattle.std.specs.List.{Contains}
use Rattle.std.proofs.lemmas.Bool.{cases_eq, cases_lt, cases_order}
use Rattle.std.proofs.lemmas.List.{get_or-set_other, get_or-set_same, get_or_past, length-set, take_all, take_more}
use Rattle.std.proofs.lemmas.List.Elements.{Contains-append_left, Contains-get_or, Contains-push, Contains-push_cases}
use Rattle.bk_places.specs.Order.{Adds, Follows, IsAsked, IsEnd, IsLastBefore}
use Rattle.bk_places.specs.Search.{IsEdge}
use Rattle.bk_places.proofs.Elements.{none_in}
use Rattle.bk_places.specs.declared.order.Lists.{Lists}

pub adds_none : (es : List (List ℕ)) (R : ℕ → ℕ → Type 0) → ((p q : ℕ) → ¬ R p q) → Adds es R es
adds_none es R none = record { size = refl; edge = λ p q. ((λ e. inl e), (λ h. ⊎_elim (λ e. e) (λ r. absurd (none p q r)) h)) }

-- one more edge
pub adds_one : (es ds : List (List ℕ)) (from to : ℕ) → from < length es → ds ≡ set es from (get_or es from [] ++ to ∷ []) → Adds es (λ p q. (p ≡ from) × (q ≡ to)) ds
adds_one es ds from to within same = record {
  size = ap length same ∙ length-set es from (get_or es from [] ++ to ∷ []);
  edge = λ p q. subst (λ (us : List (List ℕ)). IsEdge us p q ↔ (IsEdge es p q ⊎ ((p ≡ from) × (q ≡ to)))) (sym same)
      (⊎_elim (λ h. (to_here p q h, from_here p q h)) (λ h. (to_other p q h, from_other p q h)) (cases_eq p from));
}
  where
    at_here : (p : ℕ) → p ≡ from → get_or (set es from (get_or es from [] ++ to ∷ [])) p [] ≡ get_or es from [] ++ to ∷ []
    at_here p h = ap (λ k. get_or (set es from (get_or es from [] ++ to ∷ [])) k []) h ∙ get_or-set_same es from (get_or es from [] ++ to ∷ []) [] within

    at_other : (p : ℕ) → (p ≡ from → ⊥) → get_or (set es from (get_or es from [] ++ to ∷ [])) p [] ≡ get_or es p []
    at_other p h = get_or-set_other es from p (get_or es from [] ++ to ∷ []) [] h

    to_here : (p q : ℕ) → p ≡ from → IsEdge (set es from (get_or es from [] ++ to ∷ [])) p q → IsEdge es p q ⊎ ((p ≡ from) × (q ≡ to))
    to_here p q h e = ⊎_elim
        (λ c. inl (subst (λ (k : ℕ). IsEdge es k q) (sym h) c))
        (λ (g : to ≡ q). inr (h, sym g))
        (Contains-push_cases (get_or es from []) to q (subst (λ (us : List ℕ). Contains us q) (at_here p h) e))

    from_here : (p q : ℕ) → p ≡ from → IsEdge es p q ⊎ ((p ≡ from) × (q ≡ to)) → IsEdge (set es from (get_or es from [] ++ to ∷ [])) p q
    from_here p q h k = subst (λ (us : List ℕ). Contains us q) (sym (at_here p h)) (⊎_elim
        (λ e. Contains-append_left (get_or es from []) (to ∷ []) q (subst (λ (j : ℕ). IsEdge es j q) h e))
        (λ (a, b). subst (λ (j : ℕ). Contains (get_or es from [] ++ to ∷ []) j) (sym b) (Contains-push (get_or es from []) to))
        k)

    to_other : (p q : ℕ) → (p ≡ from → ⊥) → IsEdge (set es from (get_or es from [] ++ to ∷ [])) p q → IsEdge es p q ⊎ ((p ≡ from) × (q ≡ to))
    to_other p q h e = inl (subst (λ (us : List ℕ). Contains us q) (at_other p h) e)

    from_other : (p q : ℕ) → (p ≡ from → ⊥) → IsEdge es p q ⊎ ((p ≡ from) × (q ≡ to)) → IsEdge (set es from (get_or es from [] ++ to ∷ [])) p q
    from_other p q h k = subst (λ (us : List ℕ). Contains us q) (sym (at_other p h)) (⊎_elim (λ e. e) (λ (a, b). absurd (h a)) k)

-- first these, then those
pub adds_then : (es ds cs : List (List ℕ)) (R S T : ℕ → ℕ → Type 0) → Adds es R ds → Adds ds S cs → ((p q : ℕ) → (R p q ⊎ S p q) ↔ T p q) → Adds es T cs
adds_then es ds cs R S T first second same = record {
  size = second.size ∙ first.size;
  edge = λ p q. (
    (λ e. ⊎_elim
        (λ d. ⊎_elim (λ c. inl c) (λ r. inr ((same p q).0 (inl r))) ((first.edge p q).0 d))
        (λ s. inr ((same p q).0 (inr s)))
        ((second.edge p q).0 e)),
    (λ h. (second.edge p q).1 (⊎_elim
        (λ c. inl ((first.edge p q).1 (inl c)))
        (λ t. ⊎_elim (λ r. inl ((first.edge p q).1 (inr r))) (λ s. inr s) ((same p q).1 t))
        h)),
  );
}

pub adds_same : (es ds : List (List ℕ)) (R S : ℕ → ℕ → Type 0) → Adds es R ds → ((p q : ℕ) → R p q ↔ S p q) → Adds es S ds
adds_same es ds R S adds same = record {
  size = adds.size;
  edge = λ p q. (
    (λ e. ⊎_elim (λ c. inl c) (λ r. inr ((same p q).0 r)) ((adds.edge p q).0 e)),
    (λ h. (adds.edge p q).1 (⊎_elim (λ c. inl c) (λ s. inr ((same p q).1 s)) h)),
  );
}

-- of the first i members of a list
pub first_members : (xs : List ℕ) (i p : ℕ) → i < length xs → Contains (take (i + 1) xs) p ↔ (Contains (take i xs) p ⊎ (p ≡ get_or xs i 0))
first_members xs i p l = (
  (λ c. ⊎_elim (λ d. inl d) (λ (e : get_or xs i 0 ≡ p). inr (sym e)) (Contains-push_cases (take i xs) (get_or xs i 0) p (subst (λ (us : List ℕ). Contains us p) (take_more xs i 0 l) c))),
  (λ h. subst (λ (us : List ℕ). Contains us p) (sym (take_more xs i 0 l)) (⊎_elim
      (λ d. Contains-append_left (take i xs) (get_or xs i 0 ∷ []) p d)
      (λ e. subst (λ (j : ℕ). Contains (take i xs ++ get_or xs i 0 ∷ []) j) (sym e) (Contains-push (take i xs) (get_or xs i 0)))
      h)),
)

-- one more place is put before the one
pub before_none : (es : List (List ℕ)) (xs : List ℕ) (to : ℕ) → Adds es (λ p q. Contains (take 0 xs) p × (q ≡ to)) es
before_none es xs to = adds_none es (λ p q. Contains (take 0 xs) p × (q ≡ to)) (λ p q (c, e). none_in p c)

pub before_more : (es ds cs : List (List ℕ)) (xs : List ℕ) (i to : ℕ) → i < length xs → ((p : ℕ) → Contains xs p → p < length es) → Adds es (λ p q. Contains (take i xs) p × (q ≡ to)) ds
    → cs ≡ set ds (get_or xs i 0) (get_or ds (get_or xs i 0) [] ++ to ∷ []) → Adds es (λ p q. Contains (take (i + 1) xs) p × (q ≡ to)) cs
before_more es ds cs xs i to l within adds same =
    adds_then es ds cs (λ p q. Contains (take i xs) p × (q ≡ to)) (λ p q. (p ≡ get_or xs i 0) × (q ≡ to)) (λ p q. Contains (take (i + 1) xs) p × (q ≡ to)) adds
    (adds_one ds cs (get_or xs i 0) to (omega (arith, adds.size, within (get_or xs i 0) (Contains-get_or xs i 0 l))) same)
    (λ p q. (
      (λ h. ⊎_elim (λ (c, e). ((first_members xs i p l).1 (inl c), e)) (λ (g, e). ((first_members xs i p l).1 (inr g), e)) h),
      (λ (c, e). ⊎_elim (λ d. inl (d, e)) (λ g. inr (g, e)) ((first_members xs i p l).0 c)),
    ))

pub before_all : (es ds : List (List ℕ)) (xs : List ℕ) (i to : ℕ) → length xs ≤ i → Adds es (λ p q. Contains (take i xs) p × (q ≡ to)) ds → Adds es (λ p q. Contains xs p × (q ≡ to)) ds
before_all es ds xs i to over adds = subst (λ (us : List ℕ). Adds es (λ p q. Contains us p × (q ≡ to)) ds) (take_all i xs over) adds

-- one more member of a list, each of which adds edges to itself alone
pub each_none : (es : List (List ℕ)) (xs : List ℕ) (R : ℕ → ℕ → Type 0) → Adds es (λ p q. Contains (take 0 xs) q × R p q) es
each_none es xs R = adds_none es (λ p q. Contains (take 0 xs) q × R p q) (λ p q (c, r). none_in q c)

pub each_more : (es ds cs : List (List ℕ)) (xs : List ℕ) (i : ℕ) (R : ℕ → ℕ → Type 0) → i < length xs → Adds es (λ p q. Contains (take i xs) q × R p q) ds
    → Adds ds (λ p q. (q ≡ get_or xs i 0) × R p q) cs → Adds es (λ p q. Contains (take (i + 1) xs) q × R p q) cs
each_more es ds cs xs i R l adds more =
    adds_then es ds cs (λ p q. Contains (take i xs) q × R p q) (λ p q. (q ≡ get_or xs i 0) × R p q) (λ p q. Contains (take (i + 1) xs) q × R p q) adds more
    (λ p q. (
      (λ h. ⊎_elim (λ (c, r). ((first_members xs i q l).1 (inl c), r)) (λ (e, r). ((first_members xs i q l).1 (inr e), r)) h),
      (λ (c, r). ⊎_elim (λ d. inl (d, r)) (λ e. inr (e, r)) ((first_members xs i q l).0 c)),
    ))

pub each_all : (es ds : List (List ℕ)) (xs : List ℕ) (i : ℕ) (R : ℕ → ℕ → Type 0) → length xs ≤ i → Adds es (λ p q. Contains (take i xs) q × R p q) ds → Adds es (λ p q. Contains xs q × R p q) ds
each_all es ds xs i R over adds = subst (λ (us : List ℕ). Adds es (λ p q. Contains us q × R p q) ds) (take_all i xs over) adds

-- a line of places, up to the place i
abbrev pub FollowsBelow : List ℕ → ℕ → ℕ → ℕ → Type 0
FollowsBelow xs i p q = (k : ℕ) × (k + 1 < i) × (k + 1 < length xs) × (get_or xs k 0 ≡ p) × (get_or xs (k + 1) 0 ≡ q)

pub line_none : (es : List (List ℕ)) (xs : List ℕ) → Adds es (FollowsBelow xs 1) es
line_none es xs = adds_none es (FollowsBelow xs 1) (λ p q (k, l, m, a, b). absurd (omega arith))

pub line_more : (es ds cs : List (List ℕ)) (xs : List ℕ) (i : ℕ) → 1 ≤ i → i < length xs → ((p : ℕ) → Contains xs p → p < length es) → Adds es (FollowsBelow xs i) ds
    → cs ≡ set ds (get_or xs (i - 1) 0) (get_or ds (get_or xs (i - 1) 0) [] ++ get_or xs i 0 ∷ []) → Adds es (FollowsBelow xs (i + 1)) cs
line_more es ds cs xs i low high within adds same =
    adds_then es ds cs (FollowsBelow xs i) (λ p q. (p ≡ get_or xs (i - 1) 0) × (q ≡ get_or xs i 0)) (FollowsBelow xs (i + 1)) adds
    (adds_one ds cs (get_or xs (i - 1) 0) (get_or xs i 0) (omega (arith, adds.size, within (get_or xs (i - 1) 0) (Contains-get_or xs (i - 1) 0 (omega arith)))) same)
    (λ p q. (to p q, from p q))
  where
    next : i - 1 + 1 ≡ i
    next = omega arith

    to : (p q : ℕ) → FollowsBelow xs i p q ⊎ ((p ≡ get_or xs (i - 1) 0) × (q ≡ get_or xs i 0)) → FollowsBelow xs (i + 1) p q
    to p q h = ⊎_elim
        (λ (k, l, m, a, b). (k, omega arith, m, a, b))
        (λ (a, b). (i - 1, omega arith, omega arith, sym a, ap (λ k. get_or xs k 0) next ∙ sym b))
        h

    from : (p q : ℕ) → FollowsBelow xs (i + 1) p q → FollowsBelow xs i p q ⊎ ((p ≡ get_or xs (i - 1) 0) × (q ≡ get_or xs i 0))
    from p q (k, l, m, a, b) = ⊎_elim
        (λ (below : k + 1 < i). inl (k, below, m, a, b))
        (λ (above : i ≤ k + 1).
        let this : k ≡ i - 1 = omega arith in
        let that : k + 1 ≡ i = omega arith in
        inr (sym a ∙ ap (λ j. get_or xs j 0) this, sym b ∙ ap (λ j. get_or xs j 0) that))
        (cases_lt (k + 1) i)

pub line_all : (es ds : List (List ℕ)) (xs : List ℕ) (i : ℕ) → length xs ≤ i → Adds es (FollowsBelow xs i) ds → Adds es (Follows xs) ds
line_all es ds xs i over adds =
    adds_same es ds (FollowsBelow xs i) (Follows xs) adds (λ p q. ((λ (k, l, m, a, b). (k, m, a, b)), (λ (k, m, a, b). (k, omega arith, m, a, b))))

-- there is one end
pub one_end : (es : List (List ℕ)) (xs : List ℕ) (q d e : ℕ) → IsEnd es xs q d → IsEnd es xs q e → d ≡ e
one_end es xs q d e a b = ⊎_elim
    (λ same. same)
    (λ apart. absurd (⊎_elim
    (λ (low : d < e). b.free d low (a.met (omega (arith, b.within))))
    (λ (low : e < d). a.free e low (b.met (omega (arith, a.within))))
    apart))
    (cases_order d e)

-- what comes right before a load
pub load_first : (es ds : List (List ℕ)) (xs : List ℕ) (q e : ℕ) → IsEnd es xs q e → e ≡ 0 → Adds ds (λ p r. (r ≡ q) × IsLastBefore es xs p r) ds
load_first es ds xs q e end none =
    adds_none ds (λ p r. (r ≡ q) × IsLastBefore es xs p r)
    (λ p r (same, (k, l, at, other)). absurd (omega (arith, one_end es xs q e (k + 1) end (subst (λ (j : ℕ). IsEnd es xs j (k + 1)) same other))))

pub load_next : (es ds cs : List (List ℕ)) (xs : List ℕ) (q e : ℕ) → IsEnd es xs q e → (e ≡ 0 → ⊥) → ((p : ℕ) → Contains xs p → p < length ds)
    → cs ≡ set ds (get_or xs (e - 1) 0) (get_or ds (get_or xs (e - 1) 0) [] ++ q ∷ []) → Adds ds (λ p r. (r ≡ q) × IsLastBefore es xs p r) cs
load_next es ds cs xs q e end some within same =
    let inside : e - 1 < length xs = omega (arith, end.within) in
    let next : e ≡ e - 1 + 1 = omega arith in
    adds_same ds cs (λ p r. (p ≡ get_or xs (e - 1) 0) × (r ≡ q)) (λ p r. (r ≡ q) × IsLastBefore es xs p r)
    (adds_one ds cs (get_or xs (e - 1) 0) q (within (get_or xs (e - 1) 0) (Contains-get_or xs (e - 1) 0 inside)) same)
    (λ p r. (
      (λ (a, b). (b, (e - 1, inside, sym a, subst (λ (j : ℕ). IsEnd es xs j (e - 1 + 1)) (sym b) (subst (λ (n : ℕ). IsEnd es xs q n) next end)))),
      (λ (b, (k, l, at, other)).
          let is : k ≡ e - 1 = omega (arith, one_end es xs q e (k + 1) end (subst (λ (j : ℕ). IsEnd es xs j (k + 1)) b other)) in
          (sym at ∙ ap (λ j. get_or xs j 0) is, b)),
    ))

-- the edges of what is taken, and then of the groups
abbrev pub TakenBelow : List (List ℕ) → ℕ → ℕ → ℕ → Type 0
TakenBelow es i p q = q < i × IsEdge es q p

pub taken_none : (es ds : List (List ℕ)) → Adds ds (TakenBelow es 0) ds
taken_none es ds = adds_none ds (TakenBelow es 0) (λ p q (l, e). absurd (omega arith))

pub taken_more : (es cs ds bs : List (List ℕ)) (xs : List ℕ) (i : ℕ) → Adds cs (TakenBelow es i) ds → xs ≡ get_or es i [] → Adds ds (λ p q. Contains xs p × (q ≡ i)) bs → Adds cs (TakenBelow es (i + 1)) bs
taken_more es cs ds bs xs i adds same more =
    adds_then cs ds bs (TakenBelow es i) (λ p q. Contains xs p × (q ≡ i)) (TakenBelow es (i + 1)) adds more
    (λ p q. (
      (λ h. ⊎_elim
          (λ (l, e). (omega arith, e))
          (λ (c, e). (omega arith, subst (λ (j : ℕ). IsEdge es j p) (sym e) (subst (λ (us : List ℕ). Contains us p) same c)))
          h),
      (λ (l, e). ⊎_elim
          (λ (low : q < i). inl (low, e))
          (λ (high : i ≤ q). let is : q ≡ i = omega arith in inr (subst (λ (us : List ℕ). Contains us p) (sym same) (subst (λ (j : ℕ). IsEdge es j p) is e), is))
          (cases_lt q i)),
    ))

abbrev pub BeforeBelow : List (List ℕ) → Lists → ℕ → ℕ → ℕ → Type 0
BeforeBelow es l i p q = IsEdge es q p ⊎ ((g : ℕ) × g < i × IsAsked es l g p q)

pub before_taken : (es cs ds : List (List ℕ)) (l : Lists) (i : ℕ) → length es ≤ i → Adds cs (TakenBelow es i) ds → Adds cs (BeforeBelow es l 0) ds
before_taken es cs ds l i over adds =
    adds_same cs ds (TakenBelow es i) (BeforeBelow es l 0) adds
    (λ p q. ((λ (low, e). inl e), (λ h. ⊎_elim (λ e. (inside p q e, e)) (λ (g, low, a). absurd (omega arith)) h)))
  where
    inside : (p q : ℕ) → IsEdge es q p → q < i
    inside p q e = ⊎_elim
        (λ (low : q < i). low)
        (λ (high : i ≤ q). absurd (none_in p (subst (λ (us : List ℕ). Contains us p) (get_or_past es q [] (omega arith)) e)))
        (cases_lt q i)

pub before_group : (es cs ds bs : List (List ℕ)) (l : Lists) (i : ℕ) → Adds cs (BeforeBelow es l i) ds → Adds ds (IsAsked es l i) bs → Adds cs (BeforeBelow es l (i + 1)) bs
before_group es cs ds bs l i adds more = adds_then cs ds bs (BeforeBelow es l i) (IsAsked es l i) (BeforeBelow es l (i + 1)) adds more (λ p q. (to p q, from p q))
  where
    to : (p q : ℕ) → BeforeBelow es l i p q ⊎ IsAsked es l i p q → BeforeBelow es l (i + 1) p q
    to p q h = ⊎_elim (λ b. ⊎_elim (λ e. inl e) (λ (g, low, a). inr (g, omega arith, a)) b) (λ a. inr (i, omega arith, a)) h

    from : (p q : ℕ) → BeforeBelow es l (i + 1) p q → BeforeBelow es l i p q ⊎ IsAsked es l i p q
    from p q h = ⊎_elim
        (λ e. inl (inl e))
        (λ (g, low, a). ⊎_elim
        (λ (less : g < i). inl (inr (g, less, a)))
        (λ (over : i ≤ g). let is : g ≡ i = omega arith in inr (subst (λ (j : ℕ). IsAsked es l j p q) is a))
        (cases_lt g i))
        h

-- the three parts of a group
pub group_all : (es a b c d : List (List ℕ)) (l : Lists) (g : ℕ) (us ns cs ls : List ℕ) → us ≡ get_or l.users g [] → ns ≡ get_or l.nexts g [] → cs ≡ get_or l.checks g [] → ls ≡ get_or l.loads g []
    → Adds a (λ p q. Contains us p × Contains ns q) b → Adds b (Follows cs) c → Adds c (λ p q. Contains ls q × IsLastBefore es cs p q) d → Adds a (IsAsked es l g) d
group_all es a b c d l g us ns cs ls eu en ec el states line loads =
    let first : Adds a (λ p q. Contains (get_or l.users g []) p × Contains (get_or l.nexts g []) q) b =
    subst (λ (xs : List ℕ). Adds a (λ p q. Contains xs p × Contains (get_or l.nexts g []) q) b) eu (subst (λ (xs : List ℕ). Adds a (λ p q. Contains us p × Contains xs q) b) en states) in
    let second : Adds b (Follows (get_or l.checks g [])) c = subst (λ (xs : List ℕ). Adds b (Follows xs) c) ec line in
    let third : Adds c (λ p q. Contains (get_or l.loads g []) q × IsLastBefore es (get_or l.checks g []) p q) d =
    subst (λ (xs : List ℕ). Adds c (λ p q. Contains xs q × IsLastBefore es (get_or l.checks g []) p q) d) el
    (subst (λ (xs : List ℕ). Adds c (λ p q. Contains ls q × IsLastBefore es xs p q) d) ec loads) in
    adds_then a b d (λ p q. Contains (get_or l.users g []) p × Contains (get_or l.nexts g []) q)
    (λ p q. Follows (get_or l.checks g []) p q ⊎ (Contains (get_or l.loads g []) q × IsLastBefore es (get_or l.checks g []) p q)) (IsAsked es l g) first
    (adds_then b c d (Follows (get_or l.checks g [])) (λ p q. Contains (get_or l.loads g []) q × IsLastBefore es (get_or l.checks g []) p q)
    (λ p q. Follows (get_or l.checks g []) p q ⊎ (Contains (get_or l.loads g []) q × IsLastBefore es (get_or l.checks g []) p q)) second third (λ p q. ((λ h. h), (λ h. h))))
    (λ p q. ((λ h. h), (λ h. h)))
