-- A list that was filled from the end, each time by a value that nothing left needs and that stands after all others of that
-- kind, has the first fault of a state.
use Rattle.std.proofs.Common.{◌≡◌, ℕ, zero, suc, ◌<◌, ◌≤◌, refl, ap, sym, ◌∙◌, arith, ◌⊎◌, inl, inr, List, [], ◌∷◌, ◌++◌, length, Option, Some, None, Bool, true, false, cond, length-append, append_assoc}
use Rattle.std.specs.Prelude.{filter, flat_map}
use Rattle.bk_ops.specs.declared.types.Target.{Target}
use Rattle.bk_func.specs.Records.{ValueRecord}
use Rattle.bk_func.specs.Meaning.{Outcome, fault_at, first_fault, or_else}
use Rattle.bk_func.proofs.Faults.{In, in-filter, filter-in, first_fault-append, none_of, none_in, or_else-none, none_first}

-- which other values a value needs
abbrev pub Need : Type 0
Need = ValueRecord → ValueRecord → Bool

-- a value after those of a list that it needs, each likewise
unfoldable pub after : ℕ → Need → List ValueRecord → ValueRecord → List ValueRecord
after zero n xs v = v ∷ []
after (suc k) n xs v = flat_map (after k n xs) (filter (n v) xs) ++ v ∷ []

pub record Closed (n : Need) (xs : List ValueRecord) : Type 0 where
  pub trans : (u v x : ValueRecord) → In u xs → In v xs → In x xs → n u v ≡ true → n v x ≡ true → n u x ≡ true
  pub irreflexive : (u : ValueRecord) → In u xs → n u u ≡ false

pub data Greedy (n : Need) : List ValueRecord → List ValueRecord → Type 0 where
  none : Greedy n [] []
  put : (xs ys zs : List ValueRecord) (v : ValueRecord) → ((x : ValueRecord) → In x (xs ++ v ∷ ys) → n x v ≡ false) →
      ((y : ValueRecord) → In y ys → ((x : ValueRecord) × In x xs × (n x y ≡ true)) ⊎ (n v y ≡ true)) → Greedy n (xs ++ ys) zs → Greedy n (xs ++ v ∷ ys) (zs ++ v ∷ [])

-- lists

in_left : {A : Type 0} (x : A) (xs ys : List A) → In x xs → In x (xs ++ ys)
in_left x [] ys i = elim i [ ]
in_left x (z ∷ xs) ys (inl e) = inl e
in_left x (z ∷ xs) ys (inr i) = inr (in_left x xs ys i)

in_right : {A : Type 0} (x : A) (xs ys : List A) → In x ys → In x (xs ++ ys)
in_right x [] ys i = i
in_right x (z ∷ xs) ys i = inr (in_right x xs ys i)

in_either : {A : Type 0} (x : A) (xs ys : List A) → In x (xs ++ ys) → In x xs ⊎ In x ys
in_either x [] ys i = inr i
in_either {A} x (z ∷ xs) ys (inl e) = inl (inl e)
in_either {A} x (z ∷ xs) ys (inr i) = go (in_either x xs ys i)
  where
    go : In x xs ⊎ In x ys → In x (z ∷ xs) ⊎ In x ys
    go (inl j) = inl (inr j)
    go (inr j) = inr j

in_without : {A : Type 0} (x v : A) (xs ys : List A) → In x (xs ++ ys) → In x (xs ++ v ∷ ys)
in_without x v xs ys i = go (in_either x xs ys i)
  where
    go : In x xs ⊎ In x ys → In x (xs ++ v ∷ ys)
    go (inl j) = in_left x xs (v ∷ ys) j
    go (inr j) = in_right x xs (v ∷ ys) (inr j)

filter-append : {A : Type 0} (t : A → Bool) (xs ys : List A) → filter t (xs ++ ys) ≡ filter t xs ++ filter t ys
filter-append t [] ys = refl
filter-append {A} t (x ∷ xs) ys = go (t x) (filter-append t xs ys)
  where
    go : (b : Bool) → filter t (xs ++ ys) ≡ filter t xs ++ filter t ys → cond b (x ∷ filter t (xs ++ ys)) (filter t (xs ++ ys)) ≡ cond b (x ∷ filter t xs) (filter t xs) ++ filter t ys
    go true e = ap (λ zs. x ∷ zs) e
    go false e = e

filter-without : {A : Type 0} (t : A → Bool) (xs ys : List A) (v : A) → t v ≡ false → filter t (xs ++ v ∷ ys) ≡ filter t (xs ++ ys)
filter-without t xs ys v e =
    filter-append t xs (v ∷ ys) ∙ ap (λ b. filter t xs ++ cond b (v ∷ filter t ys) (filter t ys)) e ∙ sym (filter-append t xs ys)

flat_map-append : {A B : Type 0} (h : A → List B) (xs ys : List A) → flat_map h (xs ++ ys) ≡ flat_map h xs ++ flat_map h ys
flat_map-append h [] ys = refl
flat_map-append h (x ∷ xs) ys = ap (λ zs. h x ++ zs) (flat_map-append h xs ys) ∙ sym (append_assoc (h x) (flat_map h xs) (flat_map h ys))

flat_map-same : {A B : Type 0} (h g : A → List B) (xs : List A) → ((x : A) → In x xs → h x ≡ g x) → flat_map h xs ≡ flat_map g xs
flat_map-same h g [] k = refl
flat_map-same h g (x ∷ xs) k = let e = k x (inl refl) in let d = flat_map-same h g xs (λ y i. k y (inr i)) in cc

-- fewer values pass a stronger test
filter_le : {A : Type 0} (s t : A → Bool) (xs : List A) → ((x : A) → In x xs → s x ≡ true → t x ≡ true) → length (filter s xs) ≤ length (filter t xs)
filter_le s t [] h = omega arith
filter_le {A} s t (x ∷ xs) h = go (s x) (t x) (h x (inl refl)) (filter_le s t xs (λ y i. h y (inr i)))
  where
    go : (a b : Bool) → (a ≡ true → b ≡ true) → length (filter s xs) ≤ length (filter t xs) → length (cond a (x ∷ filter s xs) (filter s xs)) ≤ length (cond b (x ∷ filter t xs) (filter t xs))
    go true true k l = omega arith
    go true false k l = let q : false ≡ true = k refl in absurd cc
    go false true k l = omega arith
    go false false k l = l

filter_lt : {A : Type 0} (s t : A → Bool) (u : A) (xs : List A) → ((x : A) → In x xs → s x ≡ true → t x ≡ true) → In u xs → s u ≡ false → t u ≡ true → length (filter s xs) < length (filter t xs)
filter_lt s t u [] h i p q = elim i [ ]
filter_lt {A} s t u (x ∷ xs) h (inl e) p q =
    rw (ap s e ∙ p, ap t e ∙ q) (let l = filter_le s t xs (λ y i. h y (inr i)) in omega arith)
filter_lt {A} s t u (x ∷ xs) h (inr i) p q = go (s x) (t x) (h x (inl refl)) (filter_lt s t u xs (λ y i. h y (inr i)) i p q)
  where
    go : (a b : Bool) → (a ≡ true → b ≡ true) → length (filter s xs) < length (filter t xs) → length (cond a (x ∷ filter s xs) (filter s xs)) < length (cond b (x ∷ filter t xs) (filter t xs))
    go true true k l = omega arith
    go true false k l = let q : false ≡ true = k refl in absurd cc
    go false true k l = omega arith
    go false false k l = l

filter_short : {A : Type 0} (t : A → Bool) (xs : List A) → length (filter t xs) ≤ length xs
filter_short t [] = omega arith
filter_short {A} t (x ∷ xs) = go (t x) (filter_short t xs)
  where
    go : (b : Bool) → length (filter t xs) ≤ length xs → length (cond b (x ∷ filter t xs) (filter t xs)) ≤ length (x ∷ xs)
    go true l = omega arith
    go false l = omega arith

empty : {A : Type 0} (xs : List A) → length xs ≤ 0 → xs ≡ []
empty [] l = refl
empty (x ∷ xs) l = absurd (omega arith)

-- what a value needs needs less
less : (n : Need) (xs : List ValueRecord) → Closed n xs → (u v : ValueRecord) → In u xs → In v xs → n u v ≡ true → length (filter (n v) xs) < length (filter (n u) xs)
less n xs c u v i j e = filter_lt (n v) (n u) v xs (λ x k q. c.trans u v x i j k e q) j (c.irreflexive v j) e

-- more room than a value needs changes nothing
stable : (k j : ℕ) (n : Need) (xs : List ValueRecord) → Closed n xs → (v : ValueRecord) → In v xs → length (filter (n v) xs) ≤ k → length (filter (n v) xs) ≤ j → after k n xs v ≡ after j n xs v
unfolding after
stable zero zero n xs c v i l m = refl
stable zero (suc j) n xs c v i l m = rw (empty (filter (n v) xs) l) refl
stable (suc k) zero n xs c v i l m = rw (empty (filter (n v) xs) m) refl
stable (suc k) (suc j) n xs c v i l m =
    ap (λ (zs : List ValueRecord). zs ++ v ∷ [])
    (flat_map-same (after k n xs) (after j n xs) (filter (n v) xs)
    (λ x q. let r = in-filter (n v) x xs q in let s = less n xs c v x i r.0 r.1 in stable k j n xs c x r.0 (omega (arith, s)) (omega (arith, s))))

-- a value that none needs may be left out
without : (k : ℕ) (n : Need) (xs ys : List ValueRecord) (v : ValueRecord) → ((x : ValueRecord) → In x (xs ++ v ∷ ys) → n x v ≡ false) →
    (u : ValueRecord) → In u (xs ++ v ∷ ys) → after k n (xs ++ v ∷ ys) u ≡ after k n (xs ++ ys) u
unfolding after
without zero n xs ys v h u i = refl
without (suc k) n xs ys v h u i =
    ap (λ (zs : List ValueRecord). flat_map (after k n (xs ++ v ∷ ys)) zs ++ u ∷ []) (filter-without (n u) xs ys v (h u i))
    ∙ ap (λ (zs : List ValueRecord). zs ++ u ∷ [])
    (flat_map-same (after k n (xs ++ v ∷ ys)) (after k n (xs ++ ys)) (filter (n u) (xs ++ ys))
    (λ x q. without k n xs ys v h x (in_without x v xs ys (in-filter (n u) x (xs ++ ys) q).0)))

smaller : (n : Need) (xs ys : List ValueRecord) (v : ValueRecord) → Closed n (xs ++ v ∷ ys) → Closed n (xs ++ ys)
smaller n xs ys v c = record {
  trans = λ u w x i j k. c.trans u w x (in_without u v xs ys i) (in_without w v xs ys j) (in_without x v xs ys k);
  irreflexive = λ u i. c.irreflexive u (in_without u v xs ys i);
}

-- the first fault of a list's values after what they need
abbrev ff : ℕ → Need → List ValueRecord → Target → (ℕ → ℕ) → List ℕ → List ValueRecord → Option Outcome
ff k n all t m d xs = first_fault t m d (flat_map (after k n all) xs)

ff-append : (k : ℕ) (n : Need) (all : List ValueRecord) (t : Target) (m : ℕ → ℕ) (d : List ℕ) (xs ys : List ValueRecord) →
    ff k n all t m d (xs ++ ys) ≡ or_else (ff k n all t m d xs) (ff k n all t m d ys)
ff-append k n all t m d xs ys =
    ap (first_fault t m d) (flat_map-append (after k n all) xs ys) ∙ first_fault-append t m d (flat_map (after k n all) xs) (flat_map (after k n all) ys)

-- what a value without a fault needs has none
needed_none : (k : ℕ) (n : Need) (all : List ValueRecord) → Closed n all → length all ≤ k → (t : Target) (m : ℕ → ℕ) (d : List ℕ) (v x : ValueRecord) → In v all → In x all → n v x ≡ true →
    first_fault t m d (after k n all v) ≡ None → first_fault t m d (after k n all x) ≡ None
unfolding after
needed_none zero n all c l t m d v x i j e h = let q = less n all c v x i j e in let s = filter_short (n v) all in absurd (omega arith)
needed_none (suc k) n all c l t m d v x i j e h =
    let q = less n all c v x i j e in
    let s = filter_short (n v) all in
    ap (first_fault t m d) (stable (suc k) k n all c x j (omega arith) (omega arith))
    ∙ none_in t m d (after k n all) x (filter (n v) all)
    (none_first (first_fault t m d (flat_map (after k n all) (filter (n v) all))) (first_fault t m d (v ∷ [])) (sym (first_fault-append t m d (flat_map (after k n all) (filter (n v) all)) (v ∷ [])) ∙ h))
    (filter-in (n v) x all j e)

-- values that a list without faults needs may be left out
filter_same : (k : ℕ) (n : Need) (all : List ValueRecord) (t : Target) (m : ℕ → ℕ) (d : List ℕ) (p : ValueRecord → Bool) (ys : List ValueRecord) →
    ((y : ValueRecord) → In y ys → (p y ≡ true) ⊎ (first_fault t m d (after k n all y) ≡ None)) → ff k n all t m d (filter p ys) ≡ ff k n all t m d ys
filter_same k n all t m d p [] h = refl
filter_same k n all t m d p (y ∷ ys) h = go (p y) refl (h y (inl refl)) (filter_same k n all t m d p ys (λ x i. h x (inr i)))
  where
    go : (b : Bool) → p y ≡ b → (p y ≡ true) ⊎ (first_fault t m d (after k n all y) ≡ None) → ff k n all t m d (filter p ys) ≡ ff k n all t m d ys →
        ff k n all t m d (cond b (y ∷ filter p ys) (filter p ys)) ≡ ff k n all t m d (y ∷ ys)
    go true e q r =
        first_fault-append t m d (after k n all y) (flat_map (after k n all) (filter p ys)) ∙ ap (or_else (first_fault t m d (after k n all y))) r
        ∙ sym (first_fault-append t m d (after k n all y) (flat_map (after k n all) ys))
    go false e (inl q) r = absurd cc
    go false e (inr q) r =
        r ∙ ap (λ o. or_else o (ff k n all t m d ys)) (sym q) ∙ sym (first_fault-append t m d (after k n all y) (flat_map (after k n all) ys))

-- the first fault of a list, of what a value needs, of the value, and of the rest, where what is needed stands in the list or the rest
joined : (o wl wr u fv z : Option Outcome) → (o ≡ None → (wl ≡ None) × (wr ≡ u)) → or_else o u ≡ z → or_else o (or_else (or_else (or_else wl wr) (or_else fv None)) u) ≡ or_else z (or_else fv None)
joined (Some x) wl wr u fv z h e = ap (λ y. or_else y (or_else fv None)) e
joined None wl wr u fv z h e =
    let q = h refl in
    ap (λ y. or_else (or_else (or_else y wr) (or_else fv None)) u) q.0 ∙ ap (λ y. or_else (or_else y (or_else fv None)) u) q.1 ∙ twice u (or_else fv None) ∙ ap (λ y. or_else y (or_else fv None)) e
  where
    twice : (o u : Option Outcome) → or_else (or_else o u) o ≡ or_else o u
    twice None u = or_else-none u
    twice (Some x) u = refl

-- the first fault of a value after what it needs
first_of : (k : ℕ) (n : Need) (all xs ys : List ValueRecord) (v : ValueRecord) (t : Target) (m : ℕ → ℕ) (d : List ℕ) → Closed n (xs ++ ys) → length (xs ++ ys) ≤ k →
    first_fault t m d (after (suc k) n (xs ++ ys) v) ≡ or_else (or_else (ff (suc k) n (xs ++ ys) t m d (filter (n v) xs)) (ff (suc k) n (xs ++ ys) t m d (filter (n v) ys))) (or_else (fault_at t m d v) None)
unfolding after
first_of k n all xs ys v t m d c l =
    first_fault-append t m d (flat_map (after k n (xs ++ ys)) (filter (n v) (xs ++ ys))) (v ∷ [])
    ∙ ap (λ (zs : List ValueRecord). or_else (first_fault t m d zs) (or_else (fault_at t m d v) None))
    (flat_map-same (after k n (xs ++ ys)) (after (suc k) n (xs ++ ys)) (filter (n v) (xs ++ ys))
    (λ x q. let s = filter_short (n x) (xs ++ ys) in stable k (suc k) n (xs ++ ys) c x (in-filter (n v) x (xs ++ ys) q).0 (omega arith) (omega arith)))
    ∙ ap (λ (zs : List ValueRecord). or_else (ff (suc k) n (xs ++ ys) t m d zs) (or_else (fault_at t m d v) None)) (filter-append (n v) xs ys)
    ∙ ap (λ o. or_else o (or_else (fault_at t m d v) None)) (ff-append (suc k) n (xs ++ ys) t m d (filter (n v) xs) (filter (n v) ys))

pub greedy_first : (n : Need) (all zs : List ValueRecord) → Greedy n all zs → Closed n all → (k : ℕ) → length all ≤ k → (t : Target) (m : ℕ → ℕ) (d : List ℕ) →
    ff k n all t m d all ≡ first_fault t m d zs
greedy_first n _ _ none c k l t m d = refl
greedy_first n _ _ (put xs ys zs v free later g) c zero l t m d = let e = length-append xs (v ∷ ys) in absurd (omega arith)
greedy_first n _ _ (put xs ys zs v free later g) c (suc k) l t m d =
    let rest = smaller n xs ys v c in
    let e = length-append xs (v ∷ ys) in
    let e2 = length-append xs ys in
    let short : length (xs ++ ys) ≤ k = omega arith in
    ap (first_fault t m d) (flat_map-same (after (suc k) n (xs ++ v ∷ ys)) (after (suc k) n (xs ++ ys)) (xs ++ v ∷ ys) (λ x i. without (suc k) n xs ys v free x i))
    ∙ ff-append (suc k) n (xs ++ ys) t m d xs (v ∷ ys)
    ∙ ap (or_else (ff (suc k) n (xs ++ ys) t m d xs)) (first_fault-append t m d (after (suc k) n (xs ++ ys) v) (flat_map (after (suc k) n (xs ++ ys)) ys))
    ∙ ap (λ o. or_else (ff (suc k) n (xs ++ ys) t m d xs) (or_else o (ff (suc k) n (xs ++ ys) t m d ys))) (first_of k n (xs ++ ys) xs ys v t m d rest short)
    ∙ joined (ff (suc k) n (xs ++ ys) t m d xs) (ff (suc k) n (xs ++ ys) t m d (filter (n v) xs)) (ff (suc k) n (xs ++ ys) t m d (filter (n v) ys)) (ff (suc k) n (xs ++ ys) t m d ys) (fault_at t m d v) (first_fault t m d zs)
    (λ q. (
      none_of t m d (after (suc k) n (xs ++ ys)) (filter (n v) xs) (λ x i. none_in t m d (after (suc k) n (xs ++ ys)) x xs q (in-filter (n v) x xs i).0),
      filter_same (suc k) n (xs ++ ys) t m d (n v) ys (λ y i. before q y i (later y i)),
    ))
    (sym (ff-append (suc k) n (xs ++ ys) t m d xs ys) ∙ greedy_first n (xs ++ ys) zs g rest (suc k) (omega arith) t m d)
    ∙ sym (first_fault-append t m d zs (v ∷ []))
  where
    before : ff (suc k) n (xs ++ ys) t m d xs ≡ None → (y : ValueRecord) → In y ys → ((x : ValueRecord) × In x xs × (n x y ≡ true)) ⊎ (n v y ≡ true) →
        (n v y ≡ true) ⊎ (first_fault t m d (after (suc k) n (xs ++ ys) y) ≡ None)
    before q y i (inr h) = inl h
    before q y i (inl h) =
        let e = length-append xs (v ∷ ys) in
        let e2 = length-append xs ys in
        inr (needed_none (suc k) n (xs ++ ys) (smaller n xs ys v c) (omega arith) t m d h.0 y (in_left h.0 xs ys h.1) (in_right y xs ys i) h.2
        (none_in t m d (after (suc k) n (xs ++ ys)) h.0 xs q h.1))
