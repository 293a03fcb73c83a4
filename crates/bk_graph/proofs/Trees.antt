-- Trees of places that yield: where steps lead, and what a change of one step does.
use Rattle.std.proofs.Common.{◌≡◌, ◌≢◌, ◌∙◌, sym, refl, ap, subst, ℕ, zero, suc, ◌+◌, ◌-◌, ◌<◌, ◌≤◌, ◌==◌, ◌⊎◌, inl, inr, Bool, true, false, if◌then◌else◌, List, [], ◌∷◌, ◌++◌, length, arith}
use Rattle.std.specs.Prelude.{slice_index_or, slice_set}
use Rattle.std.proofs.lemmas.Bool.{cases_eq, cases_lt, eq-eqb, ne_eqb}
use Rattle.bk_graph.specs.Lists.{picked}
use Rattle.bk_graph.specs.Roots.{root_of, follow, root_in, roots, relabelled, staying, IsTree}

follow_suc : (k : ℕ) (s : List ℕ) (p : ℕ) → follow (suc k) s p ≡ (if root_of s p == p then p else follow k s (root_of s p))
unfolding follow
follow_suc k s p = refl

follow_next : (n i : ℕ) (s : List ℕ) (p : ℕ) → i < n → follow (n - i) s p ≡ (if root_of s p == p then p else follow (n - (i + 1)) s (root_of s p))
follow_next n i s p l =
    let e : n - i ≡ suc (n - (i + 1)) = omega arith in
    ap (λ k. follow k s p) e ∙ follow_suc (n - (i + 1)) s p

pub follow_on : (n i : ℕ) (s : List ℕ) (p q t : ℕ) → i < n → q ≡ root_of s p → (q ≡ p → ⊥) → follow (n - i) s p ≡ t → follow (n - (i + 1)) s q ≡ t
follow_on n i s p q t l is apart h =
    ap (follow (n - (i + 1)) s) is
    ∙ sym (rw (ne_eqb (root_of s p) p (λ e. apart (is ∙ e))) at (follow_next n i s p l))
    ∙ h

pub follow_here : (n i : ℕ) (s : List ℕ) (p q t : ℕ) → i < n → q ≡ root_of s p → q ≡ p → follow (n - i) s p ≡ t → p ≡ t
follow_here n i s p q t l is here h =
    sym (rw (eq-eqb (root_of s p) p (sym is ∙ here)) at (follow_next n i s p l)) ∙ h

pub follow_out : (n i : ℕ) (s : List ℕ) (p t : ℕ) → n ≤ i → follow (n - i) s p ≡ t → p ≡ t
unfolding follow
follow_out n i s p t l h =
    let e : n - i ≡ 0 = omega arith in
    ap (λ k. follow k s p) (sym e) ∙ h

-- lists

set_same : (xs : List ℕ) (a v d : ℕ) → a < length xs → slice_index_or (slice_set xs a v) a d ≡ v
set_same [] a v d l = absurd (omega arith)
set_same (x ∷ xs) zero v d l = refl
set_same (x ∷ xs) (suc a) v d l = set_same xs a v d (omega arith)

set_other : (xs : List ℕ) (a v p d : ℕ) → p ≢ a → slice_index_or (slice_set xs a v) p d ≡ slice_index_or xs p d
set_other [] a v p d n = refl
set_other (x ∷ xs) zero v zero d n = absurd (n refl)
set_other (x ∷ xs) zero v (suc p) d n = refl
set_other (x ∷ xs) (suc a) v zero d n = refl
set_other (x ∷ xs) (suc a) v (suc p) d n = set_other xs a v p d (λ e. n (ap suc e))

set_length : (xs : List ℕ) (a v : ℕ) → length (slice_set xs a v) ≡ length xs
set_length [] a v = refl
set_length (x ∷ xs) zero v = refl
set_length (x ∷ xs) (suc a) v = ap suc (set_length xs a v)

past : (xs : List ℕ) (p d : ℕ) → length xs ≤ p → slice_index_or xs p d ≡ d
past [] p d l = refl
past (x ∷ xs) zero d l = absurd (omega arith)
past (x ∷ xs) (suc p) d l = past xs p d (omega arith)

same_test : (p n : ℕ) → (p == n) ≡ (suc p == suc n)
same_test p n = go (cases_eq p n)
  where
    go : (p ≡ n) ⊎ (p ≢ n) → (p == n) ≡ (suc p == suc n)
    go (inl e) = eq-eqb p n e ∙ sym (eq-eqb (suc p) (suc n) (ap suc e))
    go (inr m) = ne_eqb p n m ∙ sym (ne_eqb (suc p) (suc n) (λ e. m (omega (arith, e))))

pub push_at : (xs : List ℕ) (x p d : ℕ) → slice_index_or (xs ++ x ∷ []) p d ≡ (if p == length xs then x else slice_index_or xs p d)
push_at [] x zero d = refl
push_at [] x (suc p) d = rw (ne_eqb (suc p) 0 (λ e. absurd (omega (arith, e)))) refl
push_at (y ∷ xs) x zero d = rw (ne_eqb zero (suc (length xs)) (λ e. absurd (omega (arith, e)))) refl
push_at (y ∷ xs) x (suc p) d = push_at xs x p d ∙ ap (λ t. if t then x else slice_index_or xs p d) (same_test p (length xs))

-- a place that yields is one of the list
there : (xs : List ℕ) (p : ℕ) → root_of xs p ≢ p → p < length xs
there xs p n = go (cases_lt p (length xs))
  where
    go : (p < length xs) ⊎ (length xs ≤ p) → p < length xs
    go (inl l) = l
    go (inr l) = absurd (n (past xs p p l))

-- where steps lead

pub follow_stays : (k : ℕ) (xs : List ℕ) (p : ℕ) → root_of xs p ≡ p → follow k xs p ≡ p
unfolding follow
follow_stays zero xs p e = refl
follow_stays (suc k) xs p e = rw (eq-eqb (root_of xs p) p e) refl

follow_goes : (k : ℕ) (xs : List ℕ) (p : ℕ) → root_of xs p ≢ p → follow (suc k) xs p ≡ follow k xs (root_of xs p)
unfolding follow
follow_goes k xs p n = rw (ne_eqb (root_of xs p) p n) refl

module _ (xs : List ℕ) (t : IsTree xs) where
  follow_more : (k j p : ℕ) → t.depth p ≤ k → t.depth p ≤ j → follow k xs p ≡ follow j xs p
  follow_more zero j p l m = go (cases_eq (root_of xs p) p)
    where
      go : (root_of xs p ≡ p) ⊎ (root_of xs p ≢ p) → follow zero xs p ≡ follow j xs p
      go (inl e) = follow_stays zero xs p e ∙ sym (follow_stays j xs p e)
      go (inr n) = let f = t.falls p n in absurd (omega (arith, f, l))
  follow_more (suc k) zero p l m = go (cases_eq (root_of xs p) p)
    where
      go : (root_of xs p ≡ p) ⊎ (root_of xs p ≢ p) → follow (suc k) xs p ≡ follow zero xs p
      go (inl e) = follow_stays (suc k) xs p e ∙ sym (follow_stays zero xs p e)
      go (inr n) = let f = t.falls p n in absurd (omega (arith, f, m))
  follow_more (suc k) (suc j) p l m = go (λ a b. follow_more k j (root_of xs p) a b) (cases_eq (root_of xs p) p)
    where
      go : (t.depth (root_of xs p) ≤ k → t.depth (root_of xs p) ≤ j → follow k xs (root_of xs p) ≡ follow j xs (root_of xs p)) → (root_of xs p ≡ p) ⊎ (root_of xs p ≢ p) →
          follow (suc k) xs p ≡ follow (suc j) xs p
      go next (inl e) = follow_stays (suc k) xs p e ∙ sym (follow_stays (suc j) xs p e)
      go next (inr n) =
          let f = t.falls p n in
          follow_goes k xs p n ∙ next (omega (arith, f, l)) (omega (arith, f, m)) ∙ sym (follow_goes j xs p n)

  deep : (p : ℕ) → t.depth p ≤ length xs
  deep p = let f = t.few p in omega arith

  root_goes : (p : ℕ) → root_of xs p ≢ p → root_in xs p ≡ root_in xs (root_of xs p)
  root_goes p n =
      let f = t.falls p n in
      let d = deep p in
      follow_more (length xs) (suc (length xs)) p d (omega arith) ∙ follow_goes (length xs) xs p n

  -- what is kept along steps holds of where they lead
  root_is : (f : ℕ → ℕ) → ((p : ℕ) → root_of xs p ≡ p → f p ≡ p) → ((p : ℕ) → root_of xs p ≢ p → f p ≡ f (root_of xs p)) → (k p : ℕ) → t.depth p ≤ k → root_in xs p ≡ f p
  root_is f stays goes zero p l = go (cases_eq (root_of xs p) p)
    where
      go : (root_of xs p ≡ p) ⊎ (root_of xs p ≢ p) → root_in xs p ≡ f p
      go (inl e) = follow_stays (length xs) xs p e ∙ sym (stays p e)
      go (inr n) = let d = t.falls p n in absurd (omega (arith, d, l))
  root_is f stays goes (suc k) p l = go (λ b. root_is f stays goes k (root_of xs p) b) (cases_eq (root_of xs p) p)
    where
      go : (t.depth (root_of xs p) ≤ k → root_in xs (root_of xs p) ≡ f (root_of xs p)) → (root_of xs p ≡ p) ⊎ (root_of xs p ≢ p) → root_in xs p ≡ f p
      go next (inl e) = follow_stays (length xs) xs p e ∙ sym (stays p e)
      go next (inr n) = let d = t.falls p n in root_goes p n ∙ next (omega (arith, d, l)) ∙ sym (goes p n)

  -- a fact of places that stay, and of where steps lead
  led : (P : ℕ → Type 0) → ((p : ℕ) → P p → P (root_of xs p)) → (k p : ℕ) → t.depth p ≤ k → P p → (root_of xs (root_in xs p) ≡ root_in xs p) × P (root_in xs p)
  led P next zero p l h = go (cases_eq (root_of xs p) p)
    where
      go : (root_of xs p ≡ p) ⊎ (root_of xs p ≢ p) → (root_of xs (root_in xs p) ≡ root_in xs p) × P (root_in xs p)
      go (inl e) = (let Q : ℕ → Type 0 = λ x. (root_of xs x ≡ x) × P x in subst Q (sym (follow_stays (length xs) xs p e)) (e, h))
      go (inr n) = let d = t.falls p n in absurd (omega (arith, d, l))
  led P next (suc k) p l h = go (λ b. led P next k (root_of xs p) b (next p h)) (cases_eq (root_of xs p) p)
    where
      go : (t.depth (root_of xs p) ≤ k → (root_of xs (root_in xs (root_of xs p)) ≡ root_in xs (root_of xs p)) × P (root_in xs (root_of xs p))) → (root_of xs p ≡ p) ⊎ (root_of xs p ≢ p) →
          (root_of xs (root_in xs p) ≡ root_in xs p) × P (root_in xs p)
      go more (inl e) = (let Q : ℕ → Type 0 = λ x. (root_of xs x ≡ x) × P x in subst Q (sym (follow_stays (length xs) xs p e)) (e, h))
      go more (inr n) =
          let d = t.falls p n in
          let Q : ℕ → Type 0 = λ x. (root_of xs x ≡ x) × P x in
          subst Q (sym (root_goes p n)) (more (omega (arith, d, l)))

  pub root_stays : (k p : ℕ) → t.depth p ≤ k → root_of xs (root_in xs p) ≡ root_in xs p
  root_stays k p l = (led (λ x. ◌≡◌ {A = ℕ} x x) (λ x h. refl) k p l refl).0

  root_within : (k p : ℕ) → t.depth p ≤ k → p < length xs → root_in xs p < length xs
  root_within k p l w = (led (λ x. x < length xs) t.within k p l w).1

-- how many stay

same_staying : (xs ys : List ℕ) → ((p : ℕ) → (root_of ys p == p) ≡ (root_of xs p == p)) → (n : ℕ) → staying ys n ≡ staying xs n
unfolding staying
same_staying xs ys h zero = refl
same_staying xs ys h (suc n) = rw (h n, same_staying xs ys h n) refl

pub staying_most : (xs : List ℕ) (n : ℕ) → staying xs n ≤ n
unfolding staying
staying_most xs zero = omega arith
staying_most xs (suc n) = (let r = staying_most xs n in let q = at_most (root_of xs n == n) in omega arith)
  where
    at_most : (t : Bool) → (if t then 1 else 0) ≤ 1
    at_most true = omega arith
    at_most false = omega arith

-- one that stayed yields now
fewer : (xs ys : List ℕ) (a : ℕ) → ((p : ℕ) → p ≢ a → root_of ys p ≡ root_of xs p) → root_of xs a ≡ a → root_of ys a ≢ a → (n : ℕ) → (a < n → staying ys n + 1 ≡ staying xs n) × (n ≤ a → staying ys n ≡ staying xs n)
unfolding staying
fewer xs ys a same e m zero = (λ l. absurd (omega arith), λ l. refl)
fewer xs ys a same e m (suc n) = (let r = fewer xs ys a same e m n in go r.0 r.1 (cases_eq n a))
  where
    go : (a < n → staying ys n + 1 ≡ staying xs n) → (n ≤ a → staying ys n ≡ staying xs n) → (n ≡ a) ⊎ (n ≢ a) →
        (a < suc n → (if root_of ys n == n then 1 else 0) + staying ys n + 1 ≡ (if root_of xs n == n then 1 else 0) + staying xs n) ×
        (suc n ≤ a → (if root_of ys n == n then 1 else 0) + staying ys n ≡ (if root_of xs n == n then 1 else 0) + staying xs n)
    go above below (inl q) =
        let P : ℕ → Type 0 = λ x. root_of xs x ≡ x in
        let Q : ℕ → Type 0 = λ x. root_of ys x ≢ x in
        let s = eq-eqb (root_of xs n) n (subst P (sym q) e) in
        let d = ne_eqb (root_of ys n) n (subst Q (sym q) m) in
        let b = below (omega arith) in
        rw (s, d) (λ l. omega arith, λ l. absurd (omega arith))
    go above below (inr q) = rw (same n q) (λ l. (let b = above (omega arith) in omega arith), λ l. (let b = below (omega arith) in omega arith))

-- a place that stayed yields to another that stays

module _ (xs : List ℕ) (t : IsTree xs) (a v : ℕ) (w : a < length xs) (x : v < length xs) (ea : root_of xs a ≡ a) (ev : root_of xs v ≡ v) (n : a ≢ v) where
  abbrev ys : List ℕ
  ys = slice_set xs a v

  abbrev one : ℕ → ℕ
  one p = if root_in xs p == a then 1 else 0

  none : (p : ℕ) → root_in xs p ≢ a → one p ≡ 0
  none p m = rw (ne_eqb (root_in xs p) a m) refl

  at : root_of ys a ≡ v
  at = set_same xs a v a w

  other : (p : ℕ) → p ≢ a → root_of ys p ≡ root_of xs p
  other p m = set_other xs a v p p m

  pub tree_put : IsTree (slice_set xs a v)
  tree_put = record {
    depth = λ p. t.depth p + one p;
    within = λ p l. rw (set_length xs a v) (within p (rw (set_length xs a v) at l) (cases_eq p a));
    falls = λ p m. falls p m (cases_eq p a);
    last = λ p e. last p e (cases_eq p a);
    few = λ p. rw (set_length xs a v) (few p);
  }
    where
      within : (p : ℕ) → p < length xs → (p ≡ a) ⊎ (p ≢ a) → root_of ys p < length xs
      within p l (inl e) = (let P : ℕ → Type 0 = λ z. root_of ys z < length xs in let Q : ℕ → Type 0 = λ z. z < length xs in subst P (sym e) (subst Q (sym at) x))
      within p l (inr m) = (let Q : ℕ → Type 0 = λ z. z < length xs in subst Q (sym (other p m)) (t.within p l))

      v_none : t.depth v + one v ≡ 0
      v_none =
          let d = t.last v ev in
          let o = none v (λ e. n (sym e ∙ follow_stays (length xs) xs v ev)) in
          omega arith

      falls : (p : ℕ) → root_of ys p ≢ p → (p ≡ a) ⊎ (p ≢ a) → t.depth (root_of ys p) + one (root_of ys p) < t.depth p + one p
      falls p m (inl e) =
          let P : ℕ → Type 0 = λ z. t.depth (root_of ys z) + one (root_of ys z) < t.depth z + one z in
          let Q : ℕ → Type 0 = λ z. t.depth z + one z < t.depth a + one a in
          let o : one a ≡ 1 = rw (eq-eqb (root_in xs a) a (follow_stays (length xs) xs a ea)) refl in
          let z = v_none in
          subst P (sym e) (subst Q (sym at) (omega arith))
      falls p m (inr q) =
          let Q : ℕ → Type 0 = λ z. t.depth z + one z < t.depth p + one p in
          let goes : root_of xs p ≢ p = λ e. m (other p q ∙ e) in
          let f = t.falls p goes in
          let o : one p ≡ one (root_of xs p) = ap (λ r. if r == a then 1 else 0) (root_goes xs t p goes) in
          subst Q (sym (other p q)) (omega arith)

      last : (p : ℕ) → root_of ys p ≡ p → (p ≡ a) ⊎ (p ≢ a) → t.depth p + one p ≡ 0
      last p e (inl q) = absurd (n (sym q ∙ sym e ∙ (let P : ℕ → Type 0 = λ z. root_of ys z ≡ v in subst P (sym q) at)))
      last p e (inr q) =
          let s : root_of xs p ≡ p = sym (other p q) ∙ e in
          let d = t.last p s in
          let o = none p (λ r. q (sym (follow_stays (length xs) xs p s) ∙ r)) in
          omega arith

      few : (p : ℕ) → t.depth p + one p + staying ys (length xs) ≤ length xs
      few p =
          let f = t.few p in
          let s = (fewer xs ys a other ea (λ e. n (sym e ∙ at)) (length xs)).0 w in
          let o = at_most (root_in xs p == a) in
          omega arith
        where
          at_most : (t : Bool) → (if t then 1 else 0) ≤ 1
          at_most true = omega arith
          at_most false = omega arith

  root_put : (p : ℕ) → root_in (slice_set xs a v) p ≡ relabelled a v (root_in xs p)
  root_put p = root_is ys tree_put (λ q. relabelled a v (root_in xs q)) (λ q e. stays q e (cases_eq q a)) (λ q m. goes q m (cases_eq q a)) (tree_put.depth p) p (omega arith)
    where
      stays : (q : ℕ) → root_of ys q ≡ q → (q ≡ a) ⊎ (q ≢ a) → relabelled a v (root_in xs q) ≡ q
      stays q e (inl i) = absurd (n (sym i ∙ sym e ∙ (let P : ℕ → Type 0 = λ z. root_of ys z ≡ v in subst P (sym i) at)))
      stays q e (inr m) = (let s = follow_stays (length xs) xs q (sym (other q m) ∙ e) in rw s (rw (ne_eqb q a m) refl))

      own : relabelled a v (root_in xs a) ≡ v
      own = rw (follow_stays (length xs) xs a ea) (rw (eq-eqb a a refl) refl)

      mine : relabelled a v (root_in xs v) ≡ v
      mine = rw (follow_stays (length xs) xs v ev) (rw (ne_eqb v a (λ e. n (sym e))) refl)

      goes : (q : ℕ) → root_of ys q ≢ q → (q ≡ a) ⊎ (q ≢ a) → relabelled a v (root_in xs q) ≡ relabelled a v (root_in xs (root_of ys q))
      goes q m (inl i) =
          let P : ℕ → Type 0 = λ z. relabelled a v (root_in xs z) ≡ relabelled a v (root_in xs (root_of ys z)) in
          subst P (sym i) (own ∙ sym mine ∙ ap (λ z. relabelled a v (root_in xs z)) (sym at))
      goes q m (inr i) = ap (relabelled a v) (root_goes xs t q (λ e. m (other q i ∙ e)) ∙ ap (root_in xs) (sym (other q i)))

-- a place that yields goes straight to its root

module _ (xs : List ℕ) (t : IsTree xs) (a : ℕ) (m : root_of xs a ≢ a) where
  abbrev zs : List ℕ
  zs = slice_set xs a (root_in xs a)

  straight : root_of zs a ≡ root_in xs a
  straight = set_same xs a (root_in xs a) a (there xs a m)

  elsewhere : (p : ℕ) → p ≢ a → root_of zs p ≡ root_of xs p
  elsewhere p i = set_other xs a (root_in xs a) p p i

  stays : root_of xs (root_in xs a) ≡ root_in xs a
  stays = root_stays xs t (t.depth a) a (omega arith)

  apart : root_in xs a ≢ a
  apart e = m (let P : ℕ → Type 0 = λ z. root_of xs z ≡ z in subst P e stays)

  pub tree_straight : IsTree (slice_set xs a (root_in xs a))
  tree_straight = record {
    depth = t.depth;
    within = λ p l. rw (set_length xs a (root_in xs a)) (within p (rw (set_length xs a (root_in xs a)) at l) (cases_eq p a));
    falls = λ p i. falls p i (cases_eq p a);
    last = λ p e. last p e (cases_eq p a);
    few = λ p. rw (set_length xs a (root_in xs a), same_staying xs zs same (length xs)) (t.few p);
  }
    where
      within : (p : ℕ) → p < length xs → (p ≡ a) ⊎ (p ≢ a) → root_of zs p < length xs
      within p l (inl e) =
          let P : ℕ → Type 0 = λ z. root_of zs z < length xs in
          let Q : ℕ → Type 0 = λ z. z < length xs in
          subst P (sym e) (subst Q (sym straight) (root_within xs t (t.depth a) a (omega arith) (there xs a m)))
      within p l (inr i) = (let Q : ℕ → Type 0 = λ z. z < length xs in subst Q (sym (elsewhere p i)) (t.within p l))

      falls : (p : ℕ) → root_of zs p ≢ p → (p ≡ a) ⊎ (p ≢ a) → t.depth (root_of zs p) < t.depth p
      falls p i (inl e) =
          let P : ℕ → Type 0 = λ z. t.depth (root_of zs z) < t.depth z in
          let Q : ℕ → Type 0 = λ z. t.depth z < t.depth a in
          let d = t.last (root_in xs a) stays in
          let f = t.falls a m in
          subst P (sym e) (subst Q (sym straight) (omega arith))
      falls p i (inr q) =
          let Q : ℕ → Type 0 = λ z. t.depth z < t.depth p in
          subst Q (sym (elsewhere p q)) (t.falls p (λ e. i (elsewhere p q ∙ e)))

      last : (p : ℕ) → root_of zs p ≡ p → (p ≡ a) ⊎ (p ≢ a) → t.depth p ≡ 0
      last p e (inl q) = absurd (apart (sym straight ∙ (let P : ℕ → Type 0 = λ z. root_of zs z ≡ z in subst P q e)))
      last p e (inr q) = t.last p (sym (elsewhere p q) ∙ e)

      same : (p : ℕ) → (root_of zs p == p) ≡ (root_of xs p == p)
      same p = go (cases_eq p a)
        where
          go : (p ≡ a) ⊎ (p ≢ a) → (root_of zs p == p) ≡ (root_of xs p == p)
          go (inl e) =
              let P : ℕ → Type 0 = λ z. (root_of zs z == z) ≡ (root_of xs z == z) in
              subst P (sym e) (ne_eqb (root_of zs a) a (λ i. apart (sym straight ∙ i)) ∙ sym (ne_eqb (root_of xs a) a m))
          go (inr i) = ap (λ r. r == p) (elsewhere p i)

  root_straight : (p : ℕ) → root_in (slice_set xs a (root_in xs a)) p ≡ root_in xs p
  root_straight p = root_is zs tree_straight (root_in xs) (λ q e. ends q e (cases_eq q a)) (λ q i. goes q i (cases_eq q a)) (tree_straight.depth p) p (omega arith)
    where
      ends : (q : ℕ) → root_of zs q ≡ q → (q ≡ a) ⊎ (q ≢ a) → root_in xs q ≡ q
      ends q e (inl i) = absurd (apart (sym straight ∙ (let P : ℕ → Type 0 = λ z. root_of zs z ≡ z in subst P i e)))
      ends q e (inr i) = follow_stays (length xs) xs q (sym (elsewhere q i) ∙ e)

      goes : (q : ℕ) → root_of zs q ≢ q → (q ≡ a) ⊎ (q ≢ a) → root_in xs q ≡ root_in xs (root_of zs q)
      goes q i (inl e) =
          let P : ℕ → Type 0 = λ z. root_in xs z ≡ root_in xs (root_of zs z) in
          subst P (sym e) (sym (ap (root_in xs) straight ∙ follow_stays (length xs) xs (root_in xs a) stays))
      goes q i (inr e) = root_goes xs t q (λ r. i (elsewhere q e ∙ r)) ∙ ap (root_in xs) (sym (elsewhere q e))

-- the list of where steps lead

picked_at : (made : ℕ → ℕ → ℕ) (k : ℕ) (xs : List ℕ) (p d : ℕ) → p < length xs → slice_index_or (picked (λ j. true) made k xs) p d ≡ made (k + p) (slice_index_or xs p d)
unfolding picked
picked_at made k [] p d l = absurd (omega arith)
picked_at made k (x ∷ xs) zero d l = ap (λ j. made j x) (omega arith)
picked_at made k (x ∷ xs) (suc p) d l = picked_at made (k + 1) xs p d (omega arith) ∙ ap (λ j. made j (slice_index_or xs p d)) (omega arith)

picked_length : (made : ℕ → ℕ → ℕ) (k : ℕ) (xs : List ℕ) → length (picked (λ j. true) made k xs) ≡ length xs
unfolding picked
picked_length made k [] = refl
picked_length made k (x ∷ xs) = ap suc (picked_length made (k + 1) xs)

picked_same : (f g : ℕ → ℕ) (k : ℕ) (xs ys : List ℕ) → length xs ≡ length ys → ((p : ℕ) → f p ≡ g p) → picked (λ j. true) (λ j x. f j) k xs ≡ picked (λ j. true) (λ j x. g j) k ys
unfolding picked
picked_same f g k [] [] l h = refl
picked_same f g k [] (y ∷ ys) l h = absurd (omega arith)
picked_same f g k (x ∷ xs) [] l h = absurd (omega arith)
picked_same f g k (x ∷ xs) (y ∷ ys) l h = ap (λ z. z ∷ picked (λ j. true) (λ j x. f j) (k + 1) xs) (h k) ∙ ap (λ zs. g k ∷ zs) (picked_same f g (k + 1) xs ys (omega arith) h)

pub roots_length : (xs : List ℕ) → length (roots xs) ≡ length xs
roots_length xs = picked_length (λ k x. root_in xs k) 0 xs

pub roots_at : (xs : List ℕ) (p : ℕ) → root_of (roots xs) p ≡ root_in xs p
roots_at xs p = go (cases_lt p (length xs))
  where
    go : (p < length xs) ⊎ (length xs ≤ p) → root_of (roots xs) p ≡ root_in xs p
    go (inl l) = picked_at (λ k x. root_in xs k) 0 xs p p l ∙ ap (root_in xs) (omega arith)
    go (inr l) = past (roots xs) p p (let n = roots_length xs in omega arith) ∙ sym (follow_stays (length xs) xs p (past xs p p l))

pub roots_straight : (xs : List ℕ) (t : IsTree xs) (a r : ℕ) → root_of xs a ≢ a → r ≡ root_in xs a → roots (slice_set xs a r) ≡ roots xs
roots_straight xs t a r m e =
    let P : ℕ → Type 0 = λ z. roots (slice_set xs a z) ≡ roots xs in
    subst P (sym e) (picked_same (root_in (slice_set xs a (root_in xs a))) (root_in xs) 0 (slice_set xs a (root_in xs a)) xs (set_length xs a (root_in xs a)) (root_straight xs t a m))

pub tree_found : (xs : List ℕ) (t : IsTree xs) (a r : ℕ) → root_of xs a ≢ a → r ≡ root_in xs a → IsTree (slice_set xs a r)
tree_found xs t a r m e = (let P : ℕ → Type 0 = λ z. IsTree (slice_set xs a z) in subst P (sym e) (tree_straight xs t a m))

pub next_root : (xs : List ℕ) (t : IsTree xs) (a n : ℕ) → root_of xs a ≢ a → n ≡ root_of xs a → root_in xs a ≡ root_in xs n
next_root xs t a n m e = root_goes xs t a m ∙ ap (root_in xs) (sym e)

-- a root of the list stays in the tree
of_list : (xs : List ℕ) (t : IsTree xs) (p : ℕ) → root_of (roots xs) p ≡ p → root_of xs p ≡ p
of_list xs t p e =
    let P : ℕ → Type 0 = λ z. root_of xs z ≡ z in
    subst P (sym (roots_at xs p) ∙ e) (root_stays xs t (t.depth p) p (omega arith))

pub put_tree : (xs rs : List ℕ) (t : IsTree xs) (a v : ℕ) → roots xs ≡ rs → root_of rs a ≡ a → root_of rs v ≡ v → a ≢ v → a < length rs → v < length rs → IsTree (slice_set xs a v)
put_tree xs rs t a v is ea ev n w x =
    let P : List ℕ → ℕ → Type 0 = λ zs z. root_of zs z ≡ z in
    let l = roots_length xs in
    let q = ap length is in
    tree_put xs t a v (omega arith) (omega arith) (of_list xs t a (subst (λ zs. P zs a) (sym is) ea)) (of_list xs t v (subst (λ zs. P zs v) (sym is) ev)) n

pub put_each : (xs rs : List ℕ) (t : IsTree xs) (a v : ℕ) → roots xs ≡ rs → root_of rs a ≡ a → root_of rs v ≡ v → a ≢ v → a < length rs → v < length rs → (p : ℕ) →
    root_of (roots (slice_set xs a v)) p ≡ relabelled a v (root_of rs p)
put_each xs rs t a v is ea ev n w x p =
    let P : List ℕ → ℕ → Type 0 = λ zs z. root_of zs z ≡ z in
    let l = roots_length xs in
    let q = ap length is in
    roots_at (slice_set xs a v) p
    ∙ root_put xs t a v (omega arith) (omega arith) (of_list xs t a (subst (λ zs. P zs a) (sym is) ea)) (of_list xs t v (subst (λ zs. P zs v) (sym is) ev)) n p
    ∙ ap (relabelled a v) (sym (roots_at xs p) ∙ ap (λ zs. root_of zs p) is)

pub put_length : (xs rs : List ℕ) (a v : ℕ) → roots xs ≡ rs → length (roots (slice_set xs a v)) ≡ length rs
put_length xs rs a v is = roots_length (slice_set xs a v) ∙ set_length xs a v ∙ sym (roots_length xs) ∙ ap length is

-- where nothing yields

pub tree_own : (xs : List ℕ) → ((p : ℕ) → root_of xs p ≡ p) → IsTree xs
tree_own xs h = record {
  depth = λ p. 0;
  within = λ p l. (let Q : ℕ → Type 0 = λ z. z < length xs in subst Q (sym (h p)) l);
  falls = λ p n. absurd (n (h p));
  last = λ p e. refl;
  few = λ p. (let m = staying_most xs (length xs) in omega (arith, m));
}

pub roots_own : (xs : List ℕ) → ((p : ℕ) → root_of xs p ≡ p) → (p : ℕ) → root_of (roots xs) p ≡ p
roots_own xs h p = roots_at xs p ∙ follow_stays (length xs) xs p (h p)

pub own_push : (xs : List ℕ) (n : ℕ) → length xs ≡ n → ((p : ℕ) → root_of xs p ≡ p) → (p : ℕ) → root_of (xs ++ n ∷ []) p ≡ p
own_push xs n l h p = push_at xs n p p ∙ go (cases_eq p (length xs))
  where
    go : (p ≡ length xs) ⊎ (p ≢ length xs) → (if p == length xs then n else root_of xs p) ≡ p
    go (inl e) = rw (eq-eqb p (length xs) e) (sym l ∙ sym e)
    go (inr m) = rw (ne_eqb p (length xs) m) (h p)
