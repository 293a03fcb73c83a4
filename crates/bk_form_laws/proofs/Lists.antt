-- Lists with one element set and others appended: members, places and sums.
use Rattle.std.proofs.Common.{◌≡◌, ℕ, zero, suc, ◌+◌, ◌<◌, ◌≤◌, ◌==◌, refl, ap, sym, subst, ◌∙◌, arith, ◌⊎◌, inl, inr, List, [], ◌∷◌, ◌++◌, length, Some, None, Bool, true, false, cond, eq-eqb}
use Rattle.std.specs.Prelude.{slice_get, slice_set, sum_by, count_by}
use Rattle.std.proofs.lemmas.Bool.Decides.{nat_tests}
use Rattle.std.proofs.lemmas.List.Sums.{sum_by-cons}
use Rattle.bk_func.specs.Records.{ValueRecord, BlockRecord}
use Rattle.bk_func.proofs.Faults.{In}
use Rattle.bk_mean.proofs.Named.{Once, got_in}

-- ---- sums
part_of_sum : {A : Type 0} (g : A → ℕ) (x : A) (xs : List A) → In x xs → g x ≤ sum_by g xs
part_of_sum g x [] i = elim i [ ]
part_of_sum g x (y ∷ ys) (inl e) = let s = sum_by-cons g y ys in let d = ap g e in omega (arith, s, d)
part_of_sum g x (y ∷ ys) (inr i) = let s = sum_by-cons g y ys in let d = part_of_sum g x ys i in omega (arith, s, d)

counts : (n m : ℕ) → n ≡ m → 0 < cond (n == m) 1 0
counts n m e = rw (eq-eqb n m e) (omega arith)

-- ---- places
pub set_here : {X : Type 0} (xs : List X) (i : ℕ) (x y : X) → slice_get xs i ≡ Some x → slice_get (slice_set xs i y) i ≡ Some y
set_here [] i x y e = absurd (let q : None ≡ Some x = e in cc)
set_here (z ∷ xs) zero x y e = refl
set_here (z ∷ xs) (suc i) x y e = set_here xs i x y e

pub set_other : {X : Type 0} (xs : List X) (i j : ℕ) (y : X) → ¬ (i ≡ j) → slice_get (slice_set xs i y) j ≡ slice_get xs j
set_other [] i j y n = refl
set_other (z ∷ xs) zero zero y n = absurd (n refl)
set_other (z ∷ xs) zero (suc j) y n = refl
set_other (z ∷ xs) (suc i) zero y n = refl
set_other (z ∷ xs) (suc i) (suc j) y n = set_other xs i j y (λ e. n (ap suc e))

pub set_front : {X : Type 0} (xs ys : List X) (i : ℕ) (x y : X) → slice_get xs i ≡ Some x → slice_set (xs ++ ys) i y ≡ slice_set xs i y ++ ys
set_front [] ys i x y e = absurd (let q : None ≡ Some x = e in cc)
set_front (z ∷ xs) ys zero x y e = refl
set_front (z ∷ xs) ys (suc i) x y e = ap (λ zs. z ∷ zs) (set_front xs ys i x y e)

pub front : {X : Type 0} (xs ys : List X) (i : ℕ) (x : X) → slice_get xs i ≡ Some x → slice_get (xs ++ ys) i ≡ Some x
front [] ys i x e = absurd (let q : None ≡ Some x = e in cc)
front (z ∷ xs) ys zero x e = e
front (z ∷ xs) ys (suc i) x e = front xs ys i x e

pub got_below : {X : Type 0} (xs : List X) (i : ℕ) (x : X) → slice_get xs i ≡ Some x → i < length xs
got_below [] i x e = absurd (let q : None ≡ Some x = e in cc)
got_below (z ∷ xs) zero x e = omega arith
got_below (z ∷ xs) (suc i) x e = omega (arith, got_below xs i x e)

-- ---- members
pub set_member : {X : Type 0} (xs : List X) (i : ℕ) (x y z : X) → slice_get xs i ≡ Some x → In z xs → (x ≡ z) ⊎ In z (slice_set xs i y)
set_member [] i x y z e j = elim j [ ]
set_member {X} (a ∷ xs) zero x y z e (inl d) = inl (let q : a ≡ x = cc in sym q ∙ d)
set_member (a ∷ xs) zero x y z e (inr j) = inr (inr j)
set_member (a ∷ xs) (suc i) x y z e (inl d) = inr (inl d)
set_member {X} (a ∷ xs) (suc i) x y z e (inr j) = go (set_member xs i x y z e j)
  where
    go : (x ≡ z) ⊎ In z (slice_set xs i y) → (x ≡ z) ⊎ In z (a ∷ slice_set xs i y)
    go (inl d) = inl d
    go (inr d) = inr (inr d)

pub member_set : {X : Type 0} (xs : List X) (i : ℕ) (x y z : X) → slice_get xs i ≡ Some x → In z (slice_set xs i y) → (y ≡ z) ⊎ In z xs
member_set [] i x y z e j = elim j [ ]
member_set (a ∷ xs) zero x y z e (inl d) = inl d
member_set (a ∷ xs) zero x y z e (inr j) = inr (inr j)
member_set (a ∷ xs) (suc i) x y z e (inl d) = inr (inl d)
member_set {X} (a ∷ xs) (suc i) x y z e (inr j) = go (member_set xs i x y z e j)
  where
    go : (y ≡ z) ⊎ In z xs → (y ≡ z) ⊎ In z (a ∷ xs)
    go (inl d) = inl d
    go (inr d) = inr (inr d)

-- the value that was set has gone, where no value stands twice
pub member_apart : (xs : List ValueRecord) (i : ℕ) (x y z : ValueRecord) → Once xs → slice_get xs i ≡ Some x → In z (slice_set xs i y) → (y ≡ z) ⊎ (In z xs × ¬ (x ≡ z))
member_apart [] i x y z o e j = elim j [ ]
member_apart (a ∷ xs) zero x y z o e (inl d) = inl d
member_apart (a ∷ xs) zero x y z o e (inr j) = inr (inr j, λ q. (let r : a ≡ x = cc in o.0 (let P : ValueRecord → Type 0 = λ u. In u xs in subst P (sym (r ∙ q)) j)))
member_apart (a ∷ xs) (suc i) x y z o e (inl d) = inr (inl d, λ q. o.0 (let P : ValueRecord → Type 0 = λ u. In u xs in subst P (q ∙ sym d) (got_in xs i x e)))
member_apart (a ∷ xs) (suc i) x y z o e (inr j) = go (member_apart xs i x y z o.1 e j)
  where
    go : (y ≡ z) ⊎ (In z xs × ¬ (x ≡ z)) → (y ≡ z) ⊎ (In z (a ∷ xs) × ¬ (x ≡ z))
    go (inl d) = inl d
    go (inr d) = inr (inr d.0, d.1)

-- ---- sums
pub sum_set : {X : Type 0} (h : X → ℕ) (xs : List X) (i : ℕ) (x y : X) → slice_get xs i ≡ Some x → sum_by h (slice_set xs i y) + h x ≡ sum_by h xs + h y
sum_set h [] i x y e = absurd (let q : None ≡ Some x = e in cc)
sum_set h (z ∷ xs) zero x y e =
    let q : z ≡ x = cc in
    let r = ap h q in
    let s = sum_by-cons h z xs in
    let t = sum_by-cons h y xs in
    omega (arith, r, s, t)
sum_set h (z ∷ xs) (suc i) x y e =
    let r = sum_set h xs i x y e in
    let s = sum_by-cons h z xs in
    let t = sum_by-cons h z (slice_set xs i y) in
    omega (arith, r, s, t)

pub sum_zero : {X : Type 0} (h : X → ℕ) (xs : List X) → ((x : X) → In x xs → h x ≡ 0) → sum_by h xs ≡ 0
sum_zero h [] k = refl
sum_zero h (x ∷ xs) k =
    let r = sum_zero h xs (λ y j. k y (inr j)) in
    let s = sum_by-cons h x xs in
    let q = k x (inl refl) in
    omega (arith, r, s, q)

-- no value of the list bears the number
pub none_counted : (vs : List ValueRecord) (n : ℕ) → ((u : ValueRecord) → In u vs → ¬ (u.id ≡ n)) → count_by (λ u. u.id == n) vs ≡ 0
none_counted vs n h = sum_zero (λ (u : ValueRecord). cond (u.id == n) 1 0) vs (λ u j. none u (h u j))
  where
    none : (u : ValueRecord) → ¬ (u.id ≡ n) → ◌≡◌ {A = ℕ} (cond (u.id == n) 1 0) 0
    none u k = go (u.id == n) refl
      where
        go : (t : Bool) → (u.id == n) ≡ t → ◌≡◌ {A = ℕ} (cond t 1 0) 0
        go true e = absurd (k (grind (arith, nat_tests, e)))
        go false e = refl

-- where one block alone bears the number, it stands at one place
pub one_place : (bs : List BlockRecord) (n i j : ℕ) (c d : BlockRecord) → count_by (λ b. b.id == n) bs ≤ 1 → slice_get bs i ≡ Some c → slice_get bs j ≡ Some d → c.id ≡ n → d.id ≡ n → i ≡ j
one_place [] n i j c d l p q e h = absurd (let z : None ≡ Some c = p in cc)
one_place (b ∷ bs) n zero zero c d l p q e h = refl
one_place (b ∷ bs) n zero (suc j) c d l p q e h =
    let s = sum_by-cons (λ (x : BlockRecord). cond (x.id == n) 1 0) b bs in
    let t = part_of_sum (λ (x : BlockRecord). cond (x.id == n) 1 0) d bs (got_in bs j d q) in
    let w : b ≡ c = cc in
    let u = counts b.id n (ap (λ (x : BlockRecord). x.id) w ∙ e) in
    let k = counts d.id n h in
    absurd (omega (arith, s, t, u, k, l))
one_place (b ∷ bs) n (suc i) zero c d l p q e h =
    let s = sum_by-cons (λ (x : BlockRecord). cond (x.id == n) 1 0) b bs in
    let t = part_of_sum (λ (x : BlockRecord). cond (x.id == n) 1 0) c bs (got_in bs i c p) in
    let w : b ≡ d = cc in
    let u = counts b.id n (ap (λ (x : BlockRecord). x.id) w ∙ h) in
    let k = counts c.id n e in
    absurd (omega (arith, s, t, u, k, l))
one_place (b ∷ bs) n (suc i) (suc j) c d l p q e h =
    let s = sum_by-cons (λ (x : BlockRecord). cond (x.id == n) 1 0) b bs in
    ap suc (one_place bs n i j c d (omega (arith, s, l)) p q e h)
