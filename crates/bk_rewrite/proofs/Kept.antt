-- What an edit of one block keeps of a function: the numbers of its values, the greatest of them, and how many there are.
use Rattle.std.proofs.Common.{◌≡◌, ℕ, zero, suc, ◌+◌, ◌≤◌, max, refl, ap, sym, subst, ◌∙◌, arith, List, [], ◌∷◌, ◌++◌, length, length-append, get_or, Option, Some, None, inl, inr, ◌⊎◌}
use Rattle.std.specs.Prelude.{slice_get, slice_set, fold, sum_by}
use Rattle.std.proofs.lemmas.Option.{slice_get_within, get_or_from_slice_get}
use Rattle.std.proofs.lemmas.List.{length-set}
use Rattle.std.proofs.lemmas.List.Sums.{sum_by-set, fold-append}
use Rattle.bk_func.specs.Records.{ValueRecord, BlockRecord, FuncRecord}
use Rattle.bk_func.specs.Edits.{greatest_value}
use Rattle.bk_rule.specs.declared.trees.Build.{Build, Row_of-Build, end_of-Build, more_of-Build}
use Rattle.bk_rule.specs.declared.trees.Build as build
use Rattle.bk_rewrite.specs.Places.{value_in, in_block, in_place, with_block, with_made, count_values, StandsIn, HasNumbers}
use Rattle.bk_rewrite.specs.Making.{Source, node_made, result_type, values_made, row_made, row_names, inner_made}

-- ---- the greatest number
abbrev pub most : ℕ → List ValueRecord → ℕ
most a vs = fold (λ g v. max g v.id) a vs

abbrev pub all_most : ℕ → List BlockRecord → ℕ
all_most a bs = fold (λ g b. fold (λ g v. max g v.id) g b.values) a bs

most_from : (a : ℕ) (vs : List ValueRecord) → most a vs ≡ max a (most 0 vs)
most_from a [] = omega arith
most_from a (v ∷ vs) = (let h = most_from (max a v.id) vs in let k = most_from (max 0 v.id) vs in omega (arith, h, k))

all_from : (a : ℕ) (bs : List BlockRecord) → all_most a bs ≡ max a (all_most 0 bs)
all_from a [] = omega arith
all_from a (b ∷ bs) =
    let h = all_from (most a b.values) bs in
    let k = all_from (most 0 b.values) bs in
    let m = most_from a b.values in
    omega (arith, h, k, m)

most_holds : (vs : List ValueRecord) (p : ℕ) (v : ValueRecord) → slice_get vs p ≡ Some v → v.id ≤ most 0 vs
most_holds [] p v e = absurd (let q : None ≡ Some v = e in cc)
most_holds (x ∷ vs) zero v e =
    let q : x.id ≡ v.id = (let z : x ≡ v = (let y : Some x ≡ Some v = e in cc) in ap (λ (w : ValueRecord). w.id) z) in
    let h = most_from (max 0 x.id) vs in
    omega (arith, q, h)
most_holds (x ∷ vs) (suc p) v e = (let h = most_from (max 0 x.id) vs in let k = most_holds vs p v e in omega (arith, h, k))

all_holds : (bs : List BlockRecord) (b : ℕ) (x : BlockRecord) → slice_get bs b ≡ Some x → most 0 x.values ≤ all_most 0 bs
all_holds [] b x e = absurd (let q : None ≡ Some x = e in cc)
all_holds (y ∷ bs) zero x e =
    let q : most 0 y.values ≡ most 0 x.values = (let z : y ≡ x = (let s : Some y ≡ Some x = e in cc) in ap (λ (w : BlockRecord). most 0 w.values) z) in
    let h = all_from (most 0 y.values) bs in
    omega (arith, q, h)
all_holds (y ∷ bs) (suc b) x e = (let h = all_from (most 0 y.values) bs in let k = all_holds bs b x e in omega (arith, h, k))

most_same : (a : ℕ) (vs : List ValueRecord) (p : ℕ) (v w : ValueRecord) → slice_get vs p ≡ Some v → w.id ≡ v.id → most a (slice_set vs p w) ≡ most a vs
most_same a [] p v w e h = refl
most_same a (x ∷ vs) zero v w e h =
    let q : w.id ≡ x.id = h ∙ (let z : v ≡ x = (let y : Some v ≡ Some x = sym e in cc) in ap (λ (u : ValueRecord). u.id) z) in
    ap (λ n. most (max a n) vs) q
most_same a (x ∷ vs) (suc p) v w e h = most_same (max a x.id) vs p v w e h

all_set : (bs : List BlockRecord) (b : ℕ) (x y : BlockRecord) → slice_get bs b ≡ Some x → most 0 x.values ≤ most 0 y.values →
    all_most 0 (slice_set bs b y) ≡ max (all_most 0 bs) (most 0 y.values)
all_set [] b x y e l = absurd (let q : None ≡ Some x = e in cc)
all_set (z ∷ bs) zero x y e l =
    let q : most 0 z.values ≡ most 0 x.values = (let w : z ≡ x = (let s : Some z ≡ Some x = e in cc) in ap (λ (u : BlockRecord). most 0 u.values) w) in
    let h = all_from (most 0 y.values) bs in
    let k = all_from (most 0 z.values) bs in
    omega (arith, q, h, k, l)
all_set (z ∷ bs) (suc b) x y e l =
    let h = all_from (most 0 z.values) bs in
    let k = all_from (most 0 z.values) (slice_set bs b y) in
    let r = all_set bs b x y e l in
    omega (arith, h, k, r)

-- ---- numbers that follow each other
abbrev pub NumberedFrom : ℕ → List ValueRecord → Type 0
NumberedFrom n vs = (k : ℕ) (v : ValueRecord) → slice_get vs k ≡ Some v → v.id ≡ n + k

most_numbered : (a : ℕ) (vs : List ValueRecord) → NumberedFrom (a + 1) vs → most a vs ≡ a + length vs
most_numbered a [] h = omega arith
most_numbered a (v ∷ vs) h =
    let q : v.id ≡ a + 1 + 0 = h 0 v refl in
    let m : max a v.id ≡ a + 1 = omega (arith, q) in
    let r = most_numbered (a + 1) vs (λ k w e. (let i = h (suc k) w e in omega (arith, i))) in
    let s : most (max a v.id) vs ≡ most (a + 1) vs = ap (λ n. most n vs) m in
    omega (arith, r, s)

-- ---- one element set, and others appended
kept_front : {X : Type 0} (xs ys : List X) (i : ℕ) (x : X) → slice_get xs i ≡ Some x → slice_get (xs ++ ys) i ≡ Some x
kept_front [] ys i x e = absurd (let q : None ≡ Some x = e in cc)
kept_front (z ∷ xs) ys zero x e = e
kept_front (z ∷ xs) ys (suc i) x e = kept_front xs ys i x e

set_cases : {X : Type 0} (xs : List X) (i : ℕ) (y : X) (j : ℕ) (w : X) → slice_get (slice_set xs i y) j ≡ Some w → ((slice_get xs j ≡ Some w) × (j ≡ i → ⊥)) ⊎ ((j ≡ i) × (y ≡ w))
set_cases [] i y j w e = absurd (let q : None ≡ Some w = e in cc)
set_cases (x ∷ xs) zero y zero w e = inr (refl, (let q : Some y ≡ Some w = e in cc))
set_cases (x ∷ xs) zero y (suc j) w e = inl (e, λ q. omega (arith, q))
set_cases (x ∷ xs) (suc i) y zero w e = inl (e, λ q. omega (arith, q))
set_cases (x ∷ xs) (suc i) y (suc j) w e = elim (set_cases xs i y j w e) [
  | inl m ↦ inl (m.0, λ q. m.1 (omega (arith, q)))
  | inr m ↦ inr (omega (arith, m.0), m.1)
]

append_cases : {X : Type 0} (xs ys : List X) (j : ℕ) (w : X) → slice_get (xs ++ ys) j ≡ Some w → (slice_get xs j ≡ Some w) ⊎ ((k : ℕ) × (j ≡ length xs + k) × (slice_get ys k ≡ Some w))
append_cases [] ys j w e = inr (j, omega arith, e)
append_cases (x ∷ xs) ys zero w e = inl e
append_cases (x ∷ xs) ys (suc j) w e = elim (append_cases xs ys j w e) [
  | inl m ↦ inl m
  | inr m ↦ (let (k, q, r) = m in inr (k, omega (arith, q), r))
]

-- ---- an edit: a value with the same number is put at a place of a block, and others last in the block
-- the block x at the place b has the value v at the place p; `made` comes last, and `root` for v
pub record Edit (f : FuncRecord) (b p : ℕ) (x : BlockRecord) (v root : ValueRecord) (made : List ValueRecord) : Type 0 where
  pub block : slice_get f.blocks b ≡ Some x
  pub value : slice_get x.values p ≡ Some v
  pub same : root.id ≡ v.id
  pub numbered : NumberedFrom (greatest_value f + 1) made

abbrev pub edited : FuncRecord → ℕ → ℕ → ValueRecord → List ValueRecord → FuncRecord
edited f b p root made = with_block f b (with_made p root made)

edited_blocks : (f : FuncRecord) (b p : ℕ) (x : BlockRecord) (root : ValueRecord) (made : List ValueRecord) → slice_get f.blocks b ≡ Some x →
    (edited f b p root made).blocks ≡ slice_set f.blocks b (with_made p root made x)
edited_blocks f b p x root made e = ap (λ o. in_place f.blocks b o (with_made p root made)) e

pub edited_greatest : (f : FuncRecord) (b p : ℕ) (x : BlockRecord) (v root : ValueRecord) (made : List ValueRecord) → Edit f b p x v root made →
    greatest_value (edited f b p root made) ≡ greatest_value f + length made
edited_greatest f b p x v root made d =
    let y : BlockRecord = with_made p root made x in
    let s : most 0 (slice_set (x.values ++ made) p root) ≡ most 0 (x.values ++ made) = most_same 0 (x.values ++ made) p v root (kept_front x.values made p v d.value) d.same in
    let t : most 0 (x.values ++ made) ≡ most (most 0 x.values) made = fold-append (λ (g : ℕ) (w : ValueRecord). max g w.id) 0 x.values made in
    let m1 = most_from (most 0 x.values) made in
    let m2 = most_from (greatest_value f) made in
    let m3 = most_numbered (greatest_value f) made d.numbered in
    let l : most 0 x.values ≤ greatest_value f = all_holds f.blocks b x d.block in
    let r = all_set f.blocks b x y d.block (omega (arith, s, t, m1)) in
    let g : greatest_value (edited f b p root made) ≡ all_most 0 (slice_set f.blocks b y) = ap (λ bs. all_most 0 bs) (edited_blocks f b p x root made d.block) in
    omega (arith, s, t, m1, m2, m3, l, r, g)

pub edited_count : (f : FuncRecord) (b p : ℕ) (x : BlockRecord) (v root : ValueRecord) (made : List ValueRecord) → Edit f b p x v root made →
    count_values (edited f b p root made) ≡ count_values f + length made
edited_count f b p x v root made d =
    let y : BlockRecord = with_made p root made x in
    let s = sum_by-set (λ (z : BlockRecord). length z.values) f.blocks b y x (slice_get_within f.blocks b x d.block) in
    let q : length (get_or f.blocks b x).values ≡ length x.values = ap (λ (z : BlockRecord). length z.values) (get_or_from_slice_get f.blocks b x x d.block) in
    let l : length (slice_set (x.values ++ made) p root) ≡ length x.values + length made = length-set (x.values ++ made) p root ∙ length-append x.values made in
    let g : count_values (edited f b p root made) ≡ sum_by (λ z. length z.values) (slice_set f.blocks b y) = ap (λ bs. sum_by (λ z. length z.values) bs) (edited_blocks f b p x root made d.block) in
    omega (arith, s, q, l, g)

-- where a value of the edited function is from
abbrev Origin : FuncRecord → ℕ → BlockRecord → ℕ → ℕ → ℕ → Type 0
Origin f b x id c q = StandsIn f.blocks id c q ⊎ ((k : ℕ) × (c ≡ b) × (q ≡ length x.values + k) × (id ≡ greatest_value f + 1 + k))

in_other : (f : FuncRecord) (c q : ℕ) (z : BlockRecord) (w : ValueRecord) → slice_get f.blocks c ≡ Some z → slice_get z.values q ≡ Some w → value_in f.blocks c q ≡ Some w
in_other f c q z w e h = ap (λ o. in_block o q) e ∙ h

block_of : (bs : List BlockRecord) (c q : ℕ) (w : ValueRecord) → value_in bs c q ≡ Some w → (z : BlockRecord) × (slice_get bs c ≡ Some z) × (slice_get z.values q ≡ Some w)
block_of bs c q w h = go (slice_get bs c) refl h
  where
    go : (o : Option BlockRecord) → slice_get bs c ≡ o → in_block o q ≡ Some w → (z : BlockRecord) × (slice_get bs c ≡ Some z) × (slice_get z.values q ≡ Some w)
    go None e k = absurd (let y : None ≡ Some w = k in cc)
    go (Some z) e k = (z, e, k)

origin : (f : FuncRecord) (b p : ℕ) (x : BlockRecord) (v root : ValueRecord) (made : List ValueRecord) → Edit f b p x v root made →
    (id c q : ℕ) → StandsIn (slice_set f.blocks b (with_made p root made x)) id c q → Origin f b x id c q
origin f b p x v root made d id c q (w, e, h) =
    let (z, m, n) = block_of (slice_set f.blocks b (with_made p root made x)) c q w e in
    elim (set_cases f.blocks b (with_made p root made x) c z m) [
      | inl s ↦ inl (w, in_other f c q z w s.0 n, h)
      | inr s ↦ (let n2 : slice_get (slice_set (x.values ++ made) p root) q ≡ Some w = ap (λ (u : BlockRecord). slice_get u.values q) s.1 ∙ n in
          elim (set_cases (x.values ++ made) p root q w n2) [
            | inl t ↦ elim (append_cases x.values made q w t.0) [
              | inl r ↦ inl (w, in_other f c q x w (ap (slice_get f.blocks) s.0 ∙ d.block) r, h)
              | inr r ↦ (let (k, i, j) = r in inr (k, s.0, i, sym h ∙ d.numbered k w j))
            ]
            | inr t ↦ inl (v, in_other f c q x v (ap (slice_get f.blocks) s.0 ∙ d.block) (ap (slice_get x.values) t.0 ∙ d.value), sym d.same ∙ (ap (λ (u : ValueRecord). u.id) t.1 ∙ h))
          ])
    ]

within : (f : FuncRecord) (id c q : ℕ) → StandsIn f.blocks id c q → id ≤ greatest_value f
within f id c q (w, e, h) =
    let (z, m, n) = block_of f.blocks c q w e in
    let i = most_holds z.values q w n in
    let j = all_holds f.blocks c z m in
    omega (arith, i, j, h)

pub edited_numbers : (f : FuncRecord) (b p : ℕ) (x : BlockRecord) (v root : ValueRecord) (made : List ValueRecord) → Edit f b p x v root made →
    HasNumbers f → HasNumbers (edited f b p root made)
edited_numbers f b p x v root made d u = λ id c q e r s t.
    let s0 : StandsIn (slice_set f.blocks b (with_made p root made x)) id c q = subst (λ (bs : List BlockRecord). StandsIn bs id c q) (edited_blocks f b p x root made d.block) s in
    let t0 : StandsIn (slice_set f.blocks b (with_made p root made x)) id e r = subst (λ (bs : List BlockRecord). StandsIn bs id e r) (edited_blocks f b p x root made d.block) t in
    go id c q e r (origin f b p x v root made d id c q s0) (origin f b p x v root made d id e r t0)
  where
    go : (id c q e r : ℕ) → Origin f b x id c q → Origin f b x id e r → (c ≡ e) × (q ≡ r)
    go id c q e r (inl s) (inl t) = u id c q e r s t
    go id c q e r (inl s) (inr t) = (let (k, i, j, n) = t in let l = within f id c q s in absurd (omega (arith, n, l)))
    go id c q e r (inr s) (inl t) = (let (k, i, j, n) = s in let l = within f id e r t in absurd (omega (arith, n, l)))
    go id c q e r (inr s) (inr t) = (let (k, i, j, n) = s in let (k2, i2, j2, n2) = t in (i ∙ sym i2, omega (arith, j, j2, n, n2)))

-- ---- the values that a tree makes follow each other
pub numbered_none : (n : ℕ) → NumberedFrom n []
numbered_none n k v e = absurd (let q : None ≡ Some v = e in cc)

numbered_one : (n : ℕ) (w : ValueRecord) → w.id ≡ n → NumberedFrom n (w ∷ [])
numbered_one n w h zero v e = (let q : w.id ≡ v.id = (let z : w ≡ v = (let y : Some w ≡ Some v = e in cc) in ap (λ (u : ValueRecord). u.id) z) in omega (arith, q, h))
numbered_one n w h (suc k) v e = absurd (let q : None ≡ Some v = e in cc)

numbered_both : (n : ℕ) (xs ys : List ValueRecord) → NumberedFrom n xs → NumberedFrom (n + length xs) ys → NumberedFrom n (xs ++ ys)
numbered_both n xs ys h k i v e = elim (append_cases xs ys i v e) [
  | inl m ↦ h i v m
  | inr m ↦ (let (j, q, r) = m in let s = k j v r in omega (arith, q, s))
]

mutual
  numbered_tree : (s : Source) (b : Build) (n : ℕ) → NumberedFrom n (values_made s b n)
  numbered_tree s (build.Var i) n = numbered_none n
  numbered_tree s (build.Node' o t x a shape args) n =
      numbered_both n (row_made s args n) (node_made s (n + length (row_made s args n)) (result_type o) o t x a (row_names s args n) ∷ []) (numbered_row s args n)
      (numbered_one (n + length (row_made s args n)) (node_made s (n + length (row_made s args n)) (result_type o) o t x a (row_names s args n)) refl)

  numbered_row : (s : Source) {m : _} (bs : Row_of-Build m) (n : ℕ) → NumberedFrom n (row_made s bs n)
  numbered_row s end_of-Build n = numbered_none n
  numbered_row s (more_of-Build b bs) n = numbered_both n (values_made s b n) (row_made s bs (n + length (values_made s b n))) (numbered_tree s b n) (numbered_row s bs (n + length (values_made s b n)))

pub numbered_inner : (s : Source) (b : Build) (n : ℕ) → NumberedFrom n (inner_made s b n)
numbered_inner s (build.Var i) n = numbered_none n
numbered_inner s (build.Node' o t x a shape args) n = numbered_row s args n
