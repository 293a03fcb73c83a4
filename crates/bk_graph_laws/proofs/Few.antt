-- The values of a function in form are no more than there are numbers.
use Rattle.std.proofs.Common.{◌≡◌, ℕ, zero, suc, ◌+◌, ◌<◌, ◌≤◌, ◌==◌, max, cond, refl, ap, ◌∙◌, arith, inl, inr, List, [], ◌∷◌, ◌++◌, length, map, fold, Bool, true, false, eq-eqb}
use Rattle.std.specs.Prelude.{sum_by, count_by}
use Rattle.std.proofs.lemmas.List.Sums.{sum_by-cons, sum_by-append}
use Rattle.bk_func.specs.Records.{ValueRecord, BlockRecord, FuncRecord}
use Rattle.bk_func.specs.Edits.{greatest_value}
use Rattle.bk_func.proofs.Faults.{In}
use Rattle.bk_graph.specs.Nodes.{NodeRecord, node_at, nodes_from, value_ids}

-- ---- numbers that each stand once
abbrev hit : ℕ → ℕ → ℕ
hit n x = cond (x == n) 1 0

abbrev without : ℕ → List ℕ → List ℕ
without n [] = []
without n (x ∷ xs) = cond (x == n) (without n xs) (x ∷ without n xs)

without_length : (n : ℕ) (xs : List ℕ) → length xs ≡ length (without n xs) + count_by (λ x. x == n) xs
without_length n [] = refl
without_length n (x ∷ xs) = go (x == n) refl (sum_by-cons (hit n) x xs) (without_length n xs)
  where
    go : (t : Bool) → (x == n) ≡ t → count_by (λ y. y == n) (x ∷ xs) ≡ hit n x + count_by (λ y. y == n) xs → length xs ≡ length (without n xs) + count_by (λ y. y == n) xs →
        suc (length xs) ≡ length (cond (x == n) (without n xs) (x ∷ without n xs)) + count_by (λ y. y == n) (x ∷ xs)
    go true e s h =
        let d : hit n x ≡ 1 = rw e refl in
        let a : length (cond (x == n) (without n xs) (x ∷ without n xs)) ≡ length (without n xs) = rw e refl in
        omega (arith, s, h, d, a)
    go false e s h =
        let d : hit n x ≡ 0 = rw e refl in
        let a : length (cond (x == n) (without n xs) (x ∷ without n xs)) ≡ suc (length (without n xs)) = rw e refl in
        omega (arith, s, h, d, a)

without_count : (n m : ℕ) (xs : List ℕ) → count_by (λ x. x == m) (without n xs) ≤ count_by (λ x. x == m) xs
without_count n m [] = omega arith
without_count n m (x ∷ xs) = go (x == n) refl (sum_by-cons (hit m) x xs) (without_count n m xs) (sum_by-cons (hit m) x (without n xs))
  where
    go : (t : Bool) → (x == n) ≡ t → count_by (λ y. y == m) (x ∷ xs) ≡ hit m x + count_by (λ y. y == m) xs → count_by (λ y. y == m) (without n xs) ≤ count_by (λ y. y == m) xs →
        count_by (λ y. y == m) (x ∷ without n xs) ≡ hit m x + count_by (λ y. y == m) (without n xs) →
        count_by (λ y. y == m) (cond (x == n) (without n xs) (x ∷ without n xs)) ≤ count_by (λ y. y == m) (x ∷ xs)
    go true e s h u = (let a : count_by (λ y. y == m) (cond (x == n) (without n xs) (x ∷ without n xs)) ≡ count_by (λ y. y == m) (without n xs) = rw e refl in omega (arith, s, h, a))
    go false e s h u = (let a : count_by (λ y. y == m) (cond (x == n) (without n xs) (x ∷ without n xs)) ≡ count_by (λ y. y == m) (x ∷ without n xs) = rw e refl in omega (arith, s, h, a, u))

without_in : (n m : ℕ) (xs : List ℕ) → In m (without n xs) → In m xs × (m ≡ n → ⊥)
without_in n m [] i = elim i [ ]
without_in n m (x ∷ xs) i = go (x == n) refl i (without_in n m xs)
  where
    go : (t : Bool) → (x == n) ≡ t → In m (cond t (without n xs) (x ∷ without n xs)) → (In m (without n xs) → In m xs × (m ≡ n → ⊥)) → In m (x ∷ xs) × (m ≡ n → ⊥)
    go true e j next = (let r = next j in (inr r.0, r.1))
    go false e (inl d) next = (inl d, λ q. let z = eq-eqb x n (d ∙ q) in absurd cc)
    go false e (inr j) next = (let r = next j in (inr r.0, r.1))

pub few_below : (n : ℕ) (xs : List ℕ) → ((m : ℕ) → count_by (λ x. x == m) xs ≤ 1) → ((m : ℕ) → In m xs → m < n) → length xs ≤ n
few_below zero [] once below = omega arith
few_below zero (x ∷ xs) once below = (let l = below x (inl refl) in absurd (omega (arith, l)))
few_below (suc n) xs once below =
    let r = few_below n (without n xs) (λ m. (let a = once m in let b = without_count n m xs in omega (arith, a, b)))
    (λ m i. let q = without_in n m xs i in let l = below m q.0 in let d = q.1 in omega (arith, l, d)) in
    let s = without_length n xs in
    let o = once n in
    omega (arith, r, s, o)

-- ---- the numbers of a function's values
count_map : (i n : ℕ) (vs : List ValueRecord) → count_by (λ x. x == n) (value_ids (map (node_at i) vs)) ≡ count_by (λ v. v.id == n) vs
count_map i n [] = refl
count_map i n (v ∷ vs) =
    let s = sum_by-cons (hit n) v.id (value_ids (map (node_at i) vs)) in
    let t = sum_by-cons (λ (u : ValueRecord). cond (u.id == n) 1 0) v vs in
    let r = count_map i n vs in
    omega (arith, s, t, r)

ids_append : (xs ys : List NodeRecord) → value_ids (xs ++ ys) ≡ value_ids xs ++ value_ids ys
ids_append [] ys = refl
ids_append (x ∷ xs) ys = ap (λ zs. x.value.id ∷ zs) (ids_append xs ys)

pub count_nodes : (i n : ℕ) (bs : List BlockRecord) → count_by (λ x. x == n) (value_ids (nodes_from i bs)) ≡ sum_by (λ b. count_by (λ v. v.id == n) b.values) bs
unfolding nodes_from
count_nodes i n [] = refl
count_nodes i n (b ∷ bs) =
    let a : count_by (λ x. x == n) (value_ids (map (node_at i) b.values ++ nodes_from (i + 1) bs)) ≡ count_by (λ x. x == n) (value_ids (map (node_at i) b.values) ++ value_ids (nodes_from (i + 1) bs)) =
    ap (count_by (λ x. x == n)) (ids_append (map (node_at i) b.values) (nodes_from (i + 1) bs)) in
    let s = sum_by-append (hit n) (value_ids (map (node_at i) b.values)) (value_ids (nodes_from (i + 1) bs)) in
    let m = count_map i n b.values in
    let r = count_nodes (i + 1) n bs in
    let t = sum_by-cons (λ (x : BlockRecord). count_by (λ v. v.id == n) x.values) b bs in
    omega (arith, a, s, m, r, t)

-- ---- the greatest number
abbrev most : ℕ → List ValueRecord → ℕ
most a vs = fold (λ g v. max g v.id) a vs

abbrev all_most : ℕ → List BlockRecord → ℕ
all_most a bs = fold (λ g b. fold (λ g v. max g v.id) g b.values) a bs

most_from : (a : ℕ) (vs : List ValueRecord) → most a vs ≡ max a (most 0 vs)
most_from a [] = omega arith
most_from a (v ∷ vs) = (let h = most_from (max a v.id) vs in let k = most_from (max 0 v.id) vs in omega (arith, h, k))

all_from : (a : ℕ) (bs : List BlockRecord) → all_most a bs ≡ max a (all_most 0 bs)
all_from a [] = omega arith
all_from a (b ∷ bs) =
    let h = all_from (most a b.values) bs in
    let k = all_from (most 0 b.values) bs in
    let m = most_from a b.values in
    omega (arith, h, k, m)

most_holds : (vs : List ValueRecord) (v : ValueRecord) → In v vs → v.id ≤ most 0 vs
most_holds [] v i = elim i [ ]
most_holds (x ∷ vs) v (inl e) = (let q = ap (λ (w : ValueRecord). w.id) e in let h = most_from (max 0 x.id) vs in omega (arith, q, h))
most_holds (x ∷ vs) v (inr i) = (let h = most_from (max 0 x.id) vs in let k = most_holds vs v i in omega (arith, h, k))

all_holds : (bs : List BlockRecord) (b : BlockRecord) → In b bs → most 0 b.values ≤ all_most 0 bs
all_holds [] b i = elim i [ ]
all_holds (y ∷ bs) b (inl e) = (let q = ap (λ (w : BlockRecord). most 0 w.values) e in let h = all_from (most 0 y.values) bs in omega (arith, q, h))
all_holds (y ∷ bs) b (inr i) = (let h = all_from (most 0 y.values) bs in let k = all_holds bs b i in omega (arith, h, k))

pub within_greatest : (f : FuncRecord) (b : BlockRecord) (v : ValueRecord) → In b f.blocks → In v b.values → v.id ≤ greatest_value f
within_greatest f b v i j = (let a = all_holds f.blocks b i in let c = most_holds b.values v j in omega (arith, a, c))
