-- The place of an edge among the predecessors of the block that it leads to, and what a phi takes there.
use Rattle.std.proofs.Common.{◌≡◌, ℕ, zero, suc, ◌+◌, ◌-◌, ◌<◌, ◌==◌, refl, ap, sym, ◌∙◌, subst, arith, ◌⊎◌, inl, inr, List, [], ◌∷◌, take, Some, Bool, true, false, cond, eq-eqb, ne_eqb}
use Rattle.std.specs.Prelude.{sum_by, count_by, slice_get, if◌then◌else◌}
use Rattle.std.proofs.lemmas.Bool.{cases_eq}
use Rattle.std.proofs.lemmas.List.Sums.{sum_by-cons}
use Rattle.bk_func.specs.Records.{ValueRecord, BlockRecord, FuncRecord}
use Rattle.bk_func.specs.Numbers.{Program, origin_of, numbers}
use Rattle.bk_func.specs.Edits.{nth_place, rank_in}
use Rattle.bk_func.specs.Meaning.{World, Activation, edge_place, entered, number_named}
use Rattle.bk_func.specs.declared.form.FormKind.TheVariants.{Control, Missing, Use}
use Rattle.bk_func.specs.Form.{Keeps}
use Rattle.bk_func.specs.Form.Text.{HasBlock, HasValue, IsPhi}
use Rattle.bk_func.specs.Form.Walks.{IsReached, IsDefinedAt}
use Rattle.bk_func.specs.Form.Signatures.{Setting}
use Rattle.bk_func.specs.Form.Parts.{IsBlockNumber}
use Rattle.bk_func.proofs.Faults.{In}
use Rattle.bk_func.proofs.Unique.{solved}
use Rattle.bk_places.proofs.Elements.{to_in}
use Rattle.bk_mean.proofs.Named.{found_value, found_here, got_index}
use Rattle.bk_mean.proofs.Formed.{Sound}
use Rattle.bk_mean.proofs.Ranks.{IsLive, rank, ranks}

-- a sum over the one element that passes a test

abbrev part : {A : Type 0} → (A → Bool) → (A → ℕ) → A → ℕ
part test h x = if test x then h x else 0

abbrev hit : {A : Type 0} → (A → Bool) → A → ℕ
hit test x = cond (test x) 1 0

none_counted : {A : Type 0} (test : A → Bool) (h : A → ℕ) (xs : List A) → count_by test xs ≡ 0 → sum_by (part test h) xs ≡ 0
none_counted test h [] e = refl
none_counted {A} test h (x ∷ xs) e = go (test x) refl (sum_by-cons (hit test) x xs) (sum_by-cons (part test h) x xs) (λ q. none_counted test h xs q)
  where
    go : (u : Bool) → test x ≡ u → count_by test (x ∷ xs) ≡ hit test x + count_by test xs → sum_by (part test h) (x ∷ xs) ≡ part test h x + sum_by (part test h) xs →
        (count_by test xs ≡ 0 → sum_by (part test h) xs ≡ 0) → sum_by (part test h) (x ∷ xs) ≡ 0
    go true q s t k = let d : hit test x ≡ 1 = rw q refl in absurd (omega (arith, s, d, e))
    go false q s t k =
        let d : hit test x ≡ 0 = rw q refl in
        let c : part test h x ≡ 0 = rw q refl in
        let r = k (omega (arith, s, d, e)) in
        omega (arith, t, c, r)

one_counted : {A : Type 0} (test : A → Bool) (h : A → ℕ) (xs : List A) (x : A) → count_by test xs ≡ 1 → In x xs → test x ≡ true → sum_by (part test h) xs ≡ h x
one_counted test h [] x e i y = elim i [ ]
one_counted {A} test h (z ∷ zs) x e (inl q) y =
    let s = sum_by-cons (hit test) z zs in
    let t = sum_by-cons (part test h) z zs in
    let b : test z ≡ true = ap test q ∙ y in
    let d : hit test z ≡ 1 = rw b refl in
    let c : part test h z ≡ h z = rw b refl in
    let r = none_counted test h zs (omega (arith, s, d, e)) in
    let g = ap h q in
    omega (arith, t, c, r, g)
one_counted {A} test h (z ∷ zs) x e (inr i) y = go (test z) refl (sum_by-cons (hit test) z zs) (sum_by-cons (part test h) z zs) (λ q. one_counted test h zs x q i y)
  where
    at_least : (ws : List A) → In x ws → 0 < count_by test ws
    at_least [] j = elim j [ ]
    at_least (w ∷ ws) (inl q) = let s = sum_by-cons (hit test) w ws in let d : hit test w ≡ 1 = rw (ap test q ∙ y) refl in omega (arith, s, d)
    at_least (w ∷ ws) (inr j) = let s = sum_by-cons (hit test) w ws in let r = at_least ws j in omega (arith, s, r)

    go : (u : Bool) → test z ≡ u → count_by test (z ∷ zs) ≡ hit test z + count_by test zs → sum_by (part test h) (z ∷ zs) ≡ part test h z + sum_by (part test h) zs →
        (count_by test zs ≡ 1 → sum_by (part test h) zs ≡ h x) → sum_by (part test h) (z ∷ zs) ≡ h x
    go true q s t k = let d : hit test z ≡ 1 = rw q refl in let l = at_least zs i in absurd (omega (arith, s, d, e, l))
    go false q s t k =
        let d : hit test z ≡ 0 = rw q refl in
        let c : part test h z ≡ 0 = rw q refl in
        let r = k (omega (arith, s, d, e)) in
        omega (arith, t, c, r)

blocks_once : (f : FuncRecord) (n : ℕ) → IsBlockNumber f n → count_by (λ b. b.id == n) f.blocks ≡ 1
unfolding IsBlockNumber
blocks_once f n h = h

-- as many successors of b are c as predecessors of c are b
pub edges_meet : (s : Setting) (f : FuncRecord) → Keeps s f Control → Keeps s f Missing → (b c : BlockRecord) → HasBlock f b → HasBlock f c →
    count_by (λ x. x == c.id) b.succs ≡ count_by (λ x. x == b.id) c.preds
edges_meet s f k m b c i j =
    sym (one_counted (λ (x : BlockRecord). x.id == b.id) (λ x. count_by (λ y. y == c.id) x.succs) f.blocks b (blocks_once f b.id (m b i).block.own) (to_in b f.blocks i) (eq-eqb b.id b.id refl))
    ∙ (k b i).block.out c.id
    ∙ one_counted (λ (x : BlockRecord). x.id == c.id) (λ x. count_by (λ y. y == b.id) x.preds) f.blocks c (blocks_once f c.id (m c j).block.own) (to_in c f.blocks j) (eq-eqb c.id c.id refl)

-- fewer stand before the one at an index than there are
ranked_below : (n : ℕ) (xs : List ℕ) (i : ℕ) → slice_get xs i ≡ Some n → count_by (λ x. x == n) (take i xs) < count_by (λ x. x == n) xs
ranked_below n [] i e = absurd cc
ranked_below n (x ∷ xs) zero e =
    let s = sum_by-cons (hit (λ (y : ℕ). y == n)) x xs in
    let d : x ≡ n = cc in
    let c : hit (λ (y : ℕ). y == n) x ≡ 1 = rw (eq-eqb x n d) refl in
    omega (arith, s, c)
ranked_below n (x ∷ xs) (suc i) e =
    let s = sum_by-cons (hit (λ (y : ℕ). y == n)) x xs in
    let t = sum_by-cons (hit (λ (y : ℕ). y == n)) x (take i xs) in
    let r = ranked_below n xs i e in
    omega (arith, s, t, r)

-- of more than k, the one that k others stand before is there
nth_there : (n k : ℕ) (xs : List ℕ) → k < count_by (λ x. x == n) xs → slice_get xs (nth_place n k xs) ≡ Some n
unfolding nth_place
nth_there n k [] l = absurd (omega arith)
nth_there n k (x ∷ xs) l = go (cases_eq x n) (cases_eq k 0) (sum_by-cons (hit (λ (y : ℕ). y == n)) x xs) (λ j q. nth_there n j xs q)
  where
    one_more : (j : ℕ) → slice_get xs j ≡ Some n → slice_get (x ∷ xs) (1 + j) ≡ Some n
    one_more j e = let d : 1 + j ≡ suc j = omega arith in ap (slice_get (x ∷ xs)) d ∙ e

    go : (x ≡ n) ⊎ (x ≡ n → ⊥) → (k ≡ 0) ⊎ (k ≡ 0 → ⊥) → count_by (λ y. y == n) (x ∷ xs) ≡ hit (λ (y : ℕ). y == n) x + count_by (λ y. y == n) xs →
        ((j : ℕ) → j < count_by (λ y. y == n) xs → slice_get xs (nth_place n j xs) ≡ Some n) →
        slice_get (x ∷ xs) (if x == n then (if k == 0 then 0 else 1 + nth_place n (k - 1) xs) else 1 + nth_place n k xs) ≡ Some n
    go (inl e) (inl z) s r = rw (eq-eqb x n e, eq-eqb k 0 z) (ap Some e)
    go (inl e) (inr z) s r =
        let c : hit (λ (y : ℕ). y == n) x ≡ 1 = rw (eq-eqb x n e) refl in
        rw (eq-eqb x n e, ne_eqb k 0 z) (one_more (nth_place n (k - 1) xs) (r (k - 1) (omega (arith, s, c, l, z))))
    go (inr e) z s r =
        let c : hit (λ (y : ℕ). y == n) x ≡ 0 = rw (ne_eqb x n e) refl in
        rw (ne_eqb x n e) (one_more (nth_place n k xs) (r k (omega (arith, s, c, l))))

-- at an edge's place stands the predecessor that it comes from
pub edge_arrives : (s : Setting) (f : FuncRecord) → Keeps s f Control → Keeps s f Missing → (b c : BlockRecord) → HasBlock f b → HasBlock f c → (index : ℕ) → slice_get b.succs index ≡ Some c.id →
    slice_get c.preds (edge_place b index (Some c)) ≡ Some b.id
edge_arrives s f k m b c i j index e =
    let r = ranked_below c.id b.succs index e in
    let q = edges_meet s f k m b c i j in
    let P : ℕ → Type 0 = λ n. count_by (λ x. x == n) (take index b.succs) < count_by (λ x. x == b.id) c.preds in
    nth_there b.id (rank_in (Some b) index) c.preds (subst P (sym (got_index b.succs index c.id e)) (omega (arith, r, q)))

-- what a phi takes by an edge is defined where the edge begins
pub phi_argument_defined : (s : Setting) (f : FuncRecord) → Keeps s f Use → (b c : BlockRecord) (v : ValueRecord) → HasBlock f b → HasValue f c v → IsPhi v → (place n : ℕ) →
    slice_get c.preds place ≡ Some b.id → slice_get v.args place ≡ Some n → IsDefinedAt f b n
phi_argument_defined s f h b c v i j p place n at got = ((h c j.0).value v j.1).before p place n b got at i

-- where a block is entered, a phi has the number of what it takes there
pub phi_entered : (s : Setting) (f : FuncRecord) → Sound s f → (p : Program) (b : BlockRecord) (v : ValueRecord) → HasValue f b v → IsReached f b → IsPhi v → (place : ℕ) (a : Activation) (w : World) →
    numbers p f (entered p f b place a w).env v.id ≡ number_named (numbers p f a.env) (slice_get v.args place)
phi_entered s f h p b v i r q place a w =
    solved p f (entered p f b place a w).env (IsLive f) (rank f) (ranks s f h) v.id (record { block = b; value = v; stands = i; named = refl; reached = r })
    ∙ rw (found_value f h.named b v v.id i refl, ap origin_of q, found_here f h.named b v i, ap origin_of q) refl
