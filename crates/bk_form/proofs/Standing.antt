-- Where values and blocks stand, and that a number names one of them.
use Rattle.std.proofs.Common.{◌≡◌, ◌∙◌, sym, refl, ap, subst, ℕ, zero, suc, ◌+◌, ◌<◌, ◌⊎◌, List, [], ◌∷◌, ◌++◌, map, length, get_or, Some, inl, inr, ⊎_elim, arith, zero-add, add-zero}
use Rattle.std.specs.List.{Contains, flat_map, slice_get}
use Rattle.std.specs.Option.{option_map}
use Rattle.std.proofs.lemmas.List.{length-map, map-append}
use Rattle.std.proofs.lemmas.Option.{slice_get_within, slice_get-map, get_or_from_slice_get, none-some, same_Some}
use Rattle.bk_func.specs.Records.{ValueRecord, BlockRecord, FuncRecord}
use Rattle.bk_func.specs.Form.Text.{HasBlock, HasValue}
use Rattle.bk_func.specs.Form.Parts.{IsBlockNumber, IsValueNumber}
use Rattle.bk_places.proofs.Elements.{contains_at, at_contains, at_some}
use Rattle.bk_form.specs.Numbers.{block_ids, value_ids, sole}
use Rattle.bk_form.specs.Places.{NodeRecord, node_at, nodes_from, nodes_of, node_named}
use Rattle.bk_form.proofs.Bearers.{sole_is, sole_from}
use Rattle.bk_form.proofs.Symbols.{block_count, value_count}

-- elements of joined lists
pub slice_get_left : {A : Type 0} (xs ys : List A) (i : ℕ) (x : A) → slice_get xs i ≡ Some x → slice_get (xs ++ ys) i ≡ Some x
slice_get_left [] ys i x e = absurd (none-some x e)
slice_get_left (z ∷ zs) ys zero x e = e
slice_get_left (z ∷ zs) ys (suc i) x e = slice_get_left zs ys i x e

pub slice_get_right : {A : Type 0} (xs ys : List A) (i : ℕ) → slice_get (xs ++ ys) (length xs + i) ≡ slice_get ys i
slice_get_right [] ys i = rw zero-add refl
slice_get_right (x ∷ xs) ys i = let e : suc (length xs) + i ≡ suc (length xs + i) = omega arith in rw e (slice_get_right xs ys i)

pub slice_get_parts : {A : Type 0} (xs ys : List A) (i : ℕ) (x : A) → slice_get (xs ++ ys) i ≡ Some x
    → (slice_get xs i ≡ Some x) ⊎ ((j : ℕ) × (i ≡ length xs + j) × (slice_get ys j ≡ Some x))
slice_get_parts [] ys i x e = inr (i, sym (zero-add i), e)
slice_get_parts (z ∷ zs) ys zero x e = inl e
slice_get_parts (z ∷ zs) ys (suc i) x e = ⊎_elim (λ h. inl h) (λ (j, s, f). inr (j, rw s (omega arith), f)) (slice_get_parts zs ys i x e)

slice_get_mapped : {A B : Type 0} (h : A → B) (xs : List A) (i : ℕ) (y : B) → slice_get (map h xs) i ≡ Some y → (x : A) × (slice_get xs i ≡ Some x) × (h x ≡ y)
slice_get_mapped h [] i y e = absurd (none-some y e)
slice_get_mapped h (x ∷ xs) zero y e = (x, refl, same_Some (h x) y e)
slice_get_mapped h (x ∷ xs) (suc i) y e = slice_get_mapped h xs i y e

-- the value at a place stands in the block of its home
pub node_stands : (i : ℕ) (bs : List BlockRecord) (p : ℕ) (n : NodeRecord) → slice_get (nodes_from i bs) p ≡ Some n
    → (j : ℕ) × (b : BlockRecord) × (n.home ≡ i + j) × (slice_get bs j ≡ Some b) × Contains b.values n.value
unfolding nodes_from
node_stands i [] p n e = absurd (none-some n e)
node_stands i (b ∷ bs) p n e = ⊎_elim
    (λ h. let (v, f, g) = slice_get_mapped (node_at i) b.values p n h in
    (0, b, (sym (ap (λ m. m.home) g) ∙ omega arith), refl, rw (sym (ap (λ m. m.value) g)) (contains_at b.values p v f)))
    (λ (q, s, h). let (j, c, g, f, m) = node_stands (i + 1) bs q n h in (suc j, c, (g ∙ omega arith), f, m))
    (slice_get_parts (map (node_at i) b.values) (nodes_from (i + 1) bs) p n e)

-- a value of a block has a place
pub node_for : (i : ℕ) (bs : List BlockRecord) (j : ℕ) (b : BlockRecord) (v : ValueRecord) → slice_get bs j ≡ Some b → Contains b.values v
    → (p : ℕ) × (slice_get (nodes_from i bs) p ≡ Some (node_at (i + j) v))
unfolding nodes_from
node_for i [] j b v e m = absurd (none-some b e)
node_for i (c ∷ bs) zero b v e m =
    let (k, f) = at_contains b.values v m in (
      k,
      slice_get_left (map (node_at i) c.values) (nodes_from (i + 1) bs) k (node_at (i + 0) v)
          (slice_get-map (node_at i) c.values k ∙ (rw (same_Some c b e, f, add-zero) refl)),
    )
node_for i (c ∷ bs) (suc j) b v e m =
    let (p, f) = node_for (i + 1) bs j b v e m in
    let s : i + 1 + j ≡ i + suc j = omega arith in
    (length (map (node_at i) c.values) + p, slice_get_right (map (node_at i) c.values) (nodes_from (i + 1) bs) p ∙ (rw s at f))

pub node_in : (f : FuncRecord) (i : ℕ) (b : BlockRecord) (v : ValueRecord) → slice_get f.blocks i ≡ Some b → Contains b.values v → (p : ℕ) × (slice_get (nodes_of f) p ≡ Some (node_at i v))
node_in f i b v e m =
    let (p, at) = node_for 0 f.blocks i b v e m in
    (p, subst (λ (j : ℕ). slice_get (nodes_of f) p ≡ Some (node_at j v)) (zero-add i) at)

-- the numbers by places
node_ids : (i : ℕ) (bs : List BlockRecord) → map (λ n. n.value.id) (nodes_from i bs) ≡ flat_map (λ b. map (λ v. v.id) b.values) bs
unfolding nodes_from
node_ids i [] = refl
node_ids i (b ∷ bs) =
    map-append (λ (n : NodeRecord). n.value.id) (map (node_at i) b.values) (nodes_from (i + 1) bs) ∙ (rw (mapped i b.values, node_ids (i + 1) bs) refl)
  where
    mapped : (i : ℕ) (vs : List ValueRecord) → map (λ (n : NodeRecord). n.value.id) (map (node_at i) vs) ≡ map (λ v. v.id) vs
    mapped i [] = refl
    mapped i (v ∷ vs) = rw (mapped i vs) refl

-- the number at a place
pub number_at : (f : FuncRecord) (p : ℕ) (n : NodeRecord) → slice_get (nodes_of f) p ≡ Some n → (p < length (value_ids f)) × (get_or (value_ids f) p 0 ≡ n.value.id)
number_at f p n e =
    let at : slice_get (value_ids f) p ≡ Some n.value.id =
    ap (λ xs. slice_get xs p) (sym (node_ids 0 f.blocks)) ∙ (slice_get-map (λ (n : NodeRecord). n.value.id) (nodes_of f) p ∙ ap (option_map (λ (n : NodeRecord). n.value.id)) e) in
    (slice_get_within (value_ids f) p n.value.id at, get_or_from_slice_get (value_ids f) p n.value.id 0 at)

block_number_at : (f : FuncRecord) (i : ℕ) (b : BlockRecord) → slice_get f.blocks i ≡ Some b → (i < length (block_ids f)) × (get_or (block_ids f) i 0 ≡ b.id)
block_number_at f i b e =
    let at : slice_get (block_ids f) i ≡ Some b.id = slice_get-map (λ (b : BlockRecord). b.id) f.blocks i ∙ ap (option_map (λ (b : BlockRecord). b.id)) e in
    (slice_get_within (block_ids f) i b.id at, get_or_from_slice_get (block_ids f) i b.id 0 at)

-- the place that a number names
pub node_of : (f : FuncRecord) (n : ℕ) → IsValueNumber f n → (p : ℕ) × (m : NodeRecord) × (sole (value_ids f) n ≡ Some p) × (slice_get (nodes_of f) p ≡ Some m) × (m.value.id ≡ n)
unfolding IsValueNumber
node_of f n one =
    let (p, e) = sole_from (value_ids f) n (value_count f.blocks n ∙ one) in
    let at = (sole_is (value_ids f) n p e).1 in
    let long : length (value_ids f) ≡ length (nodes_of f) = ap length (sym (node_ids 0 f.blocks)) ∙ length-map (nodes_of f) (λ (n : NodeRecord). n.value.id) in
    let (m, g) = at_some (nodes_of f) p (rw long at at.within) in
    (p, m, e, g, sym (number_at f p m g).1 ∙ at.here)

-- and there is no other
pub node_alone : (f : FuncRecord) (n p : ℕ) (m : NodeRecord) → IsValueNumber f n → slice_get (nodes_of f) p ≡ Some m → m.value.id ≡ n → sole (value_ids f) n ≡ Some p
unfolding IsValueNumber
node_alone f n p m one e same =
    let (q, g) = sole_from (value_ids f) n (value_count f.blocks n ∙ one) in
    let (within, here) = number_at f p m e in
    g ∙ ap Some (sym ((sole_is (value_ids f) n q g).1.alone p within (here ∙ same)))

-- the place that a number of a block names, and that there is no other
pub block_of : (f : FuncRecord) (n : ℕ) → IsBlockNumber f n → (i : ℕ) × (b : BlockRecord) × (sole (block_ids f) n ≡ Some i) × (slice_get f.blocks i ≡ Some b) × (b.id ≡ n)
unfolding IsBlockNumber
block_of f n one =
    let (i, e) = sole_from (block_ids f) n (block_count f n ∙ one) in
    let at = (sole_is (block_ids f) n i e).1 in
    let (b, g) = at_some f.blocks i (rw (length-map f.blocks (λ (b : BlockRecord). b.id)) at at.within) in
    (i, b, e, g, sym (block_number_at f i b g).1 ∙ at.here)

pub block_alone : (f : FuncRecord) (n i : ℕ) (b : BlockRecord) → IsBlockNumber f n → slice_get f.blocks i ≡ Some b → b.id ≡ n → sole (block_ids f) n ≡ Some i
unfolding IsBlockNumber
block_alone f n i b one e same =
    let (j, g) = sole_from (block_ids f) n (block_count f n ∙ one) in
    let (within, here) = block_number_at f i b e in
    g ∙ ap Some (sym ((sole_is (block_ids f) n j g).1.alone i within (here ∙ same)))

-- the node that a number names
pub named_at : (f : FuncRecord) (n p : ℕ) (m : NodeRecord) → sole (value_ids f) n ≡ Some p → slice_get (nodes_of f) p ≡ Some m → node_named f n ≡ Some m
named_at f n p m e g = rw (e, g) refl

-- values with one number are one value in one block
pub one_value : (f : FuncRecord) (n : ℕ) (b c : BlockRecord) (u v : ValueRecord) → IsValueNumber f n → HasValue f b u → HasValue f c v → u.id ≡ n → v.id ≡ n
    → (b ≡ c) × (u ≡ v)
one_value f n b c u v one (hb, hu) (hc, hv) eu ev =
    let (i, ei) = at_contains f.blocks b hb in
    let (j, ej) = at_contains f.blocks c hc in
    let (p, ep) = node_for 0 f.blocks i b u ei hu in
    let (q, eq) = node_for 0 f.blocks j c v ej hv in
    let same : p ≡ q = same_Some p q (sym (node_alone f n p (node_at (0 + i) u) one ep eu) ∙ node_alone f n q (node_at (0 + j) v) one eq ev) in
    let node : node_at (0 + i) u ≡ node_at (0 + j) v = same_Some (node_at (0 + i) u) (node_at (0 + j) v) (sym ep ∙ (rw same eq)) in
    let home : i ≡ j = sym (zero-add i) ∙ (ap (λ m. m.home) node ∙ zero-add j) in
    (same_Some b c (sym ei ∙ (rw home ej)), ap (λ m. m.value) node)

-- and blocks with one number stand at one place
pub one_place : (f : FuncRecord) (n i j : ℕ) (b c : BlockRecord) → IsBlockNumber f n → slice_get f.blocks i ≡ Some b → slice_get f.blocks j ≡ Some c → b.id ≡ n → c.id ≡ n → i ≡ j
one_place f n i j b c one ei ej eb ec =
    same_Some i j (sym (block_alone f n i b one ei eb) ∙ block_alone f n j c one ej ec)

pub one_block : (f : FuncRecord) (n : ℕ) (b c : BlockRecord) → IsBlockNumber f n → HasBlock f b → HasBlock f c → b.id ≡ n → c.id ≡ n → b ≡ c
one_block f n b c one hb hc eb ec =
    let (i, ei) = at_contains f.blocks b hb in
    let (j, ej) = at_contains f.blocks c hc in
    let same = one_place f n i j b c one ei ej eb ec in
    same_Some b c (sym ei ∙ (rw same ej))
