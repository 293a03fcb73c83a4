-- The tables of a function: what stands at the places of values, edges and arguments.
use Rattle.std.proofs.Common.{◌≡◌, ℕ, zero, suc, ◌+◌, ◌<◌, ◌==◌, refl, ap, sym, ◌∙◌, subst, arith, ◌⊎◌, inl, inr, ⊎_elim, List, [], ◌∷◌, ◌++◌, length, map, get_or, Some, None, Bool, true, position}
use Rattle.std.specs.Prelude.{slice_get, slice_index_or}
use Rattle.std.specs.List.{Contains, position_or_len}
use Rattle.std.proofs.lemmas.Bool.{cases_order, eq-eqb, eqb-true, lt-ltb}
use Rattle.std.proofs.lemmas.List.Sums.{passes_at_first}
use Rattle.std.proofs.lemmas.Option.{slice_get_within, get_or_from_slice_get, slice_get-get_or, slice_get_cases}
use Rattle.bk_func.specs.Records.{ValueRecord, BlockRecord, FuncRecord}
use Rattle.bk_func.specs.Form.Parts.{IsBlockNumber}
use Rattle.bk_graph.specs.Named.{block_ids}
use Rattle.bk_graph.specs.Nodes.{NodeRecord, node_at, nodes_from, offsets_from, edge_from, edges_behind}
use Rattle.bk_graph.proofs.Crossing.{counted_once}
use Rattle.bk_graph.proofs.Listed.{one_counted, two_counted, counted_at, position-map}
use Rattle.bk_graph_laws.proofs.Edges.{Edge}

-- ---- lists
pub got_append : {A : Type 0} (xs ys : List A) (k : ℕ) (x : A) → slice_get (xs ++ ys) k ≡ Some x → (slice_get xs k ≡ Some x) ⊎ ((j : ℕ) × (slice_get ys j ≡ Some x))
got_append [] ys k x e = inr (k, e)
got_append (z ∷ xs) ys zero x e = inl e
got_append (z ∷ xs) ys (suc k) x e = got_append xs ys k x e

pub front_got : {A : Type 0} (xs ys : List A) (k : ℕ) (x : A) → slice_get xs k ≡ Some x → slice_get (xs ++ ys) k ≡ Some x
front_got [] ys k x e = absurd (let q : None ≡ Some x = e in cc)
front_got (z ∷ xs) ys zero x e = e
front_got (z ∷ xs) ys (suc k) x e = front_got xs ys k x e

pub got_map : {A B : Type 0} (g : A → B) (xs : List A) (k : ℕ) (y : B) → slice_get (map g xs) k ≡ Some y → (x : A) × (slice_get xs k ≡ Some x) × (g x ≡ y)
got_map g [] k y e = absurd (let q : None ≡ Some y = e in cc)
got_map g (z ∷ xs) zero y e = (z, refl, (let q : Some (g z) ≡ Some y = e in cc))
got_map g (z ∷ xs) (suc k) y e = got_map g xs k y e

pub map_got : {A B : Type 0} (g : A → B) (xs : List A) (k : ℕ) (x : A) → slice_get xs k ≡ Some x → slice_get (map g xs) k ≡ Some (g x)
map_got g [] k x e = absurd (let q : None ≡ Some x = e in cc)
map_got g (z ∷ xs) zero x e = (let q : Some z ≡ Some x = e in let w : z ≡ x = cc in ap (λ y. Some (g y)) w)
map_got g (z ∷ xs) (suc k) x e = map_got g xs k x e

pub mapped_or : {A B : Type 0} (g : A → B) (d : B) (xs : List A) (k : ℕ) (x : A) → slice_get xs k ≡ Some x → slice_index_or (map g xs) k d ≡ g x
mapped_or g d xs k x e = get_or_from_slice_get (map g xs) k (g x) d (map_got g xs k x e)

-- what is mapped at a place, or what stands for it past the end
pub index_map : {A B : Type 0} (g : A → B) (d : B) (xs : List A) (k : ℕ) → ((x : A) × (slice_get xs k ≡ Some x) × (slice_index_or (map g xs) k d ≡ g x)) ⊎ ((slice_get xs k ≡ None) × (slice_index_or (map g xs) k d ≡ d))
index_map g d [] k = inr (refl, refl)
index_map g d (x ∷ xs) zero = inl (x, refl, refl)
index_map g d (x ∷ xs) (suc k) = index_map g d xs k

pub contains_at : {A : Type 0} (xs : List A) (k : ℕ) (x : A) → slice_get xs k ≡ Some x → Contains xs x
contains_at xs k x e = (k, slice_get_within xs k x e, get_or_from_slice_get xs k x x e)

pub at_contains : {A : Type 0} (xs : List A) (x : A) → Contains xs x → (k : ℕ) × (slice_get xs k ≡ Some x)
at_contains xs x (k, l, e) = (k, slice_get-get_or xs k x l ∙ ap Some e)

-- the first place of a number that is there
pub first_there : (ns : List ℕ) (n k : ℕ) → slice_get ns k ≡ Some n → (r : ℕ) × (position (λ x. x == n) ns ≡ Some r) × (slice_get ns r ≡ Some n)
first_there ns n k e =
    let t : ℕ → Bool = λ x. x == n in
    let own : t (get_or ns k n) ≡ true = eq-eqb (get_or ns k n) n (get_or_from_slice_get ns k n n e) in
    let one = one_counted t ns k n (slice_get_within ns k n e) own in
    let r : ℕ = position_or_len t ns in
    let within : r < length ns = counted_at t ns one in
    let is : get_or ns r n ≡ n = eqb-true (get_or ns r n) n (passes_at_first t ns n within) in
    (r, (rw (lt-ltb r (length ns) within) refl), slice_get-get_or ns r n within ∙ ap Some is)

-- the place of a block's number
pub named_block : (f : FuncRecord) (n : ℕ) → IsBlockNumber f n → (r : ℕ) × (b : BlockRecord) × (slice_get f.blocks r ≡ Some b) × (b.id ≡ n) × (position (λ x. x == n) (block_ids f.blocks) ≡ Some r)
named_block f n h =
    let t : BlockRecord → Bool = λ b. b.id == n in
    let r : ℕ = position_or_len t f.blocks in
    let one = counted_once f n h in
    let within : r < length f.blocks = counted_at t f.blocks (omega (arith, one)) in
    ⊎_elim
    (λ (b, l, e, q). (
      r,
      b,
      e,
      ap (λ (x : BlockRecord). x.id) (sym q) ∙ eqb-true (get_or f.blocks r b).id n (passes_at_first t f.blocks b within),
      position-map (λ (x : BlockRecord). x.id) (λ x. x == n) f.blocks ∙ (rw (lt-ltb r (length f.blocks) within) refl),
    ))
    (λ (past, e). absurd (omega (arith, past, within)))
    (slice_get_cases f.blocks r).1

-- a number is that of a block at one place
pub one_place : (f : FuncRecord) (b : BlockRecord) (i j : ℕ) → IsBlockNumber f b.id → slice_get f.blocks i ≡ Some b → slice_get f.blocks j ≡ Some b → i ≡ j
one_place f b i j h d e =
    let t : BlockRecord → Bool = λ c. c.id == b.id in
    let one = counted_once f b.id h in
    let own : (k : ℕ) → slice_get f.blocks k ≡ Some b → t (get_or f.blocks k b) ≡ true =
    λ k q. eq-eqb (get_or f.blocks k b).id b.id (ap (λ (x : BlockRecord). x.id) (get_or_from_slice_get f.blocks k b b q)) in
    ⊎_elim (λ (z : i ≡ j). z) (λ apart. ⊎_elim
    (λ (below : i < j). let y = two_counted t f.blocks i j b below (slice_get_within f.blocks j b e) (own i d) (own j e) in absurd (omega (arith, y, one)))
    (λ (above : j < i). let y = two_counted t f.blocks j i b above (slice_get_within f.blocks i b d) (own j e) (own i d) in absurd (omega (arith, y, one)))
    apart)
    (cases_order i j)

-- ---- values
-- the block in which a node stands
pub record InBlock (bs : List BlockRecord) (i : ℕ) (n : NodeRecord) : Type 0 where
  pub place : ℕ
  pub block : BlockRecord
  pub is : n.block ≡ i + place
  pub there : slice_get bs place ≡ Some block
  pub value : Contains block.values n.value

pub node_there : (i : ℕ) (bs : List BlockRecord) (p : ℕ) (n : NodeRecord) → slice_get (nodes_from i bs) p ≡ Some n → InBlock bs i n
unfolding nodes_from
node_there i [] p n e = absurd (let q : None ≡ Some n = e in cc)
node_there i (b ∷ bs) p n e = go (got_append (map (node_at i) b.values) (nodes_from (i + 1) bs) p n e) (λ j q. node_there (i + 1) bs j n q)
  where
    go : (slice_get (map (node_at i) b.values) p ≡ Some n) ⊎ ((j : ℕ) × (slice_get (nodes_from (i + 1) bs) j ≡ Some n)) →
        ((j : ℕ) → slice_get (nodes_from (i + 1) bs) j ≡ Some n → InBlock bs (i + 1) n) → InBlock (b ∷ bs) i n
    go (inl q) next =
        let (v, d, is) = got_map (node_at i) b.values p n q in
        record {
          place = 0;
          block = b;
          is = (let z : n.block ≡ i = sym (ap (λ (x : NodeRecord). x.block) is) in omega (arith, z));
          there = refl;
          value = (let P : ValueRecord → Type 0 = λ x. Contains b.values x in subst P (ap (λ (x : NodeRecord). x.value) is) (contains_at b.values p v d));
        }
    go (inr (j, q)) next =
        let r = next j q in
        record { place = suc r.place; block = r.block; is = (let z = r.is in omega (arith, z)); there = r.there; value = r.value }

-- the nodes of a block stand behind those before it
pub at_offset : (i o : ℕ) (bs : List BlockRecord) (b k : ℕ) (c : BlockRecord) (v : ValueRecord) (d : ℕ) → slice_get bs b ≡ Some c → slice_get c.values k ≡ Some v →
    (q : ℕ) × (slice_index_or (offsets_from o bs) b d ≡ o + q) × (slice_get (nodes_from i bs) (q + k) ≡ Some (node_at (i + b) v))
unfolding nodes_from offsets_from
at_offset i o [] b k c v d e h = absurd (let q : None ≡ Some c = e in cc)
at_offset i o (x ∷ bs) zero k c v d e h =
    let z : x ≡ c = (let q : Some x ≡ Some c = e in cc) in
    let a : slice_get x.values k ≡ Some v = ap (λ (y : BlockRecord). slice_get y.values k) z ∙ h in
    let g = front_got (map (node_at i) x.values) (nodes_from (i + 1) bs) k (node_at i v) (map_got (node_at i) x.values k v a) in
    let s : 0 + k ≡ k = omega arith in
    let t : i ≡ i + 0 = omega arith in
    (0, omega arith, ap (slice_get (map (node_at i) x.values ++ nodes_from (i + 1) bs)) s ∙ (g ∙ ap (λ j. Some (node_at j v)) t))
at_offset i o (x ∷ bs) (suc b) k c v d e h =
    let (q, r, g) = at_offset (i + 1) (o + length x.values) bs b k c v d e h in
    let a = later (map (node_at i) x.values) (nodes_from (i + 1) bs) (length x.values) (q + k) (node_at (i + 1 + b) v) (sizes x.values) g in
    let s : length x.values + q + k ≡ length x.values + (q + k) = omega arith in
    let t : i + 1 + b ≡ i + suc b = omega arith in
    (length x.values + q, omega (arith, r), ap (slice_get (map (node_at i) x.values ++ nodes_from (i + 1) bs)) s ∙ (a ∙ ap (λ j. Some (node_at j v)) t))
  where
    sizes : (vs : List ValueRecord) → length (map (node_at i) vs) ≡ length vs
    sizes [] = refl
    sizes (y ∷ ys) = ap suc (sizes ys)

    later : (xs ys : List NodeRecord) (l j : ℕ) (y : NodeRecord) → length xs ≡ l → slice_get ys j ≡ Some y → slice_get (xs ++ ys) (l + j) ≡ Some y
    later [] ys l j y m g = (let z : l + j ≡ j = omega (arith, m) in ap (slice_get ys) z ∙ g)
    later (w ∷ xs) ys zero j y m g = absurd (omega (arith, m))
    later (w ∷ xs) ys (suc l) j y m g =
        let z : suc l + j ≡ suc (l + j) = omega arith in
        ap (slice_get (w ∷ (xs ++ ys))) z ∙ later xs ys l j y (omega (arith, m)) g

-- ---- edges
pub edges_length : (bs : List BlockRecord) (to : ℕ) (before ps : List ℕ) → length (edges_behind bs to before ps) ≡ length ps
unfolding edges_behind
edges_length bs to before [] = refl
edges_length bs to before (p ∷ ps) = ap suc (edges_length bs to (before ++ p ∷ []) ps)

pub edge_source : (bs : List BlockRecord) (to : ℕ) (before ps : List ℕ) (k : ℕ) (e : Edge) → slice_get (edges_behind bs to before ps) k ≡ Some e → slice_get ps k ≡ Some e.from
unfolding edges_behind
edge_source bs to before [] k e h = absurd (let q : None ≡ Some e = h in cc)
edge_source bs to before (p ∷ ps) zero e h =
    let z : edge_from bs to before p ≡ e = (let q : Some (edge_from bs to before p) ≡ Some e = h in cc) in
    ap (λ (x : Edge). Some x.from) z
edge_source bs to before (p ∷ ps) (suc k) e h = edge_source bs to (before ++ p ∷ []) ps k e h
