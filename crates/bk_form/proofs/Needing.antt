-- What values need, as paths along what they take.
use Rattle.std.proofs.Common.{◌≡◌, ◌∙◌, sym, refl, ap, subst, ℕ, ◌+◌, ◌<◌, ◌⊎◌, List, [], ◌∷◌, ◌++◌, map, length, zero, suc, Some, inl, inr, ⊎_elim, arith, zero-add}
use Rattle.std.specs.List.{Contains, slice_get}
use Rattle.std.proofs.lemmas.List.{length-map}
use Rattle.std.proofs.lemmas.Option.{none-some, same_Some, slice_get-map, slice_get_within}
use Rattle.std.specs.Option.{option_map}
use Rattle.bk_func.specs.Records.{ValueRecord, BlockRecord, FuncRecord}
use Rattle.bk_func.specs.Form.Before.{IsTakenBy, Needs, takes, through, IsListed}
use Rattle.bk_places.proofs.Elements.{at_contains}
use Rattle.bk_places.specs.Search.{IsEdge, Path, here, onward}
use Rattle.bk_places.proofs.Leading.{path_before}
use Rattle.bk_form.specs.Arranged.{AreTakes}
use Rattle.bk_form.specs.Places.{node_at, nodes_from, nodes_of}
use Rattle.bk_form.proofs.Copied.{AreValues, one_node}
use Rattle.bk_form.proofs.Standing.{node_in, node_stands, slice_get_left, slice_get_right}

-- a value stands in the block of its place
pub in_block : (f : FuncRecord) (i p : ℕ) (b : BlockRecord) (v : ValueRecord) → slice_get f.blocks i ≡ Some b → slice_get (nodes_of f) p ≡ Some (node_at i v) → Contains b.values v
in_block f i p b v eb ep =
    let (j, c, home, at, inside) = node_stands 0 f.blocks p (node_at i v) ep in
    let same : j ≡ i = omega (arith, home) in
    subst (λ (d : BlockRecord). Contains d.values v) (same_Some c b (sym at ∙ (ap (slice_get f.blocks) same ∙ eb))) inside

-- the first place of a block
offset : List BlockRecord → ℕ → ℕ
offset [] i = 0
offset (b ∷ bs) zero = 0
offset (b ∷ bs) (suc i) = length b.values + offset bs i

at_offset : (k : ℕ) (bs : List BlockRecord) (i j : ℕ) (b : BlockRecord) (v : ValueRecord) → slice_get bs i ≡ Some b → slice_get b.values j ≡ Some v
    → slice_get (nodes_from k bs) (offset bs i + j) ≡ Some (node_at (k + i) v)
unfolding nodes_from offset
at_offset k [] i j b v e g = absurd (none-some b e)
at_offset k (c ∷ bs) zero j b v e g =
    let same : c ≡ b = same_Some c b e in
    let at : slice_get (map (node_at k) c.values) j ≡ Some (node_at k v) = slice_get-map (node_at k) c.values j ∙ ap (option_map (node_at k)) (ap (λ (d : BlockRecord). slice_get d.values j) same ∙ g) in
    let whole : slice_get (map (node_at k) c.values ++ nodes_from (k + 1) bs) j ≡ Some (node_at k v) = slice_get_left (map (node_at k) c.values) (nodes_from (k + 1) bs) j (node_at k v) at in
    ap (slice_get (map (node_at k) c.values ++ nodes_from (k + 1) bs)) (zero-add j) ∙ (whole ∙ ap (λ n. Some (node_at n v)) (omega arith))
at_offset k (c ∷ bs) (suc i) j b v e g =
    let place : length c.values + offset bs i + j ≡ length (map (node_at k) c.values) + (offset bs i + j) = omega (arith, length-map c.values (node_at k)) in
    ap (slice_get (map (node_at k) c.values ++ nodes_from (k + 1) bs)) place
    ∙ (slice_get_right (map (node_at k) c.values) (nodes_from (k + 1) bs) (offset bs i + j)
    ∙ (at_offset (k + 1) bs i j b v e g ∙ ap (λ n. Some (node_at n v)) (omega arith)))

place_is : (f : FuncRecord) → AreValues f → (i p j : ℕ) (b : BlockRecord) (v : ValueRecord) → slice_get f.blocks i ≡ Some b → slice_get (nodes_of f) p ≡ Some (node_at i v) → slice_get b.values j ≡ Some v
    → p ≡ offset f.blocks i + j
place_is f values i p j b v eb ep ev =
    let at = at_offset 0 f.blocks i j b v eb ev in
    (one_node f values p (offset f.blocks i + j) (node_at i v) (node_at (0 + i) v) ep at refl).0

-- places in order are those of values in order
pub listed_from : (f : FuncRecord) → AreValues f → (i p q : ℕ) (b : BlockRecord) (u v : ValueRecord) → slice_get f.blocks i ≡ Some b → slice_get (nodes_of f) p ≡ Some (node_at i u)
    → slice_get (nodes_of f) q ≡ Some (node_at i v) → p < q → IsListed b u v
listed_from f values i p q b u v eb ep eq l =
    let (j, ej) = at_contains b.values u (in_block f i p b u eb ep) in
    let (k, ek) = at_contains b.values v (in_block f i q b v eb eq) in
    (j, k, omega (arith, place_is f values i p j b u eb ep ej, place_is f values i q k b v eb eq ek), ej, ek)

pub listed_to : (f : FuncRecord) → AreValues f → (i p q : ℕ) (b : BlockRecord) (u v : ValueRecord) → slice_get f.blocks i ≡ Some b → slice_get (nodes_of f) p ≡ Some (node_at i u)
    → slice_get (nodes_of f) q ≡ Some (node_at i v) → IsListed b u v → p < q
listed_to f values i p q b u v eb ep eq (j, k, l, ej, ek) = omega (arith, place_is f values i p j b u eb ep ej, place_is f values i q k b v eb eq ek)

-- what is taken, as an edge
pub taken_edge : (f : FuncRecord) (es : List (List ℕ)) → AreTakes f es → (i p q : ℕ) (b : BlockRecord) (u v : ValueRecord) → slice_get (nodes_of f) p ≡ Some (node_at i v)
    → slice_get (nodes_of f) q ≡ Some (node_at i u) → IsTakenBy b u v → IsEdge es p q
taken_edge f es taking i p q b u v ep eq (cu, cv, other, c) = (taking.edge p (node_at i v) ep q).1 (node_at i u, eq, refl, other, c)

pub edge_taken : (f : FuncRecord) (es : List (List ℕ)) → AreTakes f es → (i p q : ℕ) (b : BlockRecord) (v : ValueRecord) → slice_get f.blocks i ≡ Some b
    → slice_get (nodes_of f) p ≡ Some (node_at i v) → IsEdge es p q → (u : ValueRecord) × (slice_get (nodes_of f) q ≡ Some (node_at i u)) × IsTakenBy b u v
edge_taken f es taking i p q b v eb ep edge =
    let (o, eo, home, other, c) = (taking.edge p (node_at i v) ep q).0 edge in
    let at : slice_get (nodes_of f) q ≡ Some (node_at i o.value) = eo ∙ ap (λ k. Some (node_at k o.value)) (sym home) in
    (o.value, at, (in_block f i q b o.value eb at, in_block f i p b v eb ep, other, c))

-- what is needed, as a path
pub needs_path : (f : FuncRecord) (es : List (List ℕ)) → AreTakes f es → (i : ℕ) (b : BlockRecord) → slice_get f.blocks i ≡ Some b → (v u : ValueRecord) → Needs b v u → (p q : ℕ)
    → slice_get (nodes_of f) p ≡ Some (node_at i v) → slice_get (nodes_of f) q ≡ Some (node_at i u) → Path es (length es) p q
needs_path f es taking i b eb _ _ (takes u v taken) p q ep eq =
    let low = slice_get_within (nodes_of f) p (node_at i v) ep in
    let high = slice_get_within (nodes_of f) q (node_at i u) eq in
    onward p q (here (omega (arith, taking.size))) (λ e. absurd (omega (arith, taking.size))) (taken_edge f es taking i p q b u v ep eq taken) (omega (arith, taking.size))
needs_path f es taking i b eb _ _ (through t u v taken rest) p q ep eq =
    let low = slice_get_within (nodes_of f) p (node_at i v) ep in
    let (r, er) = node_in f i b u eb taken.0 in
    path_before es (length es) p r q (omega (arith, taking.size)) (λ e. absurd (omega (arith, taking.size))) (taken_edge f es taking i p r b u v ep er taken)
    (needs_path f es taking i b eb u t rest r q er eq)

-- and the other way round
needs_then : (b : BlockRecord) (v u o : ValueRecord) → Needs b v u → IsTakenBy b o u → Needs b v o
needs_then b _ _ o (takes u v taken) more = through o u v taken (takes o u more)
needs_then b _ _ o (through t u v taken rest) more = through o u v taken (needs_then b u t o rest more)

pub path_needs : (f : FuncRecord) (es : List (List ℕ)) → AreTakes f es → (i : ℕ) (b : BlockRecord) → slice_get f.blocks i ≡ Some b → (a p q : ℕ) → Path es a p q → (v : ValueRecord)
    → slice_get (nodes_of f) p ≡ Some (node_at i v) → (u : ValueRecord) × (slice_get (nodes_of f) q ≡ Some (node_at i u)) × ((v ≡ u) ⊎ Needs b v u)
path_needs f es taking i b eb a p _ (here within) v ep = (v, ep, inl refl)
path_needs f es taking i b eb a p _ (onward r q path apart edge within) v ep =
    let (x, er, h) = path_needs f es taking i b eb a p r path v ep in
    let (u, eq, taken) = edge_taken f es taking i r q b x eb er edge in (
      u,
      eq,
      inr (⊎_elim
          (λ (same : v ≡ x). takes u v (subst (λ (w : ValueRecord). IsTakenBy b u w) (sym same) taken))
          (λ n. needs_then b v x u n taken)
          h),
    )
