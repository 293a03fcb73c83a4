-- What values need, as paths along what they take.
use Rattle.std.proofs.Common.{◌≡◌, sym, refl, subst, ℕ, ◌<◌, ◌⊎◌, List, length, Some, inl, inr, ⊎_elim, arith}
use Rattle.std.specs.List.{slice_get}
use Rattle.std.proofs.lemmas.Option.{slice_get_within}
use Rattle.bk_func.specs.Records.{ValueRecord, BlockRecord}
use Rattle.bk_func.specs.Form.Before.{IsTakenBy, Needs, takes, through, IsListed}
use Rattle.bk_places.proofs.Elements.{at_contains, contains_at}
use Rattle.bk_places.proofs.Leading.{path_before}
use Rattle.bk_places.proofs.Reaching.{path_more}
use Rattle.bk_places.specs.Search.{IsEdge, Path, here, onward}
use Rattle.bk_sched.specs.Arranged.{AreTakes}
use Rattle.bk_sched.specs.Order.{HasOwnNumbers}

-- the places of a value are one
pub one_place : (b : BlockRecord) → HasOwnNumbers b → (p q : ℕ) (v : ValueRecord) → slice_get b.values p ≡ Some v → slice_get b.values q ≡ Some v → p ≡ q
one_place b own p q v ep eq = own p q v v ep eq refl

-- places in order are those of values in order
pub listed_from : (b : BlockRecord) (p q : ℕ) (u v : ValueRecord) → slice_get b.values p ≡ Some u → slice_get b.values q ≡ Some v → p < q → IsListed b u v
listed_from b p q u v ep eq l = (p, q, l, ep, eq)

pub listed_to : (b : BlockRecord) → HasOwnNumbers b → (p q : ℕ) (u v : ValueRecord) → slice_get b.values p ≡ Some u → slice_get b.values q ≡ Some v → IsListed b u v → p < q
listed_to b own p q u v ep eq (j, k, l, ej, ek) = omega (arith, l, one_place b own p j u ep ej, one_place b own q k v eq ek)

-- what is taken, as an edge
pub taken_edge : (b : BlockRecord) (es : List (List ℕ)) → AreTakes b.values es → (p q : ℕ) (u v : ValueRecord) → slice_get b.values p ≡ Some v → slice_get b.values q ≡ Some u → IsTakenBy b u v → IsEdge es p q
taken_edge b es taking p q u v ep eq (cu, cv, other, c) = (taking.edge p v ep q).1 (u, eq, other, c)

pub edge_taken : (b : BlockRecord) (es : List (List ℕ)) → AreTakes b.values es → (p q : ℕ) (v : ValueRecord) → slice_get b.values p ≡ Some v → IsEdge es p q → (u : ValueRecord) × (slice_get b.values q ≡ Some u) × IsTakenBy b u v
edge_taken b es taking p q v ep edge =
    let (u, eu, other, c) = (taking.edge p v ep q).0 edge in
    (u, eu, (contains_at b.values q u eu, contains_at b.values p v ep, other, c))

-- what is needed, as a path
pub needs_path : (b : BlockRecord) (es : List (List ℕ)) → AreTakes b.values es → (v u : ValueRecord) → Needs b v u → (p q : ℕ) → slice_get b.values p ≡ Some v → slice_get b.values q ≡ Some u → Path es (length es) p q
needs_path b es taking _ _ (takes u v taken) p q ep eq =
    let low = slice_get_within b.values p v ep in
    let high = slice_get_within b.values q u eq in
    path_more es p p q (here (omega (arith, low, taking.size))) (taken_edge b es taking p q u v ep eq taken) (omega (arith, high, taking.size))
needs_path b es taking _ _ (through t u v taken rest) p q ep eq =
    let low = slice_get_within b.values p v ep in
    let (r, er) = at_contains b.values u taken.0 in
    path_before es (length es) p r q (omega (arith, low, taking.size)) (λ same. absurd (omega (arith, same, low, taking.size))) (taken_edge b es taking p r u v ep er taken) (needs_path b es taking u t rest r q er eq)

-- and the other way round
needs_then : (b : BlockRecord) (v u o : ValueRecord) → Needs b v u → IsTakenBy b o u → Needs b v o
needs_then b _ _ o (takes u v taken) more = through o u v taken (takes o u more)
needs_then b _ _ o (through t u v taken rest) more = through o u v taken (needs_then b u t o rest more)

pub path_needs : (b : BlockRecord) (es : List (List ℕ)) → AreTakes b.values es → (p q : ℕ) → Path es (length es) p q → (v : ValueRecord) → slice_get b.values p ≡ Some v
    → (u : ValueRecord) × (slice_get b.values q ≡ Some u) × ((v ≡ u) ⊎ Needs b v u)
path_needs b es taking p _ (here within) v ep = (v, ep, inl refl)
path_needs b es taking p _ (onward r q path apart edge within) v ep =
    let (x, er, h) = path_needs b es taking p r path v ep in
    let (u, eq, taken) = edge_taken b es taking r q x er edge in (
      u,
      eq,
      inr (⊎_elim
          (λ (same : v ≡ x). takes u v (subst (λ (w : ValueRecord). IsTakenBy b u w) (sym same) taken))
          (λ n. needs_then b v x u n taken)
          h),
    )
