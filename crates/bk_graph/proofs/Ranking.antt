-- Edges by the ranks of predecessors that stand in a list more than once.
use Rattle.std.proofs.Common.{◌≡◌, ◌∙◌, sym, refl, ap, subst, ℕ, zero, suc, ◌+◌, ◌<◌, ◌≤◌, ◌==◌, ◌⊎◌, inl, inr, List, [], ◌∷◌, ◌++◌, length, get_or, set, take, drop, replicate, min, None, ⊎_elim, arith, length-set, append_assoc}
use Rattle.std.specs.List.{count_by, slice_get}
use Rattle.std.proofs.lemmas.Bool.{cases_eq, cases_lt, eq-eqb, ne_eqb}
use Rattle.std.proofs.lemmas.List.{take_more, drop_more, take_all, length-take-le, get_or-set_same, get_or-set_other, get_or-replicate, length-replicate}
use Rattle.std.proofs.lemmas.List.Sums.{count_by_more_yes, count_by_more_no, count_by-le-length}
use Rattle.std.proofs.lemmas.Option.{slice_get_past}
use Rattle.bk_func.specs.Records.{BlockRecord}
use Rattle.bk_graph.specs.declared.graph.Edge.{Edge}
use Rattle.bk_graph.specs.Nodes.{nth_succ, edge_from, edges_behind, AreCounts, IsCleared}

-- edges, one predecessor after the other

pub edges_next : (bs : List BlockRecord) (to : ℕ) (ps : List ℕ) (i : ℕ) → i < length ps
    → edges_behind bs to (take i ps) (drop i ps) ≡ edge_from bs to (take i ps) (get_or ps i 0) ∷ edges_behind bs to (take (i + 1) ps) (drop (i + 1) ps)
unfolding edges_behind
edges_next bs to ps i l =
    ap (edges_behind bs to (take i ps)) (drop_more ps i 0 l)
    ∙ ap (λ (before : List ℕ). edge_from bs to (take i ps) (get_or ps i 0) ∷ edges_behind bs to before (drop (i + 1) ps)) (sym (take_more ps i 0 l))

pub edges_last : (bs : List BlockRecord) (to : ℕ) (before ps : List ℕ) (i : ℕ) → length ps ≤ i → edges_behind bs to before (drop i ps) ≡ []
unfolding edges_behind
edges_last bs to before [] zero l = refl
edges_last bs to before [] (suc i) l = refl
edges_last bs to before (p ∷ ps) zero l = absurd (omega (arith, l))
edges_last bs to before (p ∷ ps) (suc i) l = edges_last bs to before ps i (omega (arith, l))

abbrev edge_at : ℕ → ℕ → Edge
edge_at p index = record { from = p; index = index }

pub made_more : (bs : List BlockRecord) (to : ℕ) (ps : List ℕ) (i : ℕ) (es fs : List Edge) (index : ℕ) → i < length ps
    → es ++ edges_behind bs to (take i ps) (drop i ps) ≡ edges_behind bs to [] ps
    → index ≡ nth_succ (slice_get bs (get_or ps i 0)) to (count_by (λ q. q == get_or ps i 0) (take i ps))
    → fs ≡ es ++ edge_at (get_or ps i 0) index ∷ []
    → fs ++ edges_behind bs to (take (i + 1) ps) (drop (i + 1) ps) ≡ edges_behind bs to [] ps
made_more bs to ps i es fs index l made is more =
    let p : ℕ = get_or ps i 0 in
    let later : List Edge = edges_behind bs to (take (i + 1) ps) (drop (i + 1) ps) in
    ap (λ (xs : List Edge). xs ++ later) more ∙ append_assoc es (edge_at p index ∷ []) later ∙ ap (λ (x : ℕ). es ++ (edge_at p x ∷ later)) is
    ∙ ap (λ (xs : List Edge). es ++ xs) (sym (edges_next bs to ps i l)) ∙ made

-- the rank that is counted is that of the edge
pub index_is : (bs : List BlockRecord) (to : ℕ) (ranks before : List ℕ) (p rank : ℕ) → length ranks ≡ length bs → AreCounts ranks before → rank ≡ get_or ranks p 0
    → nth_succ (slice_get bs p) to rank ≡ nth_succ (slice_get bs p) to (count_by (λ q. q == p) before)
index_is bs to ranks before p rank size counts is = ⊎_elim
    (λ (inside : p < length bs). ap (nth_succ (slice_get bs p) to) (is ∙ counts.each p (omega (arith, size))))
    (λ (past : length bs ≤ p).
    let none : slice_get bs p ≡ None = slice_get_past bs p past in
    ap (λ o. nth_succ o to rank) none ∙ sym (ap (λ o. nth_succ o to (count_by (λ q. q == p) before)) none))
    (cases_lt p (length bs))

-- counts

abbrev pub zeros : ℕ → List ℕ
zeros n = replicate n 0

pub counts_none : (n : ℕ) → AreCounts (zeros n) []
counts_none n = record { each = λ q l. get_or-replicate n q 0 0 (subst (λ (m : ℕ). q < m) (length-replicate n 0) l) }

least : (a i m : ℕ) → a ≤ i → i < m → min (a + 1) m ≡ a + 1
least a i m l k = omega arith

pub counts_more : (ranks ps : List ℕ) (i m : ℕ) → i < length ps → i < m → AreCounts ranks (take i ps)
    → AreCounts (set ranks (get_or ps i 0) (min (get_or ranks (get_or ps i 0) 0 + 1) m)) (take (i + 1) ps)
counts_more ranks ps i m l below counts = record { each = go }
  where
    p : ℕ
    p = get_or ps i 0

    v : ℕ
    v = min (get_or ranks p 0 + 1) m

    go : (q : ℕ) → q < length (set ranks p v) → get_or (set ranks p v) q 0 ≡ count_by (λ r. r == q) (take (i + 1) ps)
    go q k =
        let inside : q < length ranks = omega (arith, k, length-set ranks p v) in
        ⊎_elim
        (λ (same : q ≡ p).
        let at : p < length ranks = omega (arith, inside, same) in
        let own = counts.each p at in
        let few = count_by-le-length (λ r. r == p) (take i ps) in
        let size : length (take i ps) ≡ i = length-take-le i ps (omega (arith, l)) in
        let value : v ≡ get_or ranks p 0 + 1 = least (get_or ranks p 0) i m (omega (arith, own, few, size)) below in
        let new = count_by_more_yes (λ r. r == p) ps i 0 l (eq-eqb p p refl) in
        subst (λ (x : ℕ). get_or (set ranks p v) x 0 ≡ count_by (λ r. r == x) (take (i + 1) ps)) (sym same)
        (get_or-set_same ranks p v 0 at ∙ value ∙ ap (λ (x : ℕ). x + 1) own ∙ sym new))
        (λ (apart : q ≡ p → ⊥).
        get_or-set_other ranks p q v 0 apart ∙ counts.each q inside ∙ sym (count_by_more_no (λ r. r == q) ps i 0 l (ne_eqb p q (λ e. apart (sym e)))))
        (cases_eq q p)

pub cleared_none : (ranks ps : List ℕ) → AreCounts ranks ps → IsCleared ranks ps 0
cleared_none ranks ps counts = record { each = λ q l. inr (refl, counts.each q l) }

pub cleared_more : (ranks ps : List ℕ) (i : ℕ) → i < length ps → IsCleared ranks ps i → IsCleared (set ranks (get_or ps i 0) 0) ps (i + 1)
cleared_more ranks ps i l cleared = record { each = go }
  where
    p : ℕ
    p = get_or ps i 0

    go : (q : ℕ) → q < length (set ranks p 0)
        → (get_or (set ranks p 0) q 0 ≡ 0) ⊎ ((count_by (λ r. r == q) (take (i + 1) ps) ≡ 0) × (get_or (set ranks p 0) q 0 ≡ count_by (λ r. r == q) ps))
    go q k =
        let inside : q < length ranks = omega (arith, k, length-set ranks p 0) in
        ⊎_elim
        (λ (same : q ≡ p). inl (ap (get_at (set ranks p 0)) same ∙ get_or-set_same ranks p 0 0 (omega (arith, inside, same))))
        (λ (apart : q ≡ p → ⊥).
        let kept : get_or (set ranks p 0) q 0 ≡ get_or ranks q 0 = get_or-set_other ranks p q 0 0 apart in
        ⊎_elim
        (λ (none : get_or ranks q 0 ≡ 0). inl (kept ∙ none))
        (λ (z, r). inr (count_by_more_no (λ r. r == q) ps i 0 l (ne_eqb p q (λ e. apart (sym e))) ∙ z, kept ∙ r))
        (cleared.each q inside))
        (cases_eq q p)
      where
        get_at : List ℕ → ℕ → ℕ
        get_at xs j = get_or xs j 0

pub cleared_all : (ranks ps : List ℕ) (i : ℕ) → length ps ≤ i → IsCleared ranks ps i → AreCounts ranks []
cleared_all ranks ps i over cleared = record {
  each = λ q l. ⊎_elim (λ none. none) (λ (z, r). r ∙ ap (count_by (λ r. r == q)) (sym (take_all i ps over)) ∙ z) (cleared.each q l);
}
