-- Edges that are added one by one.
use Rattle.std.proofs.Common.{◌≡◌, ◌∙◌, sym, refl, ap, subst, ℕ, ◌+◌, ◌<◌, ◌≤◌, ◌⊎◌, ◌↔◌, List, [], ◌∷◌, ◌++◌, length, get_or, set, replicate, map, take, append-nil, Option, None, Some, inl, inr, ⊎_elim, arith}
use Rattle.std.specs.List.{Contains, filter_map, slice_get}
use Rattle.std.proofs.lemmas.Bool.{cases_eq, cases_lt}
use Rattle.std.proofs.lemmas.List.{get_or_past, get_or-replicate, get_or-set_other, get_or-set_same, length-replicate, length-set, map-append, map-set, get_or-map, replicate-append-replicate, take_more}
use Rattle.std.proofs.lemmas.List.Elements.{Contains-append_left, Contains-push, Contains-push_cases, filter_map-append}
use Rattle.std.proofs.lemmas.Option.{slice_get_within}
use Rattle.bk_func.specs.Records.{BlockRecord}
use Rattle.bk_live.specs.Adds.{Some_of, Some_before}
use Rattle.bk_live.specs.Homes.{with_place}
use Rattle.bk_live.specs.Edges.{IsEdge, edge_in, AddsEdges, IsNamed, AreBackward}
use Rattle.bk_live.proofs.Adding.{adds_none, adds_same, before_more}

-- lists of edges: one more place without edges, and one more edge
pub lists_more : {A B : Type 0} (h : A → B) (old new : List A) (v : A) (n : ℕ) (e : B) → map h old ≡ replicate n e → new ≡ old ++ v ∷ [] → h v ≡ e → map h new ≡ replicate (n + 1) e
lists_more h old new v n e before after is =
    ap (map h) after ∙ (map-append h old (v ∷ []) ∙ (ap (λ us. us ++ h v ∷ []) before ∙ (ap (λ x. replicate n e ++ x ∷ []) is ∙ replicate-append-replicate n 1 e)))

pub edge_more : {A B : Type 0} (h : A → List B) (ls : List A) (i : ℕ) (to : B) (old new : A) (es : List (List B)) → map h ls ≡ es → i < length ls → old ≡ get_or ls i old → h new ≡ h old ++ to ∷ []
    → map h (set ls i new) ≡ set es i (get_or es i [] ++ to ∷ [])
edge_more {A} {B} h ls i to old new es view within e grown =
    let here : h old ≡ get_or (map h ls) i [] = ap h e ∙ sym (get_or-map h ls i old [] within) in
    map-set h ls i new ∙ (ap (set (map h ls) i) (grown ∙ ap (λ us. us ++ to ∷ []) here) ∙ ap (λ us. set us i (get_or us i [] ++ to ∷ [])) view)

-- no edge is added
pub adds_no_edge : (R : ℕ × ℕ → Type 0) (es : List (List ℕ)) → ((e : ℕ × ℕ) → e.0 < length es → ¬ R e) → AddsEdges R es es
adds_no_edge R es none = record { size = refl; adds = adds_none (edge_in es) (λ e. e.0 < length es × R e) (λ e (l, r). none e l r) }

-- one edge is
pub adds_edge : (R : ℕ × ℕ → Type 0) (es : List (List ℕ)) (from to : ℕ) → from < length es → ((e : ℕ × ℕ) → R e ↔ ((from ≡ e.0) × (e.1 ≡ to)))
    → AddsEdges R es (set es from (get_or es from [] ++ to ∷ []))
adds_edge R es from to within r = record { size = length-set es from row; adds = record { each = λ e. (go e.0 e.1, back e.0 e.1) } }
  where
    row : List ℕ
    row = get_or es from [] ++ to ∷ []

    here : (p : ℕ) → from ≡ p → get_or (set es from row) p [] ≡ row
    here p same = ap (λ k. get_or (set es from row) k []) (sym same) ∙ get_or-set_same es from row [] within

    go : (p q : ℕ) → IsEdge (set es from row) p q → IsEdge es p q ⊎ (p < length es × R (p, q))
    go p q c = ⊎_elim
        (λ (same : from ≡ p). ⊎_elim
        (λ old. inl (subst (λ (k : ℕ). IsEdge es k q) same old))
        (λ (new : to ≡ q). inr (subst (λ (k : ℕ). k < length es) same within, (r (p, q)).1 (same, sym new)))
        (Contains-push_cases (get_or es from []) to q (subst (λ (us : List ℕ). Contains us q) (here p same) c)))
        (λ (apart : from ≡ p → ⊥). inl (subst (λ (us : List ℕ). Contains us q) (get_or-set_other es from p row [] (λ s. apart (sym s))) c))
        (cases_eq from p)

    back : (p q : ℕ) → IsEdge es p q ⊎ (p < length es × R (p, q)) → IsEdge (set es from row) p q
    back p q h = ⊎_elim
        (λ (same : from ≡ p).
        subst (λ (us : List ℕ). Contains us q) (sym (here p same)) (⊎_elim
        (λ old. Contains-append_left (get_or es from []) (to ∷ []) q (subst (λ (k : ℕ). IsEdge es k q) (sym same) old))
        (λ (l, x). subst (λ (k : ℕ). Contains row k) (sym ((r (p, q)).0 x).1) (Contains-push (get_or es from []) to))
        h))
        (λ (apart : from ≡ p → ⊥).
        subst (λ (us : List ℕ). Contains us q) (sym (get_or-set_other es from p row [] (λ s. apart (sym s)))) (⊎_elim
        (λ old. old)
        (λ (l, x). absurd (apart ((r (p, q)).0 x).0))
        h))
        (cases_eq from p)

-- a loop
pub edges_none : {A : Type 0} (xs : List A) (R : ℕ → A → ℕ × ℕ → Type 0) (es : List (List ℕ)) → AddsEdges (Some_before xs R 0) es es
edges_none {A} xs R es = adds_no_edge (Some_before xs R 0) es (λ e l (k, x, b, at, r). absurd (omega arith))

pub edges_more : {A : Type 0} (xs : List A) (R : ℕ → A → ℕ × ℕ → Type 0) (es gs hs : List (List ℕ)) (i : ℕ) (x : A) → slice_get xs i ≡ Some x
    → AddsEdges (Some_before xs R i) es gs → AddsEdges (R i x) gs hs → AddsEdges (Some_before xs R (i + 1)) es hs
edges_more {A} xs R es gs hs i x at a b = record {
  size = b.size ∙ a.size;
  adds = adds_same (edge_in es) (Some_before xs S (i + 1)) (λ e. e.0 < length es × Some_before xs R (i + 1) e) (edge_in hs)
      (λ e. ((λ (k, y, l, t, (w, r)). (w, (k, y, l, t, r))), (λ (w, (k, y, l, t, r)). (k, y, l, t, (w, r)))))
      (before_more (edge_in es) (edge_in gs) (edge_in hs) xs S i x at
      (adds_same (edge_in es) (λ e. e.0 < length es × Some_before xs R i e) (Some_before xs S i) (edge_in gs)
      (λ e. ((λ (w, (k, y, l, t, r)). (k, y, l, t, (w, r))), (λ (k, y, l, t, (w, r)). (w, (k, y, l, t, r))))) a.adds)
      (adds_same (edge_in gs) (λ e. e.0 < length gs × R i x e) (S i x) (edge_in hs)
      (λ e. ((λ (w, r). (omega (arith, a.size), r)), (λ (w, r). (omega (arith, a.size), r)))) b.adds));
}
  where
    S : ℕ → A → ℕ × ℕ → Type 0
    S k y e = e.0 < length es × R k y e

pub edges_all : {A : Type 0} (xs : List A) (R : ℕ → A → ℕ × ℕ → Type 0) (T : ℕ × ℕ → Type 0) (es gs : List (List ℕ)) (i : ℕ) → length xs ≤ i → ((e : ℕ × ℕ) → Some_of xs R e ↔ T e)
    → AddsEdges (Some_before xs R i) es gs → AddsEdges T es gs
edges_all {A} xs R T es gs i over t a = record {
  size = a.size;
  adds = adds_same (edge_in es) (λ e. e.0 < length es × Some_before xs R i e) (λ e. e.0 < length es × T e) (edge_in gs)
      (λ e. (
        (λ (w, (k, x, l, at, r)). (w, (t e).0 (k, x, at, r))),
        (λ (w, y). (w, (let (k, x, at, r) = (t e).1 y in (k, x, (let b : k < length xs = slice_get_within xs k x at in omega arith), at, r)))),
      )) a.adds;
}

nothing : (n p : ℕ) → get_or {A = List ℕ} (replicate n []) p [] ≡ []
nothing n p = ⊎_elim (λ (b : p < n). get_or-replicate n p [] [] b) (λ a. get_or_past (replicate n []) p [] (rw length-replicate a)) (cases_lt p n)

none_in : (q : ℕ) → Contains [] q → ⊥
none_in q (k, l, e) = absurd (omega arith)

-- from nothing
pub backward_is : (bs : List BlockRecord) (m : ℕ → Option ℕ) (es : List (List ℕ)) (i : ℕ) → length bs ≤ i
    → AddsEdges (Some_before bs (λ (k : ℕ) (b : BlockRecord) (e : ℕ × ℕ). IsNamed m b.succs e.0 × (e.1 ≡ k)) i) (replicate (length bs) []) es → AreBackward bs m es
backward_is bs m es i over a = record {
  size = a.size ∙ length-replicate (length bs) [];
  edge = λ p q. (
    (λ c. ⊎_elim
        (λ old. absurd (none_in q (subst (λ (us : List ℕ). Contains us q) (nothing (length bs) p) old)))
        (λ (w, (k, b, l, at, (named, last))). (omega (arith, length-replicate {A = List ℕ} (length bs) []), (b, ap (slice_get bs) last ∙ at, named)))
        ((a.adds.each (p, q)).0 c)),
    (λ (w, (b, at, named)). (a.adds.each (p, q)).1 (inr (omega (arith, length-replicate {A = List ℕ} (length bs) []), (q, b, (let l : q < length bs = slice_get_within bs q b at in omega arith), at, (named, refl))))),
  );
}

-- the places of numbers: one more number
pub places_more : (m : ℕ → Option ℕ) (ns ps qs : List ℕ) (i : ℕ) → i < length ns → ps ≡ filter_map m (take i ns) → qs ≡ with_place ps (m (get_or ns i 0)) → qs ≡ filter_map m (take (i + 1) ns)
places_more m ns ps qs i inside before is = go (m (get_or ns i 0)) refl is
  where
    whole : filter_map m (take (i + 1) ns) ≡ filter_map m (take i ns) ++ filter_map m (get_or ns i 0 ∷ [])
    whole = ap (filter_map m) (take_more ns i 0 inside) ∙ filter_map-append m (take i ns) (get_or ns i 0 ∷ [])

    go : (o : Option ℕ) → m (get_or ns i 0) ≡ o → qs ≡ with_place ps o → qs ≡ filter_map m (take (i + 1) ns)
    go None e same = same ∙ (before ∙ sym (whole ∙ (rw e (append-nil (filter_map m (take i ns))))))
    go (Some q) e same = same ∙ (ap (λ us. us ++ q ∷ []) before ∙ sym (whole ∙ (rw e refl)))
