-- Edges that the two blocks do not agree on.
use Rattle.std.proofs.Common.{◌≡◌, ◌∙◌, sym, refl, ap, ℕ, ◌+◌, ◌<◌, ◌≤◌, ◌==◌, ◌&&◌, ◌||◌, not, Bool, true, false, cond, List, [], ◌∷◌, length, get_or, take, Some, ⊎_elim, arith, add-zero}
use Rattle.std.specs.BTreeMap.{get, BTreeMap, is_at}
use Rattle.std.specs.List.{flat_map, list_any, count_by, sum_by, position_or_len}
use Rattle.std.specs.Bool.{MatchBool}
use Rattle.std.specs.Option.{unwrap_or}
use Rattle.std.specs.Ordering.{nat_cmp, ordering_then, is_eq}
use Rattle.std.specs.declared.cmp.Ordering.{Ordering}
use Rattle.std.specs.declared.cmp.Ordering.TheVariants.{Less, Equal, Greater}
use Rattle.std.proofs.lemmas.Bool.{cases_eq, cases_Bool, eq-eqb, ne_eqb, eqb-true, and_parts, or_parts, or_cases, and_from, or_left, or_right, not_from_false, not-true, false≢true}
use Rattle.std.proofs.lemmas.List.{take_more}
use Rattle.std.proofs.lemmas.List.Folds.{fold-map, list_any_at, list_any_more, Any-from_list_any}
use Rattle.std.proofs.lemmas.List.Sums.{sum_by-cons, sum_by-append, sum_by_push, count_by-le-length, passes_at_first}
use Rattle.bk_func.specs.Records.{BlockRecord, FuncRecord}
use Rattle.bk_func.specs.Form.Text.{IsEntry}
use Rattle.bk_func.specs.Form.Parts.{FitsKind, KeepsControl}
use Rattle.bk_form.specs.Edges.{edges_from, edges_to, all_from, all_to, edge_cmp, same_edge, times, count_in, touches, tears, is_torn}
use Rattle.bk_form.proofs.Bearers.{is_at_number}
use Rattle.bk_form.proofs.Lists.{counted_at}

-- counts of tests that agree
pub counts_alike : {A : Type 0} (p q : A → Bool) → ((x : A) → p x ≡ q x) → (xs : List A) → count_by p xs ≡ count_by q xs
counts_alike p q h [] = refl
counts_alike p q h (x ∷ xs) =
    rw (sum_by-cons (λ y. cond (p y) 1 0) x xs, sum_by-cons (λ y. cond (q y) 1 0) x xs, h x, counts_alike p q h xs) refl

counts_none : {A : Type 0} (xs : List A) → count_by (λ (x : A). false) xs ≡ 0
counts_none [] = refl
counts_none {A} (x ∷ xs) = sum_by-cons (λ (y : A). 0) x xs ∙ (rw (counts_none xs) refl)

-- one block's part in the count of an edge
from_block : (b : BlockRecord) (a n : ℕ) → count_by (same_edge (a, n)) (edges_from b) ≡ cond (b.id == a) (count_by (λ s. s == n) b.succs) 0
from_block b a n =
    fold-map (λ c e. c + cond (same_edge (a, n) e) 1 0) (λ s. (b.id, s)) 0 b.succs
    ∙ (elim (b.id == a) as (λ t. count_by (λ s. t && (s == n)) b.succs ≡ cond t (count_by (λ s. s == n) b.succs) 0) [ true ↦ refl | false ↦ counts_none b.succs ])

to_block : (b : BlockRecord) (a n : ℕ) → count_by (same_edge (a, n)) (edges_to b) ≡ cond (b.id == n) (count_by (λ p. p == a) b.preds) 0
to_block b a n =
    fold-map (λ c e. c + cond (same_edge (a, n) e) 1 0) (λ p. (p, b.id)) 0 b.preds
    ∙ (elim (b.id == n) as (λ t. count_by (λ p. (p == a) && t) b.preds ≡ cond t (count_by (λ p. p == a) b.preds) 0) [
      | true ↦ counts_alike (λ p. (p == a) && true) (λ p. p == a) (λ p. yes (p == a)) b.preds
      | false ↦ counts_alike (λ p. (p == a) && false) (λ p. false) (λ p. no (p == a)) b.preds ∙ counts_none b.preds
    ])
  where
    yes : (t : Bool) → (t && true) ≡ t
    yes true = refl
    yes false = refl

    no : (t : Bool) → (t && false) ≡ false
    no true = refl
    no false = refl

from_blocks : (a n : ℕ) (bs : List BlockRecord) → sum_by (λ b. cond (b.id == a) (count_by (λ s. s == n) b.succs) 0) bs ≡ times (flat_map edges_from bs) (a, n)
unfolding times
from_blocks a n [] = refl
from_blocks a n (b ∷ bs) =
    rw (
      sum_by-cons (λ (b : BlockRecord). cond (b.id == a) (count_by (λ s. s == n) b.succs) 0) b bs,
      sum_by-append (λ e. cond (same_edge (a, n) e) 1 0) (edges_from b) (flat_map edges_from bs),
      from_block b a n,
      from_blocks a n bs,
    ) refl

to_blocks : (a n : ℕ) (bs : List BlockRecord) → sum_by (λ b. cond (b.id == n) (count_by (λ p. p == a) b.preds) 0) bs ≡ times (flat_map edges_to bs) (a, n)
unfolding times
to_blocks a n [] = refl
to_blocks a n (b ∷ bs) =
    rw (
      sum_by-cons (λ (b : BlockRecord). cond (b.id == n) (count_by (λ p. p == a) b.preds) 0) b bs,
      sum_by-append (λ e. cond (same_edge (a, n) e) 1 0) (edges_to b) (flat_map edges_to bs),
      to_block b a n,
      to_blocks a n bs,
    ) refl

same_ends : {x y : ℕ × ℕ} → x.0 ≡ y.0 → x.1 ≡ y.1 → x ≡ y
same_ends {x} {y} p q = rw (p, q) refl

-- an edge that is not listed as often on both sides is listed on one
listed : (from to es : List (ℕ × ℕ)) (id : ℕ) (e : ℕ × ℕ) → 0 < times es e → touches id e ≡ true → (times from e ≡ times to e → ⊥)
    → list_any (tears (times from) (times to) id) es ≡ true
unfolding times
listed from to es id e l t apart =
    let k = position_or_len (same_edge e) es in
    let within = counted_at (same_edge e) es l in
    let found = passes_at_first (same_edge e) es e within in
    let same = and_parts ((get_or es k e).0 == e.0) ((get_or es k e).1 == e.1) found in
    let at : get_or es k e ≡ e = same_ends (eqb-true (get_or es k e).0 e.0 same.0) (eqb-true (get_or es k e).1 e.1 same.1) in
    list_any_at (tears (times from) (times to) id) es k e within
    (rw at (and_from (not (times from e == times to e)) (touches id e) (not_from_false (times from e == times to e) (ne_eqb (times from e) (times to e) apart)) t))

pub whole_edges : (from to : List (ℕ × ℕ)) (id : ℕ) (e : ℕ × ℕ) → is_torn from to id ≡ false → touches id e ≡ true → times from e ≡ times to e
whole_edges from to id e h t =
    let parts = or_parts (list_any (tears (times from) (times to) id) from) (list_any (tears (times from) (times to) id) to) h in
    ⊎_elim (λ (same : times from e ≡ times to e). same)
    (λ apart. absurd (⊎_elim
    (λ (none : times from e ≡ 0). false≢true (sym parts.1 ∙ listed from to to id e (omega arith) t apart))
    (λ (some : times from e ≡ 0 → ⊥). false≢true (sym parts.0 ∙ listed from to from id e (omega arith) t apart))
    (cases_eq (times from e) 0)))
    (cases_eq (times from e) (times to e))

pub torn_edge : (from to : List (ℕ × ℕ)) (id : ℕ) → is_torn from to id ≡ true → (e : ℕ × ℕ) × (touches id e ≡ true) × ¬ (times from e ≡ times to e)
torn_edge from to id h =
    ⊎_elim (found from) (found to) (or_cases (list_any (tears (times from) (times to) id) from) (list_any (tears (times from) (times to) id) to) h)
  where
    found : (es : List (ℕ × ℕ)) → list_any (tears (times from) (times to) id) es ≡ true → (e : ℕ × ℕ) × (touches id e ≡ true) × ¬ (times from e ≡ times to e)
    found es h =
        let (k, e, m, f, p) = Any-from_list_any (tears (times from) (times to) id) es h in
        let parts = and_parts (not (times from e == times to e)) (touches id e) p in
        (e, parts.1, λ same. false≢true (sym (not-true (times from e == times to e) parts.0) ∙ eq-eqb (times from e) (times to e) same))

pub kept : (f : FuncRecord) (b : BlockRecord) → FitsKind b.kind b.succs b.control → (IsEntry f b → b.preds ≡ []) → is_torn (all_from f) (all_to f) b.id ≡ false → KeepsControl f b
kept f b k e t = record {
  kind = k;
  entry = e;
  out = λ n. from_blocks b.id n f.blocks ∙ (whole_edges (all_from f) (all_to f) b.id (b.id, n) t (or_left (b.id == b.id) (n == b.id) (eq-eqb b.id b.id refl)) ∙ sym (to_blocks b.id n f.blocks));
  into = λ n. from_blocks n b.id f.blocks ∙ (whole_edges (all_from f) (all_to f) b.id (n, b.id) t (or_right (n == b.id) (b.id == b.id) (eq-eqb b.id b.id refl)) ∙ sym (to_blocks n b.id f.blocks));
}

pub torn_breaks : (f : FuncRecord) (b : BlockRecord) → is_torn (all_from f) (all_to f) b.id ≡ true → ¬ KeepsControl f b
torn_breaks f b t k =
    let (e, touched, apart) = torn_edge (all_from f) (all_to f) b.id t in
    apart (⊎_elim
    (λ h. let x = eqb-true e.0 b.id h in sym (from_blocks e.0 e.1 f.blocks) ∙ ((rw x (k.out e.1)) ∙ to_blocks e.0 e.1 f.blocks))
    (λ h. let x = eqb-true e.1 b.id h in sym (from_blocks e.0 e.1 f.blocks) ∙ ((rw x (k.into e.0)) ∙ to_blocks e.0 e.1 f.blocks))
    (or_cases (e.0 == b.id) (e.1 == b.id) touched))

-- a look-up by edges finds the same edge
same_then : (a b : Ordering) → is_eq (ordering_then a b) ≡ (is_eq a && is_eq b)
same_then Less b = refl
same_then Equal b = refl
same_then Greater b = refl

-- one more edge is counted
pub times_more : (es : List (ℕ × ℕ)) (i : ℕ) (d : ℕ × ℕ) (old new : BTreeMap (ℕ × ℕ) ℕ) → i < length es → ((e : ℕ × ℕ) → count_in old e ≡ times (take i es) e)
    → ((e : ℕ × ℕ) → get edge_cmp new e ≡ cond (is_at (edge_cmp (get_or es i d)) e) (Some (count_in old (get_or es i d) + 1)) (get edge_cmp old e))
    → (e : ℕ × ℕ) → count_in new e ≡ times (take (i + 1) es) e
unfolding times
times_more es i d old new l before after e =
    let x : ℕ × ℕ = get_or es i d in
    let same : is_at (edge_cmp x) e ≡ same_edge e x = same_then (nat_cmp x.0 e.0) (nat_cmp x.1 e.1) ∙ (rw (is_at_number x.0 e.0, is_at_number x.1 e.1) refl) in
    let grown : count_by (same_edge e) (take (i + 1) es) ≡ count_by (same_edge e) (take i es) + cond (same_edge e x) 1 0 =
    rw (take_more es i d l) (sum_by_push (λ y. cond (same_edge e y) 1 0) (take i es) x) in
    ap (λ o. unwrap_or o 0) (after e) ∙ (rw (same, grown) (⊎_elim
    (λ (t : same_edge e x ≡ true).
    let parts = and_parts (x.0 == e.0) (x.1 == e.1) t in
    let at : x ≡ e = same_ends (eqb-true x.0 e.0 parts.0) (eqb-true x.1 e.1 parts.1) in
    rw (t, at, before e) refl)
    (λ (t : same_edge e x ≡ false). rw (t, add-zero) (before e))
    (cases_Bool (same_edge e x))))

pub times_below : (es : List (ℕ × ℕ)) (e : ℕ × ℕ) → times es e ≤ length es
unfolding times
times_below es e = count_by-le-length (same_edge e) es

-- one more edge is looked at
pub tears_more : (es : List (ℕ × ℕ)) (i : ℕ) (d : ℕ × ℕ) (from to : ℕ × ℕ → ℕ) (id : ℕ) (start old new : Bool) → i < length es
    → old ≡ (start || list_any (tears from to id) (take i es)) → new ≡ (old || tears from to id (get_or es i d))
    → new ≡ (start || list_any (tears from to id) (take (i + 1) es))
tears_more es i d from to id start old new l before after =
    after ∙ (rw (before, list_any_more (tears from to id) es i d l) (assoc start (list_any (tears from to id) (take i es)) (tears from to id (get_or es i d))))
  where
    assoc : (x y z : Bool) → ((x || y) || z) ≡ (x || (y || z))
    assoc true y z = refl
    assoc false y z = refl

pub torn_here : (from to : ℕ × ℕ → ℕ) (id : ℕ) (x : ℕ × ℕ) (old : Bool) → (from x ≡ to x → ⊥) → (old || touches id x) ≡ (old || tears from to id x)
torn_here from to id x old apart = rw (ne_eqb (from x) (to x) apart) refl

pub whole_here : (from to : ℕ × ℕ → ℕ) (id : ℕ) (x : ℕ × ℕ) (old : Bool) → from x ≡ to x → old ≡ (old || tears from to id x)
whole_here from to id x true same = refl
whole_here from to id x false same = rw (eq-eqb (from x) (to x) same) refl

-- a block whose kind and place are in order is kept exactly where none of its edges is torn
pub kept_or_torn : (f : FuncRecord) (b : BlockRecord) (t : Bool) → FitsKind b.kind b.succs b.control → (IsEntry f b → b.preds ≡ [])
    → t ≡ is_torn (all_from f) (all_to f) b.id → MatchBool (not t) (KeepsControl f b) (¬ KeepsControl f b)
kept_or_torn f b true k e h = torn_breaks f b (sym h)
kept_or_torn f b false k e h = kept f b k e (sym h)
