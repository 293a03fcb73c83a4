-- The next pair, and all pairs.
use Rattle.std.proofs.Common.{◌≡◌, ℕ, zero, suc, ◌+◌, ◌-◌, ◌<◌, ◌≤◌, refl, ap, sym, ◌∙◌, subst, arith, List, [], ◌∷◌, ◌++◌, Option, Some, None, Bool, true, false, eq-eqb, ne_eqb, eqb-true, append_assoc, append-nil}
use Rattle.std.specs.Prelude.{IsSome}
use Rattle.std.specs.List.{AllByRecursion, find}
use Rattle.std.specs.Map.{values_of, remove_entry}
use Rattle.std.specs.Ordering.{nat_cmp}
use Rattle.std.specs.BTreeMap.{BTreeMap, get, is_at, values}
use Rattle.bk_func.specs.declared.parts.Loc.TheVariants.{Swap}
use Rattle.bk_shuffle.specs.Sequence.{Move, place_of, is_free, without, next_by, next, onward, sequenced}
use Rattle.bk_shuffle.specs.Left.{IsAtItsPlace, AreLeft, takers, IsLeastFree}
use Rattle.bk_shuffle.proofs.Entries.{values_out, found_placed, find_least, find_none, each_both, each_found}

pub next_free : (ms : List Move) (m : Move) → find (is_free ms) ms ≡ Some m → next ms ≡ Some (m, without (place_of m.1) ms)
unfolding next
next_free [] m f = absurd cc
next_free (x ∷ xs) m f = ap (λ o. Some (next_by x xs o)) f

pub next_swap : (x : Move) (xs : List Move) → find (is_free (x ∷ xs)) (x ∷ xs) ≡ None → next (x ∷ xs) ≡ Some ((x.0, Swap), (Swap, x.1) ∷ xs)
unfolding next
next_swap x xs f = ap (λ o. Some (next_by x xs o)) f

pub next_end : next [] ≡ None
unfolding next
next_end = refl

some : (o : Option Move) (m : Move) → o ≡ Some m → IsSome o
some o m e = subst (λ (x : Option Move). IsSome x) (sym e) refl

-- the move to the least free place is the next
pub next_least : (old new : BTreeMap ℕ Move) (k : ℕ) (m : Move) → AreLeft old → IsLeastFree old k → get nat_cmp old k ≡ Some m → new.entries ≡ remove_entry (is_at (nat_cmp k)) old.entries →
    next (values old) ≡ Some (m, values new)
next_least old new k m a f g e =
    let p = found_placed k m old.entries a.placed g in
    let ok : Move → Bool = is_free (values old) in
    let o : is_free (values old) m ≡ true = eq-eqb (takers old (place_of m.1)) 0 (ap (takers old) p.0 ∙ f.free) in
    let low : AllByRecursion (λ e. is_free (values old) e.1 ≡ true → k ≤ e.0) old.entries =
    each_both (λ e. get nat_cmp old e.0 ≡ Some e.1) IsAtItsPlace (λ e. is_free (values old) e.1 ≡ true → k ≤ e.0) old.entries
    (λ e h q t. f.least e.0 (some (get nat_cmp old e.0) e.1 h) (sym (ap (takers old) q.0) ∙ eqb-true (takers old (place_of e.1.1)) 0 t)) (each_found old a.ordered) a.placed
    in
    let h = next_free (values old) m (find_least (is_free (values old)) k m old.entries a.ordered g o low) in
    let w : without (place_of m.1) (values old) ≡ values new = ap (λ n. without n (values old)) p.0 ∙ (sym (values_out k old.entries a.placed) ∙ ap values_of (sym e)) in
    h ∙ ap (λ ms. Some (m, ms)) w

-- where no place is free, the source of the first move goes to the swap word
pub next_swapped : (old new : BTreeMap ℕ Move) (k : ℕ) (m : Move) (es : List (ℕ × Move)) → AreLeft old → ((p : ℕ) → IsSome (get nat_cmp old p) → ¬ (takers old p ≡ 0)) → old.entries ≡ (k, m) ∷ es → new.entries ≡ (k, (Swap, m.1)) ∷ es →
    next (values old) ≡ Some ((m.0, Swap), values new)
next_swapped old new k m es a none x y =
    let each : AllByRecursion (λ e. is_free (values old) e.1 ≡ false) old.entries =
    each_both (λ e. get nat_cmp old e.0 ≡ Some e.1) IsAtItsPlace (λ e. is_free (values old) e.1 ≡ false) old.entries
    (λ e h q. ne_eqb (takers old (place_of e.1.1)) 0 (λ z. none e.0 (some (get nat_cmp old e.0) e.1 h) (sym (ap (takers old) q.0) ∙ z))) (each_found old a.ordered) a.placed
    in
    let f : find (is_free (values old)) (values old) ≡ None = find_none (is_free (values old)) old.entries each in
    let v : values old ≡ m ∷ values_of es = ap values_of x in
    let g : find (is_free (m ∷ values_of es)) (m ∷ values_of es) ≡ None = subst (λ (ms : List Move). find (is_free ms) ms ≡ None) v f in
    ap next v ∙ (next_swap m (values_of es) g ∙ ap (λ xs. Some ((m.0, Swap), values_of xs)) (sym y))

-- the pairs so far, and those that follow

pub sequenced_more : (n : ℕ) (ms ns : List Move) (p : Move) → next ms ≡ Some (p, ns) → sequenced (suc n) ms ≡ p ∷ sequenced n ns
unfolding sequenced
sequenced_more n ms ns p e = ap (λ o. onward o (sequenced n)) e

pub sequenced_end : (n : ℕ) (ms : List Move) → next ms ≡ None → sequenced n ms ≡ []
unfolding sequenced
sequenced_end zero ms e = refl
sequenced_end (suc n) ms e = ap (λ o. onward o (sequenced n)) e

sequenced_none : (ms : List Move) → sequenced zero ms ≡ []
unfolding sequenced
sequenced_none ms = refl

pub pairs_more : (n turn : ℕ) (ps ms ns all : List Move) (p : Move) → turn < n → next ms ≡ Some (p, ns) → ps ++ sequenced (n - turn) ms ≡ all → (ps ++ p ∷ []) ++ sequenced (n - (turn + 1)) ns ≡ all
pairs_more n turn ps ms ns all p l e h =
    let k : n - turn ≡ suc (n - (turn + 1)) = omega arith in
    let s : sequenced (n - turn) ms ≡ p ∷ sequenced (n - (turn + 1)) ns = ap (λ j. sequenced j ms) k ∙ sequenced_more (n - (turn + 1)) ms ns p e in
    append_assoc ps (p ∷ []) (sequenced (n - (turn + 1)) ns) ∙ subst (λ (x : List Move). ps ++ x ≡ all) s h

pub pairs_end : (n turn : ℕ) (ps ms all : List Move) → next ms ≡ None → ps ++ sequenced (n - turn) ms ≡ all → ps ≡ all
pairs_end n turn ps ms all e h = sym (append-nil ps) ∙ subst (λ (x : List Move). ps ++ x ≡ all) (sequenced_end (n - turn) ms e) h

pub pairs_all : (n turn : ℕ) (ps ms all : List Move) → n ≤ turn → ps ++ sequenced (n - turn) ms ≡ all → ps ≡ all
pairs_all n turn ps ms all l h =
    let k : n - turn ≡ 0 = omega arith in
    sym (append-nil ps) ∙ subst (λ (x : List Move). ps ++ x ≡ all) (ap (λ j. sequenced j ms) k ∙ sequenced_none ms) h
