-- The blocks that are ready, when one more is placed.
use Rattle.std.proofs.Common.{◌≡◌, ◌∙◌, sym, refl, ap, subst, ℕ, ◌+◌, ◌<◌, ◌≤◌, ◌==◌, ◌&&◌, ◌||◌, not, Bool, true, false, if◌then◌else◌, List, [], ◌∷◌, ◌++◌, length, get_or, take, drop, zero, suc, Option, Some, None, ⊎_elim, arith, position}
use Rattle.std.specs.List.{list_any, slice_get}
use Rattle.std.proofs.lemmas.Bool.{cases_eq, eq-eqb, ne_eqb, eqb-true}
use Rattle.std.specs.Option.{option_or}
use Rattle.std.proofs.lemmas.List.{drop_more}
use Rattle.std.proofs.lemmas.List.Folds.{list_any-append, list_any_more}
use Rattle.std.proofs.lemmas.List.Quantifiers.{position-Some}
use Rattle.bk_func.specs.Records.{BlockRecord, FuncRecord}
use Rattle.bk_func.specs.Form.Text.{HasBlock}
use Rattle.bk_graph.specs.declared.places.Places.{Places}
use Rattle.bk_graph.specs.Joined.{IsJoined}
use Rattle.bk_graph.specs.Named.{AreFirsts, block_ids}
use Rattle.bk_graph.specs.Layout.{is_placed, is_ready}
use Rattle.bk_graph.specs.Placing.{if_free, unplaced_in, first_in, names}
use Rattle.bk_graph.proofs.Laying.{place_sole, edges_agree}

-- a free place is named where the place is named and is free
pub names_free : (q : ℕ) (ps : List Bool) (o : Option ℕ) → names q (if_free ps o) ≡ (names q o && not (get_or ps q true))
names_free q ps None = refl
names_free q ps (Some p) = ⊎_elim
    (λ (e : p ≡ q).
    subst (λ n. names q (if get_or ps n true then None else Some n) ≡ ((n == q) && not (get_or ps q true))) (sym e)
    (rw (eq-eqb q q refl) (elim (get_or ps q true) as (λ t. names q (if t then None else Some q) ≡ not t) [ true ↦ refl | false ↦ eq-eqb q q refl ])))
    (λ (ne : p ≡ q → ⊥).
    rw (ne_eqb p q ne) (elim (get_or ps p true) as (λ t. names q (if t then None else Some p) ≡ false) [ true ↦ refl | false ↦ ne_eqb p q ne ]))
    (cases_eq p q)

-- a number's place is that of the block which bears it
names_first : (f : FuncRecord) → IsJoined f → (b : BlockRecord) (q s : ℕ) → slice_get f.blocks q ≡ Some b
    → names q (position (λ x. x == s) (block_ids f.blocks)) ≡ (s == b.id)
names_first f g b q s e = ⊎_elim
    (λ (same : s ≡ b.id).
    subst (λ n. names q (position (λ x. x == n) (block_ids f.blocks)) ≡ (n == b.id)) (sym same)
    (ap (names q) (place_sole f g b q e) ∙ eq-eqb q q refl ∙ sym (eq-eqb b.id b.id refl)))
    (λ (other : s ≡ b.id → ⊥). go other (position (λ x. x == s) (block_ids f.blocks)) refl ∙ sym (ne_eqb s b.id other))
    (cases_eq s b.id)
  where
    go : (s ≡ b.id → ⊥) → (o : Option ℕ) → position (λ x. x == s) (block_ids f.blocks) ≡ o → names q o ≡ false
    go other None h = refl
    go other (Some p) h = ne_eqb p q (λ same. other (
        let there = position-Some (λ x. x == s) (block_ids f.blocks) p 0 h in
        let here = position-Some (λ x. x == b.id) (block_ids f.blocks) q 0 (place_sole f g b q e) in
        sym (eqb-true (get_or (block_ids f.blocks) p 0) s there.1) ∙ ap (λ i. get_or (block_ids f.blocks) i 0) same
        ∙ eqb-true (get_or (block_ids f.blocks) q 0) b.id here.1))

any_same : (p r : ℕ → Bool) (xs : List ℕ) → ((x : ℕ) → p x ≡ r x) → list_any p xs ≡ list_any r xs
any_same p r [] h = refl
any_same p r (x ∷ xs) h = rw (h x, any_same p r xs h) refl

any_and : (p : ℕ → Bool) (t : Bool) (xs : List ℕ) → list_any (λ x. p x && t) xs ≡ (list_any p xs && t)
any_and p t [] = refl
any_and p t (x ∷ xs) = rw (any_and p t xs) (elim (p x) as (λ u. ((u && t) || (list_any p xs && t)) ≡ ((u || list_any p xs) && t)) [
  | true ↦ (elim t as (λ v. (v || (list_any p xs && v)) ≡ v) [ true ↦ refl | false ↦ and_false (list_any p xs) ])
  | false ↦ refl
])
  where
    and_false : (u : Bool) → (u && false) ≡ false
    and_false true = refl
    and_false false = refl

-- whether a successor of the block that is placed is the free block at a place
pub noted : (f : FuncRecord) → IsJoined f → (m : Places) → AreFirsts (block_ids f.blocks) m → (ps : List Bool) (b : BlockRecord) (q : ℕ) (ss : List ℕ)
    → slice_get f.blocks q ≡ Some b → list_any (λ s. names q (unplaced_in m ps s)) ss ≡ (list_any (λ s. s == b.id) ss && not (get_or ps q true))
noted f g m firsts ps b q ss e =
    any_same (λ s. names q (unplaced_in m ps s)) (λ s. (s == b.id) && not (get_or ps q true)) ss
    (λ s. ap (λ o. names q (if_free ps o)) (firsts s) ∙ names_free q ps (position (λ x. x == s) (block_ids f.blocks))
    ∙ ap (λ t. t && not (get_or ps q true)) (names_first f g b q s e))
    ∙ any_and (λ s. s == b.id) (not (get_or ps q true)) ss

-- a block is ready when one more is placed
pub ready_more : (f : FuncRecord) → IsJoined f → (N : List ℕ) (a b : BlockRecord) → HasBlock f a → HasBlock f b → ¬ (a.id ≡ b.id)
    → is_ready (N ++ a.id ∷ []) b ≡ (is_ready N b || (list_any (λ s. s == b.id) a.succs && not (is_placed N b.id)))
ready_more f g N a b i j apart =
    let placed : is_placed (N ++ a.id ∷ []) b.id ≡ is_placed N b.id =
    list_any-append (λ m. m == b.id) N (a.id ∷ []) ∙ (rw (ne_eqb a.id b.id apart) (or_false (is_placed N b.id))) in
    let preds : list_any (is_placed (N ++ a.id ∷ [])) b.preds ≡ (list_any (is_placed N) b.preds || list_any (λ s. s == b.id) a.succs) =
    any_same (is_placed (N ++ a.id ∷ [])) (λ p. is_placed N p || (p == a.id)) b.preds
    (λ p. list_any-append (λ m. m == p) N (a.id ∷ []) ∙ ap (λ t. is_placed N p || t) (or_false (a.id == p) ∙ turned a.id p))
    ∙ any_or (is_placed N) (λ p. p == a.id) b.preds ∙ ap (λ t. list_any (is_placed N) b.preds || t) (edges_agree f g a b i j) in
    rw (placed, preds) (shuffled (is_placed N b.id) (list_any (is_placed N) b.preds) (list_any (λ s. s == b.id) a.succs))
  where
    or_false : (t : Bool) → (t || false) ≡ t
    or_false true = refl
    or_false false = refl

    turned : (x y : ℕ) → (x == y) ≡ (y == x)
    turned x y = ⊎_elim
        (λ (e : x ≡ y). eq-eqb x y e ∙ sym (eq-eqb y x (sym e)))
        (λ (ne : x ≡ y → ⊥). ne_eqb x y ne ∙ sym (ne_eqb y x (λ e. ne (sym e))))
        (cases_eq x y)

    four : (a b c d : Bool) → ((a || b) || (c || d)) ≡ ((a || c) || (b || d))
    four true b c d = refl
    four false true true d = refl
    four false true false d = refl
    four false false c d = refl

    any_or : (p r : ℕ → Bool) (xs : List ℕ) → list_any (λ x. p x || r x) xs ≡ (list_any p xs || list_any r xs)
    any_or p r [] = refl
    any_or p r (x ∷ xs) = rw (any_or p r xs) (four (p x) (r x) (list_any p xs) (list_any r xs))

    shuffled : (p x y : Bool) → (not p && (x || y)) ≡ ((not p && x) || (y && not p))
    shuffled true x y = shut y
      where
        shut : (y : Bool) → false ≡ (y && false)
        shut true = refl
        shut false = refl
    shuffled false true y = refl
    shuffled false false true = refl
    shuffled false false false = refl

-- one number more is noted
pub noted_more : (m : Places) (ps : List Bool) (ns : List ℕ) (i q : ℕ) (old now new : Bool) (o : Option ℕ) → i < length ns
    → now ≡ (old || list_any (λ s. names q (unplaced_in m ps s)) (take i ns)) → o ≡ unplaced_in m ps (get_or ns i 0) → new ≡ (now || names q o)
    → new ≡ (old || list_any (λ s. names q (unplaced_in m ps s)) (take (i + 1) ns))
noted_more m ps ns i q old now new o l before is after =
    after ∙ ap (λ t. t || names q o) before ∙ ap (λ x. (old || list_any (λ s. names q (unplaced_in m ps s)) (take i ns)) || names q x) is
    ∙ or_assoc old (list_any (λ s. names q (unplaced_in m ps s)) (take i ns)) (names q (unplaced_in m ps (get_or ns i 0)))
    ∙ ap (λ t. old || t) (sym (list_any_more (λ s. names q (unplaced_in m ps s)) ns i 0 l))
  where
    or_assoc : (a b c : Bool) → ((a || b) || c) ≡ (a || (b || c))
    or_assoc true b c = refl
    or_assoc false b c = refl

-- the first free place, from the front
pub first_more : (m : Places) (ps : List Bool) (ns : List ℕ) (i : ℕ) → i < length ns
    → first_in m ps (drop i ns) ≡ option_or (unplaced_in m ps (get_or ns i 0)) (first_in m ps (drop (i + 1) ns))
unfolding first_in
first_more m ps ns i l = ap (first_in m ps) (drop_more ns i 0 l)

pub first_end : (m : Places) (ps : List Bool) (ns : List ℕ) (i : ℕ) → length ns ≤ i → first_in m ps (drop i ns) ≡ None
unfolding first_in
first_end m ps [] zero h = refl
first_end m ps [] (suc i) h = refl
first_end m ps (n ∷ ns) zero h = absurd (omega (arith, h))
first_end m ps (n ∷ ns) (suc i) h = first_end m ps ns i (omega (arith, h))

pub ruleset first_rules = (first_more, first_end)
