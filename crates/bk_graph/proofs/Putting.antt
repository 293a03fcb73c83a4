-- What is kept of the blocks that are placed, when one more is.
use Rattle.std.proofs.Common.{◌≡◌, ◌∙◌, sym, refl, ap, ℕ, zero, suc, ◌<◌, ◌==◌, ◌&&◌, ◌||◌, not, cond, Bool, true, false, List, [], ◌∷◌, ◌++◌, length, get_or, set, replicate, Option, Some, None, ◌⊎◌, ⊎_elim, arith, position, length-set, get_or-set_same, get_or-set_other}
use Rattle.std.specs.BTreeMap.{get, is_at}
use Rattle.std.specs.List.{list_any, slice_get, last_or}
use Rattle.std.specs.Ordering.{nat_cmp}
use Rattle.std.proofs.lemmas.Bool.{cases_eq, eq-eqb, ne_eqb}
use Rattle.std.proofs.lemmas.List.{get_or_past}
use Rattle.std.proofs.lemmas.List.Folds.{list_any-append}
use Rattle.std.proofs.lemmas.Option.{slice_get_within, slice_get_cases, get_or_from_slice_get, same_Some}
use Rattle.bk_func.specs.Records.{BlockRecord, FuncRecord}
use Rattle.bk_func.specs.Form.Text.{HasBlock}
use Rattle.bk_graph.specs.declared.places.Places.{Places}
use Rattle.bk_graph.specs.Joined.{IsJoined}
use Rattle.bk_graph.specs.Layout.{is_placed, is_ready, block_named}
use Rattle.bk_graph.specs.Named.{AreFirsts, block_ids}
use Rattle.bk_graph.specs.Placing.{names, unplaced_in, ready_at}
use Rattle.bk_graph.proofs.Crossing.{sole_found}
use Rattle.bk_graph.proofs.Firsts.{is_at_number}
use Rattle.bk_graph.proofs.Laying.{once, place_sole}
use Rattle.bk_graph.proofs.Readying.{names_free, noted, ready_more}

pub block_at : (f : FuncRecord) (q : ℕ) (b : BlockRecord) → slice_get f.blocks q ≡ Some b → HasBlock f b
block_at f q b e = (q, slice_get_within f.blocks q b e, get_or_from_slice_get f.blocks q b b e)

-- blocks at two places have two numbers
apart : (f : FuncRecord) → IsJoined f → (p q : ℕ) (a b : BlockRecord) → slice_get f.blocks p ≡ Some a → slice_get f.blocks q ≡ Some b
    → (q ≡ p → ⊥) → a.id ≡ b.id → ⊥
apart f g p q a b e h other same =
    other (same_Some q p (sym (place_sole f g b q h) ∙ ap (λ n. position (λ x. x == n) (block_ids f.blocks)) (sym same) ∙ place_sole f g a p e))

-- the marks agree with the numbers
abbrev pub AreMarks : FuncRecord → List ℕ → List Bool → Type 0
AreMarks f N ps = (q : ℕ) (b : BlockRecord) → slice_get f.blocks q ≡ Some b → get_or ps q true ≡ is_placed N b.id

pub marks_put : (f : FuncRecord) → IsJoined f → (N : List ℕ) (ps : List Bool) (p : ℕ) (a : BlockRecord) → slice_get f.blocks p ≡ Some a
    → length ps ≡ length f.blocks → AreMarks f N ps → AreMarks f (N ++ a.id ∷ []) (set ps p true)
marks_put f g N ps p a e size marks q b h =
    let more : is_placed (N ++ a.id ∷ []) b.id ≡ (is_placed N b.id || ((a.id == b.id) || false)) = list_any-append (λ m. m == b.id) N (a.id ∷ []) in
    let within : p < length f.blocks = slice_get_within f.blocks p a e in
    ⊎_elim
    (λ (same : q ≡ p).
    let one : a.id ≡ b.id = ap (λ (x : BlockRecord). x.id) (same_Some a b (sym e ∙ ap (slice_get f.blocks) (sym same) ∙ h)) in
    ap (λ k. get_or (set ps p true) k true) same ∙ get_or-set_same ps p true true (omega arith)
    ∙ sym (more ∙ ap (λ t. is_placed N b.id || (t || false)) (eq-eqb a.id b.id one) ∙ or_true (is_placed N b.id)))
    (λ (other : q ≡ p → ⊥).
    get_or-set_other ps p q true true other ∙ marks q b h
    ∙ sym (more ∙ ap (λ t. is_placed N b.id || (t || false)) (ne_eqb a.id b.id (apart f g p q a b e h other)) ∙ or_false (is_placed N b.id)))
    (cases_eq q p)
  where
    or_true : (t : Bool) → (t || true) ≡ true
    or_true true = refl
    or_true false = refl

    or_false : (t : Bool) → (t || false) ≡ t
    or_false true = refl
    or_false false = refl

none_noted : (m : Places) (ps : List Bool) (q : ℕ) (ss : List ℕ) → get_or ps q true ≡ true → list_any (λ s. names q (unplaced_in m ps s)) ss ≡ false
none_noted m ps q [] h = refl
none_noted m ps q (s ∷ ss) h =
    let o : Option ℕ = get nat_cmp m.places s in
    ap (λ t. t || list_any (λ s. names q (unplaced_in m ps s)) ss) (names_free q ps o ∙ ap (λ t. names q o && not t) h)
    ∙ ap (λ t. (names q o && false) || t) (none_noted m ps q ss h) ∙ shut (names q o)
  where
    shut : (t : Bool) → ((t && false) || false) ≡ false
    shut true = refl
    shut false = refl

-- the places of the blocks that are ready, when one more is placed
pub ready_put : (f : FuncRecord) → IsJoined f → (m : Places) → AreFirsts (block_ids f.blocks) m → (N : List ℕ) (ps : List Bool) (p : ℕ) (a : BlockRecord)
    → slice_get f.blocks p ≡ Some a → length ps ≡ length f.blocks → AreMarks f N ps → (q : ℕ) (old mid new : Bool)
    → old ≡ ready_at N (slice_get f.blocks q) → mid ≡ cond (is_at (nat_cmp p) q) false old
    → new ≡ (mid || list_any (λ s. names q (unplaced_in m (set ps p true) s)) a.succs) → new ≡ ready_at (N ++ a.id ∷ []) (slice_get f.blocks q)
ready_put f g m firsts N ps p a e size marks q old mid new before removed after =
    let within : p < length f.blocks = slice_get_within f.blocks p a e in
    let long : length (set ps p true) ≡ length ps = length-set ps p true in
    ⊎_elim
    (λ (b, l, h, r). inside b h within (cases_eq q p) ∙ ap (ready_at (N ++ a.id ∷ [])) (sym h))
    (λ (past, h).
    after ∙ ap (λ t. t || added) (removed ∙ ap (cond (is_at (nat_cmp p) q) false) (before ∙ ap (ready_at N) h) ∙ never (is_at (nat_cmp p) q))
    ∙ none_noted m (set ps p true) q a.succs (get_or_past (set ps p true) q true (omega arith)) ∙ ap (ready_at (N ++ a.id ∷ [])) (sym h))
    (slice_get_cases f.blocks q).1
  where
    added : Bool
    added = list_any (λ s. names q (unplaced_in m (set ps p true) s)) a.succs

    never : (t : Bool) → cond t false false ≡ false
    never true = refl
    never false = refl

    inside : (b : BlockRecord) → slice_get f.blocks q ≡ Some b → p < length f.blocks → (q ≡ p) ⊎ (q ≡ p → ⊥) → new ≡ is_ready (N ++ a.id ∷ []) b
    inside b h within = ⊎_elim
        (λ (same : q ≡ p).
        let gone : get_or (set ps p true) q true ≡ true = ap (λ k. get_or (set ps p true) k true) same ∙ get_or-set_same ps p true true (omega arith) in
        after ∙ ap (λ t. t || added) (removed ∙ ap (λ t. cond t false old) (is_at_number p q ∙ eq-eqb p q (sym same)))
        ∙ none_noted m (set ps p true) q a.succs gone
        ∙ sym (ap (λ t. not t && list_any (is_placed (N ++ a.id ∷ [])) b.preds) (sym (marks_put f g N ps p a e size marks q b h) ∙ gone)))
        (λ (other : q ≡ p → ⊥).
        after ∙ ap (λ t. t || added) (removed ∙ ap (λ t. cond t false old) (is_at_number p q ∙ ne_eqb p q (λ s. other (sym s))) ∙ before ∙ ap (ready_at N) h)
        ∙ ap (λ t. is_ready N b || t) (noted f g m firsts (set ps p true) b q a.succs h
        ∙ ap (λ t. list_any (λ s. s == b.id) a.succs && not t) (get_or-set_other ps p q true true other ∙ marks q b h))
        ∙ sym (ready_more f g N a b (block_at f p a e) (block_at f q b h) (apart f g p q a b e h other)))

-- the last number is that of the block which is placed last
pub last_put : (f : FuncRecord) → IsJoined f → (N : List ℕ) (p : ℕ) (a : BlockRecord) → slice_get f.blocks p ≡ Some a
    → slice_get f.blocks p ≡ block_named f (last_or None (N ++ a.id ∷ []))
last_put f g N p a e =
    e ∙ sym (ap (block_named f) (last_more None N a.id) ∙ sole_found f.blocks a (once f g a (block_at f p a e)) (block_at f p a e))
  where
    last_more : (o : Option ℕ) (xs : List ℕ) (x : ℕ) → last_or o (xs ++ x ∷ []) ≡ Some x
    last_more o [] x = refl
    last_more o (z ∷ xs) x = last_more (Some z) xs x

-- no block is placed
pub marks_none : (f : FuncRecord) → AreMarks f [] (replicate (length f.blocks) false)
marks_none f q b e = unmarked (length f.blocks) q (slice_get_within f.blocks q b e)
  where
    unmarked : (n q : ℕ) → q < n → get_or (replicate n false) q true ≡ false
    unmarked zero q l = absurd (omega (arith, l))
    unmarked (suc n) zero l = refl
    unmarked (suc n) (suc q) l = unmarked n q (omega (arith, l))

pub ready_none : (o : Option BlockRecord) → false ≡ ready_at [] o
ready_none None = refl
ready_none (Some b) = none b.preds
  where
    none : (ps : List ℕ) → false ≡ list_any (is_placed []) ps
    none [] = refl
    none (p ∷ ps) = none ps
