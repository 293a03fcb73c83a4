-- Edges that an empty block is put on, one after the other.
use Rattle.std.proofs.Common.{◌≡◌, ◌∙◌, sym, refl, ap, subst, ℕ, zero, suc, ◌+◌, ◌<◌, ◌≤◌, ◌==◌, Bool, true, false, cond, if◌then◌else◌, List, [], ◌∷◌, ◌++◌, length, get_or, take, drop, slice_set, Option, Some, None, IsSome, ⊎_elim, ◌⊎◌, inl, inr, arith, add-one, add-zero, zero-add, position, max, fold}
use Rattle.std.specs.Prelude.{slice_index, IfSome, is_some}
use Rattle.std.specs.List.{find, position_or_len, slice_get}
use Rattle.std.specs.Option.{option_or, option_and_then}
use Rattle.std.proofs.lemmas.Bool.{cases_eq, cases_lt, eq-eqb, ne_eqb, le-ltb, false≢true}
use Rattle.std.proofs.lemmas.List.{take_more, length-take-le, map-append, length-set, get_or-set_same, get_or-set_other}
use Rattle.std.proofs.lemmas.List.Folds.{find_at, find-append, fold-map}
use Rattle.std.proofs.lemmas.List.Sums.{fold-append}
use Rattle.std.proofs.lemmas.Option.{same_Some, none-some, slice_get-get_or}
use Rattle.bk_func.specs.Records.{BlockRecord, FuncRecord}
use Rattle.bk_func.specs.Edits.{greatest_block, place_of, block_of, change_block, with_succ, with_pred, between, split, successor_in, rank_in, IsEdge}
use Rattle.bk_graph.specs.Named.{block_ids}
use Rattle.bk_graph.specs.Critical.{EdgeRecord, AreEdges, split_each, has_several, edge_at, edges_from}
use Rattle.bk_graph.proofs.Listed.{position_push, position-map, find_position}

either_way : {X : Type 0} (t : Bool) (x y : X) (P : X → Type 0) → P x → P y → P (if t then x else y)
either_way true x y P p q = p
either_way false x y P p q = q

abbrev KeepsNumber : (BlockRecord → BlockRecord) → Type 0
KeepsNumber g = (b : BlockRecord) → (g b).id ≡ b.id

ids_changed : (n : ℕ) (g : BlockRecord → BlockRecord) → KeepsNumber g → (bs : List BlockRecord) → block_ids (change_block n g bs) ≡ block_ids bs
unfolding change_block
ids_changed n g k [] = refl
ids_changed n g k (b ∷ bs) =
    either_way (b.id == n) (g b ∷ bs) (b ∷ change_block n g bs) (λ cs. block_ids cs ≡ b.id ∷ block_ids bs)
    (ap (λ i. i ∷ block_ids bs) (k b)) (ap (λ is. b.id ∷ is) (ids_changed n g k bs))

found_changed : (n a : ℕ) (g : BlockRecord → BlockRecord) → KeepsNumber g → (bs : List BlockRecord) (b : BlockRecord) → find (λ x. x.id == a) bs ≡ Some b
    → find (λ x. x.id == a) (change_block n g bs) ≡ Some (if a == n then g b else b)
unfolding change_block
found_changed n a g k [] b h = absurd (none-some b h)
found_changed n a g k (c ∷ cs) b h = ⊎_elim
    (λ (there : c.id ≡ n). rw (eq-eqb c.id n there) (⊎_elim
    (λ (here : c.id ≡ a).
    let s : c ≡ b = same_Some c b (rw (eq-eqb c.id a here) at h) in
    rw (eq-eqb (g c).id a (k c ∙ here), eq-eqb a n (sym here ∙ there)) (ap (λ x. Some (g x)) s))
    (λ (other : c.id ≡ a → ⊥).
    rw (ne_eqb (g c).id a (λ e. other (sym (k c) ∙ e)), ne_eqb a n (λ e. other (there ∙ sym e))) (rw (ne_eqb c.id a other) at h))
    (cases_eq c.id a)))
    (λ (apart : c.id ≡ n → ⊥). rw (ne_eqb c.id n apart) (⊎_elim
    (λ (here : c.id ≡ a).
    let s : c ≡ b = same_Some c b (rw (eq-eqb c.id a here) at h) in
    rw (eq-eqb c.id a here, ne_eqb a n (λ e. apart (here ∙ e))) (ap Some s))
    (λ (other : c.id ≡ a → ⊥).
    rw (ne_eqb c.id a other) (found_changed n a g k cs b (rw (ne_eqb c.id a other) at h)))
    (cases_eq c.id a)))
    (cases_eq c.id n)

-- a block with the number is found where there is a place of one, and only there
pub some_place : {A : Type 0} (p : A → Bool) (xs : List A) (x : A) → find p xs ≡ Some x → IsSome (position p xs)
some_place {A} p xs x e = go (position p xs) (sym (find_position p xs) ∙ e)
  where
    go : (o : Option ℕ) → option_and_then (slice_get xs) o ≡ Some x → is_some o ≡ true
    go None h = absurd (none-some x h)
    go (Some i) h = refl

pub some_found : {A : Type 0} (p : A → Bool) (xs : List A) → IsSome (position p xs) → (x : A) × (find p xs ≡ Some x)
some_found {A} p [] h = absurd (false≢true h)
some_found {A} p (x ∷ xs) h = ⊎_elim
    (λ (l : position_or_len p (x ∷ xs) < length (x ∷ xs)).
    (get_or (x ∷ xs) (position_or_len p (x ∷ xs)) x, find_at p (x ∷ xs) ∙ slice_get-get_or (x ∷ xs) (position_or_len p (x ∷ xs)) x l))
    (λ (g : length (x ∷ xs) ≤ position_or_len p (x ∷ xs)).
    absurd (false≢true (rw (le-ltb (position_or_len p (x ∷ xs)) (length (x ∷ xs)) g) at h)))
    (cases_lt (position_or_len p (x ∷ xs)) (length (x ∷ xs)))

-- an edge, by the block that it leaves
record EdgeOf (f : FuncRecord) (a k : ℕ) : Type 0 where
  pub block : BlockRecord
  pub named : block_of f a ≡ Some block
  pub within : k < length block.succs
  pub successor : IsSome (place_of f (slice_index block.succs k))

pub edge_of : (f : FuncRecord) (a k : ℕ) (b : BlockRecord) → block_of f a ≡ Some b → k < length b.succs → IsSome (place_of f (slice_index b.succs k)) → IsEdge f a k
edge_of f a k b e l s = record {
  block = some_place (λ x. x.id == a) f.blocks b e;
  within = subst (λ o. IfSome o (λ x. k < length x.succs)) (sym e) l;
  successor = subst (λ o. IsSome (place_of f (successor_in o k))) (sym e) s;
}

of_edge : (f : FuncRecord) (a k : ℕ) → IsEdge f a k → EdgeOf f a k
of_edge f a k h =
    let (b, e) = some_found (λ (x : BlockRecord). x.id == a) f.blocks h.block in
    record {
      block = b;
      named = e;
      within = subst (λ o. IfSome o (λ x. k < length x.succs)) e h.within;
      successor = subst (λ o. IsSome (place_of f (successor_in o k))) e h.successor;
    }

-- the numbers of the blocks after a split
split_ids : (f : FuncRecord) (from index : ℕ) → block_ids (split f from index).blocks ≡ block_ids f.blocks ++ (greatest_block f + 1) ∷ []
split_ids f from index =
    let to : ℕ = successor_in (block_of f from) index in
    let k : ℕ = rank_in (block_of f from) index in
    let id : ℕ = greatest_block f + 1 in
    map-append (λ (b : BlockRecord). b.id) (change_block to (with_pred from id k) (change_block from (with_succ index id) f.blocks)) (between id from to ∷ [])
    ∙ ap (λ is. is ++ id ∷ []) (ids_changed to (with_pred from id k) (λ b. refl) (change_block from (with_succ index id) f.blocks)
    ∙ ids_changed from (with_succ index id) (λ b. refl) f.blocks)

place_by_ids : (bs : List BlockRecord) (m : ℕ) → position (λ b. b.id == m) bs ≡ position (λ x. x == m) (block_ids bs)
place_by_ids bs m = sym (position-map (λ b. b.id) (λ x. x == m) bs)

or_some : (o p : Option ℕ) → IsSome o ⊎ IsSome p → IsSome (option_or o p)
or_some None p (inl h) = absurd (false≢true h)
or_some None p (inr h) = h
or_some (Some x) p h = refl

split_place : (f : FuncRecord) (from index m : ℕ) → IsSome (place_of f m) ⊎ (m ≡ greatest_block f + 1) → IsSome (place_of (split f from index) m)
split_place f from index m h =
    let id : ℕ = greatest_block f + 1 in
    let p : ℕ → Bool = λ x. x == m in
    subst (λ o. IsSome o)
    (sym (place_by_ids (split f from index).blocks m ∙ ap (position p) (split_ids f from index) ∙ position_push p (block_ids f.blocks) id))
    (or_some (position p (block_ids f.blocks)) (cond (id == m) (Some (length (block_ids f.blocks))) None)
    (⊎_elim (λ (there : IsSome (place_of f m)). inl (subst (λ o. IsSome o) (place_by_ids f.blocks m) there))
    (λ (new : m ≡ id). inr (rw (eq-eqb id m (sym new)) refl)) h))

set_length : (t : Bool) (xs : List ℕ) (i v : ℕ) → length (if t then slice_set xs i v else xs) ≡ length xs
set_length true xs i v = length-set xs i v
set_length false xs i v = refl

set_read : (t : Bool) (xs : List ℕ) (i v k : ℕ) → k < length xs
    → (slice_index (if t then slice_set xs i v else xs) k ≡ v) ⊎ (slice_index (if t then slice_set xs i v else xs) k ≡ slice_index xs k)
set_read false xs i v k l = inr refl
set_read true xs i v k l = ⊎_elim
    (λ (e : k ≡ i). inl (rw e (get_or-set_same xs i v 0 (rw e at l))))
    (λ (ne : k ≡ i → ⊥). inr (get_or-set_other xs i k v 0 ne))
    (cases_eq k i)

-- edges stay edges
pub kept_edge : (f : FuncRecord) (from index a k : ℕ) → IsEdge f a k → IsEdge (split f from index) a k
kept_edge f from index a k h =
    let w = of_edge f a k h in
    let b : BlockRecord = w.block in
    let to : ℕ = successor_in (block_of f from) index in
    let r : ℕ = rank_in (block_of f from) index in
    let id : ℕ = greatest_block f + 1 in
    let b1 : BlockRecord = if a == from then with_succ index id b else b in
    let b2 : BlockRecord = if a == to then with_pred from id r b1 else b1 in
    let bs1 : List BlockRecord = change_block from (with_succ index id) f.blocks in
    let bs2 : List BlockRecord = change_block to (with_pred from id r) bs1 in
    let e1 : find (λ x. x.id == a) bs1 ≡ Some b1 = found_changed from a (with_succ index id) (λ c. refl) f.blocks b w.named in
    let e2 : find (λ x. x.id == a) bs2 ≡ Some b2 = found_changed to a (with_pred from id r) (λ c. refl) bs1 b1 e1 in
    let e3 : block_of (split f from index) a ≡ Some b2 =
    find-append (λ x. x.id == a) bs2 (between id from to ∷ []) ∙ ap (λ o. option_or o (find (λ x. x.id == a) (between id from to ∷ []))) e2 in
    let s2 : b2.succs ≡ b1.succs = either_way (a == to) (with_pred from id r b1) b1 (λ c. c.succs ≡ b1.succs) refl refl in
    let s1 : b1.succs ≡ (if a == from then slice_set b.succs index id else b.succs) = succs_if (a == from) index id b in
    let s : b2.succs ≡ (if a == from then slice_set b.succs index id else b.succs) = s2 ∙ s1 in
    edge_of (split f from index) a k b2 e3
    (subst (λ n. k < n) (sym (ap length s ∙ set_length (a == from) b.succs index id)) w.within)
    (subst (λ xs. IsSome (place_of (split f from index) (slice_index xs k))) (sym s)
    (⊎_elim
    (λ (new : slice_index (if a == from then slice_set b.succs index id else b.succs) k ≡ id). split_place f from index _ (inr new))
    (λ (old : slice_index (if a == from then slice_set b.succs index id else b.succs) k ≡ slice_index b.succs k).
    split_place f from index _ (inl (subst (λ m. IsSome (place_of f m)) (sym old) w.successor)))
    (set_read (a == from) b.succs index id k w.within)))
  where
    succs_if : (t : Bool) (index id : ℕ) (b : BlockRecord) → (if t then with_succ index id b else b).succs ≡ (if t then slice_set b.succs index id else b.succs)
    succs_if true index id b = refl
    succs_if false index id b = refl

-- the greatest number grows by one
greatest_by_ids : (bs : List BlockRecord) → fold (λ g b. max g b.id) 0 bs ≡ fold max 0 (block_ids bs)
greatest_by_ids bs = sym (fold-map max (λ (b : BlockRecord). b.id) 0 bs)

pub greatest_split : (f : FuncRecord) (from index : ℕ) → greatest_block (split f from index) ≡ greatest_block f + 1
greatest_split f from index =
    let g : ℕ = greatest_block f in
    greatest_by_ids (split f from index).blocks ∙ ap (fold max 0) (split_ids f from index) ∙ fold-append max 0 (block_ids f.blocks) ((g + 1) ∷ [])
    ∙ ap (λ n. max n (g + 1)) (sym (greatest_by_ids f.blocks)) ∙ (omega arith)

-- one edge more is split
split_suc : (f g : FuncRecord) (es : List EdgeRecord) (i : ℕ) (e : EdgeRecord) → i < length es → e ≡ get_or es i e → g ≡ split f e.from e.index
    → split_each g (drop (suc i) es) ≡ split_each f (drop i es)
unfolding split_each
split_suc f g [] i e l is h = absurd (omega (arith, l))
split_suc f g (x ∷ xs) zero e l is h = ap (λ w. split_each w xs) (h ∙ ap (λ (y : EdgeRecord). split f y.from y.index) is)
split_suc f g (x ∷ xs) (suc i) e l is h = split_suc f g xs i e (omega (arith, l)) is h

pub split_next : (f g : FuncRecord) (es : List EdgeRecord) (i : ℕ) (e : EdgeRecord) → i < length es → e ≡ get_or es i e → g ≡ split f e.from e.index
    → split_each g (drop (i + 1) es) ≡ split_each f (drop i es)
split_next f g es i e l is h = ap (λ j. split_each g (drop j es)) (add-one i) ∙ split_suc f g es i e l is h

pub split_none : (f : FuncRecord) (es : List EdgeRecord) (i : ℕ) → length es ≤ i → split_each f (drop i es) ≡ f
unfolding split_each
split_none f [] zero l = refl
split_none f [] (suc i) l = refl
split_none f (x ∷ xs) zero l = absurd (omega (arith, l))
split_none f (x ∷ xs) (suc i) l = split_none f xs i (omega (arith, l))

pub edges_kept : (f g : FuncRecord) (es : List EdgeRecord) (e : EdgeRecord) → AreEdges f es → g ≡ split f e.from e.index → AreEdges g es
edges_kept f g es e h is x c = subst (λ w. IsEdge w x.from x.index) (sym is) (kept_edge f e.from e.index x.from x.index (h x c))

-- one successor more is looked at
pub edges_push : (bs : List BlockRecord) (from i : ℕ) (ns : List ℕ) (n : ℕ)
    → edges_from bs from i (ns ++ n ∷ []) ≡ edges_from bs from i ns ++ (if has_several (find (λ b. b.id == n) bs) then edge_at from (i + length ns) ∷ [] else [])
edges_push bs from i [] n = elim (has_several (find (λ b. b.id == n) bs)) as
    (λ t. ◌≡◌ {A = List EdgeRecord} (if t then edge_at from i ∷ [] else []) (if t then edge_at from (i + 0) ∷ [] else []))
    [ true ↦ ap (λ j. edge_at from j ∷ []) (sym (add-zero i)) | false ↦ refl ]
edges_push bs from i (m ∷ ns) n =
    let k : edges_from bs from (i + 1) (ns ++ n ∷ []) ≡ edges_from bs from (i + 1) ns ++ (if has_several (find (λ b. b.id == n) bs) then edge_at from (i + suc (length ns)) ∷ [] else [])
    = edges_push bs from (i + 1) ns n ∙ ap (λ j. edges_from bs from (i + 1) ns ++ (if has_several (find (λ b. b.id == n) bs) then edge_at from j ∷ [] else [])) (omega arith) in
    elim (has_several (find (λ b. b.id == m) bs)) as
    (λ t. ◌≡◌ {A = List EdgeRecord} (if t then edge_at from i ∷ edges_from bs from (i + 1) (ns ++ n ∷ []) else edges_from bs from (i + 1) (ns ++ n ∷ []))
    ((if t then edge_at from i ∷ edges_from bs from (i + 1) ns else edges_from bs from (i + 1) ns) ++ (if has_several (find (λ b. b.id == n) bs) then edge_at from (i + suc (length ns)) ∷ [] else [])))
    [ true ↦ ap (λ es. edge_at from i ∷ es) k | false ↦ k ]

pub edges_more : (bs : List BlockRecord) (from i : ℕ) (ns : List ℕ) → i < length ns
    → edges_from bs from 0 (take (i + 1) ns) ≡ edges_from bs from 0 (take i ns) ++ (if has_several (find (λ b. b.id == get_or ns i 0) bs) then edge_at from i ∷ [] else [])
edges_more bs from i ns l =
    ap (edges_from bs from 0) (take_more ns i 0 l) ∙ edges_push bs from 0 (take i ns) (get_or ns i 0)
    ∙ ap (λ j. edges_from bs from 0 (take i ns) ++ (if has_several (find (λ b. b.id == get_or ns i 0) bs) then edge_at from j ∷ [] else [])) (zero-add (length (take i ns)) ∙ length-take-le i ns (omega arith))
