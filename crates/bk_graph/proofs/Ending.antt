-- Where looks at all change nothing, the facts are what the rules give, and no more.
use Rattle.std.proofs.Common.{◌≡◌, ◌≢◌, ◌∙◌, sym, refl, ap, subst, ℕ, suc, ◌<◌, ◌≤◌, Bool, true, false, List, [], ◌∷◌, length, Option, Some, None, ◌⊎◌, inl, inr, arith, get_or, replicate, length-set}
use Rattle.std.specs.Prelude.{slice_get, slice_index_or, slice_set, ◌&&◌, IfSome}
use Rattle.std.proofs.lemmas.Bool.{cases_eq, cases_lt}
use Rattle.std.proofs.lemmas.List.{get_or_past, get_or-set_same, get_or-set_other, get_or-replicate, length-replicate}
use Rattle.std.specs.Borrow.{Bor}
use Rattle.std.specs.Option.{option_copied}
use Rattle.std.specs.Slice.{IsItemAt}
use Rattle.std.proofs.lemmas.Option.{slice_get_within, slice_get_read, slice_get_past}
use Rattle.bk_func.specs.Records.{BlockRecord}
use Rattle.bk_graph.specs.declared.graph.Edge.{Edge}
use Rattle.bk_graph.specs.Cleaned.{goes_at, IsPhiDone, IsBranchDone, IsSound, IsClosed}
use Rattle.bk_graph.specs.Facts.{Facts, edge_stays}
use Rattle.bk_graph.specs.Known.{stays_there, Way, begin, onward}
use Rattle.bk_graph.specs.Nodes.{NodeRecord}
use Rattle.bk_graph.specs.Settling.{IsSettling, IsOther, enters, IsFound}
use Rattle.bk_graph.specs.Tables.{Tables, edges_to, args_of}

pub all_sound : (t : Tables) (F : Facts) → IsSettling t F → ((b : ℕ) → F.reached b ≡ true → Way t (edge_stays F) b) → IsSound t F
all_sound t F h ways = record { reached = ways; unreached = h.unreached; taken = h.taken; root = h.root }

pub all_closed : (t : Tables) (F : Facts) → IsSettling t F → ((p : ℕ) → p < length t.nodes → IsPhiDone t F p) → ((b : ℕ) → b < length t.blocks → IsBranchDone t F b)
    → ((b : ℕ) → F.reached b ≡ true → b < length t.blocks) → IsClosed t F
all_closed t F h phis branches within = record {
  entry = h.entry;
  onward = h.onward;
  goes = λ b r. branches b (within b r) r;
  passed = h.passed;
  phi = λ p n k q i. phis p (slice_get_within t.nodes p n i) n k q i;
}

-- a branch that is not decided anew is done
pub branch_done : (t : Tables) (F : Facts) (b : ℕ) → IsSettling t F → ((k : ℕ) → F.taken b ≡ Some k → ⊥) → goes_at t F.root b (slice_get t.blocks b) ≡ None → IsBranchDone t F b
branch_done t F b h free done r = go (F.taken b) refl
  where
    go : (o : Option ℕ) → F.taken b ≡ o → F.taken b ≡ goes_at t F.root b (slice_get t.blocks b)
    go None e = e ∙ sym done
    go (Some k) e = absurd (free k e)

pub branch_taken : (t : Tables) (F : Facts) (b k : ℕ) → IsSettling t F → F.taken b ≡ Some k → IsBranchDone t F b
branch_taken t F b k h e r = e ∙ sym (h.goes b k e)

pub branch_left : (t : Tables) (F : Facts) (b : ℕ) → F.reached b ≡ false → IsBranchDone t F b
branch_left t F b e r = absurd cc

-- a phi that does not yield is done
pub phi_done : (t : Tables) (F : Facts) (p : ℕ) (node : NodeRecord) → slice_get t.nodes p ≡ Some node → F.root p ≡ p → ((q : ℕ) → q < length t.nodes → F.root q < length t.nodes)
    → (o : Option ℕ) → IfSome o (IsOther F (edges_to t node.block) (args_of t p) p) → (o ≡ None → (other : ℕ) → ¬ IsOther F (edges_to t node.block) (args_of t p) p other)
    → ((r : ℕ) → o ≡ Some r → length t.nodes ≤ r) → IsPhiDone t F p
phi_done t F p node i own within o some none past n k q j reached c a l all = go (cases_eq (F.root q) p)
  where
    same : n ≡ node
    same = let x : Some n ≡ Some node = sym j ∙ i in cc

    stays : (k : ℕ) → stays_there (edge_stays F) (slice_get (edges_to t n.block) k) ≡ true → stays_there (edge_stays F) (slice_get (edges_to t node.block) k) ≡ true
    stays k e = (let P : NodeRecord → Type 0 = λ d. stays_there (edge_stays F) (slice_get (edges_to t d.block) k) ≡ true in subst P same e)

    back : (k : ℕ) → stays_there (edge_stays F) (slice_get (edges_to t node.block) k) ≡ true → stays_there (edge_stays F) (slice_get (edges_to t n.block) k) ≡ true
    back k e = (let P : NodeRecord → Type 0 = λ d. stays_there (edge_stays F) (slice_get (edges_to t d.block) k) ≡ true in subst P (sym same) e)

    one : F.root q ≢ p → IsOther F (edges_to t node.block) (args_of t p) p (F.root q)
    one m = record {
      apart = m;
      place = k;
      arg = q;
      there = a.arg;
      edge = stays k a.edge;
      root = refl;
      all = λ x y e b. pick y (all x y (record { arg = e; edge = back x b }));
    }
      where
        pick : (y : ℕ) → (F.root y ≡ F.root p) ⊎ (F.root y ≡ F.root q) → (F.root y ≡ p) ⊎ (F.root y ≡ F.root q)
        pick y (inl e) = inl (e ∙ own)
        pick y (inr e) = inr e

    by : F.root q ≢ p → (u : Option ℕ) → o ≡ u → ⊥
    by m None e = none e (F.root q) (one m)
    by m (Some r) e = pick (two.all k q a.arg (stays k a.edge))
      where
        two : IsOther F (edges_to t node.block) (args_of t p) p r
        two = let P : Option ℕ → Type 0 = λ u. IfSome u (IsOther F (edges_to t node.block) (args_of t p) p) in subst P e some

        pick : (F.root q ≡ p) ⊎ (F.root q ≡ r) → ⊥
        pick (inl z) = m z
        pick (inr z) = (let x = past r e in let w = within q l in absurd (omega (arith, x, w, z)))

    go : (F.root q ≡ p) ⊎ (F.root q ≢ p) → F.root q ≡ F.root p
    go (inl e) = e ∙ sym own
    go (inr m) = absurd (by m o refl)

-- lists are equal

pub same_lists : (xs ys : List Bool) → length xs ≡ length ys → ((k : ℕ) → k < length xs → get_or xs k false ≡ get_or ys k false) → xs ≡ ys
same_lists [] [] e h = refl
same_lists [] (y ∷ ys) e h = absurd (omega (arith, e))
same_lists (x ∷ xs) [] e h = absurd (omega (arith, e))
same_lists (x ∷ xs) (y ∷ ys) e h =
    let a : x ≡ y = h 0 (omega arith) in
    let b : xs ≡ ys = same_lists xs ys (omega (arith, e)) (λ k l. h (suc k) (omega (arith, l))) in
    cc

-- the entry is found

not_marked : (n b : ℕ) → slice_index_or (replicate n false) b false ≡ false
not_marked n b = go (cases_lt b n)
  where
    go : (b < n) ⊎ (n ≤ b) → slice_index_or (replicate n false) b false ≡ false
    go (inl l) = get_or-replicate n b false false l
    go (inr l) = (let z = length-replicate n false in get_or_past (replicate n false) b false (omega (arith, l, z)))

pub found_first : (t : Tables) (F : Facts) (xs : List Bool) → xs ≡ slice_set (replicate (length t.blocks) false) 0 true → IsFound t F xs
found_first t F xs e = record {
  size = ap (λ (ys : List Bool). length ys) e ∙ length-set (replicate (length t.blocks) false) 0 true ∙ length-replicate (length t.blocks) false;
  way = λ b m. way b (sym (ap (λ (ys : List Bool). slice_index_or ys b false) e) ∙ m) (cases_eq b 0);
  entry = λ c i. ap (λ (ys : List Bool). slice_index_or ys 0 false) e ∙ get_or-set_same (replicate (length t.blocks) false) 0 true false (some c i);
}
  where
    some : (c : BlockRecord) → slice_get t.blocks 0 ≡ Some c → 0 < length (replicate (length t.blocks) false)
    some c i = (let l = slice_get_within t.blocks 0 c i in let z = length-replicate (length t.blocks) false in omega (arith, l, z))

    start : (bs : List BlockRecord) → slice_index_or (slice_set (replicate (length bs) false) 0 true) 0 false ≡ true → (c : BlockRecord) × (slice_get bs 0 ≡ Some c)
    start [] m = let x : false ≡ true = m in absurd cc
    start (c ∷ bs) m = (c, refl)

    way : (b : ℕ) → slice_index_or (slice_set (replicate (length t.blocks) false) 0 true) b false ≡ true → (b ≡ 0) ⊎ (b ≢ 0) → Way t (edge_stays F) b
    way b m (inl z) =
        let P : ℕ → Type 0 = λ x. Way t (edge_stays F) x in
        let Q : ℕ → Type 0 = λ x. slice_index_or (slice_set (replicate (length t.blocks) false) 0 true) x false ≡ true in
        let s = start t.blocks (subst Q z m) in
        subst P (sym z) (begin s.0 s.1)
    way b m (inr n) = (let x = get_or-set_other (replicate (length t.blocks) false) 0 b true false n in let y = not_marked (length t.blocks) b in absurd cc)

-- one block more is found
pub found_more : (t : Tables) (F : Facts) (xs : List Bool) (b k : ℕ) (e : Edge) → IsFound t F xs → b < length t.blocks → slice_get (edges_to t b) k ≡ Some e → enters F xs e ≡ true
    → IsFound t F (slice_set xs b true)
found_more t F xs b k e h l i s = record {
  size = length-set xs b true ∙ h.size;
  way = λ c m. way c m (cases_eq c b);
  entry = λ c j. start c j (cases_eq 0 b);
}
  where
    there : b < length xs
    there = let z = h.size in omega (arith, l, z)

    both : (s t : Bool) → (s && t) ≡ true → (s ≡ true) × (t ≡ true)
    both true t e = (refl, e)
    both false t e = let x : false ≡ true = e in absurd cc

    way : (c : ℕ) → slice_index_or (slice_set xs b true) c false ≡ true → (c ≡ b) ⊎ (c ≢ b) → Way t (edge_stays F) c
    way c m (inl z) =
        let P : ℕ → Type 0 = λ x. Way t (edge_stays F) x in
        let w = both (slice_index_or xs e.from false) (edge_stays F e) s in
        subst P (sym z) (onward b k e (h.way e.from w.0) i w.1)
    way c m (inr n) = h.way c (sym (get_or-set_other xs b c true false n) ∙ m)

    start : (c : BlockRecord) → slice_get t.blocks 0 ≡ Some c → (0 ≡ b) ⊎ (0 ≢ b) → slice_index_or (slice_set xs b true) 0 false ≡ true
    start c j (inl z) = ap (λ (x : ℕ). slice_index_or (slice_set xs b true) x false) z ∙ get_or-set_same xs b true false there
    start c j (inr n) = get_or-set_other xs b 0 true false n ∙ h.entry c j

-- what a list lends at a place

pub lent : {A : Type 0} (xs : List A) (i : ℕ) (r : Option (Bor A)) → IsItemAt xs i r → option_copied r ≡ slice_get xs i
lent xs i None h = sym (slice_get_past xs i h.3)
lent xs i (Some x) h = sym (slice_get_read xs (length xs) i x.now refl h.3.0 h.1)
