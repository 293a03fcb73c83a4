-- The block that follows those that are placed, by its place and by its number.
use Rattle.std.proofs.Common.{◌≡◌, ◌∙◌, sym, refl, ap, subst, ℕ, suc, zero, ◌+◌, ◌-◌, ◌<◌, ◌≤◌, ◌==◌, ◌↔◌, not, cond, Bool, true, false, if◌then◌else◌, List, [], ◌∷◌, length, get_or, IsTrue, IsSome, IfSome, option_copied, option_map, Option, Some, None, ⊎_elim, arith, position, All}
use Rattle.std.specs.Borrow.{Bor}
use Rattle.std.specs.BTreeMap.{is_at}
use Rattle.std.specs.BTreeSet.{BTreeSet, contains, IsLowerBound}
use Rattle.std.specs.List.{find, list_any, slice_get, last_or, position_or_len, count_by}
use Rattle.std.specs.Option.{option_or, option_and_then}
use Rattle.std.specs.Ordering.{nat_cmp, is_gt}
use Rattle.std.proofs.lemmas.Bool.{cases_lt, lt-ltb, le-ltb, eqb-true, true≢false}
use Rattle.std.proofs.lemmas.Bool.Decides.{nat_tests}
use Rattle.std.proofs.lemmas.List.Folds.{find_at}
use Rattle.std.proofs.lemmas.List.Sums.{passes_at_first, fails_before_first}
use Rattle.std.proofs.lemmas.Option.{slice_get_cases, none-some}
use Rattle.bk_func.specs.declared.parts.Likely.{Likely}
use Rattle.bk_func.specs.declared.parts.Likely.TheVariants.{No, First, Second}
use Rattle.bk_func.specs.Records.{BlockRecord, FuncRecord}
use Rattle.bk_func.specs.Form.Parts.{IsBlockNumber}
use Rattle.bk_func.specs.Form.Text.{HasBlock}
use Rattle.bk_graph.specs.declared.order.Order.{Order}
use Rattle.bk_graph.specs.declared.places.Places.{Places}
use Rattle.bk_graph.specs.Joined.{IsJoined}
use Rattle.bk_graph.specs.Layout.{is_placed, is_ready, marked, if_unplaced, block_named, next_successor, next_block, onward, laid_out, layout_from}
use Rattle.bk_graph.specs.Named.{AreFirsts, block_ids}
use Rattle.bk_graph.specs.Placing.{if_free, first_in, unplaced_in, next_place, number_at, ready_at, IsOrder}
use Rattle.bk_graph.proofs.Crossing.{counted_once}
use Rattle.bk_graph.proofs.Listed.{counted_at, position-map}
use Rattle.bk_graph.proofs.Putting.{AreMarks}

-- the least place of a set, when the set has the places of the blocks that are ready
pub least_ready : (f : FuncRecord) (N : List ℕ) (s : BTreeSet ℕ) (r : Option (Bor ℕ)) → ((q : ℕ) → contains nat_cmp s q ≡ ready_at N (slice_get f.blocks q))
    → IsSome r ↔ (0 < length s.keys) → IfSome r (λ k. IsTrue (contains nat_cmp s k.now)) → IfSome r (λ k. IsLowerBound nat_cmp s k.now)
    → option_copied r ≡ position (is_ready N) f.blocks
least_ready f N s r ready variant member least = go r variant member least
  where
    k : ℕ
    k = position_or_len (is_ready N) f.blocks

    here : k < length f.blocks → contains nat_cmp s k ≡ true
    here l = ⊎_elim
        (λ (b, m, e, r). ready k ∙ ap (ready_at N) e ∙ sym (ap (is_ready N) r) ∙ passes_at_first (is_ready N) f.blocks b l)
        (λ (past, e). absurd (omega arith))
        (slice_get_cases f.blocks k).1

    differ : (t : Bool) → t ≡ false → t ≡ true → ⊥
    differ t x y = true≢false (sym y ∙ x)

    empty : (ks : List ℕ) → ((0 < length ks) → ⊥) → (q : ℕ) → list_any (λ x. x == q) ks ≡ false
    empty [] h q = refl
    empty (x ∷ xs) h q = absurd (h (omega arith))

    not_gt : (v w : ℕ) → is_gt (nat_cmp v w) ≡ false → v ≤ w
    not_gt v w h = grind (arith, nat_tests)

    ready_within : (v : ℕ) → contains nat_cmp s v ≡ true → (v < length f.blocks) × (k ≤ v)
    ready_within v h = ⊎_elim
        (λ (b, m, e, r). (
          m,
          ⊎_elim
              (λ (below : v < k). absurd (differ (is_ready N b) (ap (is_ready N) (sym r) ∙ fails_before_first (is_ready N) f.blocks v b below) (sym (ready v ∙ ap (ready_at N) e) ∙ h)))
              (λ (above : k ≤ v). above)
              (cases_lt v k),
        ))
        (λ (past, e). absurd (differ (contains nat_cmp s v) (ready v ∙ ap (ready_at N) e) h))
        (slice_get_cases f.blocks v).1

    go : (r : Option (Bor ℕ)) → IsSome r ↔ (0 < length s.keys) → IfSome r (λ k. IsTrue (contains nat_cmp s k.now)) → IfSome r (λ k. IsLowerBound nat_cmp s k.now)
        → option_copied r ≡ position (is_ready N) f.blocks
    go None v m l = ⊎_elim
        (λ (inside : k < length f.blocks). absurd (none s.keys (λ h. true≢false (sym (v.1 h))) (here inside)))
        (λ (past : length f.blocks ≤ k). sym (rw (le-ltb k (length f.blocks) past) refl))
        (cases_lt k (length f.blocks))
      where
        none : (ks : List ℕ) → ((0 < length ks) → ⊥) → list_any (λ x. is_at (nat_cmp k) x) ks ≡ true → ⊥
        none [] h t = true≢false (sym t)
        none (x ∷ xs) h t = h (omega arith)
    go (Some x) v m l =
        let w = ready_within x.now m in
        let inside : k < length f.blocks = omega (arith, w.0, w.1) in
        let low = not_gt x.now k (l k (here inside)) in
        let at : position (is_ready N) f.blocks ≡ Some k = rw (lt-ltb k (length f.blocks) inside) refl in
        let same : x.now ≡ k = omega (arith, w.1, low) in
        ap Some same ∙ sym at

-- a place, and the number of the block there
abbrev Tells : FuncRecord → Option ℕ → Option ℕ → Type 0
Tells f None None = Unit {0}
Tells f None (Some n) = ⊥
Tells f (Some p) None = ⊥
Tells f (Some p) (Some n) = number_at f p ≡ Some n

told : (f : FuncRecord) (x y : Option ℕ) → Tells f x y → option_and_then (number_at f) x ≡ y
told f None None t = refl
told f None (Some n) t = absurd t
told f (Some p) None t = absurd t
told f (Some p) (Some n) t = t

told_within : (f : FuncRecord) (x y : Option ℕ) → Tells f x y → IfSome x (λ p. p < length f.blocks)
told_within f None y t = tt
told_within f (Some p) None t = absurd t
told_within f (Some p) (Some n) t = ⊎_elim
    (λ (b, l, e, r). l)
    (λ (past, e). absurd (none-some n (ap (option_map (λ (b : BlockRecord). b.id)) (sym e) ∙ t)))
    (slice_get_cases f.blocks p).1

or_tells : (f : FuncRecord) (x y v w : Option ℕ) → Tells f x y → Tells f v w → Tells f (option_or x v) (option_or y w)
or_tells f None None v w t u = u
or_tells f None (Some n) v w t u = absurd t
or_tells f (Some p) None v w t u = absurd t
or_tells f (Some p) (Some n) v w t u = t

-- the place of a block's number
named_at : (f : FuncRecord) (n : ℕ) → IsBlockNumber f n
    → (p : ℕ) × (b : BlockRecord) × (slice_get f.blocks p ≡ Some b) × (b.id ≡ n) × (position (λ x. x == n) (block_ids f.blocks) ≡ Some p)
named_at f n h =
    let bs : List BlockRecord = f.blocks in
    let t : BlockRecord → Bool = λ c. c.id == n in
    let q : ℕ = position_or_len t bs in
    let one : count_by t bs ≡ 1 = counted_once f n h in
    let within : q < length bs = counted_at t bs (omega arith) in
    ⊎_elim
    (λ (b, l, e, r). (
      q,
      b,
      e,
      ap (λ (c : BlockRecord). c.id) (sym r) ∙ eqb-true (get_or bs q b).id n (passes_at_first t bs b within),
      position-map (λ (c : BlockRecord). c.id) (λ x. x == n) bs ∙ (rw (lt-ltb q (length bs) within) refl),
    ))
    (λ (past, e). absurd (omega arith))
    (slice_get_cases bs q).1

module _ (f : FuncRecord) (g : IsJoined f) (m : Places) (firsts : AreFirsts (block_ids f.blocks) m) (N : List ℕ) (ps : List Bool) (marks : AreMarks f N ps) where
  unplaced_tells : (n : ℕ) → IsBlockNumber f n → Tells f (unplaced_in m ps n) (if is_placed N n then None else Some n)
  unplaced_tells n h =
      let (p, b, e, id, at) = named_at f n h in
      subst (λ o. Tells f (if_free ps o) (if is_placed N n then None else Some n)) (sym (firsts n ∙ at))
      (subst (λ t. Tells f (if t then None else Some p) (if is_placed N n then None else Some n)) (sym (marks p b e ∙ ap (is_placed N) id))
      (elim (is_placed N n) as (λ t. Tells f (if t then None else Some p) (if t then None else Some n))
      [ true ↦ tt | false ↦ ap (option_map (λ (c : BlockRecord). c.id)) e ∙ ap Some id ]))

  first_tells : (ns : List ℕ) → All (IsBlockNumber f) ns → Tells f (first_in m ps ns) (find (λ n. not (is_placed N n)) ns)
  unfolding first_in
  first_tells [] h = tt
  first_tells (n ∷ ns) h =
      subst (Tells f (option_or (unplaced_in m ps n) (first_in m ps ns))) (either (is_placed N n) (find (λ n. not (is_placed N n)) ns))
      (or_tells f (unplaced_in m ps n) (if is_placed N n then None else Some n) (first_in m ps ns) (find (λ n. not (is_placed N n)) ns)
      (unplaced_tells n (h 0 n (omega arith))) (first_tells ns (λ k d l. h (suc k) d (omega (arith, l)))))
    where
      either : (t : Bool) (o : Option ℕ) → option_or (if t then None else Some n) o ≡ cond (not t) (Some n) o
      either true o = refl
      either false o = refl

  marked_tells : (o : Option ℕ) → IfSome o (IsBlockNumber f) → Tells f (option_and_then (unplaced_in m ps) o) (if_unplaced N o)
  marked_tells None h = tt
  marked_tells (Some n) h = unplaced_tells n h

  some_of : (ns : List ℕ) (k : ℕ) → All (IsBlockNumber f) ns → IfSome (slice_get ns k) (IsBlockNumber f)
  some_of [] k h = tt
  some_of (n ∷ ns) zero h = h 0 n (omega arith)
  some_of (n ∷ ns) (suc k) h = some_of ns k (λ j d l. h (suc j) d (omega (arith, l)))

  marked_of : (l : Likely) (ns : List ℕ) → All (IsBlockNumber f) ns → IfSome (marked l ns) (IsBlockNumber f)
  marked_of No ns h = tt
  marked_of First ns h = some_of ns 0 h
  marked_of Second ns h = some_of ns 1 h

  place_tells : (x : Option BlockRecord) → IfSome x (HasBlock f) → Tells f (next_place m ps x) (next_successor N x)
  place_tells None h = tt
  place_tells (Some b) h =
      let named = g.named b h in
      or_tells f (option_and_then (unplaced_in m ps) (marked b.likely b.succs)) (if_unplaced N (marked b.likely b.succs))
      (first_in m ps b.succs) (find (λ n. not (is_placed N n)) b.succs)
      (marked_tells (marked b.likely b.succs) (marked_of b.likely b.succs named)) (first_tells b.succs named)

  ready_tells : Tells f (position (is_ready N) f.blocks) (option_map (λ b. b.id) (find (is_ready N) f.blocks))
  ready_tells =
      let k : ℕ = position_or_len (is_ready N) f.blocks in
      ⊎_elim
      (λ (b, l, e, r).
      let at : position (is_ready N) f.blocks ≡ Some k = rw (lt-ltb k (length f.blocks) l) refl in
      subst (λ y. Tells f y (option_map (λ (c : BlockRecord). c.id) (find (is_ready N) f.blocks))) (sym at)
      (subst (λ x. Tells f (Some k) (option_map (λ (c : BlockRecord). c.id) x)) (sym (find_at (is_ready N) f.blocks ∙ e)) (ap (option_map (λ (c : BlockRecord). c.id)) e)))
      (λ (past, e).
      let at : position (is_ready N) f.blocks ≡ None = rw (le-ltb k (length f.blocks) past) refl in
      subst (λ y. Tells f y (option_map (λ (c : BlockRecord). c.id) (find (is_ready N) f.blocks))) (sym at)
      (subst (λ x. Tells f None (option_map (λ (c : BlockRecord). c.id) x)) (sym (find_at (is_ready N) f.blocks ∙ e)) tt))
      (slice_get_cases f.blocks k).1

read_block : (f : FuncRecord) (o : Option ℕ) → IfSome (option_and_then (slice_get f.blocks) o) (HasBlock f)
read_block f None = tt
read_block f (Some p) = ⊎_elim
    (λ (b, l, e, r). subst (λ x. IfSome x (HasBlock f)) (sym e) (p, l, r))
    (λ (past, e). subst (λ x. IfSome x (HasBlock f)) (sym e) tt)
    (slice_get_cases f.blocks p).1

next_tells : (o : Order) → IsOrder o
    → Tells o.func.now (option_or (next_place o.places.now o.placed.items (option_and_then (slice_get o.func.now.blocks) o.last)) (position (is_ready o.numbers.items) o.func.now.blocks))
    (next_block o.func.now o.numbers.items)
next_tells o h =
    let f : FuncRecord = o.func.now in
    let x : Option BlockRecord = option_and_then (slice_get f.blocks) o.last in
    let y : Option BlockRecord = block_named f (last_or None o.numbers.items) in
    or_tells f (next_place o.places.now o.placed.items x) (next_successor o.numbers.items y)
    (position (is_ready o.numbers.items) f.blocks) (option_map (λ b. b.id) (find (is_ready o.numbers.items) f.blocks))
    (subst (λ z. Tells f (next_place o.places.now o.placed.items x) (next_successor o.numbers.items z)) h.last
    (place_tells f h.given o.places.now h.firsts o.numbers.items o.placed.items h.placed x (read_block f o.last)))
    (ready_tells f h.given o.places.now h.firsts o.numbers.items o.placed.items h.placed)

abbrev pub ready_place : Order → Option ℕ
ready_place o = position (is_ready o.numbers.items) o.func.now.blocks

-- the place that follows is that of the next block
pub next_number : (o : Order) → IsOrder o → (s r : Option ℕ) → s ≡ next_place o.places.now o.placed.items (option_and_then (slice_get o.func.now.blocks) o.last)
    → r ≡ position (is_ready o.numbers.items) o.func.now.blocks
    → (option_and_then (number_at o.func.now) (option_or s r) ≡ next_block o.func.now o.numbers.items) × IfSome (option_or s r) (λ p. p < length o.func.now.blocks)
next_number o h s r e i =
    let f : FuncRecord = o.func.now in
    let t : Tells f (option_or s r) (next_block f o.numbers.items) =
    subst (λ z. Tells f (option_or z r) (next_block f o.numbers.items)) (sym e)
    (subst (λ z. Tells f (option_or (next_place o.places.now o.placed.items (option_and_then (slice_get f.blocks) o.last)) z) (next_block f o.numbers.items)) (sym i) (next_tells o h)) in
    (told f (option_or s r) (next_block f o.numbers.items) t, told_within f (option_or s r) (next_block f o.numbers.items) t)

-- one step of the order
laid_end : (k : ℕ) (f : FuncRecord) (N : List ℕ) → next_block f N ≡ None → laid_out k f N ≡ N
unfolding laid_out
laid_end zero f N h = refl
laid_end (suc k) f N h = ap (λ o. onward o N (laid_out k f)) h

laid_step : (k : ℕ) (f : FuncRecord) (N : List ℕ) → laid_out (suc k) f N ≡ laid_out k f (onward (next_block f N) N (λ ns. ns))
unfolding laid_out
laid_step k f N = go (next_block f N) refl
  where
    go : (o : Option ℕ) → next_block f N ≡ o → onward o N (laid_out k f) ≡ laid_out k f (onward o N (λ ns. ns))
    go None h = sym (laid_end k f N h)
    go (Some n) h = refl

pub laid_next : (count i : ℕ) (f g : FuncRecord) (N M target : List ℕ) → i < count → g ≡ f → M ≡ onward (next_block f N) N (λ ns. ns)
    → laid_out (count - i) f N ≡ target → laid_out (count - (i + 1)) g M ≡ target
laid_next count i f g N M target l same more before =
    let k : ℕ = count - (i + 1) in
    let one : suc k ≡ count - i = omega arith in
    ap (λ h. laid_out k h M) same ∙ ap (laid_out k f) more ∙ sym (laid_step k f N) ∙ ap (λ j. laid_out j f N) one ∙ before

pub laid_all : (count i : ℕ) (f : FuncRecord) (N target : List ℕ) → count ≤ i → laid_out (count - i) f N ≡ target → N ≡ target
unfolding laid_out
laid_all count i f N target l h = let none : 0 ≡ count - i = omega arith in ap (λ j. laid_out j f N) none ∙ h

-- the entry is first
pub laid_from : (f : FuncRecord) (bs : List BlockRecord) (N M : List ℕ) → 0 < length bs → N ≡ onward (option_map (λ b. b.id) (slice_get bs 0)) [] (λ ns. ns)
    → M ≡ laid_out (length bs - 1) f N → M ≡ layout_from f bs
laid_from f [] N M l first rest = absurd (omega arith)
laid_from f (b ∷ bs) N M l first rest =
    let one : suc (length bs) - 1 ≡ length bs = omega arith in
    rest ∙ ap (λ k. laid_out k f N) one ∙ ap (laid_out (length bs) f) first

pub laid_none : (f : FuncRecord) (bs : List BlockRecord) → length bs ≡ 0 → [] ≡ layout_from f bs
laid_none f [] h = refl
laid_none f (b ∷ bs) h = absurd (omega (arith, h))
