-- Each atomic step of the table is one event of its core.
use Rattle.std.proofs.Common.{◌≡◌, ◌≢◌, ⊎_elim, ℕ, zero, suc, ◌+◌, ◌%◌, ◌^◌, ◌<◌, ◌≤◌, List, [], ◌∷◌, ◌++◌, map, length, set, get_or, sym, ap, subst, ◌∙◌, arith, get_or-set_same, get_or-set_other}
use Rattle.std.proofs.lemmas.List.{set-get_or, map-set}
use mathlib.Core.Option.{some, some-injective, some-ne-none}
use mathlib.Core.List.{map-append}
use lib.ListN.{get_elem?}
use Rattle.atomic_table.proofs.Lists.{at_set}
use Rattle.std.specs.List.{Contains}
use Rattle.bk_core.specs.Rule.{Sight, sight, nobody, worker, keys_of, cells_of}
use Rattle.bk_core.specs.Events.{core_state, drew, saw, both, less, taken, after, word_at, with_word, IsAtWork, CanLook, HasWalked}
use Rattle.bk_core.specs.declared.events.Event.TheVariants.{Claim, Look, Take, Split, Join}
use Rattle.bk_share.specs.declared.rules.Seen.{Seen}
use Rattle.bk_share.specs.Plan.{Scheme, base, areas_in}
use Rattle.bk_share.specs.Law.{seen, view_of, TableState, core_of, left, right, merged, spent}
use Rattle.bk_share.specs.Steps.{after_claim, after_look, after_take, after_split, after_join, IsSeat, IsEvent}
use Rattle.bk_share.proofs.Cells.{base_above, sizes_are, word_is, claims_apart, written}

-- a seat's view is a worker of the core
pub found : (l : List Seen) (i : ℕ) (v : Seen) → get_elem? l i ≡ some v → (i < length (map view_of l)) × (worker (map view_of l) i ≡ v.view)
found [] i v e = absurd (some-ne-none v (sym e))
found (x ∷ xs) zero v e = (omega arith, ap view_of (some-injective x v e))
found (x ∷ xs) (suc i) v e = let r = found xs i v e in (omega arith, r.1)

-- a seat that is not the joined one had its view before
pub was_there : (l : List Seen) (id other : ℕ) (v w : Seen) → other ≢ id → get_elem? (set l id v) other ≡ some w → get_elem? l other ≡ some w
was_there l id other v w ne there = ⊎_elim (λ (x : (other ≡ id) × (v ≡ w)). absurd (ne x.0)) (λ (x : (other ≢ id) × (get_elem? l other ≡ some w)). x.1) (at_set l id other v w there)

-- a word other than word 0 was written
pub first_stays : (words : List ℕ) (i n : ℕ) → 1 ≤ i → get_or (set words i n) 0 0 ≡ get_or words 0 0
first_stays words i n h = get_or-set_other words i 0 n 0 (λ e. absurd (omega arith))

module _ (p : Scheme) (s : TableState) (sized : length s.words ≡ base p.announced 3) (id : ℕ) (v : Seen) (at : get_elem? s.views id ≡ some v) where
  abbrev Vs : List Sight
  Vs = map view_of s.views

  mine : worker Vs id ≡ v.view
  mine = (found s.views id v at).1

  pub claim_is : core_of p (after_claim s id v) ≡ after (core_of p s) (Claim id)
  claim_is =
      let n = get_or s.words 0 0 in let m = (n + 1) % 2 ^ 64 in let w = seen v.plan (drew v.view n) in
      let some_word : 0 < length s.words = let b = base_above p.announced 3 in omega arith in
      let first : get_or (set s.words 0 m) 0 0 ≡ m = get_or-set_same s.words 0 m 0 some_word in
      let cells = claims_apart p.announced s.words m in
      let views : map view_of (set s.views id w) ≡ set Vs id (drew (worker Vs id) n) = map-set view_of s.views id w ∙ ap (λ (u : Sight). set Vs id (drew u n)) (sym mine) in
      λ i. core_state (first i) (cells i) (views i)

  pub look_is : (a c : ℕ) → a < 3 → c < cells_of p.announced a → core_of p (after_look p s id v a c) ≡ after (core_of p s) (Look id a c)
  look_is a c ha hc =
      let i = base p.announced a + c in let n = get_or s.words i 0 in let w = seen v.plan (saw v.view a c n) in
      let words : set s.words i n ≡ s.words = set-get_or s.words i 0 in
      let is : word_at (areas_in p.announced s.words) a c ≡ n = word_is p.announced s.words a c ha hc in
      let views : map view_of (set s.views id w) ≡ set Vs id (saw (worker Vs id) a c (word_at (areas_in p.announced s.words) a c)) =
      map-set view_of s.views id w ∙ ap (λ (q : Sight × ℕ). set Vs id (saw q.0 a c q.1)) (λ k. (sym mine k, sym is k)) in
      λ k. core_state (get_or (words k) 0 0) (areas_in p.announced (words k)) (views k)

  pub take_is : (a c key : ℕ) → a < 3 → c < cells_of p.announced a → core_of p (after_take p s id v a c key) ≡ after (core_of p s) (Take id a c key)
  take_is a c key ha hc =
      let i = base p.announced a + c in let n = taken (get_or s.words i 0) key in let w = seen v.plan (saw v.view a c n) in
      let is : taken (word_at (areas_in p.announced s.words) a c) key ≡ n = ap (λ (x : ℕ). taken x key) (word_is p.announced s.words a c ha hc) in
      let first = first_stays s.words i n (let b = base_above p.announced a in omega arith) in
      let cells = written p.announced s.words a c n ha hc in
      let views : map view_of (set s.views id w) ≡ set Vs id (saw (worker Vs id) a c n) = map-set view_of s.views id w ∙ ap (λ (u : Sight). set Vs id (saw u a c n)) (sym mine) in
      (λ k. core_state (first k) (cells k) (views k))
      ∙ ap (λ (x : ℕ). core_state (get_or s.words 0 0) (with_word (areas_in p.announced s.words) a c x) (set Vs id (saw (worker Vs id) a c x))) (sym is)

  pub split_is : core_of p (after_split s id v) ≡ after (core_of p s) (Split id)
  split_is =
      let views : map view_of (set s.views id (left v) ++ right v ∷ []) ≡ set Vs id (less (worker Vs id)) ++ sight 1 [] [] ∷ [] =
      map-append view_of (set s.views id (left v)) (right v ∷ []) ∙ ap (λ (l : List Sight). l ++ sight 1 [] [] ∷ []) (map-set view_of s.views id (left v) ∙ ap (λ (u : Sight). set Vs id (less u)) (sym mine)) in
      λ k. core_state (get_or s.words 0 0) (areas_in p.announced s.words) (views k)

  pub join_is : (other : ℕ) (w : Seen) → get_elem? s.views other ≡ some w → core_of p (after_join s id v other w) ≡ after (core_of p s) (Join other id)
  join_is other w there =
      let its : worker Vs other ≡ w.view = (found s.views other w there).1 in
      let views : map view_of (set (set s.views id (merged v w)) other spent) ≡ set (set Vs id (both (worker Vs id) (worker Vs other))) other nobody =
      map-set view_of (set s.views id (merged v w)) other spent ∙ ap (λ (l : List Sight). set l other nobody) (map-set view_of s.views id (merged v w) ∙ ap (λ (q : Sight × Sight). set Vs id (both q.0 q.1)) (λ k. (sym mine k, sym its k))) in
      λ k. core_state (get_or s.words 0 0) (areas_in p.announced s.words) (views k)

-- a seat with a part is a worker at work
pub at_work : (p : Scheme) (s : TableState) (id : ℕ) (v : Seen) → get_elem? s.views id ≡ some v → v.view.parts ≢ 0 → IsAtWork (core_of p s) id
at_work p s id v at has = let f = found s.views id v at in (f.0, λ z. has (sym (ap (λ (u : Sight). u.parts) f.1) ∙ z))

-- each kind of step is an event whose conditions hold
module _ (p : Scheme) (s : TableState) (id : ℕ) (v : Seen) (seat : IsSeat p s id v) where
  working : IsAtWork (core_of p s) id
  working = at_work p s id v seat.1 seat.2

  may_look : (a c : ℕ) → a < 3 → c < cells_of p.announced a → CanLook (core_of p s) id a c
  may_look a c ha hc = (working, ha, subst (λ (k : ℕ). c < k) (sym (sizes_are p.announced s.words seat.0 a ha)) hc)

  pub claim_event : IsEvent p s (Claim id) (after_claim s id v)
  claim_event = record { can = working; announced = tt; is = claim_is p s seat.0 id v seat.1 }

  pub look_event : (a c : ℕ) → a < 3 → c < cells_of p.announced a → IsEvent p s (Look id a c) (after_look p s id v a c)
  look_event a c ha hc = record { can = may_look a c ha hc; announced = tt; is = look_is p s seat.0 id v seat.1 a c ha hc }

  pub take_event : (a c key : ℕ) → a < 3 → c < cells_of p.announced a → key ≢ 0 → Contains (keys_of p.announced a) key → HasWalked v.view.known (cells_of p.announced a) a c key
      → IsEvent p s (Take id a c key) (after_take p s id v a c key)
  take_event a c key ha hc some_key ann way =
      let size = sizes_are p.announced s.words seat.0 a ha in let mine = (found s.views id v seat.1).1 in record {
        can = (may_look a c ha hc, some_key, subst (λ (q : Sight × ℕ). HasWalked q.0.known q.1 a c key) (λ j. (sym mine j, sym size j)) way);
        announced = ann;
        is = take_is p s seat.0 id v seat.1 a c key ha hc;
      }

  pub split_event : 1 < v.view.parts → IsEvent p s (Split id) (after_split s id v)
  split_event more = let f = found s.views id v seat.1 in let e = ap (λ (u : Sight). u.parts) f.1 in record { can = (f.0, omega arith); announced = tt; is = split_is p s seat.0 id v seat.1 }

  pub join_event : (other : ℕ) (w : Seen) → IsSeat p s other w → other ≢ id → IsEvent p s (Join other id) (after_join s id v other w)
  join_event other w its ne = record { can = (at_work p s other w its.1 its.2, working, ne); announced = tt; is = join_is p s seat.0 id v seat.1 other w its.1 }
