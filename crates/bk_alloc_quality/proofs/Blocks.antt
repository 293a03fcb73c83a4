-- Where a block begins registers hold its phis and what is live, and where it ends what is live there.
use Rattle.std.proofs.Common.{◌≡◌, ℕ, zero, suc, ◌<◌, ◌≤◌, refl, sym, ◌∙◌, subst, arith, ◌⊎◌, inl, inr, List, [], ◌∷◌, length, Some, None, true, eqb-true, get_or}
use Rattle.std.specs.Prelude.{◌||◌}
use Rattle.std.specs.List.{Contains, AllByRecursion, fold}
use Rattle.std.proofs.lemmas.Bool.{or_cases, or_left, or_right}
use Rattle.std.proofs.lemmas.List.{length-map, length-set}
use Rattle.std.proofs.lemmas.List.Elements.{Contains-append_right}
use Rattle.std.proofs.lemmas.Map.Views.{Contains-from_any}
use Rattle.bk_alloc.specs.Registers.{Registers, Uses, holds, is_kept, least_open, put, freed, while_used}
use Rattle.bk_alloc.specs.Tasks.{ActRecord, acts_of_tasks}
use Rattle.bk_alloc.specs.Blocks.{PlanRecord, phis_of, with_phi, begun, controls, behind, last_map, block_acts}
use Rattle.bk_alloc_laws.proofs.Reach.{OneEach, put_at, put_one, freed_one, put_held}
use Rattle.bk_alloc_laws.proofs.Holding.{freed_at}
use Rattle.bk_alloc_quality.specs.Pressure.{is_used, IsUsed, live, AreApart, ArePressed, values_of, IsBegun, IsFlow, AreQuiet, HoldsLive, HoldsStart, LoadsNothing}
use Rattle.bk_alloc_quality.proofs.Room.{kept, room, least_is_open, put_keeps, freed_keeps, freed_used}
use Rattle.bk_alloc_quality.proofs.Steps.{all_append, nothing_loaded, tasks_stay, Stays}

-- what each register holds
abbrev Only : List ℕ → Uses → List ℕ → Registers → Type 0
Only words n all rs = (q v : ℕ) → get_or rs q None ≡ Some v → Contains words v × ((is_used (n v) || is_kept all v) ≡ true)

only_put : (words all : List ℕ) (n : Uses) (rs : Registers) (r x q v : ℕ) → Only words n all rs → Contains words x → is_kept all x ≡ true
    → ((q ≡ r) × (x ≡ v)) ⊎ ((q ≡ r → ⊥) × (get_or rs q None ≡ Some v)) → Contains words v × ((is_used (n v) || is_kept all v) ≡ true)
only_put words all n rs r x q v h c k (inl a) = subst (λ (u : ℕ). Contains words u × ((is_used (n u) || is_kept all u) ≡ true)) a.1 (c, or_right (is_used (n x)) (is_kept all x) k)
only_put words all n rs r x q v h c k (inr a) = h q v a.1

in_tail : (y x : ℕ) (ps : List ℕ) → Contains (y ∷ ps) x → (y ≡ x) ⊎ Contains ps x
in_tail y x ps (zero, l, e) = inl e
in_tail y x ps (suc k, l, e) = inr (k, omega arith, e)

absent_put : (rs : Registers) (ps : List ℕ) (r y x q : ℕ) → (Contains ps y → ⊥) → Contains ps x → ((k : ℕ) → get_or rs k None ≡ Some x → ⊥)
    → ((q ≡ r) × (y ≡ x)) ⊎ ((q ≡ r → ⊥) × (get_or rs q None ≡ Some x)) → ⊥
absent_put rs ps r y x q n c h (inl a) = n (subst (λ (u : ℕ). Contains ps u) (sym a.1) c)
absent_put rs ps r y x q n c h (inr a) = h q a.1

-- phis are put into open registers
record Begins (words all : List ℕ) (n : Uses) (ps : List ℕ) (rs after : Registers) : Type 0 where
  one : OneEach after
  only : Only words n all after
  stays : (v : ℕ) → holds rs v ≡ true → holds after v ≡ true
  there : (x : ℕ) → Contains ps x → holds after x ≡ true
  size : length after ≡ length rs

there_by : (rs after : Registers) (y x : ℕ) (ps : List ℕ) → holds rs y ≡ true → ((v : ℕ) → holds rs v ≡ true → holds after v ≡ true) → ((v : ℕ) → Contains ps v → holds after v ≡ true)
    → (y ≡ x) ⊎ Contains ps x → holds after x ≡ true
there_by rs after y x ps h s t (inl e) = s x (subst (λ (u : ℕ). holds rs u ≡ true) e h)
there_by rs after y x ps h s t (inr c) = t x c

phis_begin : (words all : List ℕ) (n : Uses) (ps : List ℕ) (rs : Registers) → OneEach rs → Only words n all rs → ((x : ℕ) → Contains ps x → Contains words x × (is_kept all x ≡ true))
    → ((x : ℕ) → Contains ps x → (q : ℕ) → get_or rs q None ≡ Some x → ⊥) → AreApart ps → length (live words n all) ≤ length rs → Begins words all n ps rs (fold with_phi rs ps)
phis_begin words all n [] rs o h c a d few = record { one = o; only = h; stays = λ v e. e; there = λ x k. absurd (let l = k.1 in omega (arith, l)); size = refl }
phis_begin words all n (y ∷ ps) rs o h c a d few =
    let here : Contains (y ∷ ps) y = (0, omega arith, refl) in
    let tail : (x : ℕ) → Contains ps x → Contains (y ∷ ps) x = λ x k. Contains-append_right (y ∷ []) ps x k in
    let r = least_open rs in
    let l : r < length rs = room words all n rs y o (a y here) h (c y here).0 (c y here).1 few in
    let e : length (put rs r y) ≡ length rs = length-set rs r (Some y) in
    let s = phis_begin words all n ps (put rs r y) (put_one rs r y o (a y here)) (λ q v g. only_put words all n rs r y q v h (c y here).0 (c y here).1 (put_at rs r y q v g))
    (λ x k. c x (tail x k)) (λ x k q g. absent_put rs ps r y x q d.0 k (a x (tail x k)) (put_at rs r y q x g)) d.1 (omega (arith, few, e)) in
    record {
      one = s.one;
      only = s.only;
      stays = λ v g. s.stays v (put_keeps rs r y v (least_is_open rs l) g);
      there = λ x k. there_by (put rs r y) (fold with_phi (put rs r y) ps) y x ps (put_held rs r y l) s.stays s.there (in_tail y x ps k);
      size = s.size ∙ e;
    }

-- the first map

among_by : (b : PlanRecord) (n : Uses) (v : ℕ) → (is_used (n v) ≡ true) ⊎ (is_kept (phis_of b) v ≡ true) → Contains (phis_of b) v ⊎ IsUsed n v
among_by b n v (inl u) = inr u
among_by b n v (inr k) = inl (Contains-from_any (λ x y e. eqb-true x y e) v (phis_of b) k)

not_later : (words : List ℕ) (next : ℕ → Uses) (b : PlanRecord) (v : ℕ) → IsBegun words next b → Contains (phis_of b) v ⊎ IsUsed (next 0) v → Contains (values_of b.tasks) v → ⊥
not_later words next b v h (inl p) c = (h.later v c).1 p
not_later words next b v h (inr u) c = (h.later v c).0 u

all_by : (words : List ℕ) (next : ℕ → Uses) (b : PlanRecord) (before first : Registers) (v : ℕ) → ((u : ℕ) → holds (freed (next 0) before) u ≡ true → holds first u ≡ true)
    → ((u : ℕ) → Contains (phis_of b) u → holds first u ≡ true) → (IsUsed (next 0) v → holds before v ≡ true) → Contains (phis_of b) v ⊎ IsUsed (next 0) v → holds first v ≡ true
all_by words next b before first v s t h (inl p) = t v p
all_by words next b before first v s t h (inr u) = s v (freed_keeps (next 0) before v u (h u))

pub start_holds : (words : List ℕ) (next : ℕ → Uses) (b : PlanRecord) (before : Registers) → IsBegun words next b → HoldsLive words (next 0) [] before
    → length (live words (next 0) (phis_of b)) ≤ length before → HoldsStart words next b (begun (next 0) (phis_of b) before)
start_holds words next b before g h few =
    let n = next 0 in
    let all = phis_of b in
    let rs = freed n before in
    let s = phis_begin words all n all rs (freed_one n before h.one)
    (λ q v e. ((h.every q v (freed_at n before q v e)).0, or_left (is_used (n v)) (is_kept all v) (freed_used n before q v e)))
    (λ x c. ((g.phis x c).0, kept all x c)) (λ x c q e. (g.phis x c).1 (freed_used n before q x e)) g.distinct (omega (arith, few, length-map before (while_used n))) in
    let first = fold with_phi rs all in
    let only : (q v : ℕ) → get_or first q None ≡ Some v → Contains all v ⊎ IsUsed n v = λ q v e. among_by b n v (or_cases (is_used (n v)) (is_kept all v) (s.only q v e).1) in
    record {
      live = record {
        one = s.one;
        every = λ q v e. ((s.only q v e).0, not_later words next b v g (only q v e));
        all = λ v c u. all_by words next b before first v s.stays s.there (h.all v c) (g.rest v c u);
      };
      phis = s.there;
      only = only;
    }

pub start_size : (n : Uses) (ps : List ℕ) (rs : Registers) → length (begun n ps rs) ≡ length rs
start_size n ps rs = go ps (freed n rs) ∙ length-map rs (while_used n)
  where
    go : (xs : List ℕ) (l : Registers) → length (fold with_phi l xs) ≡ length l
    go [] l = refl
    go (x ∷ xs) l = go xs (put l (least_open l) x) ∙ length-set l (least_open l) (Some x)

-- the block

pub block_stays : (words : List ℕ) (next : ℕ → Uses) (b : PlanRecord) (first : Registers) → IsFlow words next b → HoldsLive words (next b.skipped) (values_of b.tasks) first
    → ArePressed (length first) words next b.skipped b.tasks → AreQuiet next b.skipped b.tasks first → Stays words [] (next b.size) (block_acts next b first) (last_map next b first)
block_stays words next b first f h few q =
    let s = tasks_stay words next b.skipped b.tasks first h f.passed few q in
    let end : HoldsLive words (next b.size) [] (behind next b first) = subst (λ (m : ℕ). HoldsLive words (next m) [] (behind next b first)) f.size s.settled in
    let n = nothing_loaded (next b.size) (controls b.control) (controls b.control) (behind next b first) (λ c k. end.all c (f.control c k).0 (f.control c k).1) in
    record {
      settled = subst (λ (l : Registers). HoldsLive words (next b.size) [] l) (sym n.same) end;
      quiet = all_append LoadsNothing (acts_of_tasks next b.skipped b.tasks first) _ s.quiet (subst (λ (l : List ActRecord). AllByRecursion LoadsNothing l) (sym n.acts) tt);
    }
