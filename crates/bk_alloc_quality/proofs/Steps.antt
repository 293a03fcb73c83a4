-- What each value of a block does to registers that hold the live words: no argument is loaded, and they still hold them.
use Rattle.std.proofs.Common.{◌≡◌, ℕ, ◌+◌, ◌<◌, ◌≤◌, refl, ap, sym, ◌∙◌, subst, arith, ◌⊎◌, inl, inr, List, [], ◌∷◌, ◌++◌, length, Some, None, Bool, true, false, cond, eq-eqb, get_or, map}
use Rattle.std.specs.List.{Contains, AllByRecursion, flat_map}
use Rattle.std.proofs.lemmas.Bool.{cases_eq, lt-ltb, or_left}
use Rattle.std.proofs.lemmas.List.{length-map}
use Rattle.std.proofs.lemmas.List.Elements.{Contains-append_right}
use Rattle.std.proofs.Math.Nat.{le-max_right}
use Rattle.bk_func.specs.declared.parts.Loc.TheVariants.{Reg, Slot}
use Rattle.bk_shuffle.specs.Sequence.{Move}
use Rattle.bk_alloc.specs.declared.acts.Role.{Role}
use Rattle.bk_alloc.specs.declared.acts.Role.TheVariants.{Plain, Taken, Calls, Leaves}
use Rattle.bk_alloc.specs.Registers.{Registers, Uses, register_of, holds, is_kept, is_open, least_open, farthest, register_or_none, seat, put, freed, while_used}
use Rattle.bk_alloc.specs.Tasks.{ActRecord, load, compute, passing, TaskRecord, fetched, fetch, with_loads, loads, result_in, where_is, sends, after_role, acts_of_role, after_task, acts_of, after_tasks, acts_of_tasks}
use Rattle.bk_alloc.specs.Placing.{goes_elsewhere, needed_moves, slot_at, slot_source, slot_sources}
use Rattle.bk_alloc_laws.proofs.Reach.{put_at, put_one, freed_one, put_held}
use Rattle.bk_alloc_laws.proofs.Holding.{freed_at, length-role}
use Rattle.bk_alloc_quality.specs.Pressure.{is_used, IsUsed, live, result_of, pressure, ArePressed, values_of, IsPassed, ArePassed, IsQuietAs, AreQuiet, HoldsLive, LoadsNothing}
use Rattle.bk_alloc_quality.proofs.Room.{room, least_is_open, put_keeps, freed_keeps, freed_used}

-- arguments in registers are not loaded

pub record NothingLoaded (n : Uses) (keep xs : List ℕ) (rs : Registers) : Type 0 where
  pub acts : loads n keep xs rs ≡ []
  pub same : with_loads n keep xs rs ≡ rs

pub nothing_loaded : (n : Uses) (keep xs : List ℕ) (rs : Registers) → ((a : ℕ) → Contains xs a → holds rs a ≡ true) → NothingLoaded n keep xs rs
unfolding loads with_loads
nothing_loaded n keep [] rs h = record { acts = refl; same = refl }
nothing_loaded n keep (a ∷ xs) rs h =
    let here : holds rs a ≡ true = h a (0, omega arith, refl) in
    let e : fetched n keep rs a ≡ rs = ap (λ b. cond b rs (put rs (seat n keep rs) a)) here in
    let f : fetch n keep rs a ≡ [] = ap (λ b. cond b [] (load (seat n keep rs) a ∷ [])) here in
    let r = nothing_loaded n keep xs rs (λ b c. h b (Contains-append_right (a ∷ []) xs b c)) in
    record {
      acts = ap (λ l. l ++ loads n keep xs (fetched n keep rs a)) f ∙ (ap (λ l. loads n keep xs l) e ∙ r.acts);
      same = ap (λ l. with_loads n keep xs l) e ∙ r.same;
    }

-- arguments are in registers

pub args_held : (words later : List ℕ) (before after : Uses) (t : TaskRecord) (rs : Registers) → HoldsLive words before (t.value ∷ later) rs → IsPassed words before after later t
    → (a : ℕ) → Contains t.args a → holds rs a ≡ true
args_held words later before after t rs h p a c = h.all a (p.args a c).0 (p.args a c).1

-- values that are made later

pub next_later : (x : ℕ) (later : List ℕ) (v : ℕ) → Contains later v → Contains (x ∷ later) v
next_later x later v c = Contains-append_right (x ∷ []) later v c

pub is_next : (x : ℕ) (later : List ℕ) → Contains (x ∷ later) x
is_next x later = (0, omega arith, refl)

-- registers whose values are used no more are open

pub freed_holds_live : (words later : List ℕ) (before after : Uses) (t : TaskRecord) (rs : Registers) → HoldsLive words before (t.value ∷ later) rs → IsPassed words before after later t
    → (v : ℕ) → Contains words v → IsUsed after v → (v ≡ t.value → ⊥) → holds (freed after rs) v ≡ true
freed_holds_live words later before after t rs h p v c u n = freed_keeps after rs v u (h.all v c (p.rest v u n))

-- there is no result
no_result : (words later : List ℕ) (before after : Uses) (t : TaskRecord) (rs : Registers) → HoldsLive words before (t.value ∷ later) rs → IsPassed words before after later t → t.gives ≡ false
    → HoldsLive words after later (freed after rs)
no_result words later before after t rs h p none = record {
  one = freed_one after rs h.one;
  every = λ q v e. (let c = h.every q v (freed_at after rs q v e) in (c.0, λ k. c.1 (next_later t.value later v k)));
  all = λ v c u. freed_holds_live words later before after t rs h p v c u (λ e. (let g = p.gives (subst (λ (x : ℕ). Contains words x) e c) in absurd cc));
}

-- the result takes an open register
new_or_known : (words later : List ℕ) (x : ℕ) (rs : Registers) (r q v : ℕ) → Contains words x → (Contains later x → ⊥) → ((k u : ℕ) → get_or rs k None ≡ Some u → Contains words u × (Contains (x ∷ later) u → ⊥))
    → ((q ≡ r) × (x ≡ v)) ⊎ ((q ≡ r → ⊥) × (get_or rs q None ≡ Some v)) → Contains words v × (Contains later v → ⊥)
new_or_known words later x rs r q v c n h (inl a) = subst (λ (u : ℕ). Contains words u × (Contains later u → ⊥)) a.1 (c, n)
new_or_known words later x rs r q v c n h (inr a) = let k = h q v a.1 in (k.0, λ m. k.1 (next_later x later v m))

put_has : (rs : Registers) (r x v : ℕ) → r < length rs → is_open (get_or rs r None) ≡ true → ((v ≡ x → ⊥) → holds rs v ≡ true) → (v ≡ x) ⊎ (v ≡ x → ⊥) → holds (put rs r x) v ≡ true
put_has rs r x v l o h (inl e) = subst (λ (u : ℕ). holds (put rs r x) u ≡ true) (sym e) (put_held rs r x l)
put_has rs r x v l o h (inr n) = put_keeps rs r x v o (h n)

pub put_holds_live : (words later : List ℕ) (after : Uses) (x : ℕ) (rs : Registers) (r : ℕ) → ((q k v : ℕ) → get_or rs q None ≡ Some v → get_or rs k None ≡ Some v → q ≡ k)
    → ((k u : ℕ) → get_or rs k None ≡ Some u → Contains words u × (Contains (x ∷ later) u → ⊥)) → ((v : ℕ) → Contains words v → IsUsed after v → (v ≡ x → ⊥) → holds rs v ≡ true)
    → Contains words x → (Contains later x → ⊥) → r < length rs → is_open (get_or rs r None) ≡ true → HoldsLive words after later (put rs r x)
put_holds_live words later after x rs r one every all c new l o = record {
  one = put_one rs r x one (λ k g. (every k x g).1 (is_next x later));
  every = λ q v e. new_or_known words later x rs r q v c new every (put_at rs r x q v e);
  all = λ v w u. put_has rs r x v l o (λ n. all v w u n) (cases_eq v x);
}

seat_open : (n : Uses) (rs : Registers) → least_open rs < length rs → seat n [] rs ≡ least_open rs
unfolding seat
seat_open n rs l = ap (λ b. cond b (least_open rs) (register_or_none rs (farthest n [] rs))) (lt-ltb (least_open rs) (length rs) l)

with_one : (words later : List ℕ) (before after : Uses) (t : TaskRecord) (rs : Registers) → HoldsLive words before (t.value ∷ later) rs → IsPassed words before after later t → t.gives ≡ true
    → length (live words after (t.value ∷ [])) ≤ length rs → HoldsLive words after later (put (freed after rs) (seat after [] (freed after rs)) t.value)
with_one words later before after t rs h p given few =
    let fs = freed after rs in
    let one : (q k v : ℕ) → get_or fs q None ≡ Some v → get_or fs k None ≡ Some v → q ≡ k = freed_one after rs h.one in
    let every : (k u : ℕ) → get_or fs k None ≡ Some u → Contains words u × (Contains (t.value ∷ later) u → ⊥) = λ k u e. h.every k u (freed_at after rs k u e) in
    let l : least_open fs < length fs =
    room words (t.value ∷ []) after fs t.value one (λ q e. (every q t.value e).1 (is_next t.value later))
    (λ q v e. ((every q v e).0, or_left (is_used (after v)) (is_kept (t.value ∷ []) v) (freed_used after rs q v e))) (p.word given)
    (or_left _ _ (eq-eqb t.value t.value refl)) (omega (arith, few, length-map rs (while_used after))) in
    subst (λ (r : ℕ). HoldsLive words after later (put fs r t.value)) (sym (seat_open after fs l))
    (put_holds_live words later after t.value fs (least_open fs) one every (freed_holds_live words later before after t rs h p) (p.word given) p.new l (least_is_open fs l))

result_by : (words later : List ℕ) (before after : Uses) (t : TaskRecord) (rs : Registers) → HoldsLive words before (t.value ∷ later) rs → IsPassed words before after later t
    → (b : Bool) → t.gives ≡ b → length (live words after (cond b (t.value ∷ []) [])) ≤ length rs
    → HoldsLive words after later (cond b (put (freed after rs) (seat after [] (freed after rs)) t.value) (freed after rs))
result_by words later before after t rs h p true e few = with_one words later before after t rs h p e few
result_by words later before after t rs h p false e few = no_result words later before after t rs h p e

-- what a value leaves, and that it loads nothing
pub record Stays (words later : List ℕ) (n : Uses) (done : List ActRecord) (after : Registers) : Type 0 where
  pub settled : HoldsLive words n later after
  pub quiet : AllByRecursion LoadsNothing done

plain_stays : (words later : List ℕ) (before after : Uses) (t : TaskRecord) (rs : Registers) → HoldsLive words before (t.value ∷ later) rs → IsPassed words before after later t
    → pressure words before after t ≤ length rs → Stays words later after (acts_of_role Plain after t rs) (after_role Plain after t rs)
plain_stays words later before after t rs h p few =
    let n = nothing_loaded after t.args t.args rs (args_held words later before after t rs h p) in
    let ws = with_loads after t.args t.args rs in
    let m = le-max_right (length (live words before t.args)) (length (live words after (result_of t))) in
    let c = compute t.value (map (register_of ws) t.args) (result_in after t (freed after ws)) in
    record {
      settled = subst (λ (l : Registers). HoldsLive words after later (cond t.gives (put (freed after l) (seat after [] (freed after l)) t.value) (freed after l))) (sym n.same)
          (result_by words later before after t rs h p t.gives refl (omega (arith, few, m)));
      quiet = subst (λ (l : List ActRecord). AllByRecursion LoadsNothing (l ++ c ∷ [])) (sym n.acts) (refl, tt);
    }

-- a word that was passed is taken
taken_stays : (words later : List ℕ) (before after : Uses) (t : TaskRecord) (w : ℕ) (rs : Registers) → HoldsLive words before (t.value ∷ later) rs → IsPassed words before after later t
    → IsQuietAs rs t (Taken w) → Stays words later after (acts_of_role (Taken w) after t rs) (after_role (Taken w) after t rs)
taken_stays words later before after t w rs h p (given, l, o) = record {
  settled = put_holds_live words later after t.value rs (passing w) h.one h.every (λ v c u n. h.all v c (p.rest v u n)) (p.word given) p.new l o;
  quiet = (refl, tt);
}

-- words go to the registers that pass them

pub no_sources : (ms : List Move) → AllByRecursion (λ m. slot_at m.0 ≡ []) ms → slot_sources ms ≡ []
no_sources [] h = refl
no_sources (m ∷ ms) h = go (goes_elsewhere m) (no_sources ms h.1)
  where
    go : (b : Bool) → slot_sources ms ≡ [] → flat_map slot_source (cond b (m ∷ needed_moves ms) (needed_moves ms)) ≡ []
    go true r = ap (λ l. l ++ slot_sources ms) h.0 ∙ r
    go false r = r

pub in_register : (rs : Registers) (v : ℕ) → holds rs v ≡ true → slot_at (where_is rs v) ≡ []
unfolding where_is
in_register rs v h = ap (λ b. slot_at (cond b (Reg (register_of rs v)) (Slot v))) h

sends_none : (rs : Registers) (w : ℕ) (xs : List ℕ) → ((a : ℕ) → Contains xs a → holds rs a ≡ true) → AllByRecursion (λ m. slot_at m.0 ≡ []) (sends rs w xs)
sends_none rs w [] h = tt
sends_none rs w (a ∷ xs) h = (in_register rs a (h a (0, omega arith, refl)), sends_none rs (w + 1) xs (λ b c. h b (Contains-append_right (a ∷ []) xs b c)))

leaves_stays : (words later : List ℕ) (before after : Uses) (t : TaskRecord) (rs : Registers) → HoldsLive words before (t.value ∷ later) rs → IsPassed words before after later t
    → t.gives ≡ false → Stays words later after (acts_of_role Leaves after t rs) (after_role Leaves after t rs)
leaves_stays words later before after t rs h p none = record {
  settled = no_result words later before after t rs h p none;
  quiet = (no_sources (sends rs 0 t.args) (sends_none rs 0 t.args (args_held words later before after t rs h p)), (refl, tt));
}

pub role_stays : (words later : List ℕ) (before after : Uses) (t : TaskRecord) (rs : Registers) → HoldsLive words before (t.value ∷ later) rs → IsPassed words before after later t
    → pressure words before after t ≤ length rs → (r : Role) → IsQuietAs rs t r → Stays words later after (acts_of_role r after t rs) (after_role r after t rs)
role_stays words later before after t rs h p few Plain q = plain_stays words later before after t rs h p few
role_stays words later before after t rs h p few (Taken w) q = taken_stays words later before after t w rs h p q
role_stays words later before after t rs h p few Calls q = absurd q
role_stays words later before after t rs h p few Leaves q = leaves_stays words later before after t rs h p q

-- values one after the other

pub all_append : {X : Type 0} (P : X → Type 0) (xs ys : List X) → AllByRecursion P xs → AllByRecursion P ys → AllByRecursion P (xs ++ ys)
all_append P [] ys h k = k
all_append P (x ∷ xs) ys h k = (h.0, all_append P xs ys h.1 k)

pub tasks_stay : (words : List ℕ) (next : ℕ → Uses) (k : ℕ) (ts : List TaskRecord) (rs : Registers) → HoldsLive words (next k) (values_of ts) rs → ArePassed words next k ts
    → ArePressed (length rs) words next k ts → AreQuiet next k ts rs → Stays words [] (next (k + length ts)) (acts_of_tasks next k ts rs) (after_tasks next k ts rs)
unfolding ArePassed ArePressed AreQuiet after_tasks acts_of_tasks after_task acts_of
tasks_stay words next k [] rs h p few q = record {
  settled = subst (λ (m : ℕ). HoldsLive words (next m) [] rs) (omega arith) h;
  quiet = tt;
}
tasks_stay words next k (t ∷ ts) rs h p few q =
    let n = next (k + 1) in
    let s = role_stays words (values_of ts) (next k) n t rs h p.0 few.0 t.role q.0 in
    let e : length (after_role t.role n t rs) ≡ length rs = length-role n t rs t.role in
    let f : ArePressed (length (after_role t.role n t rs)) words next (k + 1) ts = subst (λ (m : ℕ). ArePressed m words next (k + 1) ts) (sym e) few.1 in
    let r = tasks_stay words next (k + 1) ts (after_role t.role n t rs) s.settled p.1 f q.1 in
    record {
      settled = subst (λ (m : ℕ). HoldsLive words (next m) [] (after_tasks next (k + 1) ts (after_role t.role n t rs))) (omega arith) r.settled;
      quiet = all_append LoadsNothing (acts_of_role t.role n t rs) (acts_of_tasks next (k + 1) ts (after_role t.role n t rs)) s.quiet r.quiet;
    }
