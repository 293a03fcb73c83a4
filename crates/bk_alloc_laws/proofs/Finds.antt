-- After the acts of values what is held is what the map says, and each was computed from the numbers of its arguments.
use Rattle.std.proofs.Common.{◌≡◌, ℕ, ◌+◌, ◌<◌, ◌≤◌, refl, ap, sym, ◌∙◌, subst, arith, ◌⊎◌, inl, inr, List, [], ◌∷◌, ◌++◌, length, Option, Some, None, Bool, true, false, cond, eq-eqb, ne_eqb, map, get_or}
use Rattle.std.specs.List.{AllByRecursion, Contains, find}
use Rattle.std.proofs.lemmas.List.{append-nil}
use Rattle.std.proofs.lemmas.List.Elements.{Contains-append_left, Contains-append_right, Contains-push}
use Rattle.bk_func.specs.declared.parts.Loc.{Loc}
use Rattle.bk_func.specs.declared.parts.Loc.TheVariants.{Reg, Slot}
use Rattle.bk_shuffle.specs.AtOnce.{after_all, goes_to, held_by}
use Rattle.bk_shuffle.specs.Sequence.{Move}
use Rattle.bk_alloc.specs.declared.acts.Role.{Role}
use Rattle.bk_alloc.specs.declared.acts.Role.TheVariants.{Plain, Taken, Calls, Leaves}
use Rattle.bk_alloc.specs.Registers.{Registers, Uses, register_of, holds, seat, put, freed, emptied}
use Rattle.bk_alloc.specs.Tasks.{TaskRecord, passing, where_is, sends, fetched, with_loads, before_result, after_role, acts_of_role, after_task, acts_of, after_tasks, acts_of_tasks}
use Rattle.bk_alloc_laws.specs.Holding.{World, State, Holds, words_passed, AreHomed, IsThereFor, StillThere, left_by, gained, all_known, AreKnown, after_act, after_acts, found, passed, IsBare, IsFresh, AreFresh, Stands, arguments}
use Rattle.bk_alloc_laws.proofs.Holding.{register_has, freed_at, emptied_at, after_more, homed_left, homed_right, compute_holds, call_holds, leave_holds, take_holds, still_taken, there_now, length-role}
use Rattle.bk_alloc_laws.proofs.Reach.{put_at, put_one, freed_one, all_loaded, all_kept_itself, compute_finds, found_more}

-- registers hold known values, none twice

known_put : (rs : Registers) (known : List ℕ) (v u q r : ℕ) → ((k x : ℕ) → get_or rs k None ≡ Some x → Contains known x) → Contains known v
    → ((q ≡ r) × (v ≡ u)) ⊎ ((q ≡ r → ⊥) × (get_or rs q None ≡ Some u)) → Contains known u
known_put rs known v u q r h c (inl a) = subst (λ (x : ℕ). Contains known x) a.1 c
known_put rs known v u q r h c (inr a) = h q u a.1

fetched_known : (rs : Registers) (known : List ℕ) (a r : ℕ) → ((k x : ℕ) → get_or rs k None ≡ Some x → Contains known x) → Contains known a → (b : Bool)
    → (q u : ℕ) → get_or (cond b rs (put rs r a)) q None ≡ Some u → Contains known u
fetched_known rs known a r h c true q u e = h q u e
fetched_known rs known a r h c false q u e = known_put rs known a u q r h c (put_at rs r a q u e)

loads_known : (n : Uses) (keep xs : List ℕ) (rs : Registers) (known : List ℕ) → ((k x : ℕ) → get_or rs k None ≡ Some x → Contains known x) → ((a : ℕ) → Contains xs a → Contains known a)
    → (q u : ℕ) → get_or (with_loads n keep xs rs) q None ≡ Some u → Contains known u
unfolding with_loads
loads_known n keep [] rs known h k q u e = h q u e
loads_known n keep (a ∷ xs) rs known h k q u e =
    let one : Contains (a ∷ xs) a = (0, omega arith, refl) in
    loads_known n keep xs (fetched n keep rs a) known (fetched_known rs known a (seat n keep rs) h (k a one) (holds rs a)) (λ b c. k b (Contains-append_right (a ∷ []) xs b c)) q u e

put_stands_at : (rs : Registers) (known : List ℕ) (v u q r : ℕ) → Stands rs known → ((q ≡ r) × (v ≡ u)) ⊎ ((q ≡ r → ⊥) × (get_or rs q None ≡ Some u)) → Contains (known ++ v ∷ []) u
put_stands_at rs known v u q r h (inl a) = subst (λ (x : ℕ). Contains (known ++ v ∷ []) x) a.1 (Contains-push known v)
put_stands_at rs known v u q r h (inr a) = Contains-append_left known (v ∷ []) u (h.every q u a.1)

put_stands : (rs : Registers) (known : List ℕ) (r v : ℕ) → Stands rs known → (Contains known v → ⊥) → Stands (put rs r v) (known ++ v ∷ [])
put_stands rs known r v h n = record {
  one = put_one rs r v h.one (λ k g. n (h.every k v g));
  every = λ q u e. put_stands_at rs known v u q r h (put_at rs r v q u e);
}

given_stands : (rs : Registers) (known : List ℕ) (r v : ℕ) → Stands rs known → (Contains known v → ⊥) → (b : Bool) → Stands (cond b (put rs r v) rs) (known ++ cond b (v ∷ []) [])
given_stands rs known r v h n true = put_stands rs known r v h n
given_stands rs known r v h n false = let P : List ℕ → Type 0 = Stands rs in subst P (sym (append-nil known)) h

freed_stands : (n : Uses) (rs : Registers) (known : List ℕ) → Stands rs known → Stands (freed n rs) known
freed_stands n rs known h = record { one = freed_one n rs h.one; every = λ q u e. h.every q u (freed_at n rs q u e) }

pub role_stands : (n : Uses) (t : TaskRecord) (rs : Registers) (known : List ℕ) → Stands rs known → ((a : ℕ) → Contains t.args a → Contains known a) → IsFresh (length rs) known t
    → (r : Role) → Stands (after_role r n t rs) (known ++ gained t r)
role_stands n t rs known h k f Plain =
    let l : Stands (with_loads n t.args t.args rs) known = record {
      one = (all_loaded n t.args t.args rs h.one f.less (all_kept_itself t.args)).one;
      every = loads_known n t.args t.args rs known h.every k;
    } in
    given_stands (before_result n t rs) known (seat n [] (before_result n t rs)) t.value (freed_stands n (with_loads n t.args t.args rs) known l) f.new t.gives
role_stands n t rs known h k f (Taken m) = put_stands rs known (passing m) t.value h f.new
role_stands n t rs known h k f Calls =
    let P : List ℕ → Type 0 = Stands (emptied rs) in
    subst P (sym (append-nil known)) (record {
      one = λ p q v a b. (let e : get_or (emptied rs) p None ≡ None = emptied_at rs p in absurd cc);
      every = λ q v a. (let e : get_or (emptied rs) q None ≡ None = emptied_at rs q in absurd cc);
    })
role_stands n t rs known h k f Leaves = let P : List ℕ → Type 0 = Stands (freed n rs) in subst P (sym (append-nil known)) (freed_stands n rs known h)

-- one value

pub role_holds : (w : World) (n : Uses) (o : Option (ℕ → ℕ)) (t : TaskRecord) (rs : Registers) (known : List ℕ) (s : State) → Holds w rs known s → StillThere o s → Stands rs known → length rs ≤ 32
    → ((a : ℕ) → Contains t.args a → Contains known a) → (r : Role) → words_passed r t ≤ 8 → IsThereFor w n o known t r → AreHomed w (acts_of_role r n t rs)
    → Holds w (after_role r n t rs) (known ++ gained t r) (after_acts w (acts_of_role r n t rs) s) × StillThere (left_by w o t r) (after_acts w (acts_of_role r n t rs) s)
unfolding after_acts after_act
role_holds w n o t rs known s h i y few k Plain l j d = (compute_holds w n t rs known s h few k d, tt)
role_holds w n o t rs known s h i y few k (Taken m) l j d = (take_holds w n t m rs known s h few (there_now w o s m t.value l i j), still_taken w n t m rs s o i)
role_holds w n o t rs known s h i y few k Calls l j d = (call_holds w n t rs known s h l, λ q z. refl)
role_holds w n o t rs known s h i y few k Leaves l j d = (leave_holds w n t rs known s h l (λ q v g. j v (y.every q v g)), tt)

-- all values of a block: what the registers' map and the homes say is what is held, whatever the next uses are
pub tasks_hold : (w : World) (next : ℕ → Uses) (k : ℕ) (o : Option (ℕ → ℕ)) (ts : List TaskRecord) (rs : Registers) (known : List ℕ) (s : State)
    → Holds w rs known s → StillThere o s → Stands rs known → length rs ≤ 32 → AreKnown w next k o known ts → AreFresh (length rs) known ts → AreHomed w (acts_of_tasks next k ts rs)
    → Holds w (after_tasks next k ts rs) (all_known known ts) (after_acts w (acts_of_tasks next k ts rs) s)
unfolding after_tasks acts_of_tasks after_task acts_of all_known AreKnown AreFresh after_acts
tasks_hold w next k o [] rs known s h i j few a f d = h
tasks_hold w next k o (t ∷ ts) rs known s h i j few a f d =
    let n = next (k + 1) in
    let one = acts_of_role t.role n t rs in
    let rest = acts_of_tasks next (k + 1) ts (after_role t.role n t rs) in
    let x = role_holds w n o t rs known s h i j few a.0.args t.role a.0.few a.0.there (homed_left w one rest d) in
    let y = role_stands n t rs known j a.0.args f.0 t.role in
    let same = length-role n t rs t.role in
    let e : length (after_role t.role n t rs) ≤ 32 = omega (arith, same) in
    let Q : ℕ → Type 0 = λ c. AreFresh c (known ++ gained t t.role) ts in
    let P : State → Type 0 = Holds w (after_tasks next (k + 1) ts (after_role t.role n t rs)) (all_known (known ++ gained t t.role) ts) in
    subst P (sym (after_more w one rest s))
    (tasks_hold w next (k + 1) (left_by w o t t.role) ts (after_role t.role n t rs) (known ++ gained t t.role) (after_acts w one s) x.0 x.1 y e a.1 (subst Q (sym same) f.1) (homed_right w one rest d))

-- words that are passed

where_by : (w : World) (rs : Registers) (known : List ℕ) (s : State) (a : ℕ) → Holds w rs known s → Contains known a → (b : Bool) → holds rs a ≡ b → (b ≡ false → w.home a ≡ true)
    → s (cond b (Reg (register_of rs a)) (Slot a)) ≡ w.number a
where_by w rs known s a h c true e g = h.registers (register_of rs a) a (register_has rs a e)
where_by w rs known s a h c false e g = h.slots a c (g refl)

slot_sent : (rs : Registers) (k a : ℕ) (xs : List ℕ) → holds rs a ≡ false → Contains (sends rs k (a ∷ xs)) (Slot a, Reg (passing k))
unfolding where_is
slot_sent rs k a xs e = (0, omega arith, ap (λ b. (cond b (Reg (register_of rs a)) (Slot a), Reg (passing k))) e)

words_are : (w : World) (rs : Registers) (known : List ℕ) (s : State) (k : ℕ) (xs : List ℕ) → Holds w rs known s → ((a : ℕ) → Contains xs a → Contains known a)
    → ((v : ℕ) (l : Loc) → Contains (sends rs k xs) (Slot v, l) → w.home v ≡ true) → AllByRecursion (λ a. s (where_is rs a) ≡ w.number a) xs
unfolding where_is
words_are w rs known s k [] h c d = tt
words_are w rs known s k (a ∷ xs) h c d = (
  where_by w rs known s a h (c a (0, omega arith, refl)) (holds rs a) refl (λ e. d a (Reg (passing k)) (slot_sent rs k a xs e)),
  words_are w rs known s (k + 1) xs h (λ b e. c b (Contains-append_right (a ∷ []) xs b e))
      (λ v l e. d v l (Contains-append_right ((where_is rs a, Reg (passing k)) ∷ []) (sends rs (k + 1) xs) (Slot v, l) e)),
)

pub passed_words : (w : World) (rs : Registers) (s : State) (ms : List Move) (k : ℕ) (xs : List ℕ) → ((q : ℕ) → 5 + k ≤ q → find (goes_to q) ms ≡ find (goes_to q) (sends rs k xs))
    → AllByRecursion (λ a. s (where_is rs a) ≡ w.number a) xs → passed (after_all ms s) k (length xs) ≡ map w.number xs
passed_words w rs s ms k [] h a = refl
passed_words w rs s ms k (x ∷ xs) h a =
    let here : find (goes_to (5 + k)) ms ≡ Some (where_is rs x, Reg (passing k)) =
    h (5 + k) (omega arith) ∙ ap (λ b. cond b (Some (where_is rs x, Reg (passing k))) (find (goes_to (5 + k)) (sends rs (k + 1) xs))) (eq-eqb (5 + k) (5 + k) refl) in
    let one : after_all ms s (Reg (passing k)) ≡ w.number x = ap (held_by s (Reg (passing k))) here ∙ a.0 in
    let rest = passed_words w rs s ms (k + 1) xs
    (λ q l. h q (omega arith) ∙ ap (λ b. cond b (Some (where_is rs x, Reg (passing k))) (find (goes_to q) (sends rs (k + 1) xs))) (ne_eqb (5 + k) q (λ e. omega arith))) a.1 in
    ap (λ n. n ∷ passed (after_all ms s) (k + 1) (length xs)) one ∙ ap (λ l. w.number x ∷ l) rest

sent_words : (w : World) (rs : Registers) (known : List ℕ) (s : State) (xs : List ℕ) → Holds w rs known s → ((a : ℕ) → Contains xs a → Contains known a)
    → ((v : ℕ) (l : Loc) → Contains (sends rs 0 xs) (Slot v, l) → w.home v ≡ true) → passed (after_all (sends rs 0 xs) s) 0 (length xs) ≡ map w.number xs
sent_words w rs known s xs h c d = passed_words w rs s (sends rs 0 xs) 0 xs (λ q l. refl) (words_are w rs known s 0 xs h c d)

-- one value

pub role_finds : (w : World) (n : Uses) (t : TaskRecord) (rs : Registers) (known : List ℕ) (s : State) → Holds w rs known s → Stands rs known → length rs ≤ 32
    → ((a : ℕ) → Contains t.args a → Contains known a) → length t.args < length rs → (r : Role) → IsBare r t → AreHomed w (acts_of_role r n t rs)
    → found w (acts_of_role r n t rs) s ≡ (t.value, map w.number t.args) ∷ []
unfolding found after_act AreHomed
role_finds w n t rs known s h i few k less Plain b d = compute_finds w n t rs known s h few i.one less k d
role_finds w n t rs known s h i few k less (Taken m) b d = ap (λ l. (t.value, map w.number l) ∷ []) (sym b)
role_finds w n t rs known s h i few k less Calls b d = ap (λ l. (t.value, l) ∷ []) (sent_words w rs known s t.args h k d.0)
role_finds w n t rs known s h i few k less Leaves b d = ap (λ l. (t.value, l) ∷ []) (sent_words w rs known s t.args h k d.0)

-- all values of a block
pub tasks_find : (w : World) (next : ℕ → Uses) (k : ℕ) (o : Option (ℕ → ℕ)) (ts : List TaskRecord) (rs : Registers) (known : List ℕ) (s : State)
    → Holds w rs known s → StillThere o s → Stands rs known → length rs ≤ 32 → AreKnown w next k o known ts → AreFresh (length rs) known ts → AreHomed w (acts_of_tasks next k ts rs)
    → found w (acts_of_tasks next k ts rs) s ≡ arguments w ts
unfolding acts_of_tasks after_task acts_of AreKnown AreFresh found
tasks_find w next k o [] rs known s h i j few a f d = refl
tasks_find w next k o (t ∷ ts) rs known s h i j few a f d =
    let n = next (k + 1) in
    let one = acts_of_role t.role n t rs in
    let rest = acts_of_tasks next (k + 1) ts (after_role t.role n t rs) in
    let dl = homed_left w one rest d in
    let x = role_holds w n o t rs known s h i j few a.0.args t.role a.0.few a.0.there dl in
    let y = role_stands n t rs known j a.0.args f.0 t.role in
    let z = role_finds w n t rs known s h j few a.0.args f.0.less t.role f.0.bare dl in
    let same = length-role n t rs t.role in
    let e : length (after_role t.role n t rs) ≤ 32 = omega (arith, same) in
    let P : ℕ → Type 0 = λ c. AreFresh c (known ++ gained t t.role) ts in
    let r = tasks_find w next (k + 1) (left_by w o t t.role) ts (after_role t.role n t rs) (known ++ gained t t.role) (after_acts w one s) x.0 x.1 y e a.1 (subst P (sym same) f.1) (homed_right w one rest d) in
    found_more w one rest s ∙ (ap (λ l. l ++ found w rest (after_acts w one s)) z ∙ ap (λ l. (t.value, map w.number t.args) ∷ l) r)
