-- After the acts of a block's values, registers and slots hold the numbers that the map and the homes say.
use Rattle.std.proofs.Common.{◌≡◌, ℕ, ◌+◌, ◌<◌, ◌≤◌, refl, ap, sym, ◌∙◌, subst, arith, ◌⊎◌, inl, inr, List, [], ◌∷◌, ◌++◌, length, Option, Some, None, Bool, true, false, cond, eq-eqb, ne_eqb, eqb-true, map, get_or, set, get_or-set_same, get_or-set_other}
use Rattle.std.specs.Prelude.{nat_lt}
use Rattle.std.specs.List.{Contains, find}
use Rattle.std.proofs.lemmas.Bool.{cases_eq, cases_lt, ltb-true}
use Rattle.std.proofs.lemmas.List.{length-set, length-map, get_or_past, set_past, append-nil}
use Rattle.std.proofs.lemmas.List.Elements.{Contains-append_right, Contains-push_cases}
use Rattle.std.proofs.lemmas.List.Sums.{passes_at_first, prefix_len-le-length}
use Rattle.std.proofs.Math.ListN.{get_or-map}
use Rattle.bk_func.specs.declared.parts.Loc.{Loc}
use Rattle.bk_func.specs.declared.parts.Loc.TheVariants.{Reg, Slot}
use Rattle.bk_shuffle.specs.AtOnce.{holding, after_all, goes_to, held_by}
use Rattle.bk_shuffle.specs.Sequence.{place_of}
use Rattle.bk_alloc.specs.declared.acts.Role.{Role}
use Rattle.bk_alloc.specs.declared.acts.Role.TheVariants.{Plain, Taken, Calls, Leaves}
use Rattle.bk_alloc.specs.Registers.{Registers, Uses, register_of, holds, is_value, least_open, farthest, register_or_none, seat, put, used_as, while_used, freed, emptied}
use Rattle.bk_alloc.specs.Tasks.{ActRecord, load, compute, passing, TaskRecord, fetched, fetch, with_loads, loads, result_in, where_is, sends, before_result, after_role, acts_of_role}
use Rattle.bk_alloc_laws.specs.Holding.{World, State, stored, computed, after_act, after_acts, Holds, AreHomed, IsThere, StillThere, gained}

-- places

at_same : (s : State) (l m : Loc) (n : ℕ) → place_of m ≡ place_of l → holding s l n m ≡ n
at_same s l m n e = ap (λ b. cond b n (s m)) (eq-eqb (place_of m) (place_of l) e)

at_other : (s : State) (l m : Loc) (n : ℕ) → (place_of m ≡ place_of l → ⊥) → holding s l n m ≡ s m
at_other s l m n e = ap (λ b. cond b n (s m)) (ne_eqb (place_of m) (place_of l) e)

pub within_some : (rs : Registers) (q u : ℕ) → get_or rs q None ≡ Some u → q < length rs
within_some rs q u e = go (cases_lt q (length rs))
  where
    go : (q < length rs) ⊎ (length rs ≤ q) → q < length rs
    go (inl h) = h
    go (inr h) = let p = get_or_past rs q None h in absurd cc

-- a value is put into a register, with its number

put_at : (w : World) (rs : Registers) (known : List ℕ) (s : State) (r v x q u : ℕ) → Holds w rs known s → x ≡ w.number v → get_or (set rs r (Some v)) q None ≡ Some u
    → (q ≡ r) ⊎ (q ≡ r → ⊥) → (r < length rs) ⊎ (length rs ≤ r) → holding s (Reg r) x (Reg q) ≡ w.number u
put_at w rs known s r v x q u h e g (inl a) (inl b) =
    let P : ℕ → Type 0 = λ k. get_or (set rs r (Some v)) k None ≡ Some u in
    let p : Some v ≡ Some u = sym (get_or-set_same rs r (Some v) None b) ∙ subst P a g in
    let same : v ≡ u = cc in
    at_same s (Reg r) (Reg q) x a ∙ (e ∙ ap w.number same)
put_at w rs known s r v x q u h e g (inl a) (inr b) =
    let P : List (Option ℕ) → Type 0 = λ l. get_or l q None ≡ Some u in
    let p : get_or rs q None ≡ Some u = subst P (set_past rs r (Some v) b) g in
    let none : get_or rs q None ≡ None = get_or_past rs q None (omega arith) in
    absurd cc
put_at w rs known s r v x q u h e g (inr a) c =
    at_other s (Reg r) (Reg q) x a ∙ h.registers q u (sym (get_or-set_other rs r q (Some v) None a) ∙ g)

pub put_holds : (w : World) (rs : Registers) (known : List ℕ) (s : State) (r v x : ℕ) → Holds w rs known s → x ≡ w.number v → r < 256 → Holds w (put rs r v) known (holding s (Reg r) x)
put_holds w rs known s r v x h e l = record {
  registers = λ q u g. put_at w rs known s r v x q u h e g (cases_eq q r) (cases_lt r (length rs));
  slots = λ u k g. at_other s (Reg r) (Slot u) x (λ p. omega arith) ∙ h.slots u k g;
}

-- a value in a register is stored

known_or_new : (w : World) (rs : Registers) (known : List ℕ) (s : State) (r v u : ℕ) → Holds w rs known s → s (Reg r) ≡ w.number v → w.home u ≡ true
    → (Contains known u ⊎ (v ≡ u)) → (u ≡ v) ⊎ (u ≡ v → ⊥) → holding s (Slot v) (s (Reg r)) (Slot u) ≡ w.number u
known_or_new w rs known s r v u h e g k (inl a) = at_same s (Slot v) (Slot u) (s (Reg r)) (ap (λ n. 256 + n) a) ∙ (e ∙ ap w.number (sym a))
known_or_new w rs known s r v u h e g (inl k) (inr a) = at_other s (Slot v) (Slot u) (s (Reg r)) (λ p. a (omega arith)) ∙ h.slots u k g
known_or_new w rs known s r v u h e g (inr k) (inr a) = absurd (a (sym k))

old_or_homeless : (w : World) (rs : Registers) (known : List ℕ) (s : State) (v u : ℕ) → Holds w rs known s → w.home v ≡ false → w.home u ≡ true
    → (Contains known u ⊎ (v ≡ u)) → s (Slot u) ≡ w.number u
old_or_homeless w rs known s v u h f g (inl k) = h.slots u k g
old_or_homeless w rs known s v u h f g (inr k) = let p : w.home v ≡ w.home u = ap w.home k in absurd cc

store_by : (w : World) (rs : Registers) (known : List ℕ) (s : State) (r v : ℕ) → Holds w rs known s → length rs ≤ 32 → s (Reg r) ≡ w.number v
    → (b : Bool) → w.home v ≡ b → Holds w rs (known ++ v ∷ []) (cond b (holding s (Slot v) (s (Reg r))) s)
store_by w rs known s r v h few e true is = record {
  registers = λ q u g.
      let l : q < length rs = within_some rs q u g in
      at_other s (Slot v) (Reg q) (s (Reg r)) (λ p. omega arith) ∙ h.registers q u g;
  slots = λ u k g. known_or_new w rs known s r v u h e g (Contains-push_cases known v u k) (cases_eq u v);
}
store_by w rs known s r v h few e false is = record {
  registers = h.registers;
  slots = λ u k g. old_or_homeless w rs known s v u h is g (Contains-push_cases known v u k);
}

pub store_holds : (w : World) (rs : Registers) (known : List ℕ) (s : State) (r v : ℕ) → Holds w rs known s → length rs ≤ 32 → s (Reg r) ≡ w.number v
    → Holds w rs (known ++ v ∷ []) (stored w v r s)
store_holds w rs known s r v h few e = store_by w rs known s r v h few e (w.home v) refl

-- a result is computed into a register, and stored
pub result_holds : (w : World) (rs : Registers) (known : List ℕ) (s : State) (r v : ℕ) → Holds w rs known s → length rs ≤ 32 → r ≤ length rs
    → Holds w (put rs r v) (known ++ v ∷ []) (computed w v (Some r) s)
result_holds w rs known s r v h few l =
    store_holds w (put rs r v) known (holding s (Reg r) (w.number v)) r v (put_holds w rs known s r v (w.number v) h refl (omega arith))
    (let e = length-set rs r (Some v) in omega arith) (at_same s (Reg r) (Reg r) (w.number v) refl)

-- registers become free

used_as_some : (o : Option ℕ) (v u : ℕ) → used_as o v ≡ Some u → Some v ≡ Some u
used_as_some None v u e = absurd cc
used_as_some (Some m) v u e = e

used_some : (n : Uses) (o : Option ℕ) (u : ℕ) → while_used n o ≡ Some u → o ≡ Some u
used_some n None u e = absurd cc
used_some n (Some v) u e = used_as_some (n v) v u e

pub freed_at : (n : Uses) (rs : Registers) (q u : ℕ) → get_or (freed n rs) q None ≡ Some u → get_or rs q None ≡ Some u
freed_at n rs q u e = used_some n (get_or rs q None) u (sym (get_or-map (while_used n) rs q None) ∙ e)

pub freed_holds : (w : World) (n : Uses) (rs : Registers) (known : List ℕ) (s : State) → Holds w rs known s → Holds w (freed n rs) known s
freed_holds w n rs known s h = record { registers = λ q u e. h.registers q u (freed_at n rs q u e); slots = h.slots }

none_used : (n : Uses) (o : Option ℕ) → ((v : ℕ) → o ≡ Some v → n v ≡ None) → while_used n o ≡ None
none_used n None h = refl
none_used n (Some v) h = ap (λ m. used_as m v) (h v refl)

-- where no value that is held is used any more, no register holds a value
pub unused_at : (n : Uses) (rs : Registers) (q : ℕ) → ((v : ℕ) → get_or rs q None ≡ Some v → n v ≡ None) → get_or (freed n rs) q None ≡ None
unused_at n rs q h = get_or-map (while_used n) rs q None ∙ none_used n (get_or rs q None) h

pub emptied_at : (rs : Registers) (q : ℕ) → get_or (emptied rs) q None ≡ None
emptied_at rs q = get_or-map (λ o. None) rs q None

-- a value that is held stands in its register

value_some : (v : ℕ) (o : Option ℕ) → is_value v o ≡ true → o ≡ Some v
value_some v None e = absurd cc
value_some v (Some u) e = ap Some (eqb-true u v e)

pub register_has : (rs : Registers) (v : ℕ) → holds rs v ≡ true → get_or rs (register_of rs v) None ≡ Some v
register_has rs v e =
    value_some v (get_or rs (register_of rs v) None) (passes_at_first (is_value v) rs None (ltb-true (register_of rs v) (length rs) e))

pub register_within : (rs : Registers) (v : ℕ) → register_of rs v ≤ length rs
register_within rs v = prefix_len-le-length _ rs

or_within : (rs : Registers) (o : Option ℕ) → register_or_none rs o ≤ length rs
or_within rs None = omega arith
or_within rs (Some v) = register_within rs v

seat_by : (rs : Registers) (o : Option ℕ) (b : Bool) → least_open rs ≤ length rs → cond b (least_open rs) (register_or_none rs o) ≤ length rs
seat_by rs o true h = h
seat_by rs o false h = or_within rs o

pub seat_within : (n : Uses) (keep : List ℕ) (rs : Registers) → seat n keep rs ≤ length rs
unfolding seat
seat_within n keep rs = seat_by rs (farthest n keep rs) (nat_lt (least_open rs) (length rs)) (prefix_len-le-length _ rs)

-- acts one after the other

pub after_more : (w : World) (xs ys : List ActRecord) (s : State) → after_acts w (xs ++ ys) s ≡ after_acts w ys (after_acts w xs s)
unfolding after_acts
after_more w [] ys s = refl
after_more w (a ∷ xs) ys s = after_more w xs ys (after_act w a s)

pub homed_left : (w : World) (xs ys : List ActRecord) → AreHomed w (xs ++ ys) → AreHomed w xs
unfolding AreHomed
homed_left w [] ys h = tt
homed_left w (a ∷ xs) ys h = (h.0, homed_left w xs ys h.1)

pub homed_right : (w : World) (xs ys : List ActRecord) → AreHomed w (xs ++ ys) → AreHomed w ys
unfolding AreHomed
homed_right w [] ys h = h
homed_right w (a ∷ xs) ys h = homed_right w xs ys h.1

-- arguments are loaded

fetch_by : (w : World) (rs : Registers) (known : List ℕ) (s : State) (r a : ℕ) → Holds w rs known s → length rs ≤ 32 → r ≤ length rs → Contains known a
    → (b : Bool) → AreHomed w (cond b [] (load r a ∷ [])) → Holds w (cond b rs (put rs r a)) known (after_acts w (cond b [] (load r a ∷ [])) s)
unfolding AreHomed after_acts after_act
fetch_by w rs known s r a h few l k true d = h
fetch_by w rs known s r a h few l k false d = put_holds w rs known s r a (s (Slot a)) h (h.slots a k d.0) (omega arith)

pub fetch_holds : (w : World) (n : Uses) (keep : List ℕ) (rs : Registers) (known : List ℕ) (s : State) (a : ℕ) → Holds w rs known s → length rs ≤ 32 → Contains known a
    → AreHomed w (fetch n keep rs a) → Holds w (fetched n keep rs a) known (after_acts w (fetch n keep rs a) s)
fetch_holds w n keep rs known s a h few k d = fetch_by w rs known s (seat n keep rs) a h few (seat_within n keep rs) k (holds rs a) d

length_by : (rs : Registers) (r a : ℕ) (b : Bool) → length (cond b rs (put rs r a)) ≡ length rs
length_by rs r a true = refl
length_by rs r a false = length-set rs r (Some a)

pub length-fetched : (n : Uses) (keep : List ℕ) (rs : Registers) (a : ℕ) → length (fetched n keep rs a) ≡ length rs
length-fetched n keep rs a = length_by rs (seat n keep rs) a (holds rs a)

pub length-with_loads : (n : Uses) (keep xs : List ℕ) (rs : Registers) → length (with_loads n keep xs rs) ≡ length rs
unfolding with_loads
length-with_loads n keep [] rs = refl
length-with_loads n keep (a ∷ xs) rs = length-with_loads n keep xs (fetched n keep rs a) ∙ length-fetched n keep rs a

pub loads_hold : (w : World) (n : Uses) (keep xs : List ℕ) (rs : Registers) (known : List ℕ) (s : State) → Holds w rs known s → length rs ≤ 32
    → ((a : ℕ) → Contains xs a → Contains known a) → AreHomed w (loads n keep xs rs) → Holds w (with_loads n keep xs rs) known (after_acts w (loads n keep xs rs) s)
unfolding with_loads loads after_acts
loads_hold w n keep [] rs known s h few k d = h
loads_hold w n keep (a ∷ xs) rs known s h few k d =
    let one : Contains (a ∷ xs) a = (0, omega arith, refl) in
    let f = fetch_holds w n keep rs known s a h few (k a one) (homed_left w (fetch n keep rs a) (loads n keep xs (fetched n keep rs a)) d) in
    let e : length (fetched n keep rs a) ≤ 32 = omega (arith, length-fetched n keep rs a) in
    let P : State → Type 0 = Holds w (with_loads n keep xs (fetched n keep rs a)) known in
    subst P (sym (after_more w (fetch n keep rs a) (loads n keep xs (fetched n keep rs a)) s))
    (loads_hold w n keep xs (fetched n keep rs a) known (after_acts w (fetch n keep rs a) s) f e (λ b c. k b (Contains-append_right (a ∷ []) xs b c))
    (homed_right w (fetch n keep rs a) (loads n keep xs (fetched n keep rs a)) d))

-- a value is computed from registers

give_by : (w : World) (rs : Registers) (known : List ℕ) (s : State) (r v : ℕ) → Holds w rs known s → length rs ≤ 32 → r ≤ length rs → (b : Bool)
    → Holds w (cond b (put rs r v) rs) (known ++ cond b (v ∷ []) []) (computed w v (cond b (Some r) None) s)
give_by w rs known s r v h few l true = result_holds w rs known s r v h few l
give_by w rs known s r v h few l false = let P : List ℕ → Type 0 = λ xs. Holds w rs xs s in subst P (sym (append-nil known)) h

pub compute_holds : (w : World) (n : Uses) (t : TaskRecord) (rs : Registers) (known : List ℕ) (s : State) → Holds w rs known s → length rs ≤ 32
    → ((a : ℕ) → Contains t.args a → Contains known a) → AreHomed w (acts_of_role Plain n t rs)
    → Holds w (after_role Plain n t rs) (known ++ gained t Plain) (after_acts w (acts_of_role Plain n t rs) s)
unfolding after_acts after_act
compute_holds w n t rs known s h few k d =
    let ls = loads n t.args t.args rs in
    let c = compute t.value (map (register_of (with_loads n t.args t.args rs)) t.args) (result_in n t (before_result n t rs)) in
    let f = loads_hold w n t.args t.args rs known s h few k (homed_left w ls (c ∷ []) d) in
    let g = freed_holds w n (with_loads n t.args t.args rs) known (after_acts w ls s) f in
    let e : length (before_result n t rs) ≤ 32 = omega (arith, length-map (with_loads n t.args t.args rs) (while_used n), length-with_loads n t.args t.args rs) in
    let P : State → Type 0 = Holds w (after_role Plain n t rs) (known ++ gained t Plain) in
    subst P (sym (after_more w ls (c ∷ []) s))
    (give_by w (before_result n t rs) known (after_acts w ls s) (seat n [] (before_result n t rs)) t.value g e (seat_within n [] (before_result n t rs)) t.gives)

-- words go to the registers that pass them: slots stay

no_slot : (rs : Registers) (k : ℕ) (xs : List ℕ) (u : ℕ) → k + length xs ≤ 8 → find (goes_to (256 + u)) (sends rs k xs) ≡ None
no_slot rs k [] u h = refl
no_slot rs k (a ∷ xs) u h =
    ap (λ b. cond b (Some (where_is rs a, Reg (passing k))) (find (goes_to (256 + u)) (sends rs (k + 1) xs))) (ne_eqb (5 + k) (256 + u) (λ p. omega arith)) ∙ no_slot rs (k + 1) xs u (omega arith)

pub slots_stay : (rs : Registers) (xs : List ℕ) (u : ℕ) (s : State) → length xs ≤ 8 → after_all (sends rs 0 xs) s (Slot u) ≡ s (Slot u)
slots_stay rs xs u s h = ap (held_by s (Slot u)) (no_slot rs 0 xs u (omega arith))

pub call_holds : (w : World) (n : Uses) (t : TaskRecord) (rs : Registers) (known : List ℕ) (s : State) → Holds w rs known s → length t.args ≤ 8
    → Holds w (after_role Calls n t rs) (known ++ gained t Calls) (after_acts w (acts_of_role Calls n t rs) s)
unfolding after_acts after_act
call_holds w n t rs known s h few =
    let P : List ℕ → Type 0 = λ xs. Holds w (after_role Calls n t rs) xs (after_acts w (acts_of_role Calls n t rs) s) in
    subst P (sym (append-nil known)) (record {
      registers = λ q u e. let none : get_or (emptied rs) q None ≡ None = emptied_at rs q in absurd cc;
      slots = λ u k g. slots_stay rs t.args u s few ∙ h.slots u k g;
    })

pub leave_holds : (w : World) (n : Uses) (t : TaskRecord) (rs : Registers) (known : List ℕ) (s : State) → Holds w rs known s → length t.args ≤ 8 → ((q v : ℕ) → get_or rs q None ≡ Some v → n v ≡ None)
    → Holds w (after_role Leaves n t rs) (known ++ gained t Leaves) (after_acts w (acts_of_role Leaves n t rs) s)
unfolding after_acts after_act
leave_holds w n t rs known s h few z =
    let P : List ℕ → Type 0 = λ xs. Holds w (after_role Leaves n t rs) xs (after_acts w (acts_of_role Leaves n t rs) s) in
    subst P (sym (append-nil known)) (record {
      registers = λ q u e. let none : get_or (freed n rs) q None ≡ None = unused_at n rs q (z q) in absurd cc;
      slots = λ u k g. slots_stay rs t.args u s few ∙ h.slots u k g;
    })

-- a word that is there is taken

here_at : (w : World) (rs : Registers) (known : List ℕ) (s : State) (r v q u : ℕ) → Holds w rs known s → s (Reg r) ≡ w.number v → get_or (set rs r (Some v)) q None ≡ Some u
    → (q ≡ r) ⊎ (q ≡ r → ⊥) → (r < length rs) ⊎ (length rs ≤ r) → s (Reg q) ≡ w.number u
here_at w rs known s r v q u h e g (inl a) (inl b) =
    let P : ℕ → Type 0 = λ k. get_or (set rs r (Some v)) k None ≡ Some u in
    let p : Some v ≡ Some u = sym (get_or-set_same rs r (Some v) None b) ∙ subst P a g in
    let same : v ≡ u = cc in
    ap (λ k. s (Reg k)) a ∙ (e ∙ ap w.number same)
here_at w rs known s r v q u h e g (inl a) (inr b) =
    let P : List (Option ℕ) → Type 0 = λ l. get_or l q None ≡ Some u in
    let p : get_or rs q None ≡ Some u = subst P (set_past rs r (Some v) b) g in
    let none : get_or rs q None ≡ None = get_or_past rs q None (omega arith) in
    absurd cc
here_at w rs known s r v q u h e g (inr a) c = h.registers q u (sym (get_or-set_other rs r q (Some v) None a) ∙ g)

pub take_holds : (w : World) (n : Uses) (t : TaskRecord) (k : ℕ) (rs : Registers) (known : List ℕ) (s : State) → Holds w rs known s → length rs ≤ 32 → s (Reg (passing k)) ≡ w.number t.value
    → Holds w (after_role (Taken k) n t rs) (known ++ gained t (Taken k)) (after_acts w (acts_of_role (Taken k) n t rs) s)
unfolding after_acts after_act
take_holds w n t k rs known s h few e =
    let r = passing k in
    store_holds w (put rs r t.value) known s r t.value (record {
      registers = λ q u g. here_at w rs known s r t.value q u h e g (cases_eq q r) (cases_lt r (length rs));
      slots = h.slots;
    }) (let l = length-set rs r (Some t.value) in omega arith) e

stays_by : (w : World) (g : ℕ → ℕ) (s : State) (v r q : ℕ) → q < 256 → s (Reg q) ≡ g q → (b : Bool) → cond b (holding s (Slot v) (s (Reg r))) s (Reg q) ≡ g q
stays_by w g s v r q l e true = at_other s (Slot v) (Reg q) (s (Reg r)) (λ p. omega arith) ∙ e
stays_by w g s v r q l e false = e

pub still_taken : (w : World) (n : Uses) (t : TaskRecord) (k : ℕ) (rs : Registers) (s : State) (o : Option (ℕ → ℕ)) → StillThere o s → StillThere o (after_acts w (acts_of_role (Taken k) n t rs) s)
unfolding after_acts after_act
still_taken w n t k rs s None h = tt
still_taken w n t k rs s (Some g) h = λ q l. stays_by w g s t.value (passing k) q l (h q l) (w.home t.value)

pub there_now : (w : World) (o : Option (ℕ → ℕ)) (s : State) (k v : ℕ) → k ≤ 8 → StillThere o s → IsThere w o k v → s (Reg (passing k)) ≡ w.number v
there_now w None s k v l h t = absurd t
there_now w (Some g) s k v l h t = h (passing k) (omega arith) ∙ t

pub length-role : (n : Uses) (t : TaskRecord) (rs : Registers) (r : Role) → length (after_role r n t rs) ≡ length rs
length-role n t rs Plain = length_given t.gives
  where
    length_given : (b : Bool) → length (cond b (put (before_result n t rs) (seat n [] (before_result n t rs)) t.value) (before_result n t rs)) ≡ length rs
    length_given true = length-set (before_result n t rs) (seat n [] (before_result n t rs)) (Some t.value) ∙ (length-map (with_loads n t.args t.args rs) (while_used n) ∙ length-with_loads n t.args t.args rs)
    length_given false = length-map (with_loads n t.args t.args rs) (while_used n) ∙ length-with_loads n t.args t.args rs
length-role n t rs (Taken k) = length-set rs (passing k) (Some t.value)
length-role n t rs Calls = length-map rs (λ o. None)
length-role n t rs Leaves = length-map rs (while_used n)
