-- How far the states of a block are from the one that it begins with, and what that says of needs.
use Rattle.std.proofs.Common.{◌≡◌, ℕ, zero, suc, ◌+◌, ◌<◌, ◌≤◌, refl, ap, sym, ◌∙◌, subst, arith, ◌⊎◌, inl, inr, List, [], ◌∷◌, length, Some, Bool, true, false, ◌||◌, ◌==◌, eq-eqb}
use Rattle.std.specs.Prelude.{slice_get}
use Rattle.std.specs.List.{Contains, list_any}
use Rattle.std.proofs.lemmas.Bool.{cases_order, or_cases, or_left, or_right, eqb-true}
use Rattle.bk_func.specs.Records.{ValueRecord, BlockRecord, FuncRecord}
use Rattle.bk_func.specs.Numbers.{Origin, checked, loaded, origin_of, state_of, room}
use Rattle.bk_func.specs.Effects.{has_effect, is_check, is_load, is_phi}
use Rattle.bk_func.specs.Form.Text.{HasBlock, HasValue, IsPhi}
use Rattle.bk_func.specs.Form.Walks.{IsReached}
use Rattle.bk_func.specs.Form.States.{Names, IsStateIn}
use Rattle.bk_func.specs.Form.Before.{IsTakenBy, Needs, takes, through, IsLoad, IsNilCheck, IsResult, ComesBefore, state as before_state}
use Rattle.bk_func.specs.Form.Signatures.{Setting}
use Rattle.bk_func.proofs.Faults.{In}
use Rattle.bk_func.proofs.Needs.{any_in, in_any}
use Rattle.bk_ops.specs.declared.family.Family.TheVariants as op
use Rattle.bk_places.proofs.Elements.{to_in, to_contains}
use Rattle.bk_mean.proofs.Named.{got_in, in_got}
use Rattle.bk_mean.proofs.Roles.{is_result, no_call_result, loads, checks, no_phi, not_phi, check_args}
use Rattle.bk_mean.proofs.Typed.{effect_is_state}
use Rattle.bk_mean.proofs.Formed.{Sound}
use Rattle.bk_mean.proofs.Ranks.{rank, rank_below_room, argument_falls, needs_precede, needs_onward, behind}
use Rattle.bk_mean.proofs.Stands.{state_named, named_state}
use Rattle.bk_mean.proofs.Steady.{load_state}
use Rattle.bk_mean.proofs.Chains.{needs_apart}
use Rattle.bk_mean.proofs.Follows.{Follows, follows_names, follows_needs, follows_one, Chained, done, next, numbers_of}

-- the values that are done at a state: memory values, checks and loads
abbrev pub asks : ValueRecord → Bool
asks v = is_check (origin_of v.op.family) || is_load (origin_of v.op.family)

abbrev pub acts : ValueRecord → Bool
acts v = has_effect v || asks v

pub ask_no_phi : (v : ValueRecord) → asks v ≡ true → ¬ IsPhi v
ask_no_phi v e p = let d = ap (λ o. is_check (origin_of o) || is_load (origin_of o)) p in absurd cc

-- a check's state
pub check_state : (s : Setting) (f : FuncRecord) → Sound s f → (b : BlockRecord) (v : ValueRecord) → HasValue f b v → IsReached f b → origin_of v.op.family ≡ checked →
    (m : ℕ) × Names f v m × IsStateIn f b m
check_state s f h b v i r o =
    let t = check_args s f b v (h.rows b v i) (ap is_check o) in
    (h.memory b v i).names 1 (λ p. let e = ap origin_of p in absurd cc) (λ p. let e = ap origin_of p in absurd cc) (no_call_result v (ap is_result o)) r (inr (inr (t.1, omega (arith, t.0)))) (omega (arith, t.0))

is_checked : (o : Origin) → is_check o ≡ true → o ≡ checked
is_checked checked e = refl
is_checked _ e = absurd cc

is_loaded : (o : Origin) → is_load o ≡ true → o ≡ loaded
is_loaded loaded e = refl
is_loaded _ e = absurd cc

-- the state that a check or a load names
pub ask_state : (s : Setting) (f : FuncRecord) → Sound s f → (b : BlockRecord) (v : ValueRecord) → HasValue f b v → IsReached f b → asks v ≡ true → (m : ℕ) × Names f v m × IsStateIn f b m
ask_state s f h b v i r e = go (or_cases (is_check (origin_of v.op.family)) (is_load (origin_of v.op.family)) e)
  where
    go : (is_check (origin_of v.op.family) ≡ true) ⊎ (is_load (origin_of v.op.family) ≡ true) → (m : ℕ) × Names f v m × IsStateIn f b m
    go (inl c) = check_state s f h b v i r (is_checked (origin_of v.op.family) c)
    go (inr l) = load_state s f h b v i r (is_loaded (origin_of v.op.family) l)

ask_no_copy : (v : ValueRecord) → asks v ≡ true → ¬ (v.op.family ≡ op.Copy)
ask_no_copy v e p = let d = ap (λ o. is_check (origin_of o) || is_load (origin_of o)) p in absurd cc

pub ask_state_of : (s : Setting) (f : FuncRecord) → Sound s f → (b : BlockRecord) (v : ValueRecord) → HasValue f b v → IsReached f b → asks v ≡ true → (m : ℕ) → Names f v m → state_of f v ≡ Some m
ask_state_of s f h b v i r e m names = state_named s f h b v i r (ask_no_phi v e) (ask_no_copy v e) m names

-- a value that is done at a state does not need the memory value that follows the state
pub asks_before : (s : Setting) (f : FuncRecord) → Sound s f → (b : BlockRecord) → IsReached f b → (n : ℕ) (v e : ValueRecord) → HasValue f b v → acts v ≡ true → state_of f v ≡ Some n → Follows f b n e → ¬ Needs b v e
asks_before s f h b r n v e i a t follows needed = go (or_cases (has_effect v) (asks v) a)
  where
    go : (has_effect v ≡ true) ⊎ (asks v ≡ true) → ⊥
    go (inl q) =
        let d = follows_one s f h b r n v e (i, q, t) follows in
        needs_apart s f h b e follows.0 (let P : ValueRecord → Type 0 = λ x. Needs b x e in subst P d needed)
    go (inr q) =
        let names = named_state s f h b v i r (ask_no_phi v q) n t in
        let before : ComesBefore f b v e = before_state v e n i.1 (kind (or_cases (is_check (origin_of v.op.family)) (is_load (origin_of v.op.family)) q)) names
        (effect_is_state s f b e (h.types b e follows.0) follows.0 follows.1) (follows_names s f h b r n e follows) in
        h.order b e follows.0 (behind f b e v e (needs_precede f b v e needed) before)
      where
        kind : (is_check (origin_of v.op.family) ≡ true) ⊎ (is_load (origin_of v.op.family) ≡ true) → IsLoad v ⊎ IsNilCheck v ⊎ IsResult v
        kind (inl c) = inr (inl (checks v.op.family c))
        kind (inr l) = inl (loads v.op.family l)

-- places in a chain

chain_over : (s : Setting) (f : FuncRecord) → Sound s f → (b : BlockRecord) → IsReached f b → (m : ℕ) (vs : List ValueRecord) → Chained f b m vs → (w u : ValueRecord) → In w vs → HasValue f b u → u.id ≡ m → Needs b w u
chain_over s f h b r _ _ (done m out) w u i j e = elim i [ ]
chain_over s f h b r _ _ (next m v vs t c) w u (inl d) j e =
    (let P : ValueRecord → Type 0 = λ x. Needs b x u in subst P d (follows_needs s f h b r m v u t j e))
chain_over s f h b r _ _ (next m v vs t c) w u (inr i) j e =
    needs_onward b w v u (chain_over s f h b r v.id vs c w v i t.0 refl) (follows_needs s f h b r m v u t j e)

-- a memory value needs each state before it
pub chain_later : (s : Setting) (f : FuncRecord) → Sound s f → (b : BlockRecord) → IsReached f b → (m : ℕ) (vs : List ValueRecord) → Chained f b m vs → (i j n : ℕ) (w u : ValueRecord) →
    slice_get (m ∷ numbers_of vs) i ≡ Some n → slice_get vs j ≡ Some w → i ≤ j → HasValue f b u → u.id ≡ n → Needs b w u
chain_later s f h b r m vs c zero j n w u a d l k e = chain_over s f h b r m vs c w u (got_in vs j w d) k (let x : m ≡ n = cc in e ∙ sym x)
chain_later s f h b r _ _ (done m out) (suc i) j n w u a d l k e = absurd cc
chain_later s f h b r _ _ (next m v vs t c) (suc i) zero n w u a d l k e = absurd (omega (arith, l))
chain_later s f h b r _ _ (next m v vs t c) (suc i) (suc j) n w u a d l k e = chain_later s f h b r v.id vs c i j n w u a d (omega (arith, l)) k e

-- what a memory value at a place follows
pub chain_at : (f : FuncRecord) (b : BlockRecord) (m : ℕ) (vs : List ValueRecord) → Chained f b m vs → (j : ℕ) (w : ValueRecord) → slice_get vs j ≡ Some w →
    (n : ℕ) × (slice_get (m ∷ numbers_of vs) j ≡ Some n) × Follows f b n w
chain_at f b _ _ (done m out) j w e = absurd cc
chain_at f b _ _ (next m v vs t c) zero w e = (m, refl, (let d : v ≡ w = cc in let P : ValueRecord → Type 0 = λ x. Follows f b m x in subst P d t))
chain_at f b _ _ (next m v vs t c) (suc j) w e = let q = chain_at f b v.id vs c j w e in (q.0, q.1, q.2)

pub number_at : (vs : List ValueRecord) (j n : ℕ) → slice_get (numbers_of vs) j ≡ Some n → (w : ValueRecord) × (slice_get vs j ≡ Some w) × (w.id ≡ n)
number_at [] j n e = absurd cc
number_at (v ∷ vs) zero n e = (v, refl, cc)
number_at (v ∷ vs) (suc j) n e = number_at vs j n e

pub at_number : (vs : List ValueRecord) (j : ℕ) (w : ValueRecord) → slice_get vs j ≡ Some w → slice_get (numbers_of vs) j ≡ Some w.id
at_number [] j w e = absurd cc
at_number (v ∷ vs) zero w e = let d : v ≡ w = cc in ap (λ (x : ValueRecord). Some x.id) d
at_number (v ∷ vs) (suc j) w e = at_number vs j w e

-- the value whose state stands at a place that is not the first
pub state_value : (m : ℕ) (vs : List ValueRecord) (j n : ℕ) → slice_get (m ∷ numbers_of vs) (suc j) ≡ Some n → (w : ValueRecord) × (slice_get vs j ≡ Some w) × (w.id ≡ n)
state_value m vs j n e = number_at vs j n e

never_twice : (s : Setting) (f : FuncRecord) → Sound s f → (b : BlockRecord) → IsReached f b → (m : ℕ) (vs : List ValueRecord) → Chained f b m vs → (i j n : ℕ) →
    slice_get (m ∷ numbers_of vs) i ≡ Some n → slice_get (m ∷ numbers_of vs) j ≡ Some n → i < j → ⊥
never_twice s f h b r m vs c i zero n a d l = absurd (omega (arith, l))
never_twice s f h b r m vs c i (suc j) n a d l =
    let w = state_value m vs j n d in
    let t = chain_at f b m vs c j w.0 w.1 in
    needs_apart s f h b w.0 t.2.0 (chain_later s f h b r m vs c i j n w.0 w.0 a w.1 (omega (arith, l)) t.2.0 w.2)

-- a state stands at one place
pub one_place : (s : Setting) (f : FuncRecord) → Sound s f → (b : BlockRecord) → IsReached f b → (m : ℕ) (vs : List ValueRecord) → Chained f b m vs → (i j n : ℕ) →
    slice_get (m ∷ numbers_of vs) i ≡ Some n → slice_get (m ∷ numbers_of vs) j ≡ Some n → i ≡ j
one_place s f h b r m vs c i j n a d = go (cases_order i j)
  where
    go : (i ≡ j) ⊎ ((i < j) ⊎ (j < i)) → i ≡ j
    go (inl e) = e
    go (inr (inl l)) = absurd (never_twice s f h b r m vs c i j n a d l)
    go (inr (inr l)) = absurd (never_twice s f h b r m vs c j i n d a l)

-- when a value is done: at a place among the states, and there by its class; other values are done later than any state
pub record Keys (f : FuncRecord) (b : BlockRecord) (m : ℕ) (vs : List ValueRecord) (level class : ValueRecord → ℕ) : Type 0 where
  pub check : (v : ValueRecord) → HasValue f b v → is_check (origin_of v.op.family) ≡ true → class v ≡ 0
  pub load : (v : ValueRecord) → HasValue f b v → is_load (origin_of v.op.family) ≡ true → class v ≡ 1
  pub effect : (v : ValueRecord) → HasValue f b v → has_effect v ≡ true → class v ≡ 2
  pub at : (v : ValueRecord) → HasValue f b v → acts v ≡ true → (n : ℕ) → state_of f v ≡ Some n → slice_get (m ∷ numbers_of vs) (level v) ≡ Some n
  pub anytime : (v : ValueRecord) → HasValue f b v → acts v ≡ false → length vs < level v

-- a block with all its memory values and when they are due
pub record Timed (s : Setting) (f : FuncRecord) (b : BlockRecord) (m : ℕ) (vs : List ValueRecord) (level class : ValueRecord → ℕ) : Type 0 where
  pub sound : Sound s f
  pub reached : IsReached f b
  pub block : HasBlock f b
  pub chain : Chained f b m vs
  pub all : (v : ValueRecord) → HasValue f b v → has_effect v ≡ true → In v vs
  pub keys : Keys f b m vs level class

pub effect_acts : (v : ValueRecord) → has_effect v ≡ true → acts v ≡ true
effect_acts v e = or_left (has_effect v) (asks v) e

pub ask_acts : (v : ValueRecord) → asks v ≡ true → acts v ≡ true
ask_acts v e = or_right (has_effect v) (asks v) e

-- a memory value is due at its place
pub level_at : (s : Setting) (f : FuncRecord) (b : BlockRecord) (m : ℕ) (vs : List ValueRecord) (level class : ValueRecord → ℕ) → Timed s f b m vs level class → (j : ℕ) (w : ValueRecord) → slice_get vs j ≡ Some w → level w ≡ j
level_at s f b m vs level class c j w e =
    let t = chain_at f b m vs c.chain j w e in
    one_place s f c.sound b c.reached m vs c.chain (level w) j t.0 (c.keys.at w t.2.0 (effect_acts w t.2.1) t.0 t.2.2) t.1

pub effect_at : (s : Setting) (f : FuncRecord) (b : BlockRecord) (m : ℕ) (vs : List ValueRecord) (level class : ValueRecord → ℕ) → Timed s f b m vs level class → (w : ValueRecord) → HasValue f b w → has_effect w ≡ true →
    slice_get vs (level w) ≡ Some w
effect_at s f b m vs level class c w i e =
    let q = in_got vs w (c.all w i e) in
    (let P : ℕ → Type 0 = λ k. slice_get vs k ≡ Some w in subst P (sym (level_at s f b m vs level class c q.0 w q.1)) q.1)

-- a value that is done at a state names one
pub act_state : (s : Setting) (f : FuncRecord) (b : BlockRecord) (m : ℕ) (vs : List ValueRecord) (level class : ValueRecord → ℕ) → Timed s f b m vs level class → (v : ValueRecord) → HasValue f b v → acts v ≡ true →
    (n : ℕ) × (state_of f v ≡ Some n)
act_state s f b m vs level class c v i a = go (or_cases (has_effect v) (asks v) a)
  where
    go : (has_effect v ≡ true) ⊎ (asks v ≡ true) → (n : ℕ) × (state_of f v ≡ Some n)
    go (inl e) = let q = chain_at f b m vs c.chain (level v) v (effect_at s f b m vs level class c v i e) in (q.0, q.2.2)
    go (inr e) = let q = ask_state s f c.sound b v i c.reached e in (q.0, ask_state_of s f c.sound b v i c.reached e q.0 q.1)

taken_in : (vs : List ValueRecord) (j k : ℕ) (w : ValueRecord) → slice_get vs j ≡ Some w → k ≤ j → (u : ValueRecord) × (slice_get vs k ≡ Some u)
taken_in [] j k w e l = absurd cc
taken_in (v ∷ vs) j zero w e l = (v, refl)
taken_in (v ∷ vs) zero (suc k) w e l = absurd (omega (arith, l))
taken_in (v ∷ vs) (suc j) (suc k) w e l = taken_in vs j k w e (omega (arith, l))

-- a value that is due no later than a memory value does not need it
pub low_needs_not : (s : Setting) (f : FuncRecord) (b : BlockRecord) (m : ℕ) (vs : List ValueRecord) (level class : ValueRecord → ℕ) → Timed s f b m vs level class → (v : ValueRecord) → HasValue f b v → acts v ≡ true →
    (j : ℕ) (e : ValueRecord) → slice_get vs j ≡ Some e → level v ≤ j → ¬ Needs b v e
low_needs_not s f b m vs level class c v i a j e g l needed =
    let n = act_state s f b m vs level class c v i a in
    let u = taken_in vs j (level v) e g l in
    let t = chain_at f b m vs c.chain (level v) u.0 u.1 in
    let at = c.keys.at v i a n.0 n.1 in
    let same : t.0 ≡ n.0 = (let d = sym t.1 ∙ at in cc) in
    let P : ℕ → Type 0 = λ x. Follows f b x u.0 in
    asks_before s f c.sound b c.reached n.0 v u.0 i a n.1 (subst P same t.2) (go u.0 u.1 t.2.0 (cases_order (level v) j))
  where
    go : (u : ValueRecord) → slice_get vs (level v) ≡ Some u → HasValue f b u → (level v ≡ j) ⊎ ((level v < j) ⊎ (j < level v)) → Needs b v u
    go u d k (inl q) =
        let x : slice_get vs j ≡ Some u = (let P : ℕ → Type 0 = λ y. slice_get vs y ≡ Some u in subst P q d) in
        let y : e ≡ u = (let z = sym g ∙ x in cc) in
        (let P : ValueRecord → Type 0 = λ w. Needs b v w in subst P y needed)
    go u d k (inr (inl q)) = needs_onward b v e u needed (chain_later s f c.sound b c.reached m vs c.chain (suc (level v)) j u.id e u (at_number vs (level v) u d) g (omega (arith, q)) k refl)
    go u d k (inr (inr q)) = absurd (omega (arith, q, l))

-- lists of values of the block that hold what their values take

abbrev pub IsClosedList : BlockRecord → List ValueRecord → Type 0
IsClosedList b xs = (x v : ValueRecord) → In x xs → IsTakenBy b v x → In v xs

-- nothing in the list takes the value
abbrev pub IsFree : BlockRecord → List ValueRecord → ValueRecord → Type 0
IsFree b xs v = (x : ValueRecord) → In x xs → ¬ IsTakenBy b v x

pub needed_in : (b : BlockRecord) (xs : List ValueRecord) → IsClosedList b xs → (x v : ValueRecord) → In x xs → Needs b x v → In v xs
needed_in b xs c x v i (takes _ _ t) = c x v i t
needed_in b xs c x v i (through _ w _ t n) = needed_in b xs c w v (c x w i t) n

pub taker_in : (b : BlockRecord) (xs : List ValueRecord) → IsClosedList b xs → (x v : ValueRecord) → In x xs → Needs b x v → (y : ValueRecord) × In y xs × IsTakenBy b v y
taker_in b xs c x v i (takes _ _ t) = (x, i, t)
taker_in b xs c x v i (through _ w _ t n) = taker_in b xs c w v (c x w i t) n

-- free, or taken
free_or_taken : (b : BlockRecord) (v : ValueRecord) → Contains b.values v → (xs : List ValueRecord) → ((x : ValueRecord) → In x xs → In x b.values) → IsFree b xs v ⊎ ((y : ValueRecord) × In y xs × IsTakenBy b v y)
free_or_taken b v iv [] within = inl (λ x i. elim i [ ])
free_or_taken b v iv (x ∷ xs) within =
    go (is_phi (origin_of x.op.family)) refl (list_any (λ a. a == v.id) x.args) refl (free_or_taken b v iv xs (λ y i. within y (inr i)))
  where
    rest : ¬ IsTakenBy b v x → IsFree b xs v ⊎ ((y : ValueRecord) × In y xs × IsTakenBy b v y) → IsFree b (x ∷ xs) v ⊎ ((y : ValueRecord) × In y (x ∷ xs) × IsTakenBy b v y)
    rest n (inl k) = inl (λ y i. elim i as (λ _. ¬ IsTakenBy b v y) [
      | inl e ↦ (let P : ValueRecord → Type 0 = λ z. ¬ IsTakenBy b v z in subst P e n)
      | inr j ↦ k y j
    ])
    rest n (inr (y, i, t)) = inr (y, inr i, t)

    go : (p : Bool) → is_phi (origin_of x.op.family) ≡ p → (t : Bool) → list_any (λ a. a == v.id) x.args ≡ t → IsFree b xs v ⊎ ((y : ValueRecord) × In y xs × IsTakenBy b v y) →
        IsFree b (x ∷ xs) v ⊎ ((y : ValueRecord) × In y (x ∷ xs) × IsTakenBy b v y)
    go true p t e k = rest (λ q. let d = not_phi x q.2 in absurd cc) k
    go false p false e k = rest (λ q. let d = in_any (λ a. a == v.id) x.args v.id (to_in v.id x.args q.3) (eq-eqb v.id v.id refl) in absurd cc) k
    go false p true e k =
        let a = any_in (λ a. a == v.id) x.args e in
        let P : ℕ → Type 0 = λ n. In n x.args in
        inr (x, inl refl, (iv, to_contains x b.values (within x (inl refl)), no_phi x p, to_contains v.id x.args (subst P (eqb-true a.0 v.id a.2) a.1)))

-- a free value of the list that is the value or needs it
pub record Top (b : BlockRecord) (xs : List ValueRecord) (v : ValueRecord) : Type 0 where
  pub value : ValueRecord
  pub stands : In value xs
  pub free : IsFree b xs value
  pub way : (value ≡ v) ⊎ Needs b value v

top_from : (s : Setting) (f : FuncRecord) → Sound s f → (b : BlockRecord) → IsReached f b → HasBlock f b → (xs : List ValueRecord) → ((x : ValueRecord) → In x xs → In x b.values) →
    (k : ℕ) (v : ValueRecord) → In v xs → room f ≤ rank f v.id + k → Top b xs v
top_from s f h b r i xs within zero v iv l =
    let q = rank_below_room s f h v.id (record { block = b; value = v; stands = (i, to_contains v b.values (within v iv)); named = refl; reached = r }) in
    absurd (omega (arith, q, l))
top_from s f h b r i xs within (suc k) v iv l = go (free_or_taken b v (to_contains v b.values (within v iv)) xs within) (λ y iy q. top_from s f h b r i xs within k y iy q)
  where
    on : (y : ValueRecord) → IsTakenBy b v y → Top b xs y → Top b xs v
    on y t q = record {
      value = q.value;
      stands = q.stands;
      free = q.free;
      way = inr (elim q.way as (λ _. Needs b q.value v) [
        | inl e ↦ (let P : ValueRecord → Type 0 = λ z. Needs b z v in subst P (sym e) (takes v y t))
        | inr n ↦ needs_onward b q.value y v n (takes v y t)
      ]);
    }

    go : IsFree b xs v ⊎ ((y : ValueRecord) × In y xs × IsTakenBy b v y) → ((y : ValueRecord) → In y xs → room f ≤ rank f y.id + k → Top b xs y) → Top b xs v
    go (inl free) rest = record { value = v; stands = iv; free = free; way = inl refl }
    go (inr (y, iy, t)) rest =
        let less = (argument_falls s f h b y (i, t.1) r t.2 v.id (to_in v.id y.args t.3)).1 in
        on y t (rest y iy (omega (arith, l, less)))

pub top : (s : Setting) (f : FuncRecord) → Sound s f → (b : BlockRecord) → IsReached f b → HasBlock f b → (xs : List ValueRecord) → ((x : ValueRecord) → In x xs → In x b.values) → (v : ValueRecord) → In v xs → Top b xs v
top s f h b r i xs within v iv = top_from s f h b r i xs within (room f) v iv (omega arith)
