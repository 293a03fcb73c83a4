-- A block's values in a list that was filled from its end, each time with the one that is due last, do what the block does.
use Rattle.std.proofs.Common.{◌≡◌, ℕ, zero, suc, ◌<◌, ◌≤◌, refl, ap, sym, ◌∙◌, subst, arith, ◌⊎◌, inl, inr, List, [], ◌∷◌, ◌++◌, length, Some, None, Bool, true, false, cond, ◌||◌, ◌&&◌, append_assoc, length-append, append-nil}
use Rattle.std.specs.Prelude.{filter, slice_get}
use Rattle.std.proofs.lemmas.Bool.{cases_order, or_cases, or_left, or_right, and_parts}
use Rattle.std.proofs.lemmas.List.{length-map}
use Rattle.std.proofs.lemmas.Option.{slice_get_within}
use Rattle.bk_ops.specs.declared.types.Target.{Target}
use Rattle.bk_ops.specs.declared.family.Family.TheVariants as op
use Rattle.bk_ops.specs.declared.family.ArmOp.TheVariants as arm
use Rattle.bk_ops.specs.declared.family.RvOp.TheVariants as rv
use Rattle.bk_func.specs.Records.{ValueRecord, BlockRecord, FuncRecord}
use Rattle.bk_func.specs.Numbers.{Origin, checked, loaded, origin_of, state_of, room}
use Rattle.bk_func.specs.Effects.{has_effect, is_check, is_load, is_at, checks_at, loads_at, order}
use Rattle.bk_func.specs.Meaning.{fault_at, fault_by, first_fault, or_else}
use Rattle.bk_func.specs.Form.Text.{HasValue, IsPhi}
use Rattle.bk_func.specs.Form.Before.{IsTakenBy, Needs}
use Rattle.bk_func.specs.Form.Signatures.{Setting}
use Rattle.bk_func.proofs.Faults.{In, in-filter, filter-in}
use Rattle.bk_func.proofs.Flat.{Still, Laid, last, more}
use Rattle.bk_func.proofs.Greedy.{Greedy, none, put}
use Rattle.bk_places.proofs.Elements.{to_in, to_contains, in_left, in_right, in_either}
use Rattle.bk_mean.proofs.Named.{Once, got_in}
use Rattle.bk_mean.proofs.Roles.{checks, loads}
use Rattle.bk_mean.proofs.Typed.{no_effect}
use Rattle.bk_mean.proofs.Ranks.{rank, rank_below_room, needs_onward}
use Rattle.bk_mean.proofs.Needed.{need, needs_true, true_needs}
use Rattle.bk_mean.proofs.Stands.{named_state, needs_named}
use Rattle.bk_mean.proofs.Chains.{needs_apart}
use Rattle.bk_mean.proofs.Follows.{Follows, numbers_of, at_some, some_at}
use Rattle.bk_mean.proofs.Turns.{filter-append, order_greedy}
use Rattle.bk_mean.proofs.Levels.{asks, acts, ask_no_phi, ask_acts, effect_acts, Timed, chain_at, state_value, at_number, one_place, level_at, effect_at, act_state, low_needs_not, IsClosedList, IsFree, needed_in, taker_in, Top, top}

-- due no later, and due sooner
abbrev pub AtMost : (ValueRecord → ℕ) → (ValueRecord → ℕ) → ValueRecord → ValueRecord → Type 0
AtMost level class y v = (level y < level v) ⊎ ((level y ≡ level v) × (class y ≤ class v))

abbrev pub Sooner : (ValueRecord → ℕ) → (ValueRecord → ℕ) → ValueRecord → ValueRecord → Type 0
Sooner level class y v = (level y < level v) ⊎ ((level y ≡ level v) × (class y < class v))

-- a list filled from its end: each time with a value that nothing left takes, and of those the one that is due last; of values
-- that are due together the last in the list
pub data Filled (b : BlockRecord) (level class : ValueRecord → ℕ) : List ValueRecord → List ValueRecord → Type 0 where
  empty : Filled b level class [] []
  fill : (xs ys zs : List ValueRecord) (v : ValueRecord) → IsFree b (xs ++ v ∷ ys) v →
      ((y : ValueRecord) → In y xs → IsFree b (xs ++ v ∷ ys) y → AtMost level class y v) → ((y : ValueRecord) → In y ys → IsFree b (xs ++ v ∷ ys) y → Sooner level class y v) →
      Filled b level class (xs ++ ys) zs → Filled b level class (xs ++ v ∷ ys) (zs ++ v ∷ [])

-- lists with an element more

pub with_mid : {A : Type 0} (x v : A) (xs ys : List A) → In x (xs ++ ys) → In x (xs ++ v ∷ ys)
with_mid x v xs ys i = elim (in_either x xs ys i) as (λ _. In x (xs ++ v ∷ ys)) [ inl j ↦ in_left x xs (v ∷ ys) j | inr j ↦ in_right x xs (v ∷ ys) (inr j) ]

pub mid : {A : Type 0} (v : A) (xs ys : List A) → In v (xs ++ v ∷ ys)
mid v xs ys = in_right v xs (v ∷ ys) (inl refl)

-- where an element of such a list stands
abbrev Stands : {A : Type 0} → A → A → List A → List A → Type 0
Stands x v xs ys = In x xs ⊎ (v ≡ x) ⊎ In x ys

stands : {A : Type 0} (x v : A) (xs ys : List A) → In x (xs ++ v ∷ ys) → Stands x v xs ys
stands x v xs ys i = elim (in_either x xs (v ∷ ys) i) as (λ _. Stands x v xs ys) [
  | inl j ↦ inl j
  | inr j ↦ (elim j as (λ _. Stands x v xs ys) [ inl e ↦ inr (inl e) | inr k ↦ inr (inr k) ])
]

pub or_mid : {A : Type 0} (x v : A) (xs ys : List A) → In x (xs ++ v ∷ ys) → In x (xs ++ ys) ⊎ (v ≡ x)
or_mid x v xs ys i = elim (stands x v xs ys i) as (λ _. In x (xs ++ ys) ⊎ (v ≡ x)) [
  | inl j ↦ inl (in_left x xs ys j)
  | inr q ↦ (elim q as (λ _. In x (xs ++ ys) ⊎ (v ≡ x)) [ inl e ↦ inr e | inr j ↦ inl (in_right x xs ys j) ])
]

filter_skip : {A : Type 0} (t : A → Bool) (v : A) (xs ys : List A) → t v ≡ false → filter t (xs ++ v ∷ ys) ≡ filter t (xs ++ ys)
filter_skip t v xs ys e = filter-append t xs (v ∷ ys) ∙ ap (λ c. filter t xs ++ cond c (v ∷ filter t ys) (filter t ys)) e ∙ sym (filter-append t xs ys)

filter_keep : {A : Type 0} (t : A → Bool) (v : A) (xs ys : List A) → t v ≡ true → filter t (xs ++ v ∷ ys) ≡ filter t xs ++ v ∷ filter t ys
filter_keep t v xs ys e = filter-append t xs (v ∷ ys) ∙ ap (λ c. filter t xs ++ cond c (v ∷ filter t ys) (filter t ys)) e

none_pass : {A : Type 0} (t : A → Bool) (xs : List A) → ((x : A) → In x xs → t x ≡ true → ⊥) → filter t xs ≡ []
none_pass t [] h = refl
none_pass {A} t (x ∷ xs) h = go (t x) refl (none_pass t xs (λ y i. h y (inr i)))
  where
    go : (c : Bool) → t x ≡ c → filter t xs ≡ [] → cond c (x ∷ filter t xs) (filter t xs) ≡ []
    go true e k = absurd (h x (inl refl) e)
    go false e k = k

once_apart : (v : ValueRecord) (xs ys : List ValueRecord) → Once (xs ++ v ∷ ys) → ¬ In v (xs ++ ys)
once_apart v [] ys o i = o.0 i
once_apart v (x ∷ xs) ys o (inl e) = o.0 (let P : ValueRecord → Type 0 = λ y. In y (xs ++ v ∷ ys) in subst P (sym e) (mid v xs ys))
once_apart v (x ∷ xs) ys o (inr i) = once_apart v xs ys o.1 i

once_without : (v : ValueRecord) (xs ys : List ValueRecord) → Once (xs ++ v ∷ ys) → Once (xs ++ ys)
once_without v [] ys o = o.1
once_without v (x ∷ xs) ys o = (λ i. o.0 (with_mid x v xs ys i), once_without v xs ys o.1)

got_left : {A : Type 0} (xs ys : List A) (k : ℕ) (x : A) → slice_get xs k ≡ Some x → slice_get (xs ++ ys) k ≡ Some x
got_left [] ys k x e = absurd cc
got_left (y ∷ xs) ys zero x e = e
got_left (y ∷ xs) ys (suc k) x e = got_left xs ys k x e

got_right : {A : Type 0} (xs ys : List A) (x : A) → slice_get (xs ++ ys) (length xs) ≡ Some x → (zs : List A) × (ys ≡ x ∷ zs)
got_right [] [] x e = absurd cc
got_right [] (y ∷ ys) x e = (ys, (let d : y ≡ x = cc in ap (λ z. z ∷ ys) d))
got_right (z ∷ xs) ys x e = got_right xs ys x e

head_right : {A : Type 0} (xs : List A) (x : A) (zs : List A) → slice_get (xs ++ x ∷ zs) (length xs) ≡ Some x
head_right [] x zs = refl
head_right (y ∷ xs) x zs = head_right xs x zs

in_place : {A : Type 0} (xs : List A) (x : A) → In x xs → (k : ℕ) × (slice_get xs k ≡ Some x) × (k < length xs)
in_place [] x i = elim i [ ]
in_place (y ∷ ys) x (inl e) = (0, ap Some e, omega arith)
in_place (y ∷ ys) x (inr i) = let r = in_place ys x i in (suc r.0, r.1, omega (arith, r.2))

got_under : {A : Type 0} (xs ys : List A) (k : ℕ) (x : A) → slice_get (xs ++ ys) k ≡ Some x → k < length xs → In x xs
got_under [] ys k x e l = absurd (omega (arith, l))
got_under (y ∷ xs) ys zero x e l = let d : y ≡ x = cc in inl d
got_under (y ∷ xs) ys (suc k) x e l = inr (got_under xs ys k x e (omega (arith, l)))

-- tests

abbrev at_check : FuncRecord → ℕ → ValueRecord → Bool
at_check f n v = is_check (origin_of v.op.family) && is_at (state_of f v) n

abbrev at_load : FuncRecord → ℕ → ValueRecord → Bool
at_load f n v = is_load (origin_of v.op.family) && is_at (state_of f v) n

checks_act : (v : ValueRecord) → (v.op.family ≡ op.NilCheck) ⊎ (v.op.family ≡ op.Arm arm.Nil) ⊎ (v.op.family ≡ op.Rv rv.Nil) → has_effect v ≡ true → ⊥
checks_act v (inl d) e = no_effect v op.NilCheck refl e d
checks_act v (inr (inl d)) e = no_effect v (op.Arm arm.Nil) refl e d
checks_act v (inr (inr d)) e = no_effect v (op.Rv rv.Nil) refl e d

loads_act : (v : ValueRecord) → (v.op.family ≡ op.Load) ⊎ (v.op.family ≡ op.Arm arm.Load) ⊎ (v.op.family ≡ op.Rv rv.Load) → has_effect v ≡ true → ⊥
loads_act v (inl d) e = no_effect v op.Load refl e d
loads_act v (inr (inl d)) e = no_effect v (op.Arm arm.Load) refl e d
loads_act v (inr (inr d)) e = no_effect v (op.Rv rv.Load) refl e d

pub effect_asks_not : (v : ValueRecord) → has_effect v ≡ true → asks v ≡ false
effect_asks_not v e = go (asks v) refl
  where
    by : (is_check (origin_of v.op.family) ≡ true) ⊎ (is_load (origin_of v.op.family) ≡ true) → ⊥
    by (inl q) = checks_act v (checks v.op.family q) e
    by (inr q) = loads_act v (loads v.op.family q) e

    go : (t : Bool) → asks v ≡ t → t ≡ false
    go true q = absurd (by (or_cases (is_check (origin_of v.op.family)) (is_load (origin_of v.op.family)) q))
    go false q = refl

pub check_not_load : (v : ValueRecord) → is_check (origin_of v.op.family) ≡ true → is_load (origin_of v.op.family) ≡ false
check_not_load v e = go (origin_of v.op.family) e
  where
    go : (o : Origin) → is_check o ≡ true → is_load o ≡ false
    go checked e = refl
    go _ e = absurd cc

load_not_check : (v : ValueRecord) → is_load (origin_of v.op.family) ≡ true → is_check (origin_of v.op.family) ≡ false
load_not_check v e = go (origin_of v.op.family) e
  where
    go : (o : Origin) → is_load o ≡ true → is_check o ≡ false
    go loaded e = refl
    go _ e = absurd cc

asks_not : (v : ValueRecord) → is_check (origin_of v.op.family) ≡ false → is_load (origin_of v.op.family) ≡ false → asks v ≡ false
asks_not v c l = rw (c, l) refl

-- the list of a block's values that are left, while it is filled
record Left (f : FuncRecord) (b : BlockRecord) (level : ValueRecord → ℕ) (xs : List ValueRecord) : Type 0 where
  within : (v : ValueRecord) → In v xs → In v b.values
  closed : IsClosedList b xs
  once : Once xs
  levels : (e u : ValueRecord) → In e xs → has_effect e ≡ true → In u b.values → acts u ≡ true → level u ≤ level e → In u xs
  checks_left : (e : ValueRecord) (n : ℕ) → In e xs → Follows f b n e → filter (at_check f n) xs ≡ checks_at f b n
  loads_left : (e : ValueRecord) (n : ℕ) → In e xs → Follows f b n e → filter (at_load f n) xs ≡ loads_at f b n

-- the checks and loads of the list name the state
abbrev pub AllNamed : FuncRecord → ℕ → List ValueRecord → Type 0
AllNamed f n xs = (v : ValueRecord) → In v xs → asks v ≡ true → state_of f v ≡ Some n

-- each check, load and memory value stands where memory is in the state that it names
pub data Placed (f : FuncRecord) : ℕ → List ValueRecord → Type 0 where
  ends : (n : ℕ) (seg : List ValueRecord) → Still seg → AllNamed f n seg → Placed f n seg
  goes : (n : ℕ) (seg ls : List ValueRecord) (v : ValueRecord) → Still seg → AllNamed f n seg → has_effect v ≡ true → state_of f v ≡ Some n → Placed f v.id ls → Placed f n (seg ++ v ∷ ls)

-- memory values, each behind the checks and loads of its state
data Behind (f : FuncRecord) (b : BlockRecord) (m : ℕ) : List ValueRecord → List ValueRecord → ℕ → Type 0 where
  start : Behind f b m [] [] m
  on : (es zs seg : List ValueRecord) (n : ℕ) (v : ValueRecord) → Behind f b m es zs n → Still seg → AllNamed f n seg → state_of f v ≡ Some n → ((t : Target) (g : ℕ → ℕ) (d : List ℕ) → first_fault t g d (order f b n) ≡ first_fault t g d seg) →
      has_effect v ≡ true → Behind f b m (es ++ v ∷ []) (zs ++ (seg ++ v ∷ [])) v.id

finish : (f : FuncRecord) (b : BlockRecord) (m : ℕ) (es zs : List ValueRecord) (n : ℕ) → Behind f b m es zs n → (rest ls : List ValueRecord) → Laid f b n rest ls → Laid f b m (es ++ rest) (zs ++ ls)
finish f b m _ _ _ start rest ls laid = laid
finish f b m _ _ _ (on es zs seg n v q still named t alike e) rest ls laid =
    let r = finish f b m es zs n q (v ∷ rest) (seg ++ v ∷ ls) (more n seg rest ls v still alike e laid) in
    let P : List ValueRecord → Type 0 = λ xs. Laid f b m xs ((zs ++ (seg ++ v ∷ [])) ++ ls) in
    let R : List ValueRecord → Type 0 = λ xs. Laid f b m (es ++ v ∷ rest) xs in
    subst P (sym (append_assoc es (v ∷ []) rest))
    (subst R (ap (λ (xs : List ValueRecord). zs ++ xs) (sym (append_assoc seg (v ∷ []) ls)) ∙ sym (append_assoc zs (seg ++ v ∷ []) ls)) r)

finish_placed : (f : FuncRecord) (b : BlockRecord) (m : ℕ) (es zs : List ValueRecord) (n : ℕ) → Behind f b m es zs n → (ls : List ValueRecord) → Placed f n ls → Placed f m (zs ++ ls)
finish_placed f b m _ _ _ start ls placed = placed
finish_placed f b m _ _ _ (on es zs seg n v q still named t alike e) ls placed =
    let P : List ValueRecord → Type 0 = λ xs. Placed f m xs in
    subst P (ap (λ (xs : List ValueRecord). zs ++ xs) (sym (append_assoc seg (v ∷ []) ls)) ∙ sym (append_assoc zs (seg ++ v ∷ []) ls))
    (finish_placed f b m es zs n q (seg ++ v ∷ ls) (goes n seg ls v still named e t placed))

still_more : (xs : List ValueRecord) (v : ValueRecord) → Still xs → has_effect v ≡ false → Still (xs ++ v ∷ [])
still_more [] v h e = (e, tt)
still_more (x ∷ xs) v h e = (h.0, still_more xs v h.1 e)

-- values that are neither checks nor loads do not fault
no_fault : (t : Target) (g : ℕ → ℕ) (d : List ℕ) (v : ValueRecord) → asks v ≡ false → fault_at t g d v ≡ None
no_fault t g d v e = go (origin_of v.op.family) e
  where
    go : (o : Origin) → (is_check o || is_load o) ≡ false → fault_by o t g d v ≡ None
    go checked e = absurd cc
    go loaded e = absurd cc
    go _ e = refl

asked_faults : (t : Target) (g : ℕ → ℕ) (d : List ℕ) (xs : List ValueRecord) → first_fault t g d (filter asks xs) ≡ first_fault t g d xs
asked_faults t g d [] = refl
asked_faults t g d (x ∷ xs) = go (asks x) refl (asked_faults t g d xs)
  where
    go : (u : Bool) → asks x ≡ u → first_fault t g d (filter asks xs) ≡ first_fault t g d xs →
        first_fault t g d (cond u (x ∷ filter asks xs) (filter asks xs)) ≡ or_else (fault_at t g d x) (first_fault t g d xs)
    go true e k = ap (or_else (fault_at t g d x)) k
    go false e k = k ∙ ap (λ o. or_else o (first_fault t g d xs)) (sym (no_fault t g d x e))

-- the checks and loads of a state that are left
abbrev left_at : FuncRecord → ℕ → List ValueRecord → List ValueRecord
left_at f n xs = filter (at_check f n) xs ++ filter (at_load f n) xs

-- what was filled before a value lies in order as far as it goes
record Part (f : FuncRecord) (b : BlockRecord) (m : ℕ) (vs xs zs : List ValueRecord) : Type 0 where
  es : List ValueRecord
  rest : List ValueRecord
  pre : List ValueRecord
  seg : List ValueRecord
  state : ℕ
  all : vs ≡ es ++ rest
  parts : zs ≡ pre ++ seg
  behind : Behind f b m es pre state
  still : Still seg
  named : AllNamed f state seg
  place : slice_get (m ∷ numbers_of vs) (length es) ≡ Some state
  present : (e : ValueRecord) → In e xs → has_effect e ≡ true → In e es
  there : (e : ValueRecord) → In e es → In e xs
  greedy : Greedy (need f b) (left_at f state xs) (filter asks seg)

module _ (s : Setting) (f : FuncRecord) (b : BlockRecord) (m : ℕ) (vs : List ValueRecord) (level class : ValueRecord → ℕ) (c : Timed s f b m vs level class) where
  here : (v : ValueRecord) → In v b.values → HasValue f b v
  here v i = (c.block, to_contains v b.values i)

  effect_low : (e : ValueRecord) → In e b.values → has_effect e ≡ true → level e < length vs
  effect_low e i q = slice_get_within vs (level e) e (effect_at s f b m vs level class c e (here e i) q)

  act_low : (v : ValueRecord) → In v b.values → acts v ≡ true → level v ≤ length vs
  act_low v i q =
      let n = act_state s f b m vs level class c v (here v i) q in
      let l = slice_get_within (m ∷ numbers_of vs) (level v) n.0 (c.keys.at v (here v i) q n.0 n.1) in
      let k = length-map vs (λ (x : ValueRecord). x.id) in
      omega (arith, l, k)

  one_effect : (e v : ValueRecord) → In e b.values → In v b.values → has_effect e ≡ true → has_effect v ≡ true → level e ≡ level v → e ≡ v
  one_effect e v i j p q l =
      let a = effect_at s f b m vs level class c e (here e i) p in
      let d = effect_at s f b m vs level class c v (here v j) q in
      let P : ℕ → Type 0 = λ k. slice_get vs k ≡ Some v in
      let w = sym a ∙ subst P (sym l) d in
      cc

  ask_class : (v : ValueRecord) → In v b.values → asks v ≡ true → class v ≤ 1
  ask_class v i q = go (or_cases (is_check (origin_of v.op.family)) (is_load (origin_of v.op.family)) q)
    where
      go : (is_check (origin_of v.op.family) ≡ true) ⊎ (is_load (origin_of v.op.family) ≡ true) → class v ≤ 1
      go (inl e) = let k = c.keys.check v (here v i) e in omega (arith, k)
      go (inr e) = let k = c.keys.load v (here v i) e in omega (arith, k)

  -- the choice of a value from those left
  record Chosen (xs ys : List ValueRecord) (v : ValueRecord) : Type 0 where
    free : IsFree b (xs ++ v ∷ ys) v
    front : (y : ValueRecord) → In y xs → IsFree b (xs ++ v ∷ ys) y → AtMost level class y v
    back : (y : ValueRecord) → In y ys → IsFree b (xs ++ v ∷ ys) y → Sooner level class y v

  at_most : (xs ys : List ValueRecord) (v : ValueRecord) → Chosen xs ys v → (y : ValueRecord) → In y (xs ++ ys) → IsFree b (xs ++ v ∷ ys) y → AtMost level class y v
  at_most xs ys v h y i free = go (in_either y xs ys i)
    where
      weaker : Sooner level class y v → AtMost level class y v
      weaker (inl l) = inl l
      weaker (inr q) = inr (q.0, omega (arith, q.1))

      go : In y xs ⊎ In y ys → AtMost level class y v
      go (inl j) = h.front y j free
      go (inr j) = weaker (h.back y j free)

  -- no value is chosen before a memory value that is due no sooner
  no_early : (xs ys : List ValueRecord) (v : ValueRecord) → Left f b level (xs ++ v ∷ ys) → Chosen xs ys v → acts v ≡ true → (e : ValueRecord) → In e (xs ++ ys) → has_effect e ≡ true → level v ≤ level e → ⊥
  no_early xs ys v left h a e i q l = go (top s f c.sound b c.reached c.block (xs ++ v ∷ ys) left.within e (with_mid e v xs ys i))
    where
      ie : In e b.values
      ie = left.within e (with_mid e v xs ys i)

      iv : In v b.values
      iv = left.within v (mid v xs ys)

      apart : v ≡ e → ⊥
      apart d = once_apart v xs ys left.once (let P : ValueRecord → Type 0 = λ x. In x (xs ++ ys) in subst P (sym d) i)

      -- a value that is due no later than the chosen one, and needs the memory value
      low : (w : ValueRecord) → In w b.values → Needs b w e → level w ≤ level v → ⊥
      low w iw n lw = by (acts w) refl
        where
          by : (t : Bool) → acts w ≡ t → ⊥
          by true t = low_needs_not s f b m vs level class c w (here w iw) t (level e) e (effect_at s f b m vs level class c e (here e ie) q) (omega (arith, l, lw)) n
          by false t = let x = c.keys.anytime w (here w iw) t in let y = effect_low e ie q in absurd (omega (arith, x, y, l, lw))

      itself : IsFree b (xs ++ v ∷ ys) e → AtMost level class e v → ⊥
      itself free (inl x) = absurd (omega (arith, x, l))
      itself free (inr (x, y)) = by (or_cases (has_effect v) (asks v) a)
        where
          by : (has_effect v ≡ true) ⊎ (asks v ≡ true) → ⊥
          by (inl p) = apart (one_effect v e iv ie p q (sym x))
          by (inr p) = let k = c.keys.effect e (here e ie) q in let z = ask_class v iv p in absurd (omega (arith, y, k, z))

      lower : (w : ValueRecord) → AtMost level class w v → level w ≤ level v
      lower w (inl x) = omega (arith, x)
      lower w (inr x) = omega (arith, x.0)

      go : Top b (xs ++ v ∷ ys) e → ⊥
      go t = elim t.way as (λ _. ⊥) [
        | inl d ↦ (let P : ValueRecord → Type 0 = λ x. IsFree b (xs ++ v ∷ ys) x in let free = subst P d t.free in itself free (at_most xs ys v h e i free))
        | inr n ↦ (elim (or_mid t.value v xs ys t.stands) as (λ _. ⊥) [
          | inl j ↦ low t.value (left.within t.value t.stands) n (lower t.value (at_most xs ys v h t.value j t.free))
          | inr d ↦ low v iv (let P : ValueRecord → Type 0 = λ x. Needs b x e in subst P (sym d) n) (omega arith)
        ])
      ]

  -- two values that are done at one state are due together
  same_level : (v u : ValueRecord) → In v b.values → In u b.values → acts v ≡ true → acts u ≡ true → (n : ℕ) → state_of f v ≡ Some n → state_of f u ≡ Some n → level v ≡ level u
  same_level v u i j p q n a d = one_place s f c.sound b c.reached m vs c.chain (level v) (level u) n (c.keys.at v (here v i) p n a) (c.keys.at u (here u j) q n d)

  test_false : (t : Bool) → (t ≡ true → ⊥) → t ≡ false
  test_false true h = absurd (h refl)
  test_false false h = refl

  check_asks : (n : ℕ) (v : ValueRecord) → at_check f n v ≡ true → (asks v ≡ true) × (state_of f v ≡ Some n)
  check_asks n v e =
      let q = and_parts (is_check (origin_of v.op.family)) (is_at (state_of f v) n) e in
      (or_left (is_check (origin_of v.op.family)) (is_load (origin_of v.op.family)) q.0, at_some (state_of f v) n q.1)

  load_asks : (n : ℕ) (v : ValueRecord) → at_load f n v ≡ true → (asks v ≡ true) × (state_of f v ≡ Some n)
  load_asks n v e =
      let q = and_parts (is_load (origin_of v.op.family)) (is_at (state_of f v) n) e in
      (or_right (is_check (origin_of v.op.family)) (is_load (origin_of v.op.family)) q.0, at_some (state_of f v) n q.1)

  left_more : (xs ys : List ValueRecord) (v : ValueRecord) → Left f b level (xs ++ v ∷ ys) → Chosen xs ys v → Left f b level (xs ++ ys)
  left_more xs ys v left h = record {
    within = λ x i. left.within x (with_mid x v xs ys i);
    closed = λ x u i t. kept x u i t (or_mid u v xs ys (left.closed x u (with_mid x v xs ys i) t));
    once = once_without v xs ys left.once;
    levels = λ e u i q j a l. due e u i q a l (or_mid u v xs ys (left.levels e u (with_mid e v xs ys i) q j a l));
    checks_left = λ e n i t. sym (filter_skip (at_check f n) v xs ys (test_false (at_check f n v) (λ q. early e n i t (check_asks n v q)))) ∙ left.checks_left e n (with_mid e v xs ys i) t;
    loads_left = λ e n i t. sym (filter_skip (at_load f n) v xs ys (test_false (at_load f n v) (λ q. early e n i t (load_asks n v q)))) ∙ left.loads_left e n (with_mid e v xs ys i) t;
  }
    where
      kept : (x u : ValueRecord) → In x (xs ++ ys) → IsTakenBy b u x → In u (xs ++ ys) ⊎ (v ≡ u) → In u (xs ++ ys)
      kept x u i t (inl j) = j
      kept x u i t (inr d) = absurd (h.free x (with_mid x v xs ys i) (let P : ValueRecord → Type 0 = λ y. IsTakenBy b y x in subst P (sym d) t))

      due : (e u : ValueRecord) → In e (xs ++ ys) → has_effect e ≡ true → acts u ≡ true → level u ≤ level e → In u (xs ++ ys) ⊎ (v ≡ u) → In u (xs ++ ys)
      due e u i q a l (inl j) = j
      due e u i q a l (inr d) =
          let P : ValueRecord → Type 0 = λ y. acts y ≡ true in
          let k = ap level d in
          absurd (no_early xs ys v left h (subst P (sym d) a) e i q (omega (arith, k, l)))

      early : (e : ValueRecord) (n : ℕ) → In e (xs ++ ys) → Follows f b n e → (asks v ≡ true) × (state_of f v ≡ Some n) → ⊥
      early e n i t (a, d) =
          let k = same_level v e (left.within v (mid v xs ys)) (left.within e (with_mid e v xs ys i)) (ask_acts v a) (effect_acts e t.1) n d t.2 in
          no_early xs ys v left h (ask_acts v a) e i t.1 (omega (arith, k))

  -- the chosen value is due where the list that was filled ends
  its_level : (xs ys zs : List ValueRecord) (v : ValueRecord) → Left f b level (xs ++ v ∷ ys) → Left f b level (xs ++ ys) → (p : Part f b m vs (xs ++ ys) zs) → acts v ≡ true → (n : ℕ) → state_of f v ≡ Some n →
      level v ≡ length p.es
  its_level xs ys zs v left after p a n t = go (cases_order (level v) (length p.es))
    where
      iv : In v b.values
      iv = left.within v (mid v xs ys)

      at : slice_get (m ∷ numbers_of vs) (level v) ≡ Some n
      at = c.keys.at v (here v iv) a n t

      no_phi : ¬ IsPhi v
      no_phi q = by (or_cases (has_effect v) (asks v) a)
        where
          by : (has_effect v ≡ true) ⊎ (asks v ≡ true) → ⊥
          by (inl e) = no_effect v op.Phi refl e q
          by (inr e) = ask_no_phi v e q

      -- it needs the memory value before it, which was filled
      under : (k : ℕ) → level v ≡ suc k → suc k ≤ length p.es
      under k e =
          let P : ℕ → Type 0 = λ j. slice_get (m ∷ numbers_of vs) j ≡ Some n in
          let w = state_value m vs k n (subst P e at) in
          let tw = chain_at f b m vs c.chain k w.0 w.1 in
          let names = named_state s f c.sound b v (here v iv) c.reached no_phi n t in
          let needs = needs_named s f c.sound b c.reached v w.0 (here v iv) tw.2.0 no_phi n names w.2 in
          found w.0 w.1 tw.2.1 (or_mid w.0 v xs ys (needed_in b (xs ++ v ∷ ys) left.closed v w.0 (mid v xs ys) needs)) needs
        where
          found : (w : ValueRecord) → slice_get vs k ≡ Some w → has_effect w ≡ true → In w (xs ++ ys) ⊎ (v ≡ w) → Needs b v w → suc k ≤ length p.es
          found w g q (inr d) needs = absurd (needs_apart s f c.sound b v (here v iv) (let P : ValueRecord → Type 0 = λ x. Needs b v x in subst P (sym d) needs))
          found w g q (inl i) needs =
              let j = in_place p.es w (p.present w i q) in
              let P : List ValueRecord → Type 0 = λ ws. slice_get ws j.0 ≡ Some w in
              let x = level_at s f b m vs level class c j.0 w (subst P (sym p.all) (got_left p.es p.rest j.0 w j.1)) in
              let y = level_at s f b m vs level class c k w g in
              omega (arith, x, y, j.2)

      low : (k : ℕ) → level v ≡ k → k ≤ length p.es
      low zero e = omega arith
      low (suc k) e = under k e

      high : level v < length p.es → ⊥
      high l =
          let ue = took p.es (level v) l in
          let P : List ValueRecord → Type 0 = λ ws. slice_get ws (level v) ≡ Some ue.0 in
          let g : slice_get vs (level v) ≡ Some ue.0 = subst P (sym p.all) (got_left p.es p.rest (level v) ue.0 ue.1) in
          let q = chain_at f b m vs c.chain (level v) ue.0 g in
          let x = level_at s f b m vs level class c (level v) ue.0 g in
          once_apart v xs ys left.once (after.levels ue.0 v (p.there ue.0 (got_in p.es (level v) ue.0 ue.1)) q.2.1 iv a (omega (arith, x)))
        where
          took : {A : Type 0} (ws : List A) (k : ℕ) → k < length ws → (w : A) × (slice_get ws k ≡ Some w)
          took [] k l = absurd (omega (arith, l))
          took (w ∷ ws) zero l = (w, refl)
          took (w ∷ ws) (suc k) l = took ws k (omega (arith, l))

      go : (level v ≡ length p.es) ⊎ ((level v < length p.es) ⊎ (length p.es < level v)) → level v ≡ length p.es
      go (inl e) = e
      go (inr (inl l)) = absurd (high l)
      go (inr (inr l)) = let k = low (level v) refl in absurd (omega (arith, l, k))

  its_state : (xs ys zs : List ValueRecord) (v : ValueRecord) → Left f b level (xs ++ v ∷ ys) → Left f b level (xs ++ ys) → (p : Part f b m vs (xs ++ ys) zs) → acts v ≡ true → (n : ℕ) → state_of f v ≡ Some n → n ≡ p.state
  its_state xs ys zs v left after p a n t =
      let e = its_level xs ys zs v left after p a n t in
      let P : ℕ → Type 0 = λ k. slice_get (m ∷ numbers_of vs) k ≡ Some n in
      let d = sym (subst P e (c.keys.at v (here v (left.within v (mid v xs ys))) a n t)) ∙ p.place in
      cc

  -- a value more

  not_act : (t u : Bool) → (t || u) ≡ false → (t ≡ false) × (u ≡ false)
  not_act true u e = absurd cc
  not_act false u e = (refl, e)

  end : (zs pre seg : List ValueRecord) (v : ValueRecord) → zs ≡ pre ++ seg → zs ++ v ∷ [] ≡ pre ++ (seg ++ v ∷ [])
  end zs pre seg v e = ap (λ (xs : List ValueRecord). xs ++ v ∷ []) e ∙ append_assoc pre seg (v ∷ [])

  same_left : (n : ℕ) (xs ys : List ValueRecord) (v : ValueRecord) → at_check f n v ≡ false → at_load f n v ≡ false → left_at f n (xs ++ v ∷ ys) ≡ left_at f n (xs ++ ys)
  same_left n xs ys v p q =
      ap (λ (zs : List ValueRecord). zs ++ filter (at_load f n) (xs ++ v ∷ ys)) (filter_skip (at_check f n) v xs ys p)
      ∙ ap (λ (zs : List ValueRecord). filter (at_check f n) (xs ++ ys) ++ zs) (filter_skip (at_load f n) v xs ys q)

  asks_end : (seg : List ValueRecord) (v : ValueRecord) → asks v ≡ false → filter asks (seg ++ v ∷ []) ≡ filter asks seg
  asks_end seg v e = filter_skip asks v seg [] e ∙ ap (filter asks) (append-nil seg)

  asks_more : (seg : List ValueRecord) (v : ValueRecord) → asks v ≡ true → filter asks (seg ++ v ∷ []) ≡ filter asks seg ++ v ∷ []
  asks_more seg v e = filter_keep asks v seg [] e

  no_test : (t u : Bool) → t ≡ false → (t && u) ≡ false
  no_test true u e = absurd cc
  no_test false u e = refl

  neither : (n : ℕ) (v : ValueRecord) → asks v ≡ false → (at_check f n v ≡ false) × (at_load f n v ≡ false)
  neither n v e =
      let q = not_act (is_check (origin_of v.op.family)) (is_load (origin_of v.op.family)) e in
      (no_test (is_check (origin_of v.op.family)) (is_at (state_of f v) n) q.0, no_test (is_load (origin_of v.op.family)) (is_at (state_of f v) n) q.1)

  -- one that is done at any time
  add_quiet : (xs ys zs : List ValueRecord) (v : ValueRecord) → acts v ≡ false → Part f b m vs (xs ++ ys) zs → Part f b m vs (xs ++ v ∷ ys) (zs ++ v ∷ [])
  add_quiet xs ys zs v e p = record {
    es = p.es;
    rest = p.rest;
    pre = p.pre;
    seg = p.seg ++ v ∷ [];
    state = p.state;
    all = p.all;
    parts = end zs p.pre p.seg v p.parts;
    behind = p.behind;
    still = still_more p.seg v p.still a.0;
    named = λ u i q. elim (in_either u p.seg (v ∷ []) i) as (λ _. state_of f u ≡ Some p.state) [
      | inl j ↦ p.named u j q
      | inr j ↦ absurd (unasked u j q)
    ];
    place = p.place;
    present = λ u i q. present u q (or_mid u v xs ys i);
    there = λ u i. with_mid u v xs ys (p.there u i);
    greedy = (let P : List ValueRecord → Type 0 = λ ws. Greedy (need f b) ws (filter asks (p.seg ++ v ∷ [])) in
        let R : List ValueRecord → Type 0 = λ ws. Greedy (need f b) (left_at f p.state (xs ++ ys)) ws in
        let k = neither p.state v a.1 in
        subst P (sym (same_left p.state xs ys v k.0 k.1)) (subst R (sym (asks_end p.seg v a.1)) p.greedy));
  }
    where
      a : (has_effect v ≡ false) × (asks v ≡ false)
      a = not_act (has_effect v) (asks v) e

      unasked : (u : ValueRecord) → In u (v ∷ []) → asks u ≡ true → ⊥
      unasked u (inl d) q = let k = ap asks d in let x = not_act (has_effect v) (asks v) e in absurd cc
      unasked u (inr j) q = elim j [ ]

      present : (u : ValueRecord) → has_effect u ≡ true → In u (xs ++ ys) ⊎ (v ≡ u) → In u p.es
      present u q (inl j) = p.present u j q
      present u q (inr d) = let k = ap has_effect d in let x = not_act (has_effect v) (asks v) e in absurd cc

  -- a memory value
  add_effect : (xs ys zs : List ValueRecord) (v : ValueRecord) → Left f b level (xs ++ v ∷ ys) → Left f b level (xs ++ ys) → Chosen xs ys v → has_effect v ≡ true → Part f b m vs (xs ++ ys) zs →
      Part f b m vs (xs ++ v ∷ ys) (zs ++ v ∷ [])
  add_effect xs ys zs v left after h e p = record {
    es = p.es ++ v ∷ [];
    rest = tail.0;
    pre = p.pre ++ (p.seg ++ v ∷ []);
    seg = [];
    state = v.id;
    all = p.all ∙ ap (λ (ws : List ValueRecord). p.es ++ ws) tail.1 ∙ sym (append_assoc p.es (v ∷ []) tail.0);
    parts = end zs p.pre p.seg v p.parts ∙ sym (append-nil (p.pre ++ (p.seg ++ v ∷ [])));
    behind = on p.es p.pre p.seg p.state v p.behind p.still p.named (state.1 ∙ ap Some is_state) alike e;
    still = tt;
    named = λ u i q. elim i [ ];
    place = (let k = length-append p.es (v ∷ []) in let P : ℕ → Type 0 = λ j. slice_get (m ∷ numbers_of vs) j ≡ Some v.id in
        let j : suc (length p.es) ≡ length (p.es ++ v ∷ []) = omega (arith, k) in subst P j (at_number vs (length p.es) v got));
    present = λ u i q. present u q (or_mid u v xs ys i);
    there = λ u i. elim (in_either u p.es (v ∷ []) i) as (λ _. In u (xs ++ v ∷ ys)) [
      | inl j ↦ with_mid u v xs ys (p.there u j)
      | inr j ↦ own u j
    ];
    greedy = (let P : List ValueRecord → Type 0 = λ ws. Greedy (need f b) ws [] in subst P (sym nothing) none);
  }
    where
      iv : In v b.values
      iv = left.within v (mid v xs ys)

      state : (n : ℕ) × (state_of f v ≡ Some n)
      state = act_state s f b m vs level class c v (here v iv) (effect_acts v e)

      is_state : state.0 ≡ p.state
      is_state = its_state xs ys zs v left after p (effect_acts v e) state.0 state.1

      follows : Follows f b p.state v
      follows = (here v iv, e, state.1 ∙ ap Some is_state)

      got : slice_get vs (length p.es) ≡ Some v
      got =
          let k = its_level xs ys zs v left after p (effect_acts v e) state.0 state.1 in
          let P : ℕ → Type 0 = λ j. slice_get vs j ≡ Some v in
          subst P k (effect_at s f b m vs level class c v (here v iv) e)

      tail : (ws : List ValueRecord) × (p.rest ≡ v ∷ ws)
      tail = got_right p.es p.rest v (let P : List ValueRecord → Type 0 = λ ws. slice_get ws (length p.es) ≡ Some v in subst P p.all got)

      quiet : (at_check f p.state v ≡ false) × (at_load f p.state v ≡ false)
      quiet = neither p.state v (effect_asks_not v e)

      whole : left_at f p.state (xs ++ ys) ≡ checks_at f b p.state ++ loads_at f b p.state
      whole =
          sym (same_left p.state xs ys v quiet.0 quiet.1)
          ∙ ap (λ (ws : List ValueRecord). ws ++ filter (at_load f p.state) (xs ++ v ∷ ys)) (left.checks_left v p.state (mid v xs ys) follows)
          ∙ ap (λ (ws : List ValueRecord). checks_at f b p.state ++ ws) (left.loads_left v p.state (mid v xs ys) follows)

      alike : (t : Target) (g : ℕ → ℕ) (d : List ℕ) → first_fault t g d (order f b p.state) ≡ first_fault t g d p.seg
      alike t g d =
          let P : List ValueRecord → Type 0 = λ ws. Greedy (need f b) ws (filter asks p.seg) in
          order_greedy s f c.sound b c.reached c.block p.state (filter asks p.seg) (subst P whole p.greedy) t g d ∙ asked_faults t g d p.seg

      own : (u : ValueRecord) → In u (v ∷ []) → In u (xs ++ v ∷ ys)
      own u (inl d) = (let P : ValueRecord → Type 0 = λ x. In x (xs ++ v ∷ ys) in subst P d (mid v xs ys))
      own u (inr j) = elim j [ ]

      present : (u : ValueRecord) → has_effect u ≡ true → In u (xs ++ ys) ⊎ (v ≡ u) → In u (p.es ++ v ∷ [])
      present u q (inl j) = in_left u p.es (v ∷ []) (p.present u j q)
      present u q (inr d) = in_right u p.es (v ∷ []) (inl d)

      -- what names the new state would take the value, which is free
      unnamed : (u : ValueRecord) → In u (xs ++ v ∷ ys) → (asks u ≡ true) × (state_of f u ≡ Some v.id) → ⊥
      unnamed u i (a, d) =
          let iu = here u (left.within u i) in
          let names = named_state s f c.sound b u iu c.reached (ask_no_phi u a) v.id d in
          let needs = needs_named s f c.sound b c.reached u v iu (here v iv) (ask_no_phi u a) v.id names refl in
          let t = taker_in b (xs ++ v ∷ ys) left.closed u v i needs in
          h.free t.0 t.1 t.2

      nothing : left_at f v.id (xs ++ v ∷ ys) ≡ []
      nothing =
          ap (λ (ws : List ValueRecord). ws ++ filter (at_load f v.id) (xs ++ v ∷ ys)) (none_pass (at_check f v.id) (xs ++ v ∷ ys) (λ u i q. unnamed u i (check_asks v.id u q)))
          ∙ none_pass (at_load f v.id) (xs ++ v ∷ ys) (λ u i q. unnamed u i (load_asks v.id u q))

  -- a check or a load: the others that are left stand before it or are needed
  record Among (n : ℕ) (xs ys : List ValueRecord) (v : ValueRecord) (front back : List ValueRecord) : Type 0 where
    whole : left_at f n (xs ++ v ∷ ys) ≡ front ++ v ∷ back
    without : left_at f n (xs ++ ys) ≡ front ++ back
    left : (u : ValueRecord) → In u (front ++ v ∷ back) → In u (xs ++ v ∷ ys)
    later : (u : ValueRecord) → In u back → (asks u ≡ true) × (state_of f u ≡ Some n) × ((In u ys × (class u ≡ class v)) ⊎ (class v < class u))
    sooner : (u : ValueRecord) → In u (xs ++ ys) → asks u ≡ true → state_of f u ≡ Some n → (In u xs × (class u ≤ class v)) ⊎ (class u < class v) → In u front

  add_ask : (xs ys zs : List ValueRecord) (v : ValueRecord) → Left f b level (xs ++ v ∷ ys) → Left f b level (xs ++ ys) → Chosen xs ys v → asks v ≡ true → has_effect v ≡ false → (p : Part f b m vs (xs ++ ys) zs) →
      state_of f v ≡ Some p.state → (front back : List ValueRecord) → Among p.state xs ys v front back → Part f b m vs (xs ++ v ∷ ys) (zs ++ v ∷ [])
  add_ask xs ys zs v left after h a e p t front back among = record {
    es = p.es;
    rest = p.rest;
    pre = p.pre;
    seg = p.seg ++ v ∷ [];
    state = p.state;
    all = p.all;
    parts = end zs p.pre p.seg v p.parts;
    behind = p.behind;
    still = still_more p.seg v p.still e;
    named = λ u i q. elim (in_either u p.seg (v ∷ []) i) as (λ _. state_of f u ≡ Some p.state) [
      | inl j ↦ p.named u j q
      | inr j ↦ own u j
    ];
    place = p.place;
    present = λ u i q. present u q (or_mid u v xs ys i);
    there = λ u i. with_mid u v xs ys (p.there u i);
    greedy = (let P : List ValueRecord → Type 0 = λ ws. Greedy (need f b) ws (filter asks (p.seg ++ v ∷ [])) in
        let R : List ValueRecord → Type 0 = λ ws. Greedy (need f b) (front ++ v ∷ back) ws in
        let Q : List ValueRecord → Type 0 = λ ws. Greedy (need f b) ws (filter asks p.seg) in
        subst P (sym among.whole) (subst R (sym (asks_more p.seg v a)) (put front back (filter asks p.seg) v free later (subst Q among.without p.greedy))));
  }
    where
      present : (u : ValueRecord) → has_effect u ≡ true → In u (xs ++ ys) ⊎ (v ≡ u) → In u p.es
      present u q (inl j) = p.present u j q
      present u q (inr d) = let k = ap has_effect d in absurd cc

      own : (u : ValueRecord) → In u (v ∷ []) → state_of f u ≡ Some p.state
      own u (inl d) = ap (state_of f) (sym d) ∙ t
      own u (inr j) = elim j [ ]

      iv : In v b.values
      iv = left.within v (mid v xs ys)

      few : (u : ValueRecord) → In u b.values → rank f u.id < room f
      few u i = rank_below_room s f c.sound u.id (record { block = b; value = u; stands = here u i; named = refl; reached = c.reached })

      untaken : (x : ValueRecord) → In x (xs ++ v ∷ ys) → need f b x v ≡ true → ⊥
      untaken x i q =
          let n = needs_true s f c.sound (room f) b x v (here x (left.within x i)) (here v iv) q in
          let y = taker_in b (xs ++ v ∷ ys) left.closed x v i n in
          h.free y.0 y.1 y.2

      free : (x : ValueRecord) → In x (front ++ v ∷ back) → need f b x v ≡ false
      free x i = test_false (need f b x v) (untaken x (among.left x i))

      -- a free value of those left that needs one due with the chosen one is the chosen one or stands before it
      before : (y w : ValueRecord) → In y (xs ++ v ∷ ys) → asks y ≡ true → state_of f y ≡ Some p.state → In w (xs ++ v ∷ ys) → IsFree b (xs ++ v ∷ ys) w → Needs b w y → In w front ⊎ (v ≡ w)
      before y w iy ay ty iw free n = go (stands w v xs ys iw)
        where
          iwb : In w b.values
          iwb = left.within w iw

          same : level y ≡ level v
          same = same_level y v (left.within y iy) iv (ask_acts y ay) (ask_acts v a) p.state ty t

          -- it is due at the state
          due : AtMost level class w v → (acts w ≡ true) × (level w ≡ level v)
          due o = by (acts w) refl
            where
              bound : AtMost level class w v → level w ≤ level v
              bound (inl l) = omega (arith, l)
              bound (inr q) = omega (arith, q.0)

              low : (k : ℕ) → level v ≡ suc k → level w ≤ k → acts w ≡ true → ⊥
              low k q l aw =
                  let P : ℕ → Type 0 = λ j. slice_get (m ∷ numbers_of vs) j ≡ Some p.state in
                  let u = state_value m vs k p.state (subst P q (c.keys.at v (here v iv) (ask_acts v a) p.state t)) in
                  let tu = chain_at f b m vs c.chain k u.0 u.1 in
                  let iyb = here y (left.within y iy) in
                  let names = named_state s f c.sound b y iyb c.reached (ask_no_phi y ay) p.state ty in
                  let needs = needs_named s f c.sound b c.reached y u.0 iyb tu.2.0 (ask_no_phi y ay) p.state names u.2 in
                  low_needs_not s f b m vs level class c w (here w iwb) aw k u.0 u.1 l (needs_onward b w y u.0 n needs)

              equal : acts w ≡ true → (k : ℕ) → level v ≡ k → level w ≤ k → (level w ≡ k) ⊎ (level w < k) → level w ≡ k
              equal aw k q l (inl d) = d
              equal aw zero q l (inr d) = absurd (omega (arith, d))
              equal aw (suc k) q l (inr d) = absurd (low k q (omega (arith, d)) aw)

              split : (x y : ℕ) → x ≤ y → (x ≡ y) ⊎ (x < y)
              split x y l = elim (cases_order x y) as (λ _. (x ≡ y) ⊎ (x < y)) [
                | inl d ↦ inl d
                | inr q ↦ (elim q as (λ _. (x ≡ y) ⊎ (x < y)) [ inl d ↦ inr d | inr d ↦ absurd (omega (arith, d, l)) ])
              ]

              by : (u : Bool) → acts w ≡ u → (acts w ≡ true) × (level w ≡ level v)
              by true q = (q, equal q (level v) refl (bound o) (split (level w) (level v) (bound o)))
              by false q =
                  let x = c.keys.anytime w (here w iwb) q in
                  let z = act_low v iv (ask_acts v a) in
                  let l = bound o in
                  absurd (omega (arith, x, z, l))

          -- it is a check or a load
          asking : (acts w ≡ true) → class w ≤ 1 → asks w ≡ true
          asking q l = by (or_cases (has_effect w) (asks w) q)
            where
              by : (has_effect w ≡ true) ⊎ (asks w ≡ true) → asks w ≡ true
              by (inl d) = let k = c.keys.effect w (here w iwb) d in absurd (omega (arith, k, l))
              by (inr d) = d

          its : (acts w ≡ true) → level w ≡ level v → state_of f w ≡ Some p.state
          its q l =
              let x = act_state s f b m vs level class c w (here w iwb) q in
              let P : ℕ → Type 0 = λ j. slice_get (m ∷ numbers_of vs) j ≡ Some x.0 in
              let d : Some x.0 ≡ Some p.state = sym (subst P l (c.keys.at w (here w iwb) q x.0 x.1)) ∙ c.keys.at v (here v iv) (ask_acts v a) p.state t in
              x.1 ∙ d

          order_of : (q : (acts w ≡ true) × (level w ≡ level v)) → (In w xs × (class w ≤ class v)) ⊎ (class w < class v) → class w ≤ class v → In w (xs ++ ys) → In w front
          order_of q o l i = let z = ask_class v iv a in among.sooner w i (asking q.0 (omega (arith, z, l))) (its q.0 q.1) o

          front_case : In w xs → (o : AtMost level class w v) → AtMost level class w v → In w front
          front_case i o (inl l) = let q = due o in absurd (omega (arith, l, q.1))
          front_case i o (inr l) = order_of (due o) (inl (i, l.1)) l.1 (in_left w xs ys i)

          back_case : In w ys → (o : AtMost level class w v) → Sooner level class w v → In w front
          back_case i o (inl l) = let q = due o in absurd (omega (arith, l, q.1))
          back_case i o (inr l) = order_of (due o) (inr l.1) (omega (arith, l.1)) (in_right w xs ys i)

          weaker : Sooner level class w v → AtMost level class w v
          weaker (inl l) = inl l
          weaker (inr l) = inr (l.0, omega (arith, l.1))

          go : Stands w v xs ys → In w front ⊎ (v ≡ w)
          go (inl i) = inl (let o = h.front w i free in front_case i o o)
          go (inr (inl d)) = inr d
          go (inr (inr i)) = inl (let o = h.back w i free in back_case i (weaker o) o)

      -- one that stands behind the chosen one is not free
      not_free : (y : ValueRecord) → In y (xs ++ v ∷ ys) → asks y ≡ true → state_of f y ≡ Some p.state → (In y ys × (class y ≡ class v)) ⊎ (class v < class y) → IsFree b (xs ++ v ∷ ys) y → ⊥
      not_free y iy ay ty o free = go o (stands y v xs ys iy)
        where
          same : level y ≡ level v
          same = same_level y v (left.within y iy) iv (ask_acts y ay) (ask_acts v a) p.state ty t

          sooner_not : Sooner level class y v → class v ≤ class y → ⊥
          sooner_not (inl l) k = absurd (omega (arith, l, same))
          sooner_not (inr l) k = absurd (omega (arith, l.1, k))

          most_not : AtMost level class y v → class v < class y → ⊥
          most_not (inl l) k = absurd (omega (arith, l, same))
          most_not (inr l) k = absurd (omega (arith, l.1, k))

          go : (In y ys × (class y ≡ class v)) ⊎ (class v < class y) → Stands y v xs ys → ⊥
          go (inl q) place = sooner_not (h.back y q.0 free) (omega (arith, q.1))
          go (inr l) (inl i) = most_not (h.front y i free) l
          go (inr l) (inr (inl d)) = let k = ap class d in absurd (omega (arith, l, k))
          go (inr l) (inr (inr i)) = sooner_not (h.back y i free) (omega (arith, l))

      later : (y : ValueRecord) → In y back → ((x : ValueRecord) × In x front × (need f b x y ≡ true)) ⊎ (need f b v y ≡ true)
      later y i =
          let iy = among.left y (in_right y front (v ∷ back) (inr i)) in
          let q = among.later y i in
          go iy q (top s f c.sound b c.reached c.block (xs ++ v ∷ ys) left.within y iy)
        where
          test : (w : ValueRecord) → In w b.values → In y (xs ++ v ∷ ys) → Needs b w y → need f b w y ≡ true
          test w iw iy n = true_needs s f c.sound b c.reached c.block (room f) w y (few w iw) n

          go : In y (xs ++ v ∷ ys) → (asks y ≡ true) × (state_of f y ≡ Some p.state) × ((In y ys × (class y ≡ class v)) ⊎ (class v < class y)) → Top b (xs ++ v ∷ ys) y →
              ((x : ValueRecord) × In x front × (need f b x y ≡ true)) ⊎ (need f b v y ≡ true)
          go iy q r = elim r.way as (λ _. ((x : ValueRecord) × In x front × (need f b x y ≡ true)) ⊎ (need f b v y ≡ true)) [
            | inl d ↦ absurd (not_free y iy q.0 q.1 q.2 (let P : ValueRecord → Type 0 = λ x. IsFree b (xs ++ v ∷ ys) x in subst P d r.free))
            | inr n ↦ (elim (before y r.value iy q.0 q.1 r.stands r.free n) as (λ _. ((x : ValueRecord) × In x front × (need f b x y ≡ true)) ⊎ (need f b v y ≡ true)) [
              | inl j ↦ inl (r.value, j, test r.value (left.within r.value r.stands) iy n)
              | inr d ↦ inr (test v iv iy (let P : ValueRecord → Type 0 = λ x. Needs b x y in subst P (sym d) n))
            ])
          ]

  -- the others of a state that are left, about a check and about a load

  at_check_class : (n : ℕ) (v : ValueRecord) → In v b.values → at_check f n v ≡ true → class v ≡ 0
  at_check_class n v i e = c.keys.check v (here v i) (and_parts (is_check (origin_of v.op.family)) (is_at (state_of f v) n) e).0

  at_load_class : (n : ℕ) (v : ValueRecord) → In v b.values → at_load f n v ≡ true → class v ≡ 1
  at_load_class n v i e = c.keys.load v (here v i) (and_parts (is_load (origin_of v.op.family)) (is_at (state_of f v) n) e).0

  -- a check or a load of a state, by its class
  by_class : (n : ℕ) (v : ValueRecord) → In v b.values → asks v ≡ true → state_of f v ≡ Some n → ((at_check f n v ≡ true) × (class v ≡ 0)) ⊎ ((at_load f n v ≡ true) × (class v ≡ 1))
  by_class n v i a t = go (or_cases (is_check (origin_of v.op.family)) (is_load (origin_of v.op.family)) a)
    where
      go : (is_check (origin_of v.op.family) ≡ true) ⊎ (is_load (origin_of v.op.family) ≡ true) → ((at_check f n v ≡ true) × (class v ≡ 0)) ⊎ ((at_load f n v ≡ true) × (class v ≡ 1))
      go (inl e) = inl (rw (e, some_at (state_of f v) n t) refl, c.keys.check v (here v i) e)
      go (inr e) = inr (rw (e, some_at (state_of f v) n t) refl, c.keys.load v (here v i) e)

  among_check : (n : ℕ) (xs ys : List ValueRecord) (v : ValueRecord) → Left f b level (xs ++ v ∷ ys) → at_check f n v ≡ true → at_load f n v ≡ false →
      Among n xs ys v (filter (at_check f n) xs) (filter (at_check f n) ys ++ filter (at_load f n) (xs ++ ys))
  among_check n xs ys v left e l = record {
    whole = ap (λ (zs : List ValueRecord). zs ++ filter (at_load f n) (xs ++ v ∷ ys)) (filter_keep (at_check f n) v xs ys e)
        ∙ append_assoc (filter (at_check f n) xs) (v ∷ filter (at_check f n) ys) (filter (at_load f n) (xs ++ v ∷ ys))
        ∙ ap (λ (zs : List ValueRecord). filter (at_check f n) xs ++ v ∷ (filter (at_check f n) ys ++ zs)) (filter_skip (at_load f n) v xs ys l);
    without = ap (λ (zs : List ValueRecord). zs ++ filter (at_load f n) (xs ++ ys)) (filter-append (at_check f n) xs ys)
        ∙ append_assoc (filter (at_check f n) xs) (filter (at_check f n) ys) (filter (at_load f n) (xs ++ ys));
    left = λ u i. inside u (stands u v (filter (at_check f n) xs) (filter (at_check f n) ys ++ filter (at_load f n) (xs ++ ys)) i);
    later = λ u i. beyond u (in_either u (filter (at_check f n) ys) (filter (at_load f n) (xs ++ ys)) i);
    sooner = λ u i a t q. before u i (by_class n u (left.within u (with_mid u v xs ys i)) a t) q;
  }
    where
      own : class v ≡ 0
      own = at_check_class n v (left.within v (mid v xs ys)) e

      inside : (u : ValueRecord) → Stands u v (filter (at_check f n) xs) (filter (at_check f n) ys ++ filter (at_load f n) (xs ++ ys)) → In u (xs ++ v ∷ ys)
      inside u (inl i) = in_left u xs (v ∷ ys) (in-filter (at_check f n) u xs i).0
      inside u (inr (inl d)) = (let P : ValueRecord → Type 0 = λ x. In x (xs ++ v ∷ ys) in subst P d (mid v xs ys))
      inside u (inr (inr i)) = elim (in_either u (filter (at_check f n) ys) (filter (at_load f n) (xs ++ ys)) i) as (λ _. In u (xs ++ v ∷ ys)) [
        | inl j ↦ in_right u xs (v ∷ ys) (inr (in-filter (at_check f n) u ys j).0)
        | inr j ↦ with_mid u v xs ys (in-filter (at_load f n) u (xs ++ ys) j).0
      ]

      beyond : (u : ValueRecord) → In u (filter (at_check f n) ys) ⊎ In u (filter (at_load f n) (xs ++ ys)) → (asks u ≡ true) × (state_of f u ≡ Some n) × ((In u ys × (class u ≡ class v)) ⊎ (class v < class u))
      beyond u (inl i) =
          let q = in-filter (at_check f n) u ys i in
          let a = check_asks n u q.1 in
          let k = at_check_class n u (left.within u (in_right u xs (v ∷ ys) (inr q.0))) q.1 in
          (a.0, a.1, inl (q.0, k ∙ sym own))
      beyond u (inr i) =
          let q = in-filter (at_load f n) u (xs ++ ys) i in
          let a = load_asks n u q.1 in
          let k = at_load_class n u (left.within u (with_mid u v xs ys q.0)) q.1 in
          (a.0, a.1, inr (omega (arith, k, own)))

      before : (u : ValueRecord) → In u (xs ++ ys) → ((at_check f n u ≡ true) × (class u ≡ 0)) ⊎ ((at_load f n u ≡ true) × (class u ≡ 1)) → (In u xs × (class u ≤ class v)) ⊎ (class u < class v) → In u (filter (at_check f n) xs)
      before u i (inl k) (inl q) = filter-in (at_check f n) u xs q.0 k.0
      before u i (inl k) (inr l) = absurd (omega (arith, l, own))
      before u i (inr k) (inl q) = absurd (omega (arith, q.1, k.1, own))
      before u i (inr k) (inr l) = absurd (omega (arith, l, own))

  among_load : (n : ℕ) (xs ys : List ValueRecord) (v : ValueRecord) → Left f b level (xs ++ v ∷ ys) → at_load f n v ≡ true → at_check f n v ≡ false →
      Among n xs ys v (filter (at_check f n) (xs ++ ys) ++ filter (at_load f n) xs) (filter (at_load f n) ys)
  among_load n xs ys v left e l = record {
    whole = ap (λ (zs : List ValueRecord). zs ++ filter (at_load f n) (xs ++ v ∷ ys)) (filter_skip (at_check f n) v xs ys l)
        ∙ ap (λ (zs : List ValueRecord). filter (at_check f n) (xs ++ ys) ++ zs) (filter_keep (at_load f n) v xs ys e)
        ∙ sym (append_assoc (filter (at_check f n) (xs ++ ys)) (filter (at_load f n) xs) (v ∷ filter (at_load f n) ys));
    without = ap (λ (zs : List ValueRecord). filter (at_check f n) (xs ++ ys) ++ zs) (filter-append (at_load f n) xs ys)
        ∙ sym (append_assoc (filter (at_check f n) (xs ++ ys)) (filter (at_load f n) xs) (filter (at_load f n) ys));
    left = λ u i. inside u (stands u v (filter (at_check f n) (xs ++ ys) ++ filter (at_load f n) xs) (filter (at_load f n) ys) i);
    later = λ u i. beyond u i;
    sooner = λ u i a t q. before u i (by_class n u (left.within u (with_mid u v xs ys i)) a t) q;
  }
    where
      own : class v ≡ 1
      own = at_load_class n v (left.within v (mid v xs ys)) e

      inside : (u : ValueRecord) → Stands u v (filter (at_check f n) (xs ++ ys) ++ filter (at_load f n) xs) (filter (at_load f n) ys) → In u (xs ++ v ∷ ys)
      inside u (inl i) = elim (in_either u (filter (at_check f n) (xs ++ ys)) (filter (at_load f n) xs) i) as (λ _. In u (xs ++ v ∷ ys)) [
        | inl j ↦ with_mid u v xs ys (in-filter (at_check f n) u (xs ++ ys) j).0
        | inr j ↦ in_left u xs (v ∷ ys) (in-filter (at_load f n) u xs j).0
      ]
      inside u (inr (inl d)) = (let P : ValueRecord → Type 0 = λ x. In x (xs ++ v ∷ ys) in subst P d (mid v xs ys))
      inside u (inr (inr i)) = in_right u xs (v ∷ ys) (inr (in-filter (at_load f n) u ys i).0)

      beyond : (u : ValueRecord) → In u (filter (at_load f n) ys) → (asks u ≡ true) × (state_of f u ≡ Some n) × ((In u ys × (class u ≡ class v)) ⊎ (class v < class u))
      beyond u i =
          let q = in-filter (at_load f n) u ys i in
          let a = load_asks n u q.1 in
          let k = at_load_class n u (left.within u (in_right u xs (v ∷ ys) (inr q.0))) q.1 in
          (a.0, a.1, inl (q.0, k ∙ sym own))

      before : (u : ValueRecord) → In u (xs ++ ys) → ((at_check f n u ≡ true) × (class u ≡ 0)) ⊎ ((at_load f n u ≡ true) × (class u ≡ 1)) → (In u xs × (class u ≤ class v)) ⊎ (class u < class v) →
          In u (filter (at_check f n) (xs ++ ys) ++ filter (at_load f n) xs)
      before u i (inl k) q = in_left u (filter (at_check f n) (xs ++ ys)) (filter (at_load f n) xs) (filter-in (at_check f n) u (xs ++ ys) i k.0)
      before u i (inr k) (inl q) = in_right u (filter (at_check f n) (xs ++ ys)) (filter (at_load f n) xs) (filter-in (at_load f n) u xs q.0 k.0)
      before u i (inr k) (inr l) = absurd (omega (arith, l, k.1, own))

  ask_no_effect : (v : ValueRecord) → asks v ≡ true → has_effect v ≡ false
  ask_no_effect v a = test_false (has_effect v) (λ e. let k = effect_asks_not v e in absurd cc)

  add_by : (xs ys zs : List ValueRecord) (v : ValueRecord) → Left f b level (xs ++ v ∷ ys) → Left f b level (xs ++ ys) → Chosen xs ys v → asks v ≡ true → (p : Part f b m vs (xs ++ ys) zs) → state_of f v ≡ Some p.state →
      ((at_check f p.state v ≡ true) × (class v ≡ 0)) ⊎ ((at_load f p.state v ≡ true) × (class v ≡ 1)) → Part f b m vs (xs ++ v ∷ ys) (zs ++ v ∷ [])
  add_by xs ys zs v left after h a p t (inl k) =
      let q = check_not_load v (and_parts (is_check (origin_of v.op.family)) (is_at (state_of f v) p.state) k.0).0 in
      let l = no_test (is_load (origin_of v.op.family)) (is_at (state_of f v) p.state) q in
      add_ask xs ys zs v left after h a (ask_no_effect v a) p t (filter (at_check f p.state) xs) (filter (at_check f p.state) ys ++ filter (at_load f p.state) (xs ++ ys))
      (among_check p.state xs ys v left k.0 l)
  add_by xs ys zs v left after h a p t (inr k) =
      let q = load_not_check v (and_parts (is_load (origin_of v.op.family)) (is_at (state_of f v) p.state) k.0).0 in
      let l = no_test (is_check (origin_of v.op.family)) (is_at (state_of f v) p.state) q in
      add_ask xs ys zs v left after h a (ask_no_effect v a) p t (filter (at_check f p.state) (xs ++ ys) ++ filter (at_load f p.state) xs) (filter (at_load f p.state) ys)
      (among_load p.state xs ys v left k.0 l)

  add_value : (xs ys zs : List ValueRecord) (v : ValueRecord) → Left f b level (xs ++ v ∷ ys) → Chosen xs ys v → Part f b m vs (xs ++ ys) zs → Part f b m vs (xs ++ v ∷ ys) (zs ++ v ∷ [])
  add_value xs ys zs v left h p = go (has_effect v) refl (asks v) refl
    where
      after : Left f b level (xs ++ ys)
      after = left_more xs ys v left h

      go : (t : Bool) → has_effect v ≡ t → (u : Bool) → asks v ≡ u → Part f b m vs (xs ++ v ∷ ys) (zs ++ v ∷ [])
      go true e u d = add_effect xs ys zs v left after h e p
      go false e false d = add_quiet xs ys zs v (rw (e, d) refl) p
      go false e true d =
          let x = act_state s f b m vs level class c v (here v (left.within v (mid v xs ys))) (ask_acts v d) in
          let t = x.1 ∙ ap Some (its_state xs ys zs v left after p (ask_acts v d) x.0 x.1) in
          add_by xs ys zs v left after h d p t (by_class p.state v (left.within v (mid v xs ys)) d t)

  filled_part : (xs zs : List ValueRecord) → Filled b level class xs zs → Left f b level xs → Part f b m vs xs zs
  filled_part _ _ empty left = record {
    es = [];
    rest = vs;
    pre = [];
    seg = [];
    state = m;
    all = refl;
    parts = refl;
    behind = start;
    still = tt;
    named = λ u i q. elim i [ ];
    place = refl;
    present = λ e i q. elim i [ ];
    there = λ e i. elim i [ ];
    greedy = none;
  }
  filled_part _ _ (fill xs ys zs v free front back g) left =
      let h : Chosen xs ys v = record { free = free; front = front; back = back } in
      add_value xs ys zs v left h (filled_part (xs ++ ys) zs g (left_more xs ys v left h))

  all_left : Left f b level b.values
  all_left = record {
    within = λ v i. i;
    closed = λ x v i t. to_in v b.values t.0;
    once = c.sound.named.once b c.block;
    levels = λ e u i q j a l. j;
    checks_left = λ e n i t. refl;
    loads_left = λ e n i t. refl;
  }

  whole_part : (ls : List ValueRecord) → Part f b m vs b.values ls → Laid f b m vs ls
  whole_part ls p =
      let P : List ValueRecord → Type 0 = λ ws. Laid f b m ws ls in
      let R : List ValueRecord → Type 0 = λ ws. Laid f b m (p.es ++ []) ws in
      subst P (ap (λ (ws : List ValueRecord). p.es ++ ws) (sym (no_rest p.rest p.all)) ∙ sym p.all)
      (subst R (sym p.parts) (finish f b m p.es p.pre p.state p.behind [] p.seg (last p.state p.seg p.still alike)))
    where
      alike : (t : Target) (g : ℕ → ℕ) (d : List ℕ) → first_fault t g d (order f b p.state) ≡ first_fault t g d p.seg
      alike t g d = order_greedy s f c.sound b c.reached c.block p.state (filter asks p.seg) p.greedy t g d ∙ asked_faults t g d p.seg

      no_rest : (rest : List ValueRecord) → vs ≡ p.es ++ rest → rest ≡ []
      no_rest [] e = refl
      no_rest (w ∷ ws) e =
          let P : List ValueRecord → Type 0 = λ xs. slice_get xs (length p.es) ≡ Some w in
          let g : slice_get vs (length p.es) ≡ Some w = subst P (sym e) (head_right p.es w ws) in
          let t = chain_at f b m vs c.chain (length p.es) w g in
          let x = level_at s f b m vs level class c (length p.es) w g in
          let j = in_place p.es w (p.present w (to_in w b.values t.2.0.1) t.2.1) in
          let R : List ValueRecord → Type 0 = λ xs. slice_get xs j.0 ≡ Some w in
          let y = level_at s f b m vs level class c j.0 w (subst R (sym e) (got_left p.es (w ∷ ws) j.0 w j.1)) in
          absurd (omega (arith, x, y, j.2))

  -- so a filled list does what the block does
  pub filled_laid : (ls : List ValueRecord) → Filled b level class b.values ls → Laid f b m vs ls
  filled_laid ls g = whole_part ls (filled_part b.values ls g all_left)

  -- and each check, load and memory value stands in it where memory is in its state
  pub filled_placed : (ls : List ValueRecord) → Filled b level class b.values ls → Placed f m ls
  filled_placed ls g =
      let p = filled_part b.values ls g all_left in
      let P : List ValueRecord → Type 0 = λ xs. Placed f m xs in
      subst P (sym p.parts) (finish_placed f b m p.es p.pre p.state p.behind p.seg (ends p.state p.seg p.still p.named))
