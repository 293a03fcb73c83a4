-- Places that were filled by when the values there are due do what the block does.
use Rattle.std.proofs.Common.{◌≡◌, ℕ, zero, suc, ◌+◌, ◌<◌, ◌≤◌, refl, ap, sym, ◌∙◌, subst, arith, ◌⊎◌, inl, inr, List, [], ◌∷◌, ◌++◌, length, Option, Some, None, Bool, true, false, cond, ◌==◌, eq-eqb, not, append_assoc, length-append}
use Rattle.std.specs.Prelude.{slice_get, unwrap_or, count_by, position}
use Rattle.std.specs.List.{Contains, range_with_len, position_or_len}
use Rattle.std.proofs.lemmas.Bool.{eqb-true, lt-ltb, or_cases, or_parts}
use Rattle.std.proofs.lemmas.Option.{slice_get_within}
use Rattle.std.proofs.lemmas.List.Sums.{count_by-le-length}
use Rattle.bk_func.specs.Records.{ValueRecord, BlockRecord, FuncRecord}
use Rattle.bk_func.specs.Numbers.{origin_of, state_of}
use Rattle.bk_func.specs.Effects.{has_effect, is_check, is_load, next_at, onward, chain, chain_from}
use Rattle.bk_func.specs.Meaning.{first_state}
use Rattle.bk_func.specs.Form.Text.{HasValue}
use Rattle.bk_func.specs.Form.Walks.{IsReached}
use Rattle.bk_func.specs.Form.Before.{IsTakenBy}
use Rattle.bk_func.specs.Form.Signatures.{Setting}
use Rattle.bk_func.proofs.Faults.{In}
use Rattle.bk_func.proofs.Flat.{Laid}
use Rattle.bk_mean.specs.Arranged.{Due, Later, by_level, by_class, by_place, anytime, class_of, level_in, due_of, TakesAt, Filled, none, put}
use Rattle.bk_places.proofs.Elements.{to_in, to_contains, in_left, in_right, in_either}
use Rattle.bk_mean.proofs.Named.{got_in, in_got}
use Rattle.bk_mean.proofs.Dominance.{reached_block}
use Rattle.bk_mean.proofs.Formed.{Sound}
use Rattle.bk_mean.proofs.Follows.{chain_complete, numbers_of, IsMet}
use Rattle.bk_mean.proofs.Course.{Meets, effect_done, state_met}
use Rattle.bk_mean.proofs.Levels.{asks, acts, ask_state, ask_state_of, Keys, Timed, chain_at, IsFree}
use Rattle.bk_mean.proofs.Laying.{Filled as ByValues, empty, fill, check_not_load, effect_asks_not, Placed, filled_laid, filled_placed}

-- when a value is due

pub due_class : ValueRecord → ℕ
due_class v = unwrap_or (class_of v) 0

abbrev pub level_of : Option ℕ → Option ℕ → ℕ
level_of None o = anytime
level_of (Some c) o = unwrap_or o 0

pub due_level : FuncRecord → BlockRecord → ℕ → ValueRecord → ℕ
due_level f b m v = level_of (class_of v) (level_in (m ∷ numbers_of (chain_from f b m)) (state_of f v))

class_check : (v : ValueRecord) → is_check (origin_of v.op.family) ≡ true → class_of v ≡ Some 0
class_check v e = rw e refl

class_load : (v : ValueRecord) → is_check (origin_of v.op.family) ≡ false → is_load (origin_of v.op.family) ≡ true → class_of v ≡ Some 1
class_load v c e = rw (c, e) refl

class_effect : (v : ValueRecord) → asks v ≡ false → has_effect v ≡ true → class_of v ≡ Some 2
class_effect v a e = let q = or_parts (is_check (origin_of v.op.family)) (is_load (origin_of v.op.family)) a in rw (q.0, q.1, e) refl

pub class_none : (v : ValueRecord) → acts v ≡ false → class_of v ≡ None
class_none v a =
    let q = or_parts (has_effect v) (asks v) a in
    let r = or_parts (is_check (origin_of v.op.family)) (is_load (origin_of v.op.family)) q.1 in
    rw (r.0, r.1, q.0) refl

pub class_some : (v : ValueRecord) → acts v ≡ true → (c : ℕ) × (class_of v ≡ Some c)
class_some v a = go (is_check (origin_of v.op.family)) refl (is_load (origin_of v.op.family)) refl (or_cases (has_effect v) (asks v) a)
  where
    go : (t : Bool) → is_check (origin_of v.op.family) ≡ t → (u : Bool) → is_load (origin_of v.op.family) ≡ u → (has_effect v ≡ true) ⊎ (asks v ≡ true) → (c : ℕ) × (class_of v ≡ Some c)
    go true e u d k = (0, class_check v e)
    go false e true d k = (1, class_load v e d)
    go false e false d (inl k) = (2, rw (e, d, k) refl)
    go false e false d (inr k) = let x : asks v ≡ false = rw (e, d) refl in absurd cc

-- the first place of a number

first_place : (n : ℕ) (xs : List ℕ) → In n xs → slice_get xs (position_or_len (λ x. x == n) xs) ≡ Some n
first_place n [] i = elim i [ ]
first_place n (x ∷ xs) i = go (x == n) refl i (λ j. first_place n xs j)
  where
    go : (t : Bool) → (x == n) ≡ t → In n (x ∷ xs) → (In n xs → slice_get xs (position_or_len (λ y. y == n) xs) ≡ Some n) →
        slice_get (x ∷ xs) (cond (not t) (1 + position_or_len (λ y. y == n) xs) 0) ≡ Some n
    go true e j rest = ap Some (eqb-true x n e)
    go false e (inl d) rest = let k = eq-eqb x n d in absurd cc
    go false e (inr j) rest =
        let d : 1 + position_or_len (λ y. y == n) xs ≡ suc (position_or_len (λ y. y == n) xs) = omega arith in
        ap (slice_get (x ∷ xs)) d ∙ rest j

level_found : (n : ℕ) (xs : List ℕ) → In n xs → position (λ x. x == n) xs ≡ Some (position_or_len (λ x. x == n) xs)
level_found n xs i =
    let l = slice_get_within xs (position_or_len (λ x. x == n) xs) n (first_place n xs i) in
    ap (λ t. cond t (Some (position_or_len (λ x. x == n) xs)) None) (lt-ltb (position_or_len (λ x. x == n) xs) (length xs) l)

-- the state of a value that is done at one is the first of the block or follows it

pub chain_short : (k : ℕ) (f : FuncRecord) (b : BlockRecord) (m : ℕ) → length (chain k f b m) ≤ k
unfolding chain
chain_short zero f b m = omega arith
chain_short (suc k) f b m = go (next_at f b m) (λ n. chain_short k f b n)
  where
    go : (o : Option ValueRecord) → ((n : ℕ) → length (chain k f b n) ≤ k) → length (onward o (chain k f b)) ≤ suc k
    go None h = omega arith
    go (Some v) h = let l = h v.id in omega (arith, l)

met_in : (m : ℕ) (vs : List ValueRecord) (n : ℕ) → IsMet m vs n → In n (m ∷ numbers_of vs)
met_in m vs n (inl e) = inl (sym e)
met_in m vs n (inr i) = inr i

pub act_met : (s : Setting) (f : FuncRecord) → Sound s f → (b : BlockRecord) → IsReached f b → (m : ℕ) → Meets f b m → (v : ValueRecord) → HasValue f b v → acts v ≡ true →
    (n : ℕ) × (state_of f v ≡ Some n) × In n (first_state b m ∷ numbers_of (chain_from f b (first_state b m)))
act_met s f h b r m meets v i a = go (or_cases (has_effect v) (asks v) a)
  where
    go : (has_effect v ≡ true) ⊎ (asks v ≡ true) → (n : ℕ) × (state_of f v ≡ Some n) × In n (first_state b m ∷ numbers_of (chain_from f b (first_state b m)))
    go (inl e) =
        let j = in_got (chain_from f b (first_state b m)) v (effect_done s f h b r m meets v i e) in
        let t = chain_at f b (first_state b m) (chain_from f b (first_state b m)) (chain_complete s f h b r (first_state b m)) j.0 v j.1 in
        (t.0, t.2.2, got_in (first_state b m ∷ numbers_of (chain_from f b (first_state b m))) j.0 t.0 t.1)
    go (inr e) =
        let q = ask_state s f h b v i r e in
        (q.0, ask_state_of s f h b v i r e q.0 q.1, met_in (first_state b m) (chain_from f b (first_state b m)) q.0 (state_met s f h b r m meets q.0 q.2))

-- each value is due
pub due_here : (s : Setting) (f : FuncRecord) → Sound s f → (b : BlockRecord) → IsReached f b → (m : ℕ) → Meets f b m → (v : ValueRecord) → HasValue f b v → (k : ℕ) →
    due_of f b (first_state b m) k v ≡ Some (record { level = due_level f b (first_state b m) v; class = due_class v; place = k })
unfolding due_class due_level
due_here s f h b r m meets v i k = go (acts v) refl
  where
    go : (t : Bool) → acts v ≡ t → due_of f b (first_state b m) k v ≡ Some (record { level = due_level f b (first_state b m) v; class = due_class v; place = k })
    go false e = rw (class_none v e) refl
    go true e =
        let c = class_some v e in
        let n = act_met s f h b r m meets v i e in
        rw (c.1, n.1, level_found n.0 (first_state b m ∷ numbers_of (chain_from f b (first_state b m))) n.2) refl

keys_here : (s : Setting) (f : FuncRecord) → Sound s f → (b : BlockRecord) → IsReached f b → (m : ℕ) → Meets f b m → length b.values < anytime →
    Keys f b (first_state b m) (chain_from f b (first_state b m)) (due_level f b (first_state b m)) due_class
unfolding due_class due_level
keys_here s f h b r m meets l = record {
  check = λ v i e. ap (λ o. unwrap_or o 0) (class_check v e);
  load = λ v i e. ap (λ o. unwrap_or o 0) (class_load v (not_check v e) e);
  effect = λ v i e. ap (λ o. unwrap_or o 0) (class_effect v (effect_asks_not v e) e);
  at = λ v i a n t. at v i a n t;
  anytime = λ v i a. low v a;
}
  where
    not_check : (v : ValueRecord) → is_load (origin_of v.op.family) ≡ true → is_check (origin_of v.op.family) ≡ false
    not_check v e = go (is_check (origin_of v.op.family)) refl
      where
        go : (t : Bool) → is_check (origin_of v.op.family) ≡ t → t ≡ false
        go true q = let k = check_not_load v q in absurd cc
        go false q = refl

    at : (v : ValueRecord) → HasValue f b v → acts v ≡ true → (n : ℕ) → state_of f v ≡ Some n →
        slice_get (first_state b m ∷ numbers_of (chain_from f b (first_state b m))) (due_level f b (first_state b m) v) ≡ Some n
    at v i a n t =
        let c = class_some v a in
        let q = act_met s f h b r m meets v i a in
        let d : q.0 ≡ n = (let x = sym q.1 ∙ t in cc) in
        let P : ℕ → Type 0 = λ x. In x (first_state b m ∷ numbers_of (chain_from f b (first_state b m))) in
        let j = subst P d q.2 in
        rw (c.1, t, level_found n (first_state b m ∷ numbers_of (chain_from f b (first_state b m))) j) (first_place n (first_state b m ∷ numbers_of (chain_from f b (first_state b m))) j)

    low : (v : ValueRecord) → acts v ≡ false → length (chain_from f b (first_state b m)) < due_level f b (first_state b m) v
    low v a =
        let e : due_level f b (first_state b m) v ≡ anytime = rw (class_none v a) refl in
        let x = chain_short (count_by has_effect b.values) f b (first_state b m) in
        let y = count_by-le-length has_effect b.values in
        omega (arith, e, x, y, l)

pub timed_here : (s : Setting) (f : FuncRecord) → Sound s f → (b : BlockRecord) → IsReached f b → (m : ℕ) → Meets f b m → length b.values < anytime →
    Timed s f b (first_state b m) (chain_from f b (first_state b m)) (due_level f b (first_state b m)) due_class
timed_here s f h b r m meets l = record {
  sound = h;
  reached = r;
  block = reached_block f b r;
  chain = chain_complete s f h b r (first_state b m);
  all = λ v i e. effect_done s f h b r m meets v i e;
  keys = keys_here s f h b r m meets l;
}

-- values by their places

abbrev pub with_value : Option ValueRecord → List ValueRecord → List ValueRecord
with_value None vs = vs
with_value (Some v) vs = v ∷ vs

-- the values at places of a list
abbrev pub values_at : List ValueRecord → List ℕ → List ValueRecord
values_at vs [] = []
values_at vs (k ∷ ks) = with_value (slice_get vs k) (values_at vs ks)

at_append : (vs : List ValueRecord) (xs ys : List ℕ) → values_at vs (xs ++ ys) ≡ values_at vs xs ++ values_at vs ys
at_append vs [] ys = refl
at_append vs (x ∷ xs) ys = go (slice_get vs x) (at_append vs xs ys)
  where
    go : (o : Option ValueRecord) → values_at vs (xs ++ ys) ≡ values_at vs xs ++ values_at vs ys → with_value o (values_at vs (xs ++ ys)) ≡ with_value o (values_at vs xs) ++ values_at vs ys
    go None e = e
    go (Some v) e = ap (λ ws. v ∷ ws) e

pub at_in : (vs : List ValueRecord) (ks : List ℕ) (v : ValueRecord) → In v (values_at vs ks) → (k : ℕ) × In k ks × (slice_get vs k ≡ Some v)
at_in vs [] v i = elim i [ ]
at_in vs (k ∷ ks) v i = go (slice_get vs k) refl i (λ j. at_in vs ks v j)
  where
    go : (o : Option ValueRecord) → slice_get vs k ≡ o → In v (with_value o (values_at vs ks)) → (In v (values_at vs ks) → (j : ℕ) × In j ks × (slice_get vs j ≡ Some v)) →
        (j : ℕ) × In j (k ∷ ks) × (slice_get vs j ≡ Some v)
    go None e j rest = let r = rest j in (r.0, inr r.1, r.2)
    go (Some u) e (inl d) rest = (k, inl refl, e ∙ ap Some d)
    go (Some u) e (inr j) rest = let r = rest j in (r.0, inr r.1, r.2)

pub in_at : (vs : List ValueRecord) (ks : List ℕ) (k : ℕ) (v : ValueRecord) → In k ks → slice_get vs k ≡ Some v → In v (values_at vs ks)
in_at vs [] k v i e = elim i [ ]
in_at vs (j ∷ ks) k v (inl d) e = (let P : Option ValueRecord → Type 0 = λ o. In v (with_value o (values_at vs ks)) in subst P (sym (ap (slice_get vs) d ∙ e)) (inl refl))
in_at vs (j ∷ ks) k v (inr i) e = go (slice_get vs j) (in_at vs ks k v i e)
  where
    go : (o : Option ValueRecord) → In v (values_at vs ks) → In v (with_value o (values_at vs ks))
    go None h = h
    go (Some u) h = inr h

-- places in rising order
abbrev pub IsRising : List ℕ → Type 0
IsRising [] = Unit {0}
IsRising (k ∷ ks) = ((j : ℕ) → In j ks → k < j) × IsRising ks

record Risen (xs : List ℕ) (v : ℕ) (ys : List ℕ) : Type 0 where
  below : (k : ℕ) → In k xs → k < v
  beyond : (k : ℕ) → In k ys → v < k
  rest : IsRising (xs ++ ys)

rising_mid : (xs : List ℕ) (v : ℕ) (ys : List ℕ) → IsRising (xs ++ v ∷ ys) → Risen xs v ys
rising_mid [] v ys h = record { below = λ k i. elim i [ ]; beyond = h.0; rest = h.1 }
rising_mid (x ∷ xs) v ys h =
    let r = rising_mid xs v ys h.1 in
    record {
      below = λ k i. elim i as (λ _. k < v) [
        | inl e ↦ (let l = h.0 v (in_right v xs (v ∷ ys) (inl refl)) in omega (arith, l, e))
        | inr j ↦ r.below k j
      ];
      beyond = r.beyond;
      rest = (λ j i. h.0 j (elim (in_either j xs ys i) as (λ _. In j (xs ++ v ∷ ys)) [ inl a ↦ in_left j xs (v ∷ ys) a | inr a ↦ in_right j xs (v ∷ ys) (inr a) ]), r.rest);
    }

-- when the places are due and what they take, by the values there
pub record Reads (f : FuncRecord) (b : BlockRecord) (m : ℕ) (when : ℕ → Option Due) (take : ℕ → ℕ → Type 0) : Type 0 where
  pub due : (k : ℕ) (v : ValueRecord) → slice_get b.values k ≡ Some v → when k ≡ due_of f b m k v
  pub taken : (x y : ℕ) → take x y → TakesAt b x y
  pub takes : (x y : ℕ) → TakesAt b x y → take x y

one_value : (b : BlockRecord) (k : ℕ) (v u : ValueRecord) → slice_get b.values k ≡ Some v → slice_get b.values k ≡ Some u → v ≡ u
one_value b k v u e d = let x = sym e ∙ d in cc

-- due later, by levels and classes
later_parts : (d e : Due) → Later d e → (e.level < d.level) ⊎ ((e.level ≡ d.level) × ((e.class < d.class) ⊎ ((e.class ≡ d.class) × (e.place < d.place))))
later_parts d e (by_level _ _ l) = inl l
later_parts d e (by_class _ _ a l) = inr (sym a, inl l)
later_parts d e (by_place _ _ a c l) = inr (sym a, inr (sym c, l))

module _ (s : Setting) (f : FuncRecord) (b : BlockRecord) (m : ℕ) (h : Sound s f) (reached : IsReached f b) (meets : Meets f b m) (due : ℕ → Option Due) (takes : ℕ → ℕ → Type 0) (reads : Reads f b (first_state b m) due takes) where
  when : (k : ℕ) (v : ValueRecord) → slice_get b.values k ≡ Some v → due k ≡ Some (record { level = due_level f b (first_state b m) v; class = due_class v; place = k })
  when k v e = reads.due k v e ∙ due_here s f h b reached m meets v (reached_block f b reached, to_contains v b.values (got_in b.values k v e)) k

  free_at : (xs : List ℕ) (v : ℕ) (u : ValueRecord) → slice_get b.values v ≡ Some u → ((x : ℕ) → Contains xs x → ¬ takes x v) → IsFree b (values_at b.values xs) u
  free_at xs v u e out x i t =
      let k = at_in b.values xs x i in
      out k.0 (to_contains k.0 xs k.1) (reads.takes k.0 v (x, u, k.2, e, t))

  free_taken : (xs : List ℕ) (y : ℕ) (w : ValueRecord) → slice_get b.values y ≡ Some w → IsFree b (values_at b.values xs) w → (x : ℕ) → Contains xs x → takes x y → ⊥
  free_taken xs y w e free x i t = go (reads.taken x y t)
    where
      go : TakesAt b x y → ⊥
      go (u, v, a, c, k) =
          let d = one_value b y v w c e in
          free u (in_at b.values xs x u (to_in x xs i) a) (let P : ValueRecord → Type 0 = λ z. IsTakenBy b z u in subst P d k)

  -- what is free and left is due no later, and sooner where it stands behind
  judged : (all : List ℕ) (v y : ℕ) (u w : ValueRecord) (d : Due) → slice_get b.values v ≡ Some u → slice_get b.values y ≡ Some w → due v ≡ Some d →
      ((e : Due) → due y ≡ Some e → ((x : ℕ) × Contains all x × takes x y) ⊎ Later d e) → IsFree b (values_at b.values all) w →
      (due_level f b (first_state b m) w < due_level f b (first_state b m) u)
      ⊎ ((due_level f b (first_state b m) w ≡ due_level f b (first_state b m) u) × ((due_class w < due_class u) ⊎ ((due_class w ≡ due_class u) × (y < v))))
  judged all v y u w d a c t later free =
      go (later (record { level = due_level f b (first_state b m) w; class = due_class w; place = y }) (when y w c))
    where
      same : d ≡ record { level = due_level f b (first_state b m) u; class = due_class u; place = v }
      same = (let x = sym t ∙ when v u a in cc)

      go : ((x : ℕ) × Contains all x × takes x y) ⊎ Later d (record { level = due_level f b (first_state b m) w; class = due_class w; place = y }) →
          (due_level f b (first_state b m) w < due_level f b (first_state b m) u)
          ⊎ ((due_level f b (first_state b m) w ≡ due_level f b (first_state b m) u) × ((due_class w < due_class u) ⊎ ((due_class w ≡ due_class u) × (y < v))))
      go (inl (x, i, k)) = absurd (free_taken all y w c free x i k)
      go (inr l) =
          let P : Due → Type 0 = λ e. Later e (record { level = due_level f b (first_state b m) w; class = due_class w; place = y }) in
          later_parts (record { level = due_level f b (first_state b m) u; class = due_class u; place = v }) (record { level = due_level f b (first_state b m) w; class = due_class w; place = y }) (subst P same l)

  by_values : (xs zs : List ℕ) → Filled due takes xs zs → IsRising xs → ((k : ℕ) → In k xs → (v : ValueRecord) × (slice_get b.values k ≡ Some v)) →
      ByValues b (due_level f b (first_state b m)) due_class (values_at b.values xs) (values_at b.values zs)
  by_values _ _ none rising there = empty
  by_values _ _ (put xs ys zs v d t free later g) rising there =
      let u = there v (in_right v xs (v ∷ ys) (inl refl)) in
      let r = rising_mid xs v ys rising in
      let rest = by_values (xs ++ ys) zs g r.rest (λ k i. there k (elim (in_either k xs ys i) as (λ _. In k (xs ++ v ∷ ys)) [ inl a ↦ in_left k xs (v ∷ ys) a | inr a ↦ in_right k xs (v ∷ ys) (inr a) ])) in
      let left : values_at b.values (xs ++ v ∷ ys) ≡ values_at b.values xs ++ u.0 ∷ values_at b.values ys =
      at_append b.values xs (v ∷ ys) ∙ ap (λ o. values_at b.values xs ++ with_value o (values_at b.values ys)) u.1
      in
      let right : values_at b.values (zs ++ v ∷ []) ≡ values_at b.values zs ++ u.0 ∷ [] =
      at_append b.values zs (v ∷ []) ∙ ap (λ o. values_at b.values zs ++ with_value o []) u.1
      in
      let P : List ValueRecord → Type 0 = λ ws. ByValues b (due_level f b (first_state b m)) due_class ws (values_at b.values (zs ++ v ∷ [])) in
      let R : List ValueRecord → Type 0 = λ ws. ByValues b (due_level f b (first_state b m)) due_class (values_at b.values xs ++ u.0 ∷ values_at b.values ys) ws in
      let Q : List ValueRecord → Type 0 = λ ws. ByValues b (due_level f b (first_state b m)) due_class ws (values_at b.values zs) in
      let F : List ValueRecord → Type 0 = λ ws. IsFree b ws u.0 in
      subst P (sym left) (subst R (sym right)
      (fill (values_at b.values xs) (values_at b.values ys) (values_at b.values zs) u.0
      (subst F left (free_at (xs ++ v ∷ ys) v u.0 u.1 free))
      (λ y i k.
      let j = at_in b.values xs y i in
      let G : List ValueRecord → Type 0 = λ ws. IsFree b ws y in
      most (judged (xs ++ v ∷ ys) v j.0 u.0 y d u.1 j.2 t (λ e q. later j.0 e (to_contains j.0 (xs ++ ys) (in_left j.0 xs ys j.1)) q) (subst G (sym left) k)))
      (λ y i k.
      let j = at_in b.values ys y i in
      let G : List ValueRecord → Type 0 = λ ws. IsFree b ws y in
      let l = r.beyond j.0 j.1 in
      sooner j.0 v l (judged (xs ++ v ∷ ys) v j.0 u.0 y d u.1 j.2 t (λ e q. later j.0 e (to_contains j.0 (xs ++ ys) (in_right j.0 xs ys j.1)) q) (subst G (sym left) k)))
      (subst Q (at_append b.values xs ys) rest)))
    where
      most : {a c x y p q : ℕ} → (a < c) ⊎ ((a ≡ c) × ((x < y) ⊎ ((x ≡ y) × (p < q)))) → (a < c) ⊎ ((a ≡ c) × (x ≤ y))
      most (inl l) = inl l
      most (inr (e, inl l)) = inr (e, omega (arith, l))
      most (inr (e, inr l)) = inr (e, omega (arith, l.0))

      sooner : {a c x y : ℕ} (p q : ℕ) → q < p → (a < c) ⊎ ((a ≡ c) × ((x < y) ⊎ ((x ≡ y) × (p < q)))) → (a < c) ⊎ ((a ≡ c) × (x < y))
      sooner p q o (inl l) = inl l
      sooner p q o (inr (e, inl l)) = inr (e, l)
      sooner p q o (inr (e, inr l)) = absurd (omega (arith, l.1, o))

-- all places

range_in : (a n k : ℕ) → In k (range_with_len a n) → (a ≤ k) × (k < a + n)
range_in a zero k i = elim i [ ]
range_in a (suc n) k (inl e) = (omega (arith, e), omega (arith, e))
range_in a (suc n) k (inr i) = let r = range_in (a + 1) n k i in (omega (arith, r.0), omega (arith, r.1))

range_rising : (a n : ℕ) → IsRising (range_with_len a n)
range_rising a zero = tt
range_rising a (suc n) = (λ j i. let r = range_in (a + 1) n j i in omega (arith, r.0), range_rising (a + 1) n)

head_at : (pre : List ValueRecord) (v : ValueRecord) (vs : List ValueRecord) → slice_get (pre ++ v ∷ vs) (length pre) ≡ Some v
head_at [] v vs = refl
head_at (p ∷ pre) v vs = head_at pre v vs

whole_at : (pre vs : List ValueRecord) (a : ℕ) → length pre ≡ a → values_at (pre ++ vs) (range_with_len a (length vs)) ≡ vs
whole_at pre [] a e = refl
whole_at pre (v ∷ vs) a e =
    let k = length-append pre (v ∷ []) in
    let l : length (pre ++ v ∷ []) ≡ a + 1 = omega (arith, k, e) in
    let g : slice_get (pre ++ v ∷ vs) a ≡ Some v = (let P : ℕ → Type 0 = λ j. slice_get (pre ++ v ∷ vs) j ≡ Some v in subst P e (head_at pre v vs)) in
    ap (λ o. with_value o (values_at (pre ++ v ∷ vs) (range_with_len (a + 1) (length vs)))) g
    ∙ ap (λ ws. v ∷ ws) (ap (λ ws. values_at ws (range_with_len (a + 1) (length vs))) (sym (append_assoc pre (v ∷ []) vs)) ∙ whole_at (pre ++ v ∷ []) vs (a + 1) l)

got_there : (vs : List ValueRecord) (k : ℕ) → k < length vs → (v : ValueRecord) × (slice_get vs k ≡ Some v)
got_there [] k l = absurd (omega (arith, l))
got_there (v ∷ vs) zero l = (v, refl)
got_there (v ∷ vs) (suc k) l = got_there vs k (omega (arith, l))

-- the values at the places are filled
pub arranged_filled : (s : Setting) (f : FuncRecord) → Sound s f → (b : BlockRecord) → IsReached f b → (m : ℕ) → Meets f b m → (due : ℕ → Option Due) (takes : ℕ → ℕ → Type 0) → Reads f b (first_state b m) due takes →
    (zs : List ℕ) → Filled due takes (range_with_len 0 (length b.values)) zs → ByValues b (due_level f b (first_state b m)) due_class b.values (values_at b.values zs)
arranged_filled s f h b r m meets due takes reads zs g =
    let P : List ValueRecord → Type 0 = λ ws. ByValues b (due_level f b (first_state b m)) due_class ws (values_at b.values zs) in
    subst P (whole_at [] b.values 0 refl)
    (by_values s f b m h r meets due takes reads (range_with_len 0 (length b.values)) zs g (range_rising 0 (length b.values))
    (λ k i. let q = range_in 0 (length b.values) k i in got_there b.values k (omega (arith, q.1))))

-- so they do what the block does
pub arranged_laid : (s : Setting) (f : FuncRecord) → Sound s f → (b : BlockRecord) → IsReached f b → (m : ℕ) → Meets f b m → length b.values < anytime → (due : ℕ → Option Due) (takes : ℕ → ℕ → Type 0) →
    Reads f b (first_state b m) due takes → (zs : List ℕ) → Filled due takes (range_with_len 0 (length b.values)) zs → Laid f b (first_state b m) (chain_from f b (first_state b m)) (values_at b.values zs)
arranged_laid s f h b r m meets l due takes reads zs g =
    filled_laid s f b (first_state b m) (chain_from f b (first_state b m)) (due_level f b (first_state b m)) due_class (timed_here s f h b r m meets l) (values_at b.values zs)
    (arranged_filled s f h b r m meets due takes reads zs g)

-- and each check, load and memory value stands where memory is in its state
pub arranged_placed : (s : Setting) (f : FuncRecord) → Sound s f → (b : BlockRecord) → IsReached f b → (m : ℕ) → Meets f b m → length b.values < anytime → (due : ℕ → Option Due) (takes : ℕ → ℕ → Type 0) →
    Reads f b (first_state b m) due takes → (zs : List ℕ) → Filled due takes (range_with_len 0 (length b.values)) zs → Placed f (first_state b m) (values_at b.values zs)
arranged_placed s f h b r m meets l due takes reads zs g =
    filled_placed s f b (first_state b m) (chain_from f b (first_state b m)) (due_level f b (first_state b m)) due_class (timed_here s f h b r m meets l) (values_at b.values zs)
    (arranged_filled s f h b r m meets due takes reads zs g)
