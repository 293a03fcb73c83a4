-- The states of memory that a block goes through, by places, are those that the meaning goes through.
use Rattle.std.proofs.Common.{◌≡◌, ℕ, zero, suc, ◌+◌, ◌-◌, ◌<◌, ◌≤◌, ◌==◌, refl, ap, sym, ◌∙◌, subst, arith, ◌⊎◌, inl, inr, List, [], ◌∷◌, length, map, Option, Some, None, Bool, true, false, cond, not, eq-eqb}
use Rattle.std.specs.Prelude.{nat_le, nat_lt, find, position, slice_get, unwrap_or, option_map, option_and_then, count_by}
use Rattle.std.specs.List.{filter_map}
use Rattle.std.proofs.lemmas.Bool.{eqb-true, or_cases, cases_lt}
use Rattle.std.proofs.lemmas.Bool.Decides.{nat_tests}
use Rattle.std.proofs.lemmas.Option.{slice_get_within}
use Rattle.std.proofs.lemmas.List.Sums.{count_by-le-length}
use Rattle.bk_func.specs.Records.{ValueRecord, BlockRecord, FuncRecord}
use Rattle.bk_func.specs.Numbers.{origin_of, room, memory_at, memory_arg, state_of}
use Rattle.bk_func.specs.Effects.{has_effect, chain_from}
use Rattle.bk_func.specs.Meaning.{first_state}
use Rattle.bk_func.specs.Form.{IsFormed}
use Rattle.bk_func.specs.Form.Text.{HasValue, IsPhi}
use Rattle.bk_func.specs.Form.Walks.{IsReached}
use Rattle.bk_func.specs.Form.States.{StandsFor, itself, copied as through_copy}
use Rattle.bk_func.specs.Form.Signatures.{Setting}
use Rattle.bk_func.proofs.Faults.{In}
use Rattle.bk_mean.specs.declared.numbering.Numbering.{Numbering}
use Rattle.bk_mean.specs.Numbering.{found_in, place_in, IsNumbering, root_in, local_in}
use Rattle.bk_mean.specs.Arranged.{class_of, level_in, due_by, due_of}
use Rattle.bk_mean.specs.Memories.{state_place, acting_place, gives_state, is_given, beginning_of, followed_by, next_place, walked, states_of, place_due}
use Rattle.bk_places.proofs.Elements.{to_in, to_contains}
use Rattle.bk_places.proofs.Positions.{first_position, position_first, position_none}
use Rattle.bk_mean.proofs.Named.{in_got, got_in}
use Rattle.bk_mean.proofs.Formed.{Sound, sound}
use Rattle.bk_mean.proofs.Ranks.{rank_below_room, argument_falls}
use Rattle.bk_mean.proofs.Stands.{arg_named, memory_stands, stands_memory}
use Rattle.bk_mean.proofs.Chains.{effect_no_phi}
use Rattle.bk_mean.proofs.Follows.{Follows, follows_one, Chained, done, next, chain_complete, numbers_of}
use Rattle.bk_mean.proofs.Course.{Meets, effect_done}
use Rattle.bk_mean.proofs.Levels.{asks, acts, ask_no_phi, effect_acts, one_place, chain_at, at_number, number_at as number_of_chain}
use Rattle.bk_mean.proofs.Arranged.{chain_short, class_none, class_some, act_met}
use Rattle.bk_mean.proofs.Firsts.{position-map}
use Rattle.bk_mean.proofs.Positions.{no_position}
use Rattle.bk_mean.proofs.Leaps.{root_is, found_at}
use Rattle.bk_mean.proofs.Standing.{StandsFrom, value_found_in, one_number}

-- lists

pub position_same : {A : Type 0} (t u : A → Bool) (xs : List A) → ((x : A) → In x xs → t x ≡ u x) → position t xs ≡ position u xs
position_same {A} t u xs h = go (position t xs) refl
  where
    go : (o : Option ℕ) → position t xs ≡ o → position t xs ≡ position u xs
    go (Some i) e =
        let q = position_first t xs i e in
        e ∙ sym (first_position u xs i q.0 (record {
          got = q.1.got;
          passes = sym (h q.0 (got_in xs i q.0 q.1.got)) ∙ q.1.passes;
          before = λ k y l g. sym (h y (got_in xs k y g)) ∙ q.1.before k y l g;
        }))
    go None e = e ∙ sym (no_position u xs (λ k y g. sym (h y (got_in xs k y g)) ∙ position_none t xs e k y g))

-- what a function gives for elements of a list
pub in_filter_map : {A : Type 0} (g : A → Option ℕ) (xs : List A) (x : A) (p : ℕ) → In x xs → g x ≡ Some p → In p (filter_map g xs)
in_filter_map g [] x p i e = elim i [ ]
in_filter_map {A} g (z ∷ zs) x p i e = go (g z) refl i (λ j. in_filter_map g zs x p j e)
  where
    go : (o : Option ℕ) → g z ≡ o → In x (z ∷ zs) → (In x zs → In p (filter_map g zs)) → In p (filter_map g (z ∷ zs))
    go None q (inl d) rest = let w = sym q ∙ ap g d ∙ e in absurd cc
    go None q (inr j) rest = rw q (rest j)
    go (Some y) q (inl d) rest = let w = sym q ∙ ap g d ∙ e in let v : y ≡ p = cc in rw q (inl v)
    go (Some y) q (inr j) rest = rw q (inr (rest j))

pub filter_map_in : {A : Type 0} (g : A → Option ℕ) (xs : List A) (p : ℕ) → In p (filter_map g xs) → (x : A) × In x xs × (g x ≡ Some p)
filter_map_in g [] p i = elim i [ ]
filter_map_in {A} g (z ∷ zs) p i = go (g z) refl i (λ j. filter_map_in g zs p j)
  where
    go : (o : Option ℕ) → g z ≡ o → In p (filter_map g (z ∷ zs)) → (In p (filter_map g zs) → (x : A) × In x zs × (g x ≡ Some p)) → (x : A) × In x (z ∷ zs) × (g x ≡ Some p)
    go None q j rest = let r = rest (rw q at j) in (r.0, inr r.1, r.2)
    go (Some y) q j rest = by (rw q at j)
      where
        by : In p (y ∷ filter_map g zs) → (x : A) × In x (z ∷ zs) × (g x ≡ Some p)
        by (inl d) = (z, inl refl, q ∙ ap Some d)
        by (inr k) = let r = rest k in (r.0, inr r.1, r.2)

-- an element that passes alone is found
pub find_alone : (t : ℕ → Bool) (xs : List ℕ) (y : ℕ) → In y xs → t y ≡ true → ((x : ℕ) → In x xs → t x ≡ true → x ≡ y) → find t xs ≡ Some y
find_alone t [] y i e one = elim i [ ]
find_alone t (x ∷ xs) y i e one = go (t x) refl i (λ j. find_alone t xs y j e (λ z k p. one z (inr k) p))
  where
    go : (b : Bool) → t x ≡ b → In y (x ∷ xs) → (In y xs → find t xs ≡ Some y) → cond (t x) (Some x) (find t xs) ≡ Some y
    go true q j rest = ap (λ b. cond b (Some x) (find t xs)) q ∙ ap Some (one x (inl refl) q)
    go false q (inl d) rest = let w = sym q ∙ ap t d ∙ e in absurd cc
    go false q (inr j) rest = ap (λ b. cond b (Some x) (find t xs)) q ∙ rest j

-- a number that stands for another leads to a value
stands_value : (f : FuncRecord) (n m : ℕ) → StandsFor f n m → (p : ℕ) × (found_in f m ≡ Some p)
stands_value f _ _ (itself b v i c) = value_found_in f b v i
stands_value f _ m (through_copy b v n _ i c g t) = stands_value f n m t

-- a walk from nowhere
walked_none : (g : ℕ → Option ℕ) (k : ℕ) → walked g k None ≡ []
walked_none g zero = refl
walked_none g (suc k) = refl

module _ (s : Setting) (f : FuncRecord) (form : IsFormed s f) (n : Numbering) (q : IsNumbering f n) (b : BlockRecord) (r : IsReached f b) (first : ℕ) (at : StandsFrom f first b) where
  h : Sound s f
  h = sound s f form

  here : (v : ValueRecord) → In v b.values → HasValue f b v
  here v i = (at.block, to_contains v b.values i)

  -- the state that a value names
  by_arg : (v : ValueRecord) → In v b.values → ¬ IsPhi v → (id : ℕ) → memory_arg (origin_of v.op.family) v ≡ Some id →
      (root_in n id ≡ found_in f (memory_at (room f) f id)) × ((p : ℕ) × (found_in f (memory_at (room f) f id) ≡ Some p))
  by_arg v i p id e =
      let a = arg_named s f h b v (here v i) id e in
      let l = (argument_falls s f h b v (here v i) r p id (got_in v.args a.0 id a.2)).0 in
      let low = rank_below_room s f h id l in
      let t = stands_memory s f h (room f) id l low in
      let d = memory_stands s f h (suc (room f)) id (memory_at (room f) f id) l (omega (arith, low)) t in
      (root_is f n q id d, stands_value f id (memory_at (room f) f id) t)

  state_found : (v : ValueRecord) → In v b.values → ¬ IsPhi v → (t : ℕ) → state_of f v ≡ Some t → (p : ℕ) × (found_in f t ≡ Some p) × (state_place n v ≡ Some p)
  state_found v i p t e = go (memory_arg (origin_of v.op.family) v) refl
    where
      go : (o : Option ℕ) → memory_arg (origin_of v.op.family) v ≡ o → (p : ℕ) × (found_in f t ≡ Some p) × (state_place n v ≡ Some p)
      go None d = let w = ap (option_map (memory_at (room f) f)) d in absurd cc
      go (Some id) d =
          let w = ap (option_map (memory_at (room f) f)) d in
          let same : memory_at (room f) f id ≡ t = cc in
          let k = by_arg v i p id d in
          (k.1.0, sym (ap (found_in f) same) ∙ k.1.1, ap (option_and_then (root_in n)) d ∙ k.0 ∙ k.1.1)

  act_no_phi : (v : ValueRecord) → acts v ≡ true → ¬ IsPhi v
  act_no_phi v a p = elim (or_cases (has_effect v) (asks v) a) as (λ _. ⊥) [ inl e ↦ effect_no_phi v e p | inr e ↦ ask_no_phi v e p ]

  low_place : (t p : ℕ) → found_in f t ≡ Some p → p < room f
  low_place t p e = (found_at f t p e).1.low

  apart : (x y : ℕ) → ¬ (x ≡ y) → (x == y) ≡ false
  apart x y d = go (x == y) refl
    where
      go : (c : Bool) → (x == y) ≡ c → (x == y) ≡ false
      go true e = absurd (d (eqb-true x y e))
      go false e = e

  -- memory values at a state

  true_followed : (m p : ℕ) (v : ValueRecord) → In v b.values → found_in f m ≡ Some p → Follows f b m v → (followed_by n v == p) ≡ true
  true_followed m p v i e (k, a, t) =
      let w = state_found v i (effect_no_phi v a) m t in
      let d : w.0 ≡ p = (let z = sym w.1 ∙ e in cc) in
      let l : followed_by n v ≡ w.0 = rw (a, w.2) refl in
      eq-eqb (followed_by n v) p (l ∙ d)

  followed_true : (m p : ℕ) (v : ValueRecord) → In v b.values → found_in f m ≡ Some p → (t : ℕ) → (has_effect v ≡ true → state_of f v ≡ Some t) → (followed_by n v == p) ≡ true → Follows f b m v
  followed_true m p v i e t st c = go (has_effect v) refl
    where
      go : (x : Bool) → has_effect v ≡ x → Follows f b m v
      go true a =
          let w = state_found v i (effect_no_phi v a) t (st a) in
          let l : followed_by n v ≡ w.0 = rw (a, w.2) refl in
          let d : w.0 ≡ p = sym l ∙ eqb-true (followed_by n v) p c in
          let o = one_number f t m p (w.1 ∙ ap Some d) e in
          (here v i, a, st a ∙ ap Some o)
      go false a =
          let l : followed_by n v ≡ length n.roots.items = rw a refl in
          let d = sym l ∙ eqb-true (followed_by n v) p c in
          let k = q.roots.length in
          let z = low_place m p e in
          absurd (omega (arith, d, k, z))

-- places in a block

pub local_at : (a k c : ℕ) → k < c → local_in a c (a + k) ≡ Some k
local_at a k c l =
    let e : (a + k) - a ≡ k = omega arith in
    let x : nat_le a (a + k) ≡ true = grind (arith, nat_tests) in
    let y : nat_lt k c ≡ true = grind (arith, nat_tests) in
    rw (e, x, y) refl

pub local_some : (a c p k : ℕ) → local_in a c p ≡ Some k → (p ≡ a + k) × (k < c)
local_some a c p k e = go (cases_lt p a) (cases_lt (p - a) c)
  where
    go : (p < a) ⊎ (a ≤ p) → (p - a < c) ⊎ (c ≤ p - a) → (p ≡ a + k) × (k < c)
    go (inl l) m =
        let x : nat_le a p ≡ false = grind (arith, nat_tests) in
        let z : local_in a c p ≡ None = rw x refl in
        let w : None ≡ Some k = sym z ∙ e in
        absurd cc
    go (inr l) (inr m) =
        let x : nat_le a p ≡ true = grind (arith, nat_tests) in
        let y : nat_lt (p - a) c ≡ false = grind (arith, nat_tests) in
        let z : local_in a c p ≡ None = rw (x, y) refl in
        let w : None ≡ Some k = sym z ∙ e in
        absurd cc
    go (inr l) (inl m) =
        let x : nat_le a p ≡ true = grind (arith, nat_tests) in
        let y : nat_lt (p - a) c ≡ true = grind (arith, nat_tests) in
        let z : local_in a c p ≡ Some (p - a) = rw (x, y) refl in
        let w : Some (p - a) ≡ Some k = sym z ∙ e in
        let d : p - a ≡ k = cc in
        (omega (arith, d, l), omega (arith, d, m))

module _ (s : Setting) (f : FuncRecord) (form : IsFormed s f) (n : Numbering) (q : IsNumbering f n) (b : BlockRecord) (r : IsReached f b) (first : ℕ) (at : StandsFrom f first b) (m : ℕ) (meets : Meets f b m) where
  h' : Sound s f
  h' = sound s f form

  stands : (v : ValueRecord) → In v b.values → HasValue f b v
  stands v i = (at.block, to_contains v b.values i)

  -- the state of a value that does something
  met : (v : ValueRecord) → In v b.values → acts v ≡ true → (t : ℕ) × (state_of f v ≡ Some t) × In t (first_state b m ∷ numbers_of (chain_from f b (first_state b m)))
  met v i a = act_met s f h' b r m meets v (stands v i) a

  its_state : (v : ValueRecord) → In v b.values → has_effect v ≡ true → state_of f v ≡ Some (unwrap_or (state_of f v) 0)
  its_state v i a = let w = (met v i (effect_acts v a)).1 in w ∙ ap Some (sym (ap (λ o. unwrap_or o 0) w))

  follows_at : (x p : ℕ) (v : ValueRecord) → In v b.values → found_in f x ≡ Some p → (followed_by n v == p) ≡ true → Follows f b x v
  follows_at x p v i e c = followed_true s f form n q b r first at x p v i e (unwrap_or (state_of f v) 0) (its_state v i) c

  -- the memory value after a state

  next_is : (x p : ℕ) (v : ValueRecord) → found_in f x ≡ Some p → Follows f b x v → next_place n first b.values p ≡ found_in f v.id
  next_is x p v e t = go (position (λ u. followed_by n u == p) b.values) refl
    where
      go : (o : Option ℕ) → position (λ u. followed_by n u == p) b.values ≡ o → next_place n first b.values p ≡ found_in f v.id
      go None d =
          let i = to_in v b.values t.0.1 in
          let k = in_got b.values v i in
          let y = position_none (λ u. followed_by n u == p) b.values d k.0 v k.1 in
          let z = true_followed s f form n q b r first at x p v i e t in
          absurd cc
      go (Some k) d =
          let w = position_first (λ u. followed_by n u == p) b.values k d in
          let c = follows_at x p w.0 (got_in b.values k w.0 w.1.got) e w.1.passes in
          let o = follows_one s f h' b r x w.0 v c t in
          ap (option_map (λ j. first + j)) d ∙ sym (at.found k w.0 w.1.got) ∙ ap (λ (u : ValueRecord). found_in f u.id) o

  next_none : (x p : ℕ) → found_in f x ≡ Some p → ((v : ValueRecord) → ¬ Follows f b x v) → next_place n first b.values p ≡ None
  next_none x p e out = ap (option_map (λ j. first + j)) (no_position (λ u. followed_by n u == p) b.values (λ k y g. go k y g (followed_by n y == p) refl))
    where
      go : (k : ℕ) (y : ValueRecord) → slice_get b.values k ≡ Some y → (c : Bool) → (followed_by n y == p) ≡ c → (followed_by n y == p) ≡ false
      go k y g true d = absurd (out y (follows_at x p y (got_in b.values k y g) e d))
      go k y g false d = d

  chained : (x : ℕ) (vs : List ValueRecord) → Chained f b x vs → (p : ℕ) → found_in f x ≡ Some p → (k : ℕ) → length vs < k → walked (next_place n first b.values) k (Some p) ≡ map (place_in f) (x ∷ numbers_of vs)
  chained x vs c p e zero l = absurd (omega (arith, l))
  chained _ _ (done x out) p e (suc k) l =
      ap (λ o. p ∷ walked (next_place n first b.values) k o) (next_none x p e out) ∙ ap (λ ys. p ∷ ys) (walked_none (next_place n first b.values) k)
      ∙ ap (λ y. y ∷ []) (sym (ap (λ o. unwrap_or o (room f)) e))
  chained _ _ (next x v vs t c) p e (suc k) l =
      let w = value_found_in f b v t.0 in
      ap (λ o. p ∷ walked (next_place n first b.values) k o) (next_is x p v e t ∙ w.1) ∙ ap (λ ys. p ∷ ys) (chained v.id vs c w.0 w.1 k (omega (arith, l)))
      ∙ ap (λ y. y ∷ map (place_in f) (v.id ∷ numbers_of vs)) (sym (ap (λ o. unwrap_or o (room f)) e))

  -- the state that the block begins with

  names_first : (vs : List ValueRecord) → Chained f b (first_state b m) vs → (x : ValueRecord) → In x b.values → acts x ≡ true → (t : ℕ) → state_of f x ≡ Some t → In t (first_state b m ∷ numbers_of vs) →
      (v : ValueRecord) × In v b.values × (acts v ≡ true) × (state_of f v ≡ Some (first_state b m))
  names_first _ (done _ out) x i a t e j = elim j as (λ _. (v : ValueRecord) × In v b.values × (acts v ≡ true) × (state_of f v ≡ Some (first_state b m))) [
    | inl d ↦ (x, i, a, e ∙ ap Some (sym d))
    | inr k ↦ elim k [ ]
  ]
  names_first _ (next _ v vs t c) x i a y e j = (v, to_in v b.values t.0.1, effect_acts v t.1, t.2)

  given_at : (k : ℕ) (w : ValueRecord) → slice_get b.values k ≡ Some w → has_effect w ≡ true → is_given first b.values (first + k) ≡ true
  given_at k w g a = ap (λ o. gives_state (option_and_then (slice_get b.values) o)) (local_at first k (length b.values) (slice_get_within b.values k w g)) ∙ ap gives_state g ∙ a

  given_some : (p : ℕ) → is_given first b.values p ≡ true → (k : ℕ) × (w : ValueRecord) × (slice_get b.values k ≡ Some w) × (has_effect w ≡ true) × (p ≡ first + k)
  given_some p e = go (local_in first (length b.values) p) refl
    where
      go : (o : Option ℕ) → local_in first (length b.values) p ≡ o → (k : ℕ) × (w : ValueRecord) × (slice_get b.values k ≡ Some w) × (has_effect w ≡ true) × (p ≡ first + k)
      go None d = let z = ap (λ o. gives_state (option_and_then (slice_get b.values) o)) d in absurd cc
      go (Some k) d = by (slice_get b.values k) refl
        where
          by : (o : Option ValueRecord) → slice_get b.values k ≡ o → (k : ℕ) × (w : ValueRecord) × (slice_get b.values k ≡ Some w) × (has_effect w ≡ true) × (p ≡ first + k)
          by None g = let z = ap (λ o. gives_state (option_and_then (slice_get b.values) o)) d ∙ ap gives_state g in absurd cc
          by (Some w) g =
              let z = ap (λ o. gives_state (option_and_then (slice_get b.values) o)) d ∙ ap gives_state g in
              (k, w, g, sym z ∙ e, (local_some first (length b.values) p k d).0)

  first_not_given : (p : ℕ) → found_in f (first_state b m) ≡ Some p → is_given first b.values p ≡ false
  first_not_given p e = go (is_given first b.values p) refl
    where
      go : (t : Bool) → is_given first b.values p ≡ t → is_given first b.values p ≡ false
      go false d = d
      go true d =
          let (k, w, g, a, z) = given_some p d in
          let o = one_number f w.id (first_state b m) p (at.found k w g ∙ ap Some (sym z)) e in
          let j = in_got (chain_from f b (first_state b m)) w (effect_done s f h' b r m meets w (stands w (got_in b.values k w g)) a) in
          let u = one_place s f h' b r (first_state b m) (chain_from f b (first_state b m)) (chain_complete s f h' b r (first_state b m)) 0 (suc j.0) (first_state b m) refl (at_number (chain_from f b (first_state b m)) j.0 w j.1 ∙ ap Some o) in
          absurd (omega (arith, u))

  acting_at : (v : ValueRecord) → In v b.values → acts v ≡ true → (t p : ℕ) → state_of f v ≡ Some t → found_in f t ≡ Some p → acting_place n v ≡ Some p
  acting_at v i a t p e d =
      let c = class_some v a in
      let w = state_found s f form n q b r first at v i (act_no_phi s f form n q b r first at v a) t e in
      ap (option_and_then (λ k. state_place n v)) c.1 ∙ w.2 ∙ sym w.1 ∙ d

  acting_some : (v : ValueRecord) → In v b.values → (p : ℕ) → acting_place n v ≡ Some p → (t : ℕ) × (found_in f t ≡ Some p) × In t (first_state b m ∷ numbers_of (chain_from f b (first_state b m)))
  acting_some v i p e = go (acts v) refl
    where
      go : (x : Bool) → acts v ≡ x → (t : ℕ) × (found_in f t ≡ Some p) × In t (first_state b m ∷ numbers_of (chain_from f b (first_state b m)))
      go false a = let z = ap (option_and_then (λ k. state_place n v)) (class_none v a) in absurd cc
      go true a =
          let y = met v i a in
          let c = class_some v a in
          let w = state_found s f form n q b r first at v i (act_no_phi s f form n q b r first at v a) y.0 y.1 in
          (y.0, w.1 ∙ sym w.2 ∙ sym (ap (option_and_then (λ k. state_place n v)) c.1) ∙ e, y.2)

  -- each state of the block is a value's number
  all_found : (x : ValueRecord) → In x b.values → acts x ≡ true → (t : ℕ) → In t (first_state b m ∷ numbers_of (chain_from f b (first_state b m))) → (p : ℕ) × (found_in f t ≡ Some p)
  all_found x i a t (inl d) =
      let y = met x i a in
      let v = names_first (chain_from f b (first_state b m)) (chain_complete s f h' b r (first_state b m)) x i a y.0 y.1 y.2 in
      let w = state_found s f form n q b r first at v.0 v.1 (act_no_phi s f form n q b r first at v.0 v.2) (first_state b m) v.3 in
      (w.0, ap (found_in f) (sym d) ∙ w.1)
  all_found x i a t (inr j) =
      let k = in_got (numbers_of (chain_from f b (first_state b m))) t j in
      let w = number_of_chain (chain_from f b (first_state b m)) k.0 t k.1 in
      let c = chain_at f b (first_state b m) (chain_from f b (first_state b m)) (chain_complete s f h' b r (first_state b m)) k.0 w.0 w.1 in
      let o = value_found_in f b w.0 c.2.0 in
      (o.0, ap (found_in f) (sym w.2) ∙ o.1)

  begins : (x : ValueRecord) → In x b.values → acts x ≡ true → (p : ℕ) → found_in f (first_state b m) ≡ Some p → beginning_of n first b.values ≡ Some p
  begins x i a p e =
      let y = met x i a in
      let v = names_first (chain_from f b (first_state b m)) (chain_complete s f h' b r (first_state b m)) x i a y.0 y.1 y.2 in
      find_alone (λ t. not (is_given first b.values t)) (filter_map (acting_place n) b.values) p (in_filter_map (acting_place n) b.values v.0 p v.1 (acting_at v.0 v.1 v.2 (first_state b m) p v.3 e))
      (ap not (first_not_given p e)) (λ z j c. alone z c (filter_map_in (acting_place n) b.values z j))
    where
      alone : (z : ℕ) → not (is_given first b.values z) ≡ true → (v : ValueRecord) × In v b.values × (acting_place n v ≡ Some z) → z ≡ p
      alone z c (v, j, d) = by (acting_some v j z d)
        where
          by : (t : ℕ) × (found_in f t ≡ Some z) × In t (first_state b m ∷ numbers_of (chain_from f b (first_state b m))) → z ≡ p
          by (t, g, inl o) = let w = sym g ∙ ap (found_in f) (sym o) ∙ e in cc
          by (t, g, inr o) =
              let k = in_got (numbers_of (chain_from f b (first_state b m))) t o in
              let w = number_of_chain (chain_from f b (first_state b m)) k.0 t k.1 in
              let u = chain_at f b (first_state b m) (chain_from f b (first_state b m)) (chain_complete s f h' b r (first_state b m)) k.0 w.0 w.1 in
              let l = in_got b.values w.0 (to_in w.0 b.values u.2.0.1) in
              let y = at.found l.0 w.0 l.1 in
              let x : first + l.0 ≡ z = (let d = sym y ∙ ap (found_in f) w.2 ∙ g in cc) in
              let given = given_at l.0 w.0 l.1 u.2.1 in
              let P : ℕ → Type 0 = λ a. is_given first b.values a ≡ true in
              let no = ap not (subst P x given) in
              absurd cc

  states_are : (x : ValueRecord) → In x b.values → acts x ≡ true → states_of n first b.values ≡ map (place_in f) (first_state b m ∷ numbers_of (chain_from f b (first_state b m)))
  states_are x i a =
      let p = all_found x i a (first_state b m) (inl refl) in
      let l = chain_short (count_by has_effect b.values) f b (first_state b m) in
      let k = count_by-le-length has_effect b.values in
      ap (walked (next_place n first b.values) (length b.values + 1)) (begins x i a p.0 p.1)
      ∙ chained (first_state b m) (chain_from f b (first_state b m)) (chain_complete s f h' b r (first_state b m)) p.0 p.1 (length b.values + 1) (omega (arith, l, k))

  -- when a value is due
  pub due_is : (k : ℕ) (v : ValueRecord) → slice_get b.values k ≡ Some v → place_due n first b.values k v ≡ due_of f b (first_state b m) k v
  due_is k v g = go (acts v) refl
    where
      i : In v b.values
      i = got_in b.values k v g

      go : (x : Bool) → acts v ≡ x → place_due n first b.values k v ≡ due_of f b (first_state b m) k v
      go false a = rw (class_none v a) refl
      go true a =
          let y = met v i a in
          let w = state_found s f form n q b r first at v i (act_no_phi s f form n q b r first at v a) y.0 y.1 in
          let one = ap (level_in (states_of n first b.values)) w.2 ∙ ap (position (λ z. z == w.0)) (states_are v i a) ∙ position-map (place_in f) w.0 (first_state b m ∷ numbers_of (chain_from f b (first_state b m)))
          ∙ position_same (λ z. place_in f z == w.0) (λ z. z == y.0) (first_state b m ∷ numbers_of (chain_from f b (first_state b m))) (λ z j. same z (all_found v i a z j) y.0 w.0 w.1)
          in
          let two = ap (level_in (first_state b m ∷ numbers_of (chain_from f b (first_state b m)))) y.1 in
          ap (λ o. due_by (class_of v) o k) (one ∙ sym two)
        where
          same : (z : ℕ) → (p : ℕ) × (found_in f z ≡ Some p) → (t pt : ℕ) → found_in f t ≡ Some pt → (place_in f z == pt) ≡ (z == t)
          same z (p, e) t pt d = by (z == t) refl
            where
              place : place_in f z ≡ p
              place = ap (λ o. unwrap_or o (room f)) e

              by : (c : Bool) → (z == t) ≡ c → (place_in f z == pt) ≡ (z == t)
              by true c =
                  let x = sym e ∙ ap (found_in f) (eqb-true z t c) ∙ d in
                  let w : p ≡ pt = cc in
                  eq-eqb (place_in f z) pt (place ∙ w) ∙ sym c
              by false c = no (place_in f z == pt) refl
                where
                  no : (u : Bool) → (place_in f z == pt) ≡ u → (place_in f z == pt) ≡ (z == t)
                  no false o = o ∙ sym c
                  no true o =
                      let x : p ≡ pt = sym place ∙ eqb-true (place_in f z) pt o in
                      let w = one_number f z t p e (d ∙ ap Some (sym x)) in
                      let v = eq-eqb z t w in
                      absurd cc
