-- The memory values that the meaning does in a block are all that the block has, each after the state that it names.
use Rattle.std.proofs.Common.{◌≡◌, ℕ, zero, suc, ◌+◌, refl, ap, sym, ◌∙◌, subst, arith, ◌⊎◌, inl, inr, List, [], ◌∷◌, length, map, Option, Some, None, Bool, true, false, cond, ◌&&◌, eq-eqb}
use Rattle.std.specs.Prelude.{find, filter, count_by}
use Rattle.std.proofs.lemmas.Bool.{eqb-true, and_parts}
use Rattle.std.proofs.lemmas.List.{length-map}
use Rattle.std.proofs.lemmas.List.Sums.{length-filter}
use Rattle.bk_func.specs.Records.{ValueRecord, BlockRecord, FuncRecord}
use Rattle.bk_func.specs.Numbers.{state_of}
use Rattle.bk_func.specs.Effects.{has_effect, is_at, next_at, onward, chain, chain_from}
use Rattle.bk_func.specs.Form.Text.{HasBlock, HasValue}
use Rattle.bk_func.specs.Form.Walks.{IsReached}
use Rattle.bk_func.specs.Form.States.{IsState, Names}
use Rattle.bk_func.specs.Form.Before.{Needs}
use Rattle.bk_func.specs.Form.Signatures.{Setting}
use Rattle.bk_func.proofs.Faults.{In, filter-in, in-filter}
use Rattle.bk_places.proofs.Elements.{to_in, to_contains}
use Rattle.bk_mean.proofs.Named.{id_in}
use Rattle.bk_mean.proofs.Dominance.{reached_block}
use Rattle.bk_mean.proofs.Longest.{Way, way_short}
use Rattle.bk_mean.proofs.Typed.{effect_is_state}
use Rattle.bk_mean.proofs.Formed.{Sound}
use Rattle.bk_mean.proofs.Ranks.{needs_onward}
use Rattle.bk_mean.proofs.Stands.{state_named, named_state, needs_named}
use Rattle.bk_mean.proofs.Along.{find_in}
use Rattle.bk_mean.proofs.Chains.{needs_apart, effect_no_phi, effect_no_copy, linked_order, After, its_chain}

-- a memory value of the block that names the state
abbrev pub Follows : FuncRecord → BlockRecord → ℕ → ValueRecord → Type 0
Follows f b m v = HasValue f b v × (has_effect v ≡ true) × (state_of f v ≡ Some m)

pub follows_names : (s : Setting) (f : FuncRecord) → Sound s f → (b : BlockRecord) → IsReached f b → (m : ℕ) (v : ValueRecord) → Follows f b m v → Names f v m
follows_names s f h b r m v (i, e, t) = named_state s f h b v i r (effect_no_phi v e) m t

pub follows_needs : (s : Setting) (f : FuncRecord) → Sound s f → (b : BlockRecord) → IsReached f b → (m : ℕ) (v u : ValueRecord) → Follows f b m v → HasValue f b u → u.id ≡ m → Needs b v u
follows_needs s f h b r m v u t i e = needs_named s f h b r v u t.0 i (effect_no_phi v t.1) m (follows_names s f h b r m v t) e

follows_state : (s : Setting) (f : FuncRecord) → Sound s f → (b : BlockRecord) (m : ℕ) (v : ValueRecord) → Follows f b m v → IsState f b v
follows_state s f h b m v t = effect_is_state s f b v (h.types b v t.0) t.0 t.1

not_after : (s : Setting) (f : FuncRecord) → Sound s f → (b : BlockRecord) → IsReached f b → (m : ℕ) (v u : ValueRecord) (xs : List ℕ) → Follows f b m v → Follows f b m u → ¬ After f b xs v u
not_after s f h b r m v u xs tv tu a = go a.way
  where
    same : Some a.number ≡ Some m
    same = sym (state_named s f h b v tv.0 r (effect_no_phi v tv.1) (effect_no_copy v tv.1) a.number a.names) ∙ tv.2

    needed : Needs b u a.value
    needed = follows_needs s f h b r m u a.value tu a.stands (let d : a.number ≡ m = cc same in a.named ∙ d)

    go : (a.value ≡ u) ⊎ Needs b a.value u → ⊥
    go (inl e) = needs_apart s f h b u tu.0 (let P : ValueRecord → Type 0 = λ x. Needs b u x in subst P e needed)
    go (inr n) = needs_apart s f h b u tu.0 (needs_onward b u a.value u needed n)

-- one memory value at the most names a state
pub follows_one : (s : Setting) (f : FuncRecord) → Sound s f → (b : BlockRecord) → IsReached f b → (m : ℕ) (v u : ValueRecord) → Follows f b m v → Follows f b m u → v ≡ u
follows_one s f h b r m v u tv tu =
    let kv = follows_state s f h b m v tv in
    let ku = follows_state s f h b m u tu in
    let c = its_chain s f h b r v kv in
    elim (linked_order s f h b r c.numbers c.linked v u tv.0 tu.0 (c.all v kv) (c.all u ku)) as (λ _. v ≡ u) [
      | inl e ↦ e
      | inr q ↦ (elim q as (λ _. v ≡ u) [
        | inl a ↦ absurd (not_after s f h b r m v u c.numbers tv tu a)
        | inr a ↦ absurd (not_after s f h b r m u v c.numbers tu tv a)
      ])
    ]

-- all memory values that follow one another from a state
pub data Chained (f : FuncRecord) (b : BlockRecord) : ℕ → List ValueRecord → Type 0 where
  done : (m : ℕ) → ((v : ValueRecord) → ¬ Follows f b m v) → Chained f b m []
  next : (m : ℕ) (v : ValueRecord) (vs : List ValueRecord) → Follows f b m v → Chained f b v.id vs → Chained f b m (v ∷ vs)

-- what the meaning finds

pub find_true : (t : ValueRecord → Bool) (vs : List ValueRecord) (v : ValueRecord) → find t vs ≡ Some v → t v ≡ true
find_true t [] v e = absurd cc
find_true t (u ∷ us) v e = go (t u) refl (find_true t us v) e
  where
    go : (b : Bool) → t u ≡ b → (find t us ≡ Some v → t v ≡ true) → cond b (Some u) (find t us) ≡ Some v → t v ≡ true
    go true q k d = let w : u ≡ v = cc in ap t (sym w) ∙ q
    go false q k d = k d

pub find_none : (t : ValueRecord → Bool) (vs : List ValueRecord) (v : ValueRecord) → find t vs ≡ None → In v vs → ¬ (t v ≡ true)
find_none t [] v e i d = elim i [ ]
find_none t (u ∷ us) v e (inl q) d =
    let a : t u ≡ true = ap t q ∙ d in
    let c : cond (t u) (Some u) (find t us) ≡ Some u = rw a refl in
    let x : None ≡ Some u = sym e ∙ c in
    absurd cc
find_none t (u ∷ us) v e (inr i) d = go (t u) (λ q. find_none t us v q i d) e
  where
    go : (b : Bool) → (find t us ≡ None → ⊥) → cond b (Some u) (find t us) ≡ None → ⊥
    go true k q = absurd cc
    go false k q = k q

pub at_some : (o : Option ℕ) (m : ℕ) → is_at o m ≡ true → o ≡ Some m
at_some None m e = absurd cc
at_some (Some n) m e = ap Some (eqb-true n m e)

pub some_at : (o : Option ℕ) (m : ℕ) → o ≡ Some m → is_at o m ≡ true
some_at o m e = rw e (eq-eqb m m refl)

next_follows : (f : FuncRecord) (b : BlockRecord) → HasBlock f b → (m : ℕ) (v : ValueRecord) → next_at f b m ≡ Some v → Follows f b m v
next_follows f b i m v e =
    let t = λ (u : ValueRecord). has_effect u && is_at (state_of f u) m in
    let q = and_parts (has_effect v) (is_at (state_of f v) m) (find_true t b.values v e) in
    ((i, to_contains v b.values (find_in t b.values v e)), q.0, at_some (state_of f v) m q.1)

none_follows : (f : FuncRecord) (b : BlockRecord) (m : ℕ) → next_at f b m ≡ None → (v : ValueRecord) → ¬ Follows f b m v
none_follows f b m e v (i, a, t) =
    find_none (λ (u : ValueRecord). has_effect u && is_at (state_of f u) m) b.values v e (to_in v b.values i.1) (rw (a, some_at (state_of f v) m t) refl)

-- numbers of values of the block, of which the second needs the first
record IsNeeded (f : FuncRecord) (b : BlockRecord) (x y : ℕ) : Type 0 where
  lower : ValueRecord
  upper : ValueRecord
  lower_stands : HasValue f b lower
  upper_stands : HasValue f b upper
  lower_is : lower.id ≡ x
  upper_is : upper.id ≡ y
  needed : Needs b upper lower

not_itself : (s : Setting) (f : FuncRecord) → Sound s f → (b : BlockRecord) (x : ℕ) → ¬ IsNeeded f b x x
not_itself s f h b x q =
    needs_apart s f h b q.lower q.lower_stands
    (let P : ValueRecord → Type 0 = λ v. Needs b v q.lower in subst P (h.named.same_value b b q.upper q.lower q.upper_stands q.lower_stands (q.upper_is ∙ sym q.lower_is)) q.needed)

abbrev effects : BlockRecord → List ℕ
effects b = map (λ v. v.id) (filter has_effect b.values)

abbrev Alive : ℕ → Type 0
Alive n = Unit {0}

pub in_ids : (n : ℕ) (vs : List ValueRecord) → In n (map (λ v. v.id) vs) → (v : ValueRecord) × In v vs × (v.id ≡ n)
in_ids n [] i = elim i [ ]
in_ids n (u ∷ us) (inl e) = (u, inl refl, e)
in_ids n (u ∷ us) (inr i) = let r = in_ids n us i in (r.0, inr r.1, r.2)

effect_named : (b : BlockRecord) (n : ℕ) → In n (effects b) → (v : ValueRecord) × In v b.values × (v.id ≡ n)
effect_named b n i =
    let r = in_ids n (filter has_effect b.values) i in
    (r.0, (in-filter has_effect r.0 b.values r.1).0, r.2)

-- numbers of effects that were done, up to a state
record Done (f : FuncRecord) (b : BlockRecord) (m : ℕ) (xs : List ℕ) : Type 0 where
  way : Way Alive (IsNeeded f b) xs
  are_effects : (x : ℕ) → In x xs → In x (effects b)
  before : (x : ℕ) → In x xs → (x ≡ m) ⊎ IsNeeded f b x m

done_more : (s : Setting) (f : FuncRecord) → Sound s f → (b : BlockRecord) → IsReached f b → (m : ℕ) (xs : List ℕ) → Done f b m xs → (v : ValueRecord) → Follows f b m v → Done f b v.id (v.id ∷ xs)
done_more s f h b r m xs d v t = record {
  way = (tt, λ x i. below x i, d.way);
  are_effects = λ x i. named x i;
  before = λ x i. elim i as (λ _. (x ≡ v.id) ⊎ IsNeeded f b x v.id) [
    | inl e ↦ inl (sym e)
    | inr j ↦ inr (below x j)
  ];
}
  where
    own : In v.id (effects b)
    own = id_in v (filter has_effect b.values) (filter-in has_effect v b.values (to_in v b.values t.0.1) t.1)

    named : (x : ℕ) → In x (v.id ∷ xs) → In x (effects b)
    named x (inl e) = subst (λ y. In y (effects b)) e own
    named x (inr i) = d.are_effects x i

    here : (x : ℕ) → In x (effects b) → x ≡ m → IsNeeded f b x v.id
    here x i e =
        let u = effect_named b x i in
        let j : HasValue f b u.0 = (t.0.0, to_contains u.0 b.values u.1) in
        record { lower = u.0; upper = v; lower_stands = j; upper_stands = t.0; lower_is = u.2; upper_is = refl; needed = follows_needs s f h b r m v u.0 t j (u.2 ∙ e) }

    over : (x : ℕ) → IsNeeded f b x m → IsNeeded f b x v.id
    over x q = record {
      lower = q.lower;
      upper = v;
      lower_stands = q.lower_stands;
      upper_stands = t.0;
      lower_is = q.lower_is;
      upper_is = refl;
      needed = needs_onward b v q.upper q.lower (follows_needs s f h b r m v q.upper t q.upper_stands q.upper_is) q.needed;
    }

    below : (x : ℕ) → In x xs → IsNeeded f b x v.id
    below x i = elim (d.before x i) as (λ _. IsNeeded f b x v.id) [
      | inl e ↦ here x (d.are_effects x i) e
      | inr q ↦ over x q
    ]

chained : (s : Setting) (f : FuncRecord) → Sound s f → (b : BlockRecord) → IsReached f b → (k m : ℕ) (xs : List ℕ) → Done f b m xs → length xs + k ≡ length (effects b) → Chained f b m (chain k f b m)
unfolding chain
chained s f h b r zero m xs d e =
    done m (λ v t.
    let q = done_more s f h b r m xs d v t in
    let l = way_short Alive (IsNeeded f b) (not_itself s f h b) (v.id ∷ xs) (effects b) q.way q.are_effects in
    absurd (omega (arith, l, e)))
chained s f h b r (suc k) m xs d e =
    go (next_at f b m) refl (λ v t. chained s f h b r k v.id (v.id ∷ xs) (done_more s f h b r m xs d v t) (omega (arith, e)))
  where
    go : (o : Option ValueRecord) → next_at f b m ≡ o → ((v : ValueRecord) → Follows f b m v → Chained f b v.id (chain k f b v.id)) → Chained f b m (onward o (chain k f b))
    go None q rest = done m (none_follows f b m q)
    go (Some v) q rest = let t = next_follows f b (reached_block f b r) m v q in next m v (chain k f b v.id) t (rest v t)

-- the meaning does all of them
pub chain_complete : (s : Setting) (f : FuncRecord) → Sound s f → (b : BlockRecord) → IsReached f b → (m : ℕ) → Chained f b m (chain_from f b m)
chain_complete s f h b r m =
    chained s f h b r (count_by has_effect b.values) m [] (record { way = tt; are_effects = λ x i. elim i [ ]; before = λ x i. elim i [ ] })
    (let a = length-map (filter has_effect b.values) (λ (v : ValueRecord). v.id) in let c = length-filter has_effect b.values in omega (arith, a, c))

abbrev pub numbers_of : List ValueRecord → List ℕ
numbers_of vs = map (λ v. v.id) vs

-- the state is the first or that of a memory value
abbrev pub IsMet : ℕ → List ValueRecord → ℕ → Type 0
IsMet m vs n = (n ≡ m) ⊎ In n (numbers_of vs)

pub chained_next : (s : Setting) (f : FuncRecord) → Sound s f → (b : BlockRecord) → IsReached f b → (m : ℕ) (vs : List ValueRecord) → Chained f b m vs → (n : ℕ) (w : ValueRecord) → IsMet m vs n → Follows f b n w →
    In w vs
chained_next s f h b r _ _ (done m out) n w (inl e) t = absurd (out w (let P : ℕ → Type 0 = λ x. Follows f b x w in subst P e t))
chained_next s f h b r _ _ (done m out) n w (inr i) t = elim i [ ]
chained_next s f h b r _ _ (next m v vs q c) n w (inl e) t = inl (follows_one s f h b r m v w q (let P : ℕ → Type 0 = λ x. Follows f b x w in subst P e t))
chained_next s f h b r _ _ (next m v vs q c) n w (inr (inl e)) t = inr (chained_next s f h b r v.id vs c n w (inl (sym e)) t)
chained_next s f h b r _ _ (next m v vs q c) n w (inr (inr i)) t = inr (chained_next s f h b r v.id vs c n w (inr i) t)
