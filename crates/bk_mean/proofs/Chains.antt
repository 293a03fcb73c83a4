-- The states of a block that is reached follow one another from the state that it begins with, and the meaning does them all.
use Rattle.std.proofs.Common.{◌≡◌, ℕ, refl, ap, sym, ◌∙◌, subst, arith, ◌⊎◌, inl, inr, List, [], ◌∷◌, ◌++◌, Bool, true, false}
use Rattle.bk_ops.specs.Families.{is_call_result}
use Rattle.bk_ops.specs.declared.family.Family.{Family}
use Rattle.bk_ops.specs.declared.family.Family.TheVariants as op
use Rattle.bk_ops.specs.declared.types.Ty.TheVariants.{Mem}
use Rattle.bk_func.specs.Records.{ValueRecord, BlockRecord, FuncRecord}
use Rattle.bk_func.specs.Effects.{has_effect}
use Rattle.bk_func.specs.Meaning.{is_first_state}
use Rattle.bk_func.specs.Form.Text.{HasValue, IsPhi}
use Rattle.bk_func.specs.Form.Walks.{IsReached}
use Rattle.bk_func.specs.Form.States.{IsState, IsStateOf, NamesAt, Names, IsLinked, first, more, IsChain, IsFirstState, Starts, HasChain}
use Rattle.bk_func.specs.Form.Before.{Needs}
use Rattle.bk_func.specs.Form.Signatures.{Setting}
use Rattle.bk_func.proofs.Faults.{In}
use Rattle.bk_places.proofs.Elements.{to_in, to_contains}
use Rattle.bk_mean.proofs.Dominance.{reached_block}
use Rattle.bk_mean.proofs.Roles.{only_mem, init_args, phi_no_memory}
use Rattle.bk_mean.proofs.Typed.{no_effect, init_memory}
use Rattle.bk_mean.proofs.Formed.{Sound}
use Rattle.bk_mean.proofs.Ranks.{needs_precede, needs_onward}
use Rattle.bk_mean.proofs.Stands.{needs_named}

-- no value needs itself, nor what needs it
pub needs_apart : (s : Setting) (f : FuncRecord) → Sound s f → (b : BlockRecord) (v : ValueRecord) → HasValue f b v → ¬ Needs b v v
needs_apart s f h b v i n = h.order b v i (needs_precede f b v v n)

-- values with an effect are neither phis nor copies nor the first state of all
pub effect_no_phi : (v : ValueRecord) → has_effect v ≡ true → ¬ IsPhi v
effect_no_phi v e = no_effect v op.Phi refl e

pub effect_no_copy : (v : ValueRecord) → has_effect v ≡ true → ¬ (v.op.family ≡ op.Copy)
effect_no_copy v e = no_effect v op.Copy refl e

-- phis and the first state of all name no state

abbrev pub IsFirst : ValueRecord → Type 0
IsFirst v = (IsPhi v × (v.ty ≡ Mem)) ⊎ (v.op.family ≡ op.InitMem)

other_op : (v : ValueRecord) (o u : Family) (t : Family → Bool) → t o ≡ true → t u ≡ false → v.op.family ≡ o → v.op.family ≡ u → ⊥
other_op v o u t a b e d = let x : t o ≡ t u = ap t (sym e ∙ d) in absurd cc

abbrev is_phi_op : Family → Bool
is_phi_op op.Phi = true
is_phi_op _ = false

abbrev is_init_op : Family → Bool
is_init_op op.InitMem = true
is_init_op _ = false

pub first_unnamed : (s : Setting) (f : FuncRecord) → Sound s f → (b : BlockRecord) (v : ValueRecord) → HasValue f b v → IsFirst v → (n : ℕ) → ¬ Names f v n
first_unnamed s f h b v i (inl p) n (k, m, at, got, stands) = go at
  where
    go : NamesAt v k → ⊥
    go (inl c) = other_op v op.Phi op.Copy is_phi_op refl refl p.0 c.0.0
    go (inr (inl c)) = let d = ap is_call_result p.0 in absurd cc
    go (inr (inr c)) = let q = phi_no_memory s f b v (h.rows b v i) p.0 in let d = sym q ∙ c.0 in absurd cc
first_unnamed s f h b v i (inr o) n (k, m, at, got, stands) = go at
  where
    go : NamesAt v k → ⊥
    go (inl c) = other_op v op.InitMem op.Copy is_init_op refl refl o c.0.0
    go (inr (inl c)) = let d = ap is_call_result o in absurd cc
    go (inr (inr c)) = let q = init_args s f b v (h.rows b v i) o in absurd (omega (arith, q, c.1))

-- a first state as the meaning looks for it
pub first_found : (v : ValueRecord) → is_first_state v.ty v.op.family ≡ true → IsFirst v
first_found v e = go v.op.family refl e
  where
    go : (o : Family) → v.op.family ≡ o → is_first_state v.ty o ≡ true → IsFirst v
    go op.Phi q d = inl (q, only_mem v.ty d)
    go op.InitMem q d = inr q
    go _ q d = absurd cc

pub found_first : (v : ValueRecord) → IsFirst v → is_first_state v.ty v.op.family ≡ true
found_first v (inl (p, m)) = rw (p, m) refl
found_first v (inr o) = rw o refl

pub first_is_state : (s : Setting) (f : FuncRecord) → Sound s f → (b : BlockRecord) (v : ValueRecord) → HasValue f b v → IsFirst v → IsState f b v
first_is_state s f h b v i (inl (p, m)) =
    (i, other_op v op.Phi op.Copy is_phi_op refl refl p, other_op v op.Phi op.MakeResult is_phi_op refl refl p, inr m, λ q. absurd (other_op v op.Phi op.InitMem is_phi_op refl refl p q))
first_is_state s f h b v i (inr o) =
    (i, other_op v op.InitMem op.Copy is_init_op refl refl o, other_op v op.InitMem op.MakeResult is_init_op refl refl o, inr (init_memory s f v (h.types b v i) o), λ q. (h.memory b v i).first o)

-- the states of a block are in an order: each names another before it, or the other one such

-- v names a number of the list, that of u or of what needs u
pub record After (f : FuncRecord) (b : BlockRecord) (xs : List ℕ) (v u : ValueRecord) : Type 0 where
  pub number : ℕ
  pub value : ValueRecord
  pub names : Names f v number
  pub stands : HasValue f b value
  pub named : value.id ≡ number
  pub listed : In number xs
  pub way : (value ≡ u) ⊎ Needs b value u

-- a state that names another one is no phi
linked_head : (f : FuncRecord) (b : BlockRecord) (n : ℕ) (ms : List ℕ) → IsLinked f b (n ∷ ms) → (v : ValueRecord) × HasValue f b v × (v.id ≡ n)
linked_head f b _ _ (first v i names) = (v, i, refl)
linked_head f b _ _ (more v n ms i names l) = (v, i, refl)

pub names_no_phi : (s : Setting) (f : FuncRecord) → Sound s f → (b : BlockRecord) (v : ValueRecord) → HasValue f b v → (n : ℕ) → Names f v n → ¬ IsPhi v
names_no_phi s f h b v i n (k, m, at, got, stands) p = go at
  where
    go : NamesAt v k → ⊥
    go (inl c) = other_op v op.Phi op.Copy is_phi_op refl refl p c.0.0
    go (inr (inl c)) = let d = ap is_call_result p in absurd cc
    go (inr (inr c)) = let q = phi_no_memory s f b v (h.rows b v i) p in let d = sym q ∙ c.0 in absurd cc

-- the head of linked numbers needs the others
pub linked_needs : (s : Setting) (f : FuncRecord) → Sound s f → (b : BlockRecord) → IsReached f b → (t : ℕ) (ys : List ℕ) → IsLinked f b (t ∷ ys) → (v u : ValueRecord) → HasValue f b v → v.id ≡ t → HasValue f b u →
    In u.id ys → Needs b v u
linked_needs s f h b r _ _ (first w i names) v u iv e iu j = elim j [ ]
linked_needs s f h b r _ _ (more w n ms i names l) v u iv e iu j =
    let P : ValueRecord → Type 0 = λ x. Needs b x u in
    subst P (h.named.same_value b b w v i iv (sym e))
    (elim j as (λ _. Needs b w u) [
      | inl q ↦ needs_named s f h b r w u i iu (names_no_phi s f h b w i n names) n names (sym q)
      | inr q ↦ (let x = linked_head f b n ms l in
          needs_onward b w x.0 u (needs_named s f h b r w x.0 i x.1 (names_no_phi s f h b w i n names) n names x.2) (linked_needs s f h b r n ms l x.0 u x.1 x.2 iu q))
    ])

wider : (f : FuncRecord) (b : BlockRecord) (x : ℕ) (xs : List ℕ) (v u : ValueRecord) → After f b xs v u → After f b (x ∷ xs) v u
wider f b x xs v u a = record { number = a.number; value = a.value; names = a.names; stands = a.stands; named = a.named; listed = inr a.listed; way = a.way }

linked_after : (s : Setting) (f : FuncRecord) → Sound s f → (b : BlockRecord) → IsReached f b → (w : ValueRecord) (n : ℕ) (ms : List ℕ) → HasValue f b w → Names f w n → IsLinked f b (n ∷ ms) →
    (v u : ValueRecord) → HasValue f b v → HasValue f b u → w.id ≡ v.id → In u.id (n ∷ ms) → After f b (w.id ∷ n ∷ ms) v u
linked_after s f h b r w n ms i names l v u iv iu e j =
    let x = linked_head f b n ms l in
    let P : ValueRecord → Type 0 = λ y. Names f y n in
    record {
      number = n;
      value = x.0;
      names = subst P (h.named.same_value b b w v i iv e) names;
      stands = x.1;
      named = x.2;
      listed = inr (inl refl);
      way = elim j as (λ _. (x.0 ≡ u) ⊎ Needs b x.0 u) [
        | inl q ↦ inl (h.named.same_value b b x.0 u x.1 iu (x.2 ∙ q))
        | inr q ↦ inr (linked_needs s f h b r n ms l x.0 u x.1 x.2 iu q)
      ];
    }

abbrev pub InOrder : FuncRecord → BlockRecord → List ℕ → ValueRecord → ValueRecord → Type 0
InOrder f b xs v u = (v ≡ u) ⊎ After f b xs v u ⊎ After f b xs u v

wider_order : (f : FuncRecord) (b : BlockRecord) (x : ℕ) (xs : List ℕ) (v u : ValueRecord) → InOrder f b xs v u → InOrder f b (x ∷ xs) v u
wider_order f b x xs v u (inl e) = inl e
wider_order f b x xs v u (inr (inl a)) = inr (inl (wider f b x xs v u a))
wider_order f b x xs v u (inr (inr a)) = inr (inr (wider f b x xs u v a))

pub linked_order : (s : Setting) (f : FuncRecord) → Sound s f → (b : BlockRecord) → IsReached f b → (xs : List ℕ) → IsLinked f b xs → (v u : ValueRecord) → HasValue f b v → HasValue f b u → In v.id xs → In u.id xs →
    InOrder f b xs v u
linked_order s f h b r _ (first w i names) v u iv iu (inl e) (inl d) = inl (h.named.same_value b b v u iv iu (sym e ∙ d))
linked_order s f h b r _ (first w i names) v u iv iu (inl e) (inr j) = elim j [ ]
linked_order s f h b r _ (first w i names) v u iv iu (inr j) q = elim j [ ]
linked_order s f h b r _ (more w n ms i names l) v u iv iu (inl e) (inl d) = inl (h.named.same_value b b v u iv iu (sym e ∙ d))
linked_order s f h b r _ (more w n ms i names l) v u iv iu (inl e) (inr j) = inr (inl (linked_after s f h b r w n ms i names l v u iv iu e j))
linked_order s f h b r _ (more w n ms i names l) v u iv iu (inr j) (inl d) = inr (inr (linked_after s f h b r w n ms i names l u v iu iv d j))
linked_order s f h b r _ (more w n ms i names l) v u iv iu (inr j) (inr k) = wider_order f b w.id (n ∷ ms) v u (linked_order s f h b r (n ∷ ms) l v u iv iu j k)

-- a chain of a block's states
pub record Chain (f : FuncRecord) (b : BlockRecord) : Type 0 where
  pub numbers : List ℕ
  pub linked : IsLinked f b numbers
  pub all : (v : ValueRecord) → IsState f b v → In v.id numbers
  pub states : (n : ℕ) → In n numbers → IsStateOf f b n
  pub start : ValueRecord
  pub stands : HasValue f b start
  pub is_state : IsState f b start
  pub bottom : (n : ℕ) → Names f start n → ¬ IsStateOf f b n
  pub way : IsPhi start ⊎ (start.op.family ≡ op.InitMem) ⊎ ((m : ℕ) × Names f start m × IsFirstState f b m)

linked_tail : (f : FuncRecord) (b : BlockRecord) (x y : ℕ) (ys : List ℕ) → IsLinked f b (x ∷ y ∷ ys) → IsLinked f b (y ∷ ys)
linked_tail f b _ _ _ (more v n ms i names l) = l

-- the value of the last number names no state of the block
record Bottom (f : FuncRecord) (b : BlockRecord) (m : ℕ) : Type 0 where
  value : ValueRecord
  stands : HasValue f b value
  named : value.id ≡ m
  names : (n : ℕ) → Names f value n → ¬ IsStateOf f b n

linked_one : (f : FuncRecord) (b : BlockRecord) (m : ℕ) → IsLinked f b (m ∷ []) → Bottom f b m
linked_one f b _ (first v i names) = record { value = v; stands = i; named = refl; names = names }

linked_last : (f : FuncRecord) (b : BlockRecord) (m : ℕ) (xs : List ℕ) → IsLinked f b (xs ++ m ∷ []) → Bottom f b m
linked_last f b m [] l = linked_one f b m l
linked_last f b m (x ∷ []) l = linked_one f b m (linked_tail f b x m [] l)
linked_last f b m (x ∷ y ∷ ys) l = linked_last f b m (y ∷ ys) (linked_tail f b x y (ys ++ m ∷ []) l)

chain_of : (s : Setting) (f : FuncRecord) → Sound s f → (b : BlockRecord) → (ms : List ℕ) (m : ℕ) → IsChain f b (ms ++ m ∷ []) → Starts f b m → Chain f b
chain_of s f h b ms m c (v, i, e, way) = record {
  numbers = ms ++ m ∷ [];
  linked = c.linked;
  all = λ u k. to_in u.id (ms ++ m ∷ []) ((c.states u.id).1 (u, k, refl));
  states = λ n j. (c.states n).0 (to_contains n (ms ++ m ∷ []) j);
  start = v;
  stands = i;
  is_state = state ((c.states m).0 (to_contains m (ms ++ m ∷ []) (last ms)));
  bottom = lowest (linked_last f b m ms c.linked);
  way = way;
}
  where
    lowest : Bottom f b m → (n : ℕ) → Names f v n → ¬ IsStateOf f b n
    lowest q = (let P : ValueRecord → Type 0 = λ x. (n : ℕ) → Names f x n → ¬ IsStateOf f b n in subst P (h.named.same_value b b q.value v q.stands i (q.named ∙ sym e)) q.names)

    last : (xs : List ℕ) → In m (xs ++ m ∷ [])
    last [] = inl refl
    last (x ∷ xs) = inr (last xs)

    state : IsStateOf f b m → IsState f b v
    state (u, k, q) = (let P : ValueRecord → Type 0 = λ x. IsState f b x in subst P (h.named.same_value b b u v k.0 i (q ∙ sym e)) k)

-- a block with a state has a chain
pub its_chain : (s : Setting) (f : FuncRecord) → Sound s f → (b : BlockRecord) → IsReached f b → (v : ValueRecord) → IsState f b v → Chain f b
its_chain s f h b r v k = go ((h.states b (reached_block f b r)).chain r)
  where
    go : HasChain f b → Chain f b
    go (inl none) = absurd (none v.id (v, k, refl))
    go (inr (ms, m, c, start)) = chain_of s f h b ms m c start
