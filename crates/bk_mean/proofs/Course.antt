-- The state that a block begins with, the memory values after it, and the state that it ends with, along a walk.
use Rattle.std.proofs.Common.{◌≡◌, ℕ, refl, ap, sym, ◌∙◌, subst, ◌⊎◌, inl, inr, List, [], ◌∷◌, Option, Some, None, Bool, true}
use Rattle.std.specs.Prelude.{find}
use Rattle.bk_ops.specs.declared.family.Family.TheVariants as op
use Rattle.bk_ops.specs.declared.types.Ty.TheVariants.{Mem}
use Rattle.bk_func.specs.Records.{ValueRecord, BlockRecord, FuncRecord}
use Rattle.bk_func.specs.Effects.{has_effect, chain_from}
use Rattle.bk_func.specs.Meaning.{is_first_state, state_or, first_state}
use Rattle.bk_func.specs.Form.Text.{HasBlock, HasValue, IsPhi}
use Rattle.bk_func.specs.Form.Walks.{begin, IsReached}
use Rattle.bk_func.specs.Form.States.{IsState, IsStateOf, Names, IsLinked, first, more, Carries, IsFirstState, IsStateIn}
use Rattle.bk_func.specs.Form.Signatures.{Setting}
use Rattle.bk_func.proofs.Faults.{In}
use Rattle.bk_places.proofs.Elements.{to_in, to_contains}
use Rattle.bk_mean.proofs.Named.{id_in}
use Rattle.bk_mean.proofs.Dominance.{reached_block}
use Rattle.bk_mean.proofs.Typed.{effect_is_state, named_effect, no_effect}
use Rattle.bk_mean.proofs.Formed.{Sound}
use Rattle.bk_mean.proofs.Stands.{state_named}
use Rattle.bk_mean.proofs.Along.{find_in}
use Rattle.bk_mean.proofs.Chains.{names_no_phi, IsFirst, first_unnamed, first_found, found_first, first_is_state, linked_order, Chain, its_chain}
use Rattle.bk_mean.proofs.Follows.{Follows, find_true, find_none, chain_complete, IsMet, chained_next}

-- the state is the one that all walks lead to the block with, if they lead with one
abbrev pub Meets : FuncRecord → BlockRecord → ℕ → Type 0
Meets f b m = (n : ℕ) → IsFirstState f b n → n ≡ m

-- the first states

-- a block has at most one memory phi or first state of all
first_one : (s : Setting) (f : FuncRecord) → Sound s f → (b : BlockRecord) → IsReached f b → (v u : ValueRecord) → HasValue f b v → HasValue f b u → IsFirst v → IsFirst u → v ≡ u
first_one s f h b r v u iv iu pv pu =
    let kv = first_is_state s f h b v iv pv in
    let ku = first_is_state s f h b u iu pu in
    let c = its_chain s f h b r v kv in
    elim (linked_order s f h b r c.numbers c.linked v u iv iu (c.all v kv) (c.all u ku)) as (λ _. v ≡ u) [
      | inl e ↦ e
      | inr q ↦ (elim q as (λ _. v ≡ u) [
        | inl a ↦ absurd (first_unnamed s f h b v iv pv a.number a.names)
        | inr a ↦ absurd (first_unnamed s f h b u iu pu a.number a.names)
      ])
    ]

abbrev seeks : ValueRecord → Bool
seeks v = is_first_state v.ty v.op.family

-- what the meaning begins the block with, if the block has a first state
pub begins_with : (s : Setting) (f : FuncRecord) → Sound s f → (b : BlockRecord) → IsReached f b → (v : ValueRecord) → HasValue f b v → IsFirst v → (m : ℕ) → first_state b m ≡ v.id
begins_with s f h b r v i p m = go (find seeks b.values) refl
  where
    go : (o : Option ValueRecord) → find seeks b.values ≡ o → state_or o m ≡ v.id
    go None e = absurd (find_none seeks b.values v e (to_in v b.values i.1) (found_first v p))
    go (Some u) e =
        let iu : HasValue f b u = (i.0, to_contains u b.values (find_in seeks b.values u e)) in
        ap (λ (x : ValueRecord). x.id) (first_one s f h b r u v iu i (first_found u (find_true seeks b.values u e)) p)

-- and if it has none
pub begins_on : (f : FuncRecord) (b : BlockRecord) → HasBlock f b → ((v : ValueRecord) → HasValue f b v → ¬ IsFirst v) → (m : ℕ) → first_state b m ≡ m
begins_on f b i out m = go (find seeks b.values) refl
  where
    go : (o : Option ValueRecord) → find seeks b.values ≡ o → state_or o m ≡ m
    go None e = refl
    go (Some u) e = absurd (out u (i, to_contains u b.values (find_in seeks b.values u e)) (first_found u (find_true seeks b.values u e)))

-- where each state of a block is done

-- the value is the first state, or one of the memory values
abbrev pub IsDone : ℕ → List ValueRecord → ValueRecord → Type 0
IsDone m vs w = (IsFirst w × (w.id ≡ m)) ⊎ In w vs

pub done_met : (m : ℕ) (vs : List ValueRecord) (w : ValueRecord) → IsDone m vs w → IsMet m vs w.id
done_met m vs w (inl q) = inl q.1
done_met m vs w (inr i) = inr (id_in w vs i)

-- a state that names a state of the block
names_follows : (s : Setting) (f : FuncRecord) → Sound s f → (b : BlockRecord) → IsReached f b → (w : ValueRecord) → IsState f b w → (n : ℕ) → Names f w n → Follows f b n w
names_follows s f h b r w k n (j, m, at, got, stands) =
    let names : Names f w n = (j, m, at, got, stands) in (
      k.0,
      named_effect s f b w (h.types b w k.0) k j m at got (λ o. first_unnamed s f h b w k.0 (inr o) n names),
      state_named s f h b w k.0 r (names_no_phi s f h b w k.0 n names) k.1 n names,
    )

-- what is done from the lowest state of a block on
start_done : (s : Setting) (f : FuncRecord) → Sound s f → (b : BlockRecord) → IsReached f b → (c : Chain f b) (m : ℕ) → Meets f b m → IsDone (first_state b m) (chain_from f b (first_state b m)) c.start
start_done s f h b r c m meets = go c.way
  where
    at_first : IsFirst c.start → IsDone (first_state b m) (chain_from f b (first_state b m)) c.start
    at_first p = inl (p, sym (begins_with s f h b r c.start c.stands p m))

    phi_memory : IsPhi c.start → (c.start.op.family ≡ op.StaticLECall) ⊎ (c.start.ty ≡ Mem) → c.start.ty ≡ Mem
    phi_memory p (inl o) = let d = sym p ∙ o in absurd cc
    phi_memory p (inr e) = e

    no_first : (n : ℕ) → Names f c.start n → (v : ValueRecord) → HasValue f b v → ¬ IsFirst v
    no_first n names v i p =
        elim (linked_order s f h b r c.numbers c.linked v c.start i c.stands (c.all v (first_is_state s f h b v i p)) (c.all c.start c.is_state)) as (λ _. ⊥) [
          | inl e ↦ first_unnamed s f h b v i p n (let P : ValueRecord → Type 0 = λ x. Names f x n in subst P (sym e) names)
          | inr q ↦ (elim q as (λ _. ⊥) [
            | inl a ↦ first_unnamed s f h b v i p a.number a.names
            | inr a ↦ c.bottom a.number a.names (c.states a.number a.listed)
          ])
        ]

    go : IsPhi c.start ⊎ (c.start.op.family ≡ op.InitMem) ⊎ ((n : ℕ) × Names f c.start n × IsFirstState f b n) → IsDone (first_state b m) (chain_from f b (first_state b m)) c.start
    go (inl p) = at_first (inl (p, phi_memory p c.is_state.3))
    go (inr (inl o)) = at_first (inr o)
    go (inr (inr (n, names, carried))) =
        inr (chained_next s f h b r (first_state b m) (chain_from f b (first_state b m)) (chain_complete s f h b r (first_state b m)) n c.start
        (inl (meets n carried ∙ sym (begins_on f b c.stands.0 (no_first n names) m))) (names_follows s f h b r c.start c.is_state n names))

-- of two lowest states one names the other: they are one
lowest_one : (s : Setting) (f : FuncRecord) → Sound s f → (b : BlockRecord) → IsReached f b → (c : Chain f b) (w : ValueRecord) → IsState f b w → ((n : ℕ) → Names f w n → ¬ IsStateOf f b n) → w ≡ c.start
lowest_one s f h b r c w k out =
    elim (linked_order s f h b r c.numbers c.linked w c.start k.0 c.stands (c.all w k) (c.all c.start c.is_state)) as (λ _. w ≡ c.start) [
      | inl e ↦ e
      | inr q ↦ (elim q as (λ _. w ≡ c.start) [
        | inl a ↦ absurd (out a.number a.names (c.states a.number a.listed))
        | inr a ↦ absurd (c.bottom a.number a.names (c.states a.number a.listed))
      ])
    ]

its_state : (s : Setting) (f : FuncRecord) → Sound s f → (b : BlockRecord) (w : ValueRecord) → HasValue f b w → IsStateOf f b w.id → IsState f b w
its_state s f h b w i (u, k, e) = (let P : ValueRecord → Type 0 = λ x. IsState f b x in subst P (h.named.same_value b b u w k.0 i e) k)

-- each state of a chain is done, from the lowest up
linked_done : (s : Setting) (f : FuncRecord) → Sound s f → (b : BlockRecord) → IsReached f b → (c : Chain f b) (m : ℕ) → Meets f b m → (xs : List ℕ) → IsLinked f b xs →
    ((n : ℕ) → In n xs → IsStateOf f b n) → (w : ValueRecord) → HasValue f b w → In w.id xs → IsDone (first_state b m) (chain_from f b (first_state b m)) w
linked_done s f h b r c m meets _ (first v i names) states w iw (inl e) =
    let P : ValueRecord → Type 0 = λ x. IsDone (first_state b m) (chain_from f b (first_state b m)) x in
    subst P
    (sym (lowest_one s f h b r c v (its_state s f h b v i (states v.id (inl refl))) names) ∙ h.named.same_value b b v w i iw e)
    (start_done s f h b r c m meets)
linked_done s f h b r c m meets _ (first v i names) states w iw (inr j) = elim j [ ]
linked_done s f h b r c m meets _ (more v n ms i names l) states w iw (inl e) =
    let P : ValueRecord → Type 0 = λ x. IsDone (first_state b m) (chain_from f b (first_state b m)) x in
    subst P (h.named.same_value b b v w i iw e)
    (inr (chained_next s f h b r (first_state b m) (chain_from f b (first_state b m)) (chain_complete s f h b r (first_state b m)) n v
    (met (states n (inr (inl refl))) (λ u iu q. linked_done s f h b r c m meets (n ∷ ms) l (λ x k. states x (inr k)) u iu (inl (sym q))))
    (names_follows s f h b r v (its_state s f h b v i (states v.id (inl refl))) n names)))
  where
    met : IsStateOf f b n → ((u : ValueRecord) → HasValue f b u → u.id ≡ n → IsDone (first_state b m) (chain_from f b (first_state b m)) u) → IsMet (first_state b m) (chain_from f b (first_state b m)) n
    met (u, k, q) rest =
        let R : ℕ → Type 0 = λ x. IsMet (first_state b m) (chain_from f b (first_state b m)) x in
        subst R q (done_met (first_state b m) (chain_from f b (first_state b m)) u (rest u k.0 q))
linked_done s f h b r c m meets _ (more v n ms i names l) states w iw (inr j) = linked_done s f h b r c m meets (n ∷ ms) l (λ x k. states x (inr k)) w iw j

-- each state of a block is the one that the block begins with or is done
pub state_done : (s : Setting) (f : FuncRecord) → Sound s f → (b : BlockRecord) → IsReached f b → (m : ℕ) → Meets f b m → (w : ValueRecord) → IsState f b w →
    IsDone (first_state b m) (chain_from f b (first_state b m)) w
state_done s f h b r m meets w k =
    let c = its_chain s f h b r w k in
    linked_done s f h b r c m meets c.numbers c.linked c.states w k.0 (c.all w k)

-- each memory value of a block is done
pub effect_done : (s : Setting) (f : FuncRecord) → Sound s f → (b : BlockRecord) → IsReached f b → (m : ℕ) → Meets f b m → (v : ValueRecord) → HasValue f b v → has_effect v ≡ true →
    In v (chain_from f b (first_state b m))
effect_done s f h b r m meets v i e = go (state_done s f h b r m meets v (effect_is_state s f b v (h.types b v i) i e))
  where
    go : IsDone (first_state b m) (chain_from f b (first_state b m)) v → In v (chain_from f b (first_state b m))
    go (inl (inl p, q)) = absurd (no_effect v op.Phi refl e p.0)
    go (inl (inr o, q)) = absurd (no_effect v op.InitMem refl e o)
    go (inr j) = j

-- a state that values of a block may name is met
pub state_met : (s : Setting) (f : FuncRecord) → Sound s f → (b : BlockRecord) → IsReached f b → (m : ℕ) → Meets f b m → (n : ℕ) → IsStateIn f b n → IsMet (first_state b m) (chain_from f b (first_state b m)) n
state_met s f h b r m meets n (inl (w, k, e)) =
    (let P : ℕ → Type 0 = λ x. IsMet (first_state b m) (chain_from f b (first_state b m)) x in
    subst P e (done_met (first_state b m) (chain_from f b (first_state b m)) w (state_done s f h b r m meets w k)))
state_met s f h b r m meets n (inr (phi, carried)) = inl (meets n carried ∙ sym (begins_on f b (reached_block f b r) out m))
  where
    nothing : Carries f [] n → ⊥
    nothing c = elim c [ ]

    out : (v : ValueRecord) → HasValue f b v → ¬ IsFirst v
    out v i (inl p) = phi (v, first_is_state s f h b v i (inl p), p.0)
    out v i (inr o) = nothing (carried [] (begin b ((h.memory b v i).first o).0))
