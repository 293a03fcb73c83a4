-- Numbers stay where what changes stands in a block that they do not need.
use Rattle.std.proofs.Common.{◌≡◌, ℕ, ◌<◌, refl, ap, sym, ◌∙◌, subst, arith, inr, Option, Some, false}
use Rattle.std.specs.Prelude.{slice_get, slice_index, unwrap_or}
use Rattle.std.specs.List.{Contains}
use Rattle.bk_func.specs.Records.{ValueRecord, BlockRecord, FuncRecord}
use Rattle.bk_func.specs.Numbers.{Program, Env, Origin, phi, argument, argument_word, result, address, loaded, checked, same, computed, origin_of, value_of, numbers, state_of}
use Rattle.bk_func.specs.Effects.{is_phi, is_load}
use Rattle.bk_func.specs.Form.Text.{HasBlock, HasValue, Defines, IsPhi}
use Rattle.bk_func.specs.Form.Walks.{IsReached, IsDefinedAt}
use Rattle.bk_func.specs.Form.States.{Names, IsStateIn}
use Rattle.bk_func.specs.Form.Before.{Needs, takes}
use Rattle.bk_func.specs.Form.Signatures.{Setting}
use Rattle.bk_func.proofs.Faults.{In}
use Rattle.bk_func.proofs.Unique.{inputs_of, Ranked}
use Rattle.bk_func.proofs.Frame.{ReadsAlike, ReadsAt, frame}
use Rattle.bk_places.proofs.Elements.{to_contains}
use Rattle.bk_mean.proofs.Named.{got_in, found_value}
use Rattle.bk_mean.proofs.Dominance.{Dominates, one_dominates, defined_from, defined_here, Home, home, arguments_defined}
use Rattle.bk_mean.proofs.Roles.{is_result, no_call_result, no_phi, load_args, result_args, result_calls, first_argument}
use Rattle.bk_mean.proofs.Formed.{Sound}
use Rattle.bk_mean.proofs.Ranks.{rank, rank_below_room, argument_falls, input_taken, live_there, needs_onward}
use Rattle.bk_mean.proofs.Stands.{state_named, state_defined, needs_named}

-- environments that differ at most in the numbers of some phis, and in what calls gave and in windows at other numbers
pub record Agree (e d : Env) (P Q : ℕ → Type 0) : Type 0 where
  pub args : e.args ≡ d.args
  pub phis : (n : ℕ) → ¬ P n → e.phis n ≡ d.phis n
  pub given : (n : ℕ) → ¬ Q n → e.given n ≡ d.given n
  pub windows : (n : ℕ) → ¬ Q n → e.windows n ≡ d.windows n

-- a value of the block with this number is none of the phis that differ, and needs nothing that differs
abbrev pub IsSpared : BlockRecord → (ℕ → Type 0) → (ℕ → Type 0) → ℕ → Type 0
IsSpared c P Q n = (u v : ValueRecord) → Contains c.values u → Contains c.values v → u.id ≡ n → (P v.id → ¬ (v ≡ u) × ¬ Needs c u v) × (Q v.id → ¬ Needs c u v)

-- what differs stands in a block that is reached
pub record Differs (f : FuncRecord) (c : BlockRecord) (P Q : ℕ → Type 0) : Type 0 where
  pub reached : IsReached f c
  pub block : HasBlock f c
  pub phis : (n : ℕ) → P n → Defines c n
  pub states : (n : ℕ) → Q n → Defines c n

-- the value is defined at the block and spared
pub record Stays (f : FuncRecord) (c : BlockRecord) (P Q : ℕ → Type 0) (n : ℕ) : Type 0 where
  pub defined : IsDefinedAt f c n
  pub spared : IsSpared c P Q n

-- a value that stands before the end of a block needs a value of the block only if it stands in the block itself
here : (s : Setting) (f : FuncRecord) → Sound s f → (c a : BlockRecord) → IsReached f c → Dominates f a c → (u : ValueRecord) → HasValue f c u → IsDefinedAt f a u.id → a ≡ c
here s f h c a r over u i d = one_dominates f a c r over (defined_from f h.named c a u i d)

needs_argument : (c : BlockRecord) (v u : ValueRecord) → Contains c.values v → Contains c.values u → is_phi (origin_of v.op.family) ≡ false → In u.id v.args → Needs c v u
needs_argument c v u i j p k = takes u v (j, i, no_phi v p, to_contains u.id v.args k)

-- what a spared value takes is spared
argument_stays : (s : Setting) (f : FuncRecord) → Sound s f → (c : BlockRecord) (P Q : ℕ → Type 0) → Differs f c P Q → (n : ℕ) → Stays f c P Q n → (q : Home f c n) →
    is_phi (origin_of q.value.op.family) ≡ false → (x : ℕ) → In x q.value.args → Stays f c P Q x
argument_stays s f h c P Q g n l q p x j = record {
  defined = arguments_defined s f h.named h.uses q.block c q.value q.stands (no_phi q.value p) (let R : ℕ → Type 0 = λ m. IsDefinedAt f c m in subst R (sym q.named) l.defined) x j;
  spared = λ u v iu iv e. (λ k. (λ d. (only u v iu iv e).0 k d, λ m. (only u v iu iv e).1 k m), λ k m. (only u v iu iv e).2 k m);
}
  where
    defined : IsDefinedAt f q.block x
    defined = arguments_defined s f h.named h.uses q.block q.block q.value q.stands (no_phi q.value p) (defined_here f q.block q.value.id (q.value, q.stands.1, refl)) x j

    stands : (u : ValueRecord) → Contains c.values u → u.id ≡ x → Contains c.values q.value
    stands u iu e =
        let d = here s f h c q.block g.reached q.dominates u (g.block, iu) (let R : ℕ → Type 0 = λ m. IsDefinedAt f q.block m in subst R (sym e) defined) in
        (let R : BlockRecord → Type 0 = λ b. Contains b.values q.value in subst R d q.stands.1)

    needed : (u : ValueRecord) → Contains c.values u → u.id ≡ x → Needs c q.value u
    needed u iu e = needs_argument c q.value u (stands u iu e) iu p (let R : ℕ → Type 0 = λ m. In m q.value.args in subst R (sym e) j)

    only : (u v : ValueRecord) → Contains c.values u → Contains c.values v → u.id ≡ x → (P v.id → ¬ (v ≡ u)) × (P v.id → ¬ Needs c u v) × (Q v.id → ¬ Needs c u v)
    only u v iu iv e =
        let t = l.spared q.value v (stands u iu e) iv q.named in (
          λ k d. (t.0 k).1 (let R : ValueRecord → Type 0 = λ y. Needs c q.value y in subst R (sym d) (needed u iu e)),
          λ k m. (t.0 k).1 (needs_onward c q.value u v (needed u iu e) m),
          λ k m. t.1 k (needs_onward c q.value u v (needed u iu e) m),
        )

stays_ranks : (s : Setting) (f : FuncRecord) → Sound s f → (c : BlockRecord) (P Q : ℕ → Type 0) → Differs f c P Q → Ranked f (Stays f c P Q) (rank f)
stays_ranks s f h c P Q g = record {
  falls = λ n l x i. step n l x i (home f h.named c n g.reached l.defined);
  few = λ n l. rank_below_room s f h n (live_there f h.named c n g.reached l.defined);
}
  where
    step : (n : ℕ) → Stays f c P Q n → (x : ℕ) → In x (inputs_of (value_of f n)) → Home f c n → Stays f c P Q x × (rank f x < rank f n)
    step n l x i q =
        let e = found_value f h.named q.block q.value n q.stands q.named in
        let R : Option ValueRecord → Type 0 = λ o. In x (inputs_of o) in
        let t = input_taken s f q.block q.value (h.rows q.block q.value q.stands) x (subst R e i) in
        let S : ℕ → Type 0 = λ m. rank f x < rank f m in (
          argument_stays s f h c P Q g n l q t.0 x t.1,
          subst S q.named (argument_falls s f h q.block q.value q.stands q.reached (no_phi q.value t.0) x t.1).1,
        )

-- what a spared value reads is the same

same_phi : (f : FuncRecord) (c : BlockRecord) (P Q : ℕ → Type 0) (e d : Env) → Agree e d P Q → Differs f c P Q → (n : ℕ) → Stays f c P Q n → (m : ℕ) → m ≡ n → e.phis m ≡ d.phis m
same_phi f c P Q e d z g n l m t = z.phis m (λ k. absurd (out k (g.phis m k)))
  where
    out : P m → Defines c m → ⊥
    out k (u, i, q) = ((l.spared u u i i (q ∙ t)).0 (let R : ℕ → Type 0 = λ y. P y in subst R (sym q) k)).0 refl

-- the number is not one that differs, if its value's block is the one with what differs and the value is needed
not_among : (f : FuncRecord) (c : BlockRecord) (P Q : ℕ → Type 0) → Differs f c P Q → (n : ℕ) → Stays f c P Q n → (v : ValueRecord) → v.id ≡ n → (m : ℕ) →
    ((u : ValueRecord) → HasValue f c u → u.id ≡ m → Contains c.values v × Needs c v u) → ¬ Q m
not_among f c P Q g n l v e m needed k = out (g.states m k)
  where
    out : Defines c m → ⊥
    out (u, i, q) = let t = needed u (g.block, i) q in (l.spared v u t.0 i e).1 (let R : ℕ → Type 0 = λ y. Q y in subst R (sym q) k) t.1

same_given : (s : Setting) (f : FuncRecord) → Sound s f → (c : BlockRecord) (P Q : ℕ → Type 0) (e d : Env) → Agree e d P Q → Differs f c P Q → (n : ℕ) → Stays f c P Q n → (q : Home f c n) →
    origin_of q.value.op.family ≡ result → e.given (slice_index q.value.args 0) ≡ d.given (slice_index q.value.args 0)
same_given s f h c P Q e d z g n l q o =
    z.given (slice_index q.value.args 0) (not_among f c P Q g n l q.value q.named (slice_index q.value.args 0) needed)
  where
    got : slice_get q.value.args 0 ≡ Some (slice_index q.value.args 0)
    got = first_argument q.value 0 (result_args s f q.block q.value (h.rows q.block q.value q.stands) o).0

    own : Defines q.block (slice_index q.value.args 0)
    own = (h.memory q.block q.value q.stands).call (result_calls q.value o) (slice_index q.value.args 0) got

    needed : (u : ValueRecord) → HasValue f c u → u.id ≡ slice_index q.value.args 0 → Contains c.values q.value × Needs c q.value u
    needed u i k =
        let b = h.named.same_block q.block c own.0 u (q.stands.0, own.1) i (own.2 ∙ sym k) in
        let R : BlockRecord → Type 0 = λ y. Contains y.values q.value in
        let S : ℕ → Type 0 = λ y. In y q.value.args in
        let j = subst R b q.stands.1 in
        (j, needs_argument c q.value u j i.1 (ap is_phi o) (subst S (sym k) (got_in q.value.args 0 (slice_index q.value.args 0) got)))

-- the state that a load of a reached block names, and that values of the block may name
pub load_state : (s : Setting) (f : FuncRecord) → Sound s f → (b : BlockRecord) (v : ValueRecord) → HasValue f b v → IsReached f b → origin_of v.op.family ≡ loaded →
    (m : ℕ) × Names f v m × IsStateIn f b m
load_state s f h b v i r o =
    let t = load_args s f b v (h.rows b v i) (ap is_load o) in
    (h.memory b v i).names 1 (λ p. let e = ap origin_of p in absurd cc) (λ p. let e = ap origin_of p in absurd cc) (no_call_result v (ap is_result o)) r (inr (inr (t.1, omega (arith, t.0)))) (omega (arith, t.0))

same_window : (s : Setting) (f : FuncRecord) → Sound s f → (c : BlockRecord) (P Q : ℕ → Type 0) (e d : Env) → Agree e d P Q → Differs f c P Q → (n : ℕ) → Stays f c P Q n → (q : Home f c n) →
    origin_of q.value.op.family ≡ loaded → e.windows (unwrap_or (state_of f q.value) 0) ≡ d.windows (unwrap_or (state_of f q.value) 0)
same_window s f h c P Q e d z g n l q o = go (load_state s f h q.block q.value q.stands q.reached o)
  where
    free : ¬ IsPhi q.value
    free p = let e = ap origin_of p in absurd cc

    go : (m : ℕ) × Names f q.value m × IsStateIn f q.block m → e.windows (unwrap_or (state_of f q.value) 0) ≡ d.windows (unwrap_or (state_of f q.value) 0)
    go (m, names, within) =
        rw (state_named s f h q.block q.value q.stands q.reached free (λ p. let e = ap origin_of p in absurd cc) m names)
        (z.windows m (not_among f c P Q g n l q.value q.named m needed))
      where
        over : (u : ValueRecord) → HasValue f c u → u.id ≡ m → q.block ≡ c
        over u i k = here s f h c q.block g.reached q.dominates u i (let R : ℕ → Type 0 = λ y. IsDefinedAt f q.block y in subst R (sym k) (state_defined f q.block m within))

        needed : (u : ValueRecord) → HasValue f c u → u.id ≡ m → Contains c.values q.value × Needs c q.value u
        needed u i t =
            let P : BlockRecord → Type 0 = λ y. Contains y.values q.value in
            let own = subst P (over u i t) q.stands.1 in
            (own, needs_named s f h c g.reached q.value u (g.block, own) i free m names t)

reads_same : (s : Setting) (f : FuncRecord) → Sound s f → (c : BlockRecord) (P Q : ℕ → Type 0) (e d : Env) → Agree e d P Q → Differs f c P Q → (n : ℕ) → Stays f c P Q n → ReadsAt f e d (value_of f n)
reads_same s f h c P Q e d z g n l =
    let q = home f h.named c n g.reached l.defined in
    let R : Option ValueRecord → Type 0 = λ o. ReadsAt f e d o in
    subst R (sym (found_value f h.named q.block q.value n q.stands q.named)) (go q (origin_of q.value.op.family) refl)
  where
    go : (q : Home f c n) (o : Origin) → origin_of q.value.op.family ≡ o → ReadsAlike o f e d q.value
    go q phi k = same_phi f c P Q e d z g n l q.value.id q.named
    go q result k = same_given s f h c P Q e d z g n l q k
    go q loaded k = same_window s f h c P Q e d z g n l q k
    go q argument k = tt
    go q argument_word k = tt
    go q address k = tt
    go q checked k = tt
    go q same k = tt
    go q computed k = tt

-- values that are defined at the block and need nothing that differs keep their numbers
pub steady : (s : Setting) (f : FuncRecord) → Sound s f → (c : BlockRecord) (P Q : ℕ → Type 0) → Differs f c P Q → (p : Program) (e d : Env) → Agree e d P Q →
    (n : ℕ) → IsDefinedAt f c n → IsSpared c P Q n → numbers p f e n ≡ numbers p f d n
steady s f h c P Q g p e d z n i t =
    frame p f (Stays f c P Q) (rank f) (stays_ranks s f h c P Q g) e d z.args (reads_same s f h c P Q e d z g) n (record { defined = i; spared = t })

-- so do values that are defined at the block and not in it
pub steady_before : (s : Setting) (f : FuncRecord) → Sound s f → (c : BlockRecord) (P Q : ℕ → Type 0) → Differs f c P Q → (p : Program) (e d : Env) → Agree e d P Q →
    (n : ℕ) → IsDefinedAt f c n → ¬ Defines c n → numbers p f e n ≡ numbers p f d n
steady_before s f h c P Q g p e d z n i out = steady s f h c P Q g p e d z n i (λ u v j k q. absurd (out (u, j, q)))
