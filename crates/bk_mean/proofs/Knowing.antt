-- A table of numbers through a block: it knows the numbers that are known, turn by turn and over an edge.
use Rattle.std.proofs.Common.{◌≡◌, ℕ, refl, ap, sym, ◌∙◌, subst, ◌⊎◌, inl, inr, List, [], ◌∷◌, ◌++◌, Some, true, false}
use Rattle.std.specs.Prelude.{slice_get, slice_index}
use Rattle.std.proofs.lemmas.Bool.{cases_eq}
use Rattle.bk_ops.specs.Families.{is_word_call}
use Rattle.bk_ops.specs.declared.family.Family.{Family}
use Rattle.bk_ops.specs.declared.family.Family.TheVariants as op
use Rattle.bk_func.specs.Records.{ValueRecord, BlockRecord, FuncRecord}
use Rattle.bk_func.specs.Numbers.{Program, Env, result, origin_of, numbers}
use Rattle.bk_func.specs.Effects.{has_effect}
use Rattle.bk_func.specs.Meaning.{World, Run, gives, stops, Activation, Calls, entered, number_named}
use Rattle.bk_func.specs.Form.Text.{HasValue, Defines, IsPhi}
use Rattle.bk_func.specs.Form.Walks.{IsReached, IsDefinedAt}
use Rattle.bk_func.specs.Form.Before.{IsTakenBy}
use Rattle.bk_func.specs.Form.Signatures.{Setting}
use Rattle.bk_func.specs.Form.Shapes.{FitsPlace, slot, is_call_of}
use Rattle.bk_func.proofs.Faults.{In}
use Rattle.bk_func.proofs.Flat.{one}
use Rattle.bk_places.proofs.Elements.{to_in, to_contains}
use Rattle.bk_mean.proofs.Named.{got_in, borne}
use Rattle.bk_mean.proofs.Dominance.{defined_here, reached_block}
use Rattle.bk_mean.proofs.Roles.{result_args, result_families, result_calls, first_argument}
use Rattle.bk_mean.proofs.Formed.{Sound}
use Rattle.bk_mean.proofs.Along.{IfGives, IsShown, entered_steady}
use Rattle.bk_mean.proofs.Edges.{phi_entered}
use Rattle.bk_mean.proofs.Filling.{filled_after, done_closed, number_given, result_number}
use Rattle.bk_mean.proofs.Tables.{IsReady, IsSettled, IsKnown, Knows, Turn, not_done, known_steady, known_after, effect_number}

-- the value is a result of the call
abbrev pub IsResultOf : FuncRecord → BlockRecord → ValueRecord → ValueRecord → Type 0
IsResultOf f b v u = HasValue f b u × (origin_of u.op.family ≡ result) × (slice_index u.args 0 ≡ v.id)

abbrev pub IsCallFamily : Family → Type 0
IsCallFamily o = (o ≡ op.StaticLECall) ⊎ (o ≡ op.Call) ⊎ (o ≡ op.CallRegs)

of_select : (o : Family) → is_call_of op.SelectN o ≡ true → IsCallFamily o
of_select op.StaticLECall e = inl refl
of_select _ e = absurd cc

of_word : (o : Family) → is_word_call o ≡ true → IsCallFamily o
of_word op.Call e = inr (inl refl)
of_word op.CallRegs e = inr (inr refl)
of_word _ e = absurd cc

by_call : (s : Setting) (f : FuncRecord) (u v : ValueRecord) → (u.op.family ≡ op.SelectN) ⊎ (u.op.family ≡ op.ResWord) ⊎ (u.op.family ≡ op.ResReg) → FitsPlace s f u u.op.family 0 v → IsCallFamily v.op.family
unfolding FitsPlace slot
by_call s f u v (inl o) h = of_select v.op.family (ap (λ (z : Family). is_call_of z v.op.family) (sym o) ∙ (let P : Family → Type 0 = λ g. FitsPlace s f u g 0 v in subst P o h))
by_call s f u v (inr (inl o)) h = of_word v.op.family (ap (λ (z : Family). is_call_of z v.op.family) (sym o) ∙ (let P : Family → Type 0 = λ g. FitsPlace s f u g 0 v in subst P o h))
by_call s f u v (inr (inr o)) h = of_word v.op.family (ap (λ (z : Family). is_call_of z v.op.family) (sym o) ∙ (let P : Family → Type 0 = λ g. FitsPlace s f u g 0 v in subst P o h))

-- what has results is a call, and has an effect
pub call_families : (s : Setting) (f : FuncRecord) → Sound s f → (b : BlockRecord) (v u : ValueRecord) → HasValue f b v → IsResultOf f b v u → IsCallFamily v.op.family
call_families s f h b v u i (iu, o, e) =
    by_call s f u v (result_families u o) ((h.types b u iu).args 0 b v i (first_argument u 0 (result_args s f b u (h.rows b u iu) o).0 ∙ ap Some e))

pub call_acts : (s : Setting) (f : FuncRecord) → Sound s f → (b : BlockRecord) (v u : ValueRecord) → HasValue f b v → IsResultOf f b v u → has_effect v ≡ true
call_acts s f h b v u i q = go (call_families s f h b v u i q)
  where
    go : IsCallFamily v.op.family → has_effect v ≡ true
    go (inl d) = rw d refl
    go (inr (inl d)) = rw d refl
    go (inr (inr d)) = rw d refl

-- a result takes its call
pub result_takes : (s : Setting) (f : FuncRecord) → Sound s f → (b : BlockRecord) (v u : ValueRecord) → HasValue f b v → IsResultOf f b v u → IsTakenBy b v u
result_takes s f h b v u i (iu, o, e) =
    let P : ℕ → Type 0 = λ x. In x u.args in
    (i.1, iu.1, (λ q. let d = ap origin_of q in absurd cc), to_contains v.id u.args (subst P e (got_in u.args 0 (slice_index u.args 0) (first_argument u 0 (result_args s f b u (h.rows b u iu) o).0))))

module _ (s : Setting) (f : FuncRecord) (b : BlockRecord) (level class : ValueRecord → ℕ) (pre : List ValueRecord) (v : ValueRecord) (post : List ValueRecord) (c : Turn s f b level class pre v post) where
  -- results of the value are not known before its turn
  result_unknown : (u : ValueRecord) → IsResultOf f b v u → ¬ IsKnown f b pre u.id
  result_unknown u q known = go (known.settled u q.0 refl)
    where
      taken : IsTakenBy b v u
      taken = result_takes s f c.sound b v u c.stands q

      go : IsSettled b pre u → ⊥
      go (inl i) = not_done s f b level class pre v post c (done_closed b level class c.list c.filled pre (v ∷ post) c.parts u v i taken)
      go (inr (inl p)) = let o = q.1 in let d = ap origin_of p in absurd cc
      go (inr (inr r)) = not_done s f b level class pre v post c (r.1 v taken)

  -- a value without an effect in its turn
  pub knows_quiet : (p : Program) (m n : ℕ → ℕ) (e : Env) → has_effect v ≡ false → Knows p f b pre m e → ((x : ℕ) → ¬ (x ≡ v.id) → n x ≡ m x) → n v.id ≡ numbers p f e v.id → Knows p f b (pre ++ v ∷ []) n e
  knows_quiet p m n e q knows same own x known = go (known_after s f b level class pre v post c x known) (cases_eq x v.id)
    where
      go : IsKnown f b pre x ⊎ (v.id ≡ x) ⊎ ((u : ValueRecord) × HasValue f b u × (u.id ≡ x) × (origin_of u.op.family ≡ result) × (slice_index u.args 0 ≡ v.id)) → (x ≡ v.id) ⊎ (x ≡ v.id → ⊥) → n x ≡ numbers p f e x
      go k (inl d) = (let P : ℕ → Type 0 = λ y. n y ≡ numbers p f e y in subst P (sym d) own)
      go (inl k) (inr d) = same x d ∙ knows x k
      go (inr (inl k)) (inr d) = absurd (d (sym k))
      go (inr (inr (u, i, k, o, l))) (inr d) = let a = call_acts s f c.sound b v u c.stands (i, o, l) in absurd cc

  -- a value with an effect: its results take what the call gave
  pub knows_effect : (calls : Calls) (p : Program) (m n : ℕ → ℕ) (a : Activation) (w : World) → has_effect v ≡ true → Knows p f b pre m a.env → (¬ (v.op.family ≡ op.SelectN) → n v.id ≡ 0) →
      ((x : ℕ) → ((u : ValueRecord) → IsResultOf f b v u → ¬ (u.id ≡ x)) → n x ≡ m x) →
      IfGives (one calls p f v a w) (λ d y. ((u : ValueRecord) → IsResultOf f b v u → n u.id ≡ number_given p f u (d.env.given v.id)) → Knows p f b (pre ++ v ∷ []) n d.env)
  knows_effect calls p m n a w q knows own same = go (one calls p f v a w) (known_steady s f b level class pre v post c calls p a w)
    where
      go : (r : Run Activation) → IfGives r (λ d y. (x : ℕ) → IsKnown f b pre x → numbers p f a.env x ≡ numbers p f d.env x) →
          IfGives r (λ d y. ((u : ValueRecord) → IsResultOf f b v u → n u.id ≡ number_given p f u (d.env.given v.id)) → Knows p f b (pre ++ v ∷ []) n d.env)
      go (stops o d) k = tt
      go (gives d y) k = λ results x known. by results x (known_after s f b level class pre v post c x known)
        where
          before : (x : ℕ) → IsKnown f b pre x → n x ≡ numbers p f d.env x
          before x known =
              let P : ℕ → Type 0 = λ z. IsKnown f b pre z in
              same x (λ u r e. result_unknown u r (subst P (sym e) known)) ∙ knows x known ∙ k x known

          selected : (g : Family) → (g ≡ op.SelectN) ⊎ ¬ (g ≡ op.SelectN)
          selected op.SelectN = inl refl
          selected _ = inr (λ e. cc)

          itself : (v.op.family ≡ op.SelectN) ⊎ ¬ (v.op.family ≡ op.SelectN) → n v.id ≡ numbers p f d.env v.id
          itself (inr o) = own o ∙ sym (effect_number s f c.sound p b v c.stands c.reached q o d.env)
          itself (inl o) = before v.id (record { defined = own_defined; settled = λ u i e. mine u i e o })
            where
              own_defined : IsDefinedAt f b v.id
              own_defined = defined_here f b v.id (v, c.stands.1, refl)

              mine : (u : ValueRecord) → HasValue f b u → u.id ≡ v.id → v.op.family ≡ op.SelectN → IsSettled b pre u
              mine u i e o =
                  let d = c.sound.named.same_value b b v u c.stands i (sym e) in
                  let P : ValueRecord → Type 0 = λ z. IsSettled b pre z in
                  subst P d (inr (inr (ap origin_of o, λ t k. filled_after b level class b.values c.list c.filled (λ y z j l. to_in z b.values l.0) pre v post c.parts t k)))

          by : ((u : ValueRecord) → IsResultOf f b v u → n u.id ≡ number_given p f u (d.env.given v.id)) → (x : ℕ) →
              IsKnown f b pre x ⊎ (v.id ≡ x) ⊎ ((u : ValueRecord) × HasValue f b u × (u.id ≡ x) × (origin_of u.op.family ≡ result) × (slice_index u.args 0 ≡ v.id)) → n x ≡ numbers p f d.env x
          by results x (inl known) = before x known
          by results x (inr (inl e)) = (let P : ℕ → Type 0 = λ z. n z ≡ numbers p f d.env z in subst P e (itself (selected v.op.family)))
          by results x (inr (inr (u, i, e, o, l))) =
              let P : ℕ → Type 0 = λ z. n z ≡ numbers p f d.env z in
              subst P e (results u (i, o, l) ∙ sym (result_number s f c.sound p b u i c.reached o d ∙ ap (λ z. number_given p f u (d.env.given z)) l))

-- at the end of a block all that is defined there is known
pub knows_end : (s : Setting) (f : FuncRecord) (b : BlockRecord) (ls : List ValueRecord) → ((u : ValueRecord) → HasValue f b u → In u ls) → (p : Program) (m : ℕ → ℕ) (e : Env) → Knows p f b ls m e →
    (n : ℕ) → IsDefinedAt f b n → m n ≡ numbers p f e n
knows_end s f b ls all p m e knows n d = knows n (record { defined = d; settled = λ u i k. inl (all u i) })

-- where a block is entered, a table that had what is defined before knows what is known, once the phis have theirs
pub knows_entered : (s : Setting) (f : FuncRecord) → Sound s f → (p : Program) (b : BlockRecord) → IsReached f b → (place : ℕ) (a : Activation) (w : World) → IsShown a w → (m n : ℕ → ℕ) →
    ((x : ℕ) → IsDefinedAt f b x → ¬ Defines b x → m x ≡ numbers p f a.env x) →
    ((x : ℕ) → ((u : ValueRecord) → HasValue f b u → IsPhi u → ¬ (u.id ≡ x)) → n x ≡ m x) →
    ((u : ValueRecord) → HasValue f b u → IsPhi u → n u.id ≡ number_named (numbers p f a.env) (slice_get u.args place)) →
    Knows p f b [] n (entered p f b place a w).env
knows_entered s f h p b r place a w shown m n before same phis x known = go (borne b.values x)
  where
    -- a result's call stands in the block, and was not done
    no_result : (u : ValueRecord) → HasValue f b u → origin_of u.op.family ≡ result → IsReady b [] u → ⊥
    no_result u i o ready =
        let got = first_argument u 0 (result_args s f b u (h.rows b u i) o).0 in
        let t = (h.memory b u i).call (result_calls u o) (slice_index u.args 0) got in
        ready t.0 (result_takes s f h b t.0 u (i.0, t.1) (i, o, sym t.2))

    of_phi : (u : ValueRecord) → HasValue f b u → u.id ≡ x → IsPhi u → n x ≡ numbers p f (entered p f b place a w).env x
    of_phi u i e q =
        let P : ℕ → Type 0 = λ z. n z ≡ numbers p f (entered p f b place a w).env z in
        subst P e (phis u i q ∙ sym (phi_entered s f h p b u i r q place a w))

    go : ((u : ValueRecord) × In u b.values × (u.id ≡ x)) ⊎ ((u : ValueRecord) → In u b.values → ¬ (u.id ≡ x)) → n x ≡ numbers p f (entered p f b place a w).env x
    go (inl (u, i, e)) =
        let iu : HasValue f b u = (reached_block f b r, to_contains u b.values i) in
        elim (known.settled u iu e) as (λ _. n x ≡ numbers p f (entered p f b place a w).env x) [
          | inl j ↦ elim j [ ]
          | inr q ↦ (elim q as (λ _. n x ≡ numbers p f (entered p f b place a w).env x) [
            | inl k ↦ of_phi u iu e k
            | inr k ↦ absurd (no_result u iu k.0 k.1)
          ])
        ]
    go (inr out) =
        let other : ¬ Defines b x = λ q. out q.0 (to_in q.0 b.values q.1) q.2 in
        same x (λ u i q e. out u (to_in u b.values i.1) e) ∙ before x known.defined other ∙ entered_steady s f h p b r place a w shown x known.defined other
