-- Numbers that are known at a turn of a block: which stay, which are taken, and which come.
use Rattle.std.proofs.Common.{◌≡◌, ℕ, refl, ap, sym, ◌∙◌, subst, arith, ◌⊎◌, inl, inr, List, [], ◌∷◌, ◌++◌, length, map, Some, Bool, true, false}
use Rattle.std.specs.Prelude.{ℤ, is_some, if◌then◌else◌, unwrap_or, slice_index, slice_get}
use Rattle.std.specs.List.{Contains}
use Rattle.bk_ops.specs.Formulas.{Formula, no_value, formula, arm_formula, rv_formula}
use Rattle.bk_ops.specs.Values.{valued}
use Rattle.bk_ops.specs.declared.types.Target.{Target}
use Rattle.bk_ops.specs.declared.types.Ty.{Ty}
use Rattle.bk_ops.specs.Families.{is_call_result}
use Rattle.bk_ops.specs.declared.family.Family.{Family}
use Rattle.bk_ops.specs.declared.family.Family.TheVariants as op
use Rattle.bk_ops.specs.declared.family.ArmOp.TheVariants as arm
use Rattle.bk_ops.specs.declared.family.RvOp.TheVariants as rv
use Rattle.bk_func.specs.Records.{ValueRecord, BlockRecord, FuncRecord}
use Rattle.bk_func.specs.Numbers.{Program, Env, Origin, result, computed, origin_of, numbers, number_of, number_by}
use Rattle.bk_func.specs.Effects.{effect_of, has_effect}
use Rattle.bk_func.specs.Meaning.{World, Run, gives, stops, Activation, Calls, done_at, halted, fault_at}
use Rattle.bk_func.specs.Form.Text.{HasValue, Defines, IsPhi}
use Rattle.bk_func.specs.Form.Walks.{IsReached, IsDefinedAt}
use Rattle.bk_func.specs.Form.Before.{IsTakenBy, Needs, takes, through}
use Rattle.bk_func.specs.Form.Signatures.{Setting}
use Rattle.bk_func.proofs.Faults.{In}
use Rattle.bk_func.proofs.Flat.{one}
use Rattle.bk_func.proofs.Unique.{solved}
use Rattle.bk_places.proofs.Elements.{to_in, to_contains, in_either}
use Rattle.bk_mean.proofs.Named.{Once, got_in, found_value, borne}
use Rattle.bk_mean.proofs.Dominance.{defined_here, arguments_defined}
use Rattle.bk_mean.proofs.Roles.{result_args, result_calls, first_argument}
use Rattle.bk_mean.proofs.Formed.{Sound}
use Rattle.bk_mean.proofs.Ranks.{IsLive, rank, ranks}
use Rattle.bk_mean.proofs.Along.{IfGives, done_steady}
use Rattle.bk_mean.proofs.Laying.{Filled}
use Rattle.bk_mean.proofs.Filling.{filled_once, filled_after, done_needs_not, once_parts, halted_same}

-- what the value takes in its block was done
abbrev pub IsReady : BlockRecord → List ValueRecord → ValueRecord → Type 0
IsReady b pre u = (t : ValueRecord) → IsTakenBy b t u → In t pre

-- the value was done, or chooses by the edge, or is a result of a call that was done
abbrev pub IsSettled : BlockRecord → List ValueRecord → ValueRecord → Type 0
IsSettled b pre u = In u pre ⊎ IsPhi u ⊎ ((origin_of u.op.family ≡ result) × IsReady b pre u)

-- a number that is known in the block: it is defined there, and its value is settled if it stands in the block
pub record IsKnown (f : FuncRecord) (b : BlockRecord) (pre : List ValueRecord) (n : ℕ) : Type 0 where
  pub defined : IsDefinedAt f b n
  pub settled : (u : ValueRecord) → HasValue f b u → u.id ≡ n → IsSettled b pre u

-- the table has the known numbers
abbrev pub Knows : Program → FuncRecord → BlockRecord → List ValueRecord → (ℕ → ℕ) → Env → Type 0
Knows p f b pre m e = (n : ℕ) → IsKnown f b pre n → m n ≡ numbers p f e n

-- a value with an effect has no number of its own, but what a call gave for it
abbrev Blank : Family → ℕ → ℕ → ℤ → Target → Type 0
Blank o a b n t = (o ≡ op.SelectN) ⊎ ((origin_of o ≡ computed) × (formula o a b n t ≡ no_value))

blank : (o : Family) (ty : Ty) (a b : ℕ) (n : ℤ) (t : Target) → is_some (effect_of o ty) ≡ true → Blank o a b n t
unfolding formula arm_formula rv_formula
blank op.Store ty a b n t e = inr (refl, refl)
blank (op.Arm arm.Store) ty a b n t e = inr (refl, refl)
blank (op.Arm arm.StoreB) ty a b n t e = inr (refl, refl)
blank (op.Arm arm.Zero) ty a b n t e = inr (refl, refl)
blank (op.Arm arm.Move) ty a b n t e = inr (refl, refl)
blank (op.Rv rv.Store) ty a b n t e = inr (refl, refl)
blank (op.Rv rv.StoreB) ty a b n t e = inr (refl, refl)
blank (op.Rv rv.Zero) ty a b n t e = inr (refl, refl)
blank (op.Rv rv.Move) ty a b n t e = inr (refl, refl)
blank op.Zero ty a b n t e = inr (refl, refl)
blank op.Move ty a b n t e = inr (refl, refl)
blank op.PanicBounds ty a b n t e = inr (refl, refl)
blank op.StaticLECall ty a b n t e = inr (refl, refl)
blank op.Call ty a b n t e = inr (refl, refl)
blank op.CallRegs ty a b n t e = inr (refl, refl)
blank op.OutWord ty a b n t e = inr (refl, refl)
blank op.RetWord ty a b n t e = inr (refl, refl)
blank op.RetRegs ty a b n t e = inr (refl, refl)
blank op.Trap ty a b n t e = inr (refl, refl)
blank op.SelectN ty a b n t e = inl refl
blank (op.Arm _) ty a b n t e = absurd cc
blank (op.Rv _) ty a b n t e = absurd cc
blank _ ty a b n t e = absurd cc

-- the equation of a live number
equation : (s : Setting) (f : FuncRecord) → Sound s f → (p : Program) (b : BlockRecord) (v : ValueRecord) → HasValue f b v → IsReached f b → (e : Env) → numbers p f e v.id ≡ number_by (origin_of v.op.family) p f e (numbers p f e) v
equation s f h p b v i r e =
    solved p f e (IsLive f) (rank f) (ranks s f h) v.id (record { block = b; value = v; stands = i; named = refl; reached = r })
    ∙ ap (λ o. number_of o p f e (numbers p f e)) (found_value f h.named b v v.id i refl)

pub effect_number : (s : Setting) (f : FuncRecord) → Sound s f → (p : Program) (b : BlockRecord) (v : ValueRecord) → HasValue f b v → IsReached f b → has_effect v ≡ true → ¬ (v.op.family ≡ op.SelectN) → (e : Env) →
    numbers p f e v.id ≡ 0
effect_number s f h p b v i r a n e = equation s f h p b v i r e ∙ go (blank v.op.family v.ty v.op.a v.op.b v.int p.target a)
  where
    go : Blank v.op.family v.op.a v.op.b v.int p.target → number_by (origin_of v.op.family) p f e (numbers p f e) v ≡ 0
    go (inl o) = absurd (n o)
    go (inr (o, z)) =
        ap (λ (q : Origin). number_by q p f e (numbers p f e) v) o
        ∙ ap (λ (g : Formula). unwrap_or (valued g (map (numbers p f e) v.args)) 0) z

-- a turn

-- a block's values in a filled list, at the turn of one of them
pub record Turn (s : Setting) (f : FuncRecord) (b : BlockRecord) (level class : ValueRecord → ℕ) (pre : List ValueRecord) (v : ValueRecord) (post : List ValueRecord) : Type 0 where
  pub sound : Sound s f
  pub reached : IsReached f b
  pub list : List ValueRecord
  pub filled : Filled b level class b.values list
  pub parts : list ≡ pre ++ v ∷ post
  pub stands : HasValue f b v

module _ (s : Setting) (f : FuncRecord) (b : BlockRecord) (level class : ValueRecord → ℕ) (pre : List ValueRecord) (v : ValueRecord) (post : List ValueRecord) (c : Turn s f b level class pre v post) where
  pub not_done : ¬ In v pre
  not_done =
      (let P : List ValueRecord → Type 0 = λ ws. Once ws in
      (once_parts v pre post (subst P c.parts (filled_once b level class b.values c.list c.filled (c.sound.named.once b c.stands.0)))).0)

  done_apart : (u : ValueRecord) → In u pre → ¬ Needs b u v
  done_apart u i = done_needs_not s f c.sound b c.stands.0 level class c.list c.filled pre v post c.parts u i

  ready_apart : (u : ValueRecord) → IsReady b pre u → ¬ Needs b u v
  ready_apart u h (takes _ _ t) = not_done (h v t)
  ready_apart u h (through _ w _ t n) = done_apart w (h w t) n

  settled_apart : (u : ValueRecord) → IsSettled b pre u → ¬ Needs b u v
  settled_apart u (inl i) n = done_apart u i n
  settled_apart u (inr (inl q)) n = phi_apart n q
    where
      phi_apart : Needs b u v → IsPhi u → ⊥
      phi_apart (takes _ _ t) q = t.2 q
      phi_apart (through _ w _ t m) q = t.2 q
  settled_apart u (inr (inr q)) n = ready_apart u q.1 n

  -- known numbers stay over the turn
  pub known_steady : (calls : Calls) (p : Program) (a : Activation) (w : World) → IfGives (one calls p f v a w) (λ d x. (n : ℕ) → IsKnown f b pre n → numbers p f a.env n ≡ numbers p f d.env n)
  known_steady calls p a w = go (has_effect v) refl
    where
      acting : (q : Run Activation) → IfGives q (λ d x. (n : ℕ) → IsDefinedAt f b n → ((u : ValueRecord) → Contains b.values u → u.id ≡ n → ¬ Needs b u v) → numbers p f a.env n ≡ numbers p f d.env n) →
          IfGives q (λ d x. (n : ℕ) → IsKnown f b pre n → numbers p f a.env n ≡ numbers p f d.env n)
      acting (stops o d) k = tt
      acting (gives d x) k = λ n known. k n known.defined (λ u i e. settled_apart u (known.settled u (c.stands.0, i) e))

      quiet : (q : Run Activation) → IfGives q (λ d x. (d ≡ a) × (x ≡ w)) → IfGives q (λ d x. (n : ℕ) → IsKnown f b pre n → numbers p f a.env n ≡ numbers p f d.env n)
      quiet (stops o d) k = tt
      quiet (gives d x) k = λ n known. ap (λ (y : Activation). numbers p f y.env n) (sym k.0)

      go : (t : Bool) → has_effect v ≡ t →
          IfGives (if has_effect v then done_at calls p f v a w else halted (fault_at p.target (numbers p f a.env) w.window v) a w) (λ d x. (n : ℕ) → IsKnown f b pre n → numbers p f a.env n ≡ numbers p f d.env n)
      go true e = rw e (acting (done_at calls p f v a w) (done_steady s f c.sound calls p b v c.reached c.stands.1 a w))
      go false e = rw e (quiet (halted (fault_at p.target (numbers p f a.env) w.window v) a w) (halted_same (fault_at p.target (numbers p f a.env) w.window v) a w))

  -- the arguments of the value are known
  pub arguments_known : ¬ IsPhi v → (x : ℕ) → In x v.args → IsKnown f b pre x
  arguments_known q x i = record {
    defined = arguments_defined s f c.sound.named c.sound.uses b b v c.stands q (defined_here f b v.id (v, c.stands.1, refl)) x i;
    settled = λ u iu e.
        let P : ℕ → Type 0 = λ y. In y v.args in
        inl (filled_after b level class b.values c.list c.filled (λ y z j t. to_in z b.values t.0) pre v post c.parts u (iu.1, c.stands.1, q, to_contains u.id v.args (subst P (sym e) i)));
  }

  -- a table that knows the numbers has those of the arguments
  pub arguments_read : ¬ IsPhi v → (p : Program) (m : ℕ → ℕ) (e : Env) → Knows p f b pre m e → map m v.args ≡ map (numbers p f e) v.args
  arguments_read q p m e knows = go v.args (λ x i. i)
    where
      go : (xs : List ℕ) → ((x : ℕ) → In x xs → In x v.args) → map m xs ≡ map (numbers p f e) xs
      go [] h = refl
      go (x ∷ xs) h = let a = knows x (arguments_known q x (h x (inl refl))) in let d = go xs (λ y j. h y (inr j)) in cc

  -- what is known after the turn was known before it, or is the value, or a result of it
  pub known_after : (n : ℕ) → IsKnown f b (pre ++ v ∷ []) n → IsKnown f b pre n ⊎ (v.id ≡ n) ⊎ ((u : ValueRecord) × HasValue f b u × (u.id ≡ n) × (origin_of u.op.family ≡ result) × (slice_index u.args 0 ≡ v.id))
  known_after n known = cases (borne b.values n)
    where
      -- a value of the block with the number is the one
      only : (u : ValueRecord) → HasValue f b u → u.id ≡ n → IsSettled b pre u → IsKnown f b pre n
      only u i e k = record {
        defined = known.defined;
        settled = λ t it d. (let P : ValueRecord → Type 0 = λ z. IsSettled b pre z in subst P (c.sound.named.same_value b b u t i it (e ∙ sym d)) k);
      }

      -- of a result the call is what it takes
      of_call : (u : ValueRecord) → HasValue f b u → u.id ≡ n → origin_of u.op.family ≡ result → IsReady b (pre ++ v ∷ []) u → IsKnown f b pre n ⊎ (v.id ≡ n) ⊎ ((u : ValueRecord) × HasValue f b u × (u.id ≡ n) × (origin_of u.op.family ≡ result) × (slice_index u.args 0 ≡ v.id))
      of_call u i e o ready = call (c.sound.memory b u i).call
        where
          one_arg : length u.args ≡ 1
          one_arg = (result_args s f b u (c.sound.rows b u i) o).0

          got : slice_get u.args 0 ≡ Some (slice_index u.args 0)
          got = first_argument u 0 one_arg

          alone : (xs : List ℕ) → length xs ≡ 1 → (x : ℕ) → In x xs → x ≡ slice_index xs 0
          alone [] l x j = elim j [ ]
          alone (y ∷ []) l x (inl d) = sym d
          alone (y ∷ []) l x (inr j) = elim j [ ]
          alone (y ∷ z ∷ xs) l x j = absurd (omega (arith, l))

          pick : (t : ValueRecord) → HasValue f b t → t.id ≡ slice_index u.args 0 → In t pre ⊎ In t (v ∷ []) → IsKnown f b pre n ⊎ (v.id ≡ n) ⊎ ((u : ValueRecord) × HasValue f b u × (u.id ≡ n) × (origin_of u.op.family ≡ result) × (slice_index u.args 0 ≡ v.id))
          pick t it d (inl j) = inl (only u i e (inr (inr (
            o,
            λ x k.
                let same = c.sound.named.same_value b b t x it (c.stands.0, k.0) (d ∙ sym (alone u.args one_arg x.id (to_in x.id u.args k.3))) in
                (let P : ValueRecord → Type 0 = λ z. In z pre in subst P same j),
          ))))
          pick t it d (inr (inl q)) = inr (inr (u, i, e, o, sym d ∙ ap (λ (z : ValueRecord). z.id) (sym q)))
          pick t it d (inr (inr j)) = elim j [ ]

          call : (is_call_result u.op.family ≡ true → (x : ℕ) → slice_get u.args 0 ≡ Some x → Defines b x) →
              IsKnown f b pre n ⊎ (v.id ≡ n) ⊎ ((u : ValueRecord) × HasValue f b u × (u.id ≡ n) × (origin_of u.op.family ≡ result) × (slice_index u.args 0 ≡ v.id))
          call k =
              let t = k (result_calls u o) (slice_index u.args 0) got in
              let P : ℕ → Type 0 = λ y. In y u.args in
              let taken : IsTakenBy b t.0 u = (t.1, i.1, (λ q. let x = ap origin_of q in absurd cc), to_contains t.0.id u.args (subst P (sym t.2) (got_in u.args 0 (slice_index u.args 0) got))) in
              pick t.0 (c.stands.0, t.1) t.2 (in_either t.0 pre (v ∷ []) (ready t.0 taken))

      from : (u : ValueRecord) → HasValue f b u → u.id ≡ n → IsSettled b (pre ++ v ∷ []) u → IsKnown f b pre n ⊎ (v.id ≡ n) ⊎ ((u : ValueRecord) × HasValue f b u × (u.id ≡ n) × (origin_of u.op.family ≡ result) × (slice_index u.args 0 ≡ v.id))
      from u i e (inl j) = elim (in_either u pre (v ∷ []) j) as (λ _. IsKnown f b pre n ⊎ (v.id ≡ n) ⊎ ((u : ValueRecord) × HasValue f b u × (u.id ≡ n) × (origin_of u.op.family ≡ result) × (slice_index u.args 0 ≡ v.id))) [
        | inl k ↦ inl (only u i e (inl k))
        | inr k ↦ inr (inl (elim k as (λ _. v.id ≡ n) [ inl d ↦ ap (λ (z : ValueRecord). z.id) d ∙ e | inr x ↦ elim x [ ] ]))
      ]
      from u i e (inr (inl q)) = inl (only u i e (inr (inl q)))
      from u i e (inr (inr q)) = of_call u i e q.0 q.1

      cases : ((u : ValueRecord) × In u b.values × (u.id ≡ n)) ⊎ ((u : ValueRecord) → In u b.values → ¬ (u.id ≡ n)) →
          IsKnown f b pre n ⊎ (v.id ≡ n) ⊎ ((u : ValueRecord) × HasValue f b u × (u.id ≡ n) × (origin_of u.op.family ≡ result) × (slice_index u.args 0 ≡ v.id))
      cases (inl (u, i, e)) = let iu : HasValue f b u = (c.stands.0, to_contains u b.values i) in from u iu e (known.settled u iu e)
      cases (inr out) = inl (record { defined = known.defined; settled = λ u i e. absurd (out u (to_in u b.values i.1) e) })
