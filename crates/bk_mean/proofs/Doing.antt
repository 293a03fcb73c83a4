-- One value in its turn does what it means.
use Rattle.std.proofs.Common.{◌≡◌, ℕ, ◌+◌, refl, ap, sym, ◌∙◌, subst, arith, ◌⊎◌, inl, inr, List, [], ◌∷◌, ◌++◌, length, map, Option, Some, None, Bool, true, false, eq-eqb}
use Rattle.std.proofs.Math.ListN.{length-set}
use Rattle.std.specs.Prelude.{slice_index, slice_set, is_some, if◌then◌else◌}
use Rattle.bk_ops.specs.declared.types.Target.{Target}
use Rattle.bk_ops.specs.declared.family.Family.{Family}
use Rattle.bk_ops.specs.declared.family.Family.TheVariants as op
use Rattle.bk_ops.specs.declared.family.ArmOp.TheVariants as arm
use Rattle.bk_ops.specs.declared.family.RvOp.TheVariants as rv
use Rattle.bk_func.specs.Records.{ValueRecord, BlockRecord, FuncRecord}
use Rattle.bk_func.specs.Numbers.{Program, Env, Origin, phi, argument, argument_word, result, address, loaded, checked, same, computed, origin_of, numbers, number_of, number_by, room}
use Rattle.bk_func.specs.Effects.{Effect, store, zeros, move, panic_bounds, call, call_words, out_word, ret_word, ret_words, trap, pass, effect_of, has_effect, chain_from, is_phi, is_check, is_load}
use Rattle.bk_func.specs.Meaning.{trapped, wild, World, Run, gives, stops, bind, Activation, Calls, put, fault_by, fault_at, halted, done_by, done_at, in_state, first_state}
use Rattle.bk_func.specs.declared.form.FormKind.TheVariants.{Missing}
use Rattle.bk_func.specs.Form.{IsFormed}
use Rattle.bk_func.specs.Form.Text.{HasValue, IsPhi}
use Rattle.bk_func.specs.Form.Walks.{IsReached}
use Rattle.bk_func.specs.Form.Signatures.{Setting}
use Rattle.bk_func.proofs.Flat.{Laid, one}
use Rattle.bk_func.proofs.Unique.{solved}
use Rattle.bk_mean.specs.Numbering.{place_in}
use Rattle.bk_mean.specs.Ready.{IsReadyValue}
use Rattle.bk_mean.specs.Seen.{word_in}
use Rattle.bk_mean.specs.Step.{Reads, Stands, IsSettled, IsActed, IsCalling, IsNoCall, Sees, settled, fault_of, with_words, seeing, after_run}
use Rattle.bk_mean.specs.Turned.{Stage, Ground, IsTurn}
use Rattle.bk_mean.specs.declared.step.After.{After}
use Rattle.bk_mean.specs.declared.step.After.TheVariants.{On, Trap, Wild, Call}
use Rattle.bk_mean.specs.declared.step.CallWords.{CallWords}
use Rattle.bk_mean.specs.declared.ready.ReadyValue.{ReadyValue}
use Rattle.bk_places.proofs.Elements.{to_in}
use Rattle.bk_mean.proofs.Named.{found_value}
use Rattle.bk_mean.proofs.Dominance.{defined_here}
use Rattle.bk_mean.proofs.Roles.{load_args, check_args, copy_args, same_copies, no_phi, result_families}
use Rattle.bk_mean.proofs.Formed.{Sound, sound}
use Rattle.bk_mean.proofs.Ranks.{IsLive, rank, ranks}
use Rattle.bk_mean.proofs.Chains.{effect_no_phi}
use Rattle.bk_mean.proofs.Levels.{acts, asks, ask_acts}
use Rattle.bk_mean.proofs.Laying.{Filled, Placed}
use Rattle.bk_mean.proofs.Along.{IfGives, IsShown}
use Rattle.bk_mean.proofs.Walked.{Arrives, arrives_reached}
use Rattle.bk_mean.proofs.Filling.{number_given, memory_after, filled_after, placed_state}
use Rattle.bk_mean.proofs.Tables.{IsKnown, IsSettled as IsDone, Knows, Turn, arguments_read}
use Rattle.bk_mean.proofs.Knowing.{IsResultOf, IsCallFamily, call_families, knows_quiet, knows_effect}
use Rattle.bk_mean.proofs.Acting.{load_small, store_acted, zeros_acted, move_acted, out_acted, ret_acted, trap_acted}
use Rattle.bk_mean.proofs.Tabled.{table, table_own, table_other, table_read}

-- the values of a block in the order in which they are done, where walks lead to the block with a state
pub record Order (s : Setting) (f : FuncRecord) (b : BlockRecord) (m : ℕ) (level class : ValueRecord → ℕ) (ls : List ValueRecord) : Type 0 where
  pub formed : IsFormed s f
  pub arrives : Arrives f b m
  pub laid : Laid f b (first_state b m) (chain_from f b (first_state b m)) ls
  pub placed : Placed f (first_state b m) ls
  pub filled : Filled b level class b.values ls

-- values with an effect that take no result have the number 0
abbrev pub IsBlank : FuncRecord → List ℕ → Type 0
IsBlank f numbers = (c : BlockRecord) (u : ValueRecord) → HasValue f c u → has_effect u ≡ true → ¬ (u.op.family ≡ op.SelectN) → table f numbers u.id ≡ 0

-- a run is in a block where some values were done
pub record IsAt (p : Program) (f : FuncRecord) (b : BlockRecord) (m : ℕ) (g : Ground) (pre : List ValueRecord) (t : Stage) (a : Activation) (w : World) : Type 0 where
  pub target : p.target ≡ g.target
  pub args : a.env.args ≡ g.args
  pub knows : Knows p f b pre (table f t.numbers) a.env
  pub blank : IsBlank f t.numbers
  pub long : length t.numbers ≡ room f + 1
  pub memory : a.memory ≡ memory_after (first_state b m) pre
  pub shown : IsShown a w
  pub window : w.window ≡ t.window
  pub out : a.out ≡ word_in t.words.out
  pub back : a.back ≡ word_in t.words.back
  pub regs : a.regs ≡ t.words.regs.items

-- what a run comes to, where that comes after a value
abbrev pub Comes : After → Run Activation → (Activation → World → Type 0) → List ℕ → Type 0
Comes On r R d = (a : Activation) × (w : World) × (r ≡ gives a w) × R a w
Comes (Trap n) r R d = r ≡ stops (trapped n) d
Comes (Wild n) r R d = r ≡ stops (wild n) d
Comes Call r R d = Unit {0}

pub stage_same : (t u : Stage) → u.numbers ≡ t.numbers → u.window ≡ t.window → u.words ≡ t.words → u ≡ t
stage_same t u n w c =
    ap (λ (x : List ℕ). record { numbers = x; window = u.window; words = u.words }) n
    ∙ ap (λ (x : List ℕ). record { numbers = t.numbers; window = x; words = u.words }) w
    ∙ ap (λ (x : CallWords). record { numbers = t.numbers; window = t.window; words = x }) c

memory_end : (n : ℕ) (pre : List ValueRecord) (v : ValueRecord) → memory_after n (pre ++ v ∷ []) ≡ (if has_effect v then v.id else memory_after n pre)
memory_end n [] v = refl
memory_end n (u ∷ pre) v = memory_end (if has_effect u then u.id else n) pre v

phi_origin : (o : Origin) → is_phi o ≡ true → o ≡ phi
phi_origin phi e = refl
phi_origin argument e = absurd cc
phi_origin argument_word e = absurd cc
phi_origin result e = absurd cc
phi_origin address e = absurd cc
phi_origin loaded e = absurd cc
phi_origin checked e = absurd cc
phi_origin same e = absurd cc
phi_origin computed e = absurd cc

pub phi_family : (o : Family) → is_phi (origin_of o) ≡ true → o ≡ op.Phi
phi_family op.Phi e = refl
phi_family (op.Arm arm.Load) e = absurd cc
phi_family (op.Rv rv.Load) e = absurd cc
phi_family (op.Arm _) e = absurd cc
phi_family (op.Rv _) e = absurd cc
phi_family _ e = absurd cc

-- calls are told by their effects
call_or_not : (y : Effect) → IsCalling y ⊎ ¬ IsCalling y
call_or_not store = inr (λ z. z)
call_or_not zeros = inr (λ z. z)
call_or_not move = inr (λ z. z)
call_or_not panic_bounds = inr (λ z. z)
call_or_not call = inl tt
call_or_not call_words = inl tt
call_or_not out_word = inr (λ z. z)
call_or_not ret_word = inr (λ z. z)
call_or_not ret_words = inr (λ z. z)
call_or_not trap = inr (λ z. z)
call_or_not pass = inr (λ z. z)

-- a result with an effect selects memory
result_selects : (z : ValueRecord) → origin_of z.op.family ≡ result → has_effect z ≡ true → z.op.family ≡ op.SelectN
result_selects z o e = elim (result_families z o) as (λ _. z.op.family ≡ op.SelectN) [
  | inl k ↦ k
  | inr k ↦ absurd (words k)
]
  where
    words : (z.op.family ≡ op.ResWord) ⊎ (z.op.family ≡ op.ResReg) → ⊥
    words (inl k) = let q = ap (λ (y : Family). is_some (effect_of y z.ty)) k in cc
    words (inr k) = let q = ap (λ (y : Family). is_some (effect_of y z.ty)) k in cc

-- a value that has results calls a function
results_call : (s : Setting) (f : FuncRecord) → Sound s f → (b : BlockRecord) (v z : ValueRecord) → HasValue f b v → IsResultOf f b v z → (effect_of v.op.family v.ty ≡ Some call) ⊎ (effect_of v.op.family v.ty ≡ Some call_words)
results_call s f h b v z i q = go (call_families s f h b v z i q)
  where
    go : IsCallFamily v.op.family → (effect_of v.op.family v.ty ≡ Some call) ⊎ (effect_of v.op.family v.ty ≡ Some call_words)
    go (inl k) = inl (ap (λ (y : Family). effect_of y v.ty) k)
    go (inr (inl k)) = inr (ap (λ (y : Family). effect_of y v.ty) k)
    go (inr (inr k)) = inr (ap (λ (y : Family). effect_of y v.ty) k)

pub put_there : (h : ℕ → List ℕ) (n : ℕ) (d : List ℕ) → put h n d n ≡ d
put_there h n d = rw (eq-eqb n n refl) refl

module _ (p : Program) (s : Setting) (f : FuncRecord) (b : BlockRecord) (m : ℕ) (level class : ValueRecord → ℕ) (ls : List ValueRecord) (o : Order s f b m level class ls) (pre : List ValueRecord) (v : ValueRecord) (post : List ValueRecord) (parts : ls ≡ pre ++ v ∷ post) (stands : HasValue f b v) where
  h : Sound s f
  h = sound s f o.formed

  reached : IsReached f b
  reached = arrives_reached f b m o.arrives

  turn : Turn s f b level class pre v post
  turn = record { sound = sound s f o.formed; reached = arrives_reached f b m o.arrives; list = ls; filled = o.filled; parts = parts; stands = stands }

  own_number : (e : Env) → numbers p f e v.id ≡ number_by (origin_of v.op.family) p f e (numbers p f e) v
  own_number e =
      solved p f e (IsLive f) (rank f) (ranks s f h) v.id (record { block = b; value = v; stands = stands; named = refl; reached = reached })
      ∙ ap (λ x. number_of x p f e (numbers p f e)) (found_value f h.named b v v.id stands refl)

  -- the value is settled before its turn if it is a phi or a result
  known : IsDone b pre v → IsKnown f b pre v.id
  known d = record {
    defined = defined_here f b v.id (v, stands.1, refl);
    settled = λ u i e. (let P : ValueRecord → Type 0 = λ z. IsDone b pre z in subst P (h.named.same_value b b v u stands i (sym e)) d);
  }

  known_phi : origin_of v.op.family ≡ phi → IsPhi v → IsKnown f b pre v.id
  known_phi e q = known (inr (inl q))

  known_result : origin_of v.op.family ≡ result → IsKnown f b pre v.id
  known_result e = known (inr (inr (e, λ u t. filled_after b level class b.values ls o.filled (λ x y j l. to_in y b.values l.0) pre v post parts u t)))

  settles : (t : Target) → effect_of v.op.family v.ty ≡ None → IsSettled (origin_of v.op.family) t v
  settles t none = go (origin_of v.op.family) refl
    where
      go : (q : Origin) → origin_of v.op.family ≡ q → IsSettled q t v
      go phi e = tt
      go argument e = tt
      go argument_word e = tt
      go result e = tt
      go address e = tt
      go loaded e = (let k = (load_args s f b v (h.rows b v stands) (ap is_load e)).0 in omega (arith, k), load_small s f h b v stands (ap is_load e) t)
      go checked e = let k = (check_args s f b v (h.rows b v stands) (ap is_check e)).0 in omega (arith, k)
      go same e = let k = (copy_args s f b v (h.rows b v stands) (same_copies v e)).0 in omega (arith, k)
      go computed e = (h.rows b v stands).op

  acted : (t : Target) (y : Effect) → effect_of v.op.family v.ty ≡ Some y → ¬ IsCalling y → IsActed y t v
  acted t store e n = store_acted s f h b v stands e t
  acted t zeros e n = zeros_acted s f h b v stands e
  acted t move e n = move_acted s f h b v stands e
  acted t panic_bounds e n = tt
  acted t call e n = absurd (n tt)
  acted t call_words e n = absurd (n tt)
  acted t out_word e n = out_acted s f h b v stands e
  acted t ret_word e n = ret_acted s f h b v stands e
  acted t ret_words e n = tt
  acted t trap e n = let k = trap_acted s f h b v stands e in omega (arith, k)
  acted t pass e n = tt

  module _ (g : Ground) (r : ReadyValue) (ready : IsReadyValue p.pkg f v r) (t u : Stage) (x : After) (does : IsTurn g v r (place_in f v.id) t u x) (a : Activation) (w : World) (here : IsAt p f b m g pre t a w) where
    on : Stands p a.env g.target g.args
    on = record { target = here.target; args = here.args }

    table_reads : (k : ℕ → ℕ) → map (table f t.numbers) v.args ≡ map k v.args → Reads t.numbers r.args.items k v.args
    table_reads k e = record { same = ap (map (slice_index t.numbers)) ready.args ∙ table_read f t.numbers v.args ∙ e }

    reads : ¬ IsPhi v → Reads t.numbers r.args.items (numbers p f a.env) v.args
    reads q = table_reads (numbers p f a.env) (arguments_read s f b level class pre v post turn q p (table f t.numbers) a.env here.knows)

    -- where the run goes on
    abbrev GoesOn : List ℕ → Activation → World → Type 0
    GoesOn d c y = IsAt p f b m g (pre ++ v ∷ []) u c y × (c.stack ≡ a.stack) × (y.left ≡ w.left)

    -- a value with no effect

    fault : effect_of v.op.family v.ty ≡ None → fault_of x ≡ fault_at p.target (numbers p f a.env) w.window v
    fault none = go (is_phi (origin_of v.op.family)) refl
      where
        go : (q : Bool) → is_phi (origin_of v.op.family) ≡ q → fault_of x ≡ fault_at p.target (numbers p f a.env) w.window v
        go true e =
            does.fault none p f a.env (table f t.numbers) on (table_reads (table f t.numbers) refl) (settles g.target none)
            ∙ ap (λ (z : Origin). fault_by z g.target (table f t.numbers) t.window v) (phi_origin (origin_of v.op.family) e)
            ∙ ap (λ (z : Origin). fault_by z p.target (numbers p f a.env) w.window v) (sym (phi_origin (origin_of v.op.family) e))
        go false e =
            does.fault none p f a.env (numbers p f a.env) on (reads (no_phi v e)) (settles g.target none)
            ∙ ap (λ (z : Target). fault_by (origin_of v.op.family) z (numbers p f a.env) t.window v) (sym here.target)
            ∙ ap (λ (z : List ℕ). fault_by (origin_of v.op.family) p.target (numbers p f a.env) z v) (sym here.window)

    sees : Sees f a.env t.window (origin_of v.op.family) v
    sees = go (origin_of v.op.family) refl
      where
        go : (q : Origin) → origin_of v.op.family ≡ q → Sees f a.env t.window q v
        go loaded e =
            let k : acts v ≡ true = ask_acts v (let q : asks v ≡ true = rw e refl in q) in
            (memory_after (first_state b m) pre, placed_state f (first_state b m) ls o.placed pre v post parts k, ap a.env.windows (sym here.memory) ∙ here.shown ∙ here.window)
        go _ e = tt

    -- the number of the value is there, and others stay
    abbrev Changed : Type 0
    Changed = ((n : ℕ) → ¬ (n ≡ v.id) → table f u.numbers n ≡ table f t.numbers n) × (table f u.numbers v.id ≡ numbers p f a.env v.id)

    unchanged : u.numbers ≡ t.numbers → IsKnown f b pre v.id → Changed
    unchanged e k = (λ n d. ap (λ z. table f z n) e, ap (λ z. table f z v.id) e ∙ here.knows v.id k)

    changed : u.numbers ≡ slice_set t.numbers (place_in f v.id) (numbers p f a.env v.id) → Changed
    changed e = (
      λ n d. ap (λ z. table f z n) e ∙ table_other s f (o.formed.kinds Missing) b v stands t.numbers (numbers p f a.env v.id) n d,
      ap (λ z. table f z v.id) e ∙ table_own s f (o.formed.kinds Missing) b v stands t.numbers (let l = here.long in omega (arith, l)) (numbers p f a.env v.id),
    )

    long_after : u.numbers ≡ settled (origin_of v.op.family) t.numbers (place_in f v.id) (numbers p f a.env v.id) → length u.numbers ≡ room f + 1
    long_after e = go (origin_of v.op.family) e
      where
        put_long : u.numbers ≡ slice_set t.numbers (place_in f v.id) (numbers p f a.env v.id) → length u.numbers ≡ room f + 1
        put_long k = let l = here.long in let q = ap length k in omega (arith, l, q, length-set {A = ℕ})

        go : (q : Origin) → u.numbers ≡ settled q t.numbers (place_in f v.id) (numbers p f a.env v.id) → length u.numbers ≡ room f + 1
        go phi k = let l = here.long in let q = ap length k in omega (arith, l, q)
        go result k = let l = here.long in let q = ap length k in omega (arith, l, q)
        go argument k = put_long k
        go argument_word k = put_long k
        go address k = put_long k
        go loaded k = put_long k
        go checked k = put_long k
        go same k = put_long k
        go computed k = put_long k

    settled_number : effect_of v.op.family v.ty ≡ None → fault_of x ≡ None → u.numbers ≡ settled (origin_of v.op.family) t.numbers (place_in f v.id) (numbers p f a.env v.id)
    settled_number none quiet = go (is_phi (origin_of v.op.family)) refl
      where
        go : (q : Bool) → is_phi (origin_of v.op.family) ≡ q → u.numbers ≡ settled (origin_of v.op.family) t.numbers (place_in f v.id) (numbers p f a.env v.id)
        go true e =
            let k = phi_origin (origin_of v.op.family) e in
            does.number none p f a.env (table f t.numbers) on ready.address (table_reads (table f t.numbers) refl) (settles g.target none) sees quiet
            ∙ ap (λ (z : Origin). settled z t.numbers (place_in f v.id) (number_by (origin_of v.op.family) p f a.env (table f t.numbers) v)) k
            ∙ ap (λ (z : Origin). settled z t.numbers (place_in f v.id) (numbers p f a.env v.id)) (sym k)
        go false e =
            does.number none p f a.env (numbers p f a.env) on ready.address (reads (no_phi v e)) (settles g.target none) sees quiet
            ∙ ap (λ z. settled (origin_of v.op.family) t.numbers (place_in f v.id) z) (sym (own_number a.env))

    now_changed : effect_of v.op.family v.ty ≡ None → fault_of x ≡ None → Changed
    now_changed none quiet = go (origin_of v.op.family) refl (settled_number none quiet)
      where
        go : (q : Origin) → origin_of v.op.family ≡ q → u.numbers ≡ settled q t.numbers (place_in f v.id) (numbers p f a.env v.id) → Changed
        go phi e k = unchanged k (known_phi e (phi_family v.op.family (ap is_phi e)))
        go result e k = unchanged k (known_result e)
        go argument e k = changed k
        go argument_word e k = changed k
        go address e k = changed k
        go loaded e k = changed k
        go checked e k = changed k
        go same e k = changed k
        go computed e k = changed k

    -- an effect writes no number, and only values with an effect have to have none
    blank_after : u.numbers ≡ settled (origin_of v.op.family) t.numbers (place_in f v.id) (numbers p f a.env v.id) → has_effect v ≡ false → IsBlank f u.numbers
    blank_after e q c z i act sel = go (origin_of v.op.family) e ∙ here.blank c z i act sel
      where
        apart : ¬ (z.id ≡ v.id)
        apart d = let k = h.named.same_value c b z v i stands d in let x = ap has_effect k in absurd cc

        other : u.numbers ≡ slice_set t.numbers (place_in f v.id) (numbers p f a.env v.id) → table f u.numbers z.id ≡ table f t.numbers z.id
        other k = ap (λ y. table f y z.id) k ∙ table_other s f (o.formed.kinds Missing) b v stands t.numbers (numbers p f a.env v.id) z.id apart

        go : (y : Origin) → u.numbers ≡ settled y t.numbers (place_in f v.id) (numbers p f a.env v.id) → table f u.numbers z.id ≡ table f t.numbers z.id
        go phi k = ap (λ y. table f y z.id) k
        go result k = ap (λ y. table f y z.id) k
        go argument k = other k
        go argument_word k = other k
        go address k = other k
        go loaded k = other k
        go checked k = other k
        go same k = other k
        go computed k = other k

    quiet_on : effect_of v.op.family v.ty ≡ None → fault_of x ≡ None → GoesOn u.window a w
    quiet_on none quiet = (
      record {
        target = here.target;
        args = here.args;
        knows = (let q = now_changed none quiet in knows_quiet s f b level class pre v post turn p (table f t.numbers) (table f u.numbers) a.env (ap is_some none) here.knows q.0 q.1);
        blank = blank_after (settled_number none quiet) (ap is_some none);
        long = long_after (settled_number none quiet);
        memory = here.memory ∙ sym (memory_end (first_state b m) pre v ∙ ap (λ z. if z then v.id else memory_after (first_state b m) pre) (ap is_some none));
        shown = here.shown;
        window = here.window ∙ sym (does.quiet none).0;
        out = here.out ∙ ap (λ (z : CallWords). word_in z.out) (sym (does.quiet none).1);
        back = here.back ∙ ap (λ (z : CallWords). word_in z.back) (sym (does.quiet none).1);
        regs = here.regs ∙ ap (λ (z : CallWords). z.regs.items) (sym (does.quiet none).1);
      },
      refl,
      refl,
    )

    quiet_one : (calls : Calls) → effect_of v.op.family v.ty ≡ None → one calls p f v a w ≡ halted (fault_of x) a w
    quiet_one calls none =
        ap (λ z. if z then done_at calls p f v a w else halted (fault_at p.target (numbers p f a.env) w.window v) a w) (ap is_some none)
        ∙ ap (λ z. halted z a w) (sym (fault none))

    quiet_window : effect_of v.op.family v.ty ≡ None → w.window ≡ u.window
    quiet_window none = here.window ∙ sym (does.quiet none).0

    quiet : (calls : Calls) → effect_of v.op.family v.ty ≡ None → Comes x (one calls p f v a w) (GoesOn u.window) u.window
    quiet calls none = go x refl
      where
        go : (y : After) → x ≡ y → Comes y (one calls p f v a w) (GoesOn u.window) u.window
        go On e = (a, w, quiet_one calls none ∙ ap (λ (z : After). halted (fault_of z) a w) e, quiet_on none (ap fault_of e))
        go (Trap n) e = quiet_one calls none ∙ ap (λ (z : After). halted (fault_of z) a w) e ∙ ap (λ d. stops (trapped n) d) (quiet_window none)
        go (Wild n) e = quiet_one calls none ∙ ap (λ (z : After). halted (fault_of z) a w) e ∙ ap (λ d. stops (wild n) d) (quiet_window none)
        go Call e = tt

    -- a value with an effect that calls no function

    with_same : with_words a t.words ≡ a
    with_same =
        ap (λ (z : ℕ → ℕ). record a { out = z; back = word_in t.words.back; regs = t.words.regs.items }) (sym here.out)
        ∙ ap (λ (z : ℕ → ℕ). record a { back = z; regs = t.words.regs.items }) (sym here.back)
        ∙ ap (λ (z : List ℕ). record a { regs = z }) (sym here.regs)

    seeing_same : seeing w t.window ≡ w
    seeing_same = ap (λ d. record w { window = d }) (sym here.window)

    abbrev then_on : Activation
    then_on = in_state v.id (with_words a u.words) (seeing w u.window)

    act_one : (calls : Calls) (y : Effect) → effect_of v.op.family v.ty ≡ Some y → ¬ IsCalling y →
        one calls p f v a w ≡ bind (after_run x (with_words a u.words) (seeing w u.window)) (λ c z. gives (in_state v.id c z) z)
    act_one calls y e n =
        ap (λ z. if z then done_at calls p f v a w else halted (fault_at p.target (numbers p f a.env) w.window v) a w) (ap is_some e)
        ∙ ap (λ (z : Option Effect). bind (done_by z calls p (numbers p f a.env) v a w) (λ c z. gives (in_state v.id c z) z)) e
        ∙ ap (λ (z : Activation). bind (done_by (Some y) calls p (numbers p f a.env) v z w) (λ c z. gives (in_state v.id c z) z)) (sym with_same)
        ∙ ap (λ (z : World). bind (done_by (Some y) calls p (numbers p f a.env) v (with_words a t.words) z) (λ c z. gives (in_state v.id c z) z)) (sym seeing_same)
        ∙ ap (λ (z : Run Activation). bind z (λ c z. gives (in_state v.id c z) z)) (does.effect y e p (numbers p f a.env) calls a w here.target (reads (effect_no_phi v (ap is_some e))) (acted g.target y e n))

    -- only calls have results
    no_results : (y : Effect) → effect_of v.op.family v.ty ≡ Some y → ¬ IsCalling y → (z : ValueRecord) → ¬ IsResultOf f b v z
    no_results y e n z q = go (results_call s f h b v z stands q)
      where
        go : (effect_of v.op.family v.ty ≡ Some call) ⊎ (effect_of v.op.family v.ty ≡ Some call_words) → ⊥
        go (inl k) = let d : y ≡ call = cc in n (let P : Effect → Type 0 = λ z. IsCalling z in subst P (sym d) tt)
        go (inr k) = let d : y ≡ call_words = cc in n (let P : Effect → Type 0 = λ z. IsCalling z in subst P (sym d) tt)

    act_knows : (calls : Calls) (y : Effect) → effect_of v.op.family v.ty ≡ Some y → ¬ IsCalling y → one calls p f v a w ≡ gives then_on (seeing w u.window) → Knows p f b (pre ++ v ∷ []) (table f u.numbers) then_on.env
    act_knows calls y e n q =
        let k = knows_effect s f b level class pre v post turn calls p (table f t.numbers) (table f u.numbers) a w (ap is_some e) here.knows
        (λ d. ap (λ z. table f z v.id) (does.acted y e) ∙ here.blank b v stands (ap is_some e) d)
        (λ n i. ap (λ z. table f z n) (does.acted y e)) in
        let P : Run Activation → Type 0 = λ r. IfGives r (λ d z. ((c : ValueRecord) → IsResultOf f b v c → table f u.numbers c.id ≡ number_given p f c (d.env.given v.id)) → Knows p f b (pre ++ v ∷ []) (table f u.numbers) d.env) in
        subst P q k (λ c i. absurd (no_results y e n c i))

    act_on : (calls : Calls) (y : Effect) → effect_of v.op.family v.ty ≡ Some y → ¬ IsCalling y → one calls p f v a w ≡ gives then_on (seeing w u.window) → GoesOn u.window then_on (seeing w u.window)
    act_on calls y e n q = (
      record {
        target = here.target;
        args = here.args;
        knows = act_knows calls y e n q;
        blank = (let P : List ℕ → Type 0 = λ z. IsBlank f z in subst P (sym (does.acted y e)) here.blank);
        long = (let P : List ℕ → Type 0 = λ z. length z ≡ room f + 1 in subst P (sym (does.acted y e)) here.long);
        memory = sym (memory_end (first_state b m) pre v ∙ ap (λ z. if z then v.id else memory_after (first_state b m) pre) (ap is_some e));
        shown = put_there a.env.windows v.id u.window;
        window = refl;
        out = refl;
        back = refl;
        regs = refl;
      },
      refl,
      refl,
    )

    acts_so : (calls : Calls) (y : Effect) → effect_of v.op.family v.ty ≡ Some y → ¬ IsCalling y → Comes x (one calls p f v a w) (GoesOn u.window) u.window
    acts_so calls y e n = go x refl
      where
        go : (z : After) → x ≡ z → Comes z (one calls p f v a w) (GoesOn u.window) u.window
        go On q =
            let k : one calls p f v a w ≡ gives then_on (seeing w u.window) = act_one calls y e n ∙ ap (λ (z : After). bind (after_run z (with_words a u.words) (seeing w u.window)) (λ c z. gives (in_state v.id c z) z)) q in
            (then_on, seeing w u.window, k, act_on calls y e n k)
        go (Trap code) q = act_one calls y e n ∙ ap (λ (z : After). bind (after_run z (with_words a u.words) (seeing w u.window)) (λ c z. gives (in_state v.id c z) z)) q
        go (Wild code) q = act_one calls y e n ∙ ap (λ (z : After). bind (after_run z (with_words a u.words) (seeing w u.window)) (λ c z. gives (in_state v.id c z) z)) q
        go Call q = tt

    -- the value does what it means, and the run goes on behind it
    pub done_so : (calls : Calls) → Comes x (one calls p f v a w) (GoesOn u.window) u.window
    done_so calls = go (effect_of v.op.family v.ty) refl
      where
        go : (y : Option Effect) → effect_of v.op.family v.ty ≡ y → Comes x (one calls p f v a w) (GoesOn u.window) u.window
        go None e = quiet calls e
        go (Some y) e = elim (call_or_not y) as (λ _. Comes x (one calls p f v a w) (GoesOn u.window) u.window) [
          | inl k ↦ (let P : After → Type 0 = λ z. Comes z (one calls p f v a w) (GoesOn u.window) u.window in subst P (sym (does.call y e k).0) tt)
          | inr k ↦ acts_so calls y e k
        ]

    -- a call leaves the run where it is
    pub called_so : x ≡ Call → ((effect_of v.op.family v.ty ≡ Some call) ⊎ (effect_of v.op.family v.ty ≡ Some call_words)) × (u ≡ t)
    called_so q = go (effect_of v.op.family v.ty) refl
      where
        which : (y : Effect) → effect_of v.op.family v.ty ≡ Some y → IsCalling y → (effect_of v.op.family v.ty ≡ Some call) ⊎ (effect_of v.op.family v.ty ≡ Some call_words)
        which call e k = inl e
        which call_words e k = inr e
        which store e k = absurd k
        which zeros e k = absurd k
        which move e k = absurd k
        which panic_bounds e k = absurd k
        which out_word e k = absurd k
        which ret_word e k = absurd k
        which ret_words e k = absurd k
        which trap e k = absurd k
        which pass e k = absurd k

        off : IsNoCall x → ⊥
        off k = (let P : After → Type 0 = λ z. IsNoCall z in subst P q k)

        go : (y : Option Effect) → effect_of v.op.family v.ty ≡ y → ((effect_of v.op.family v.ty ≡ Some call) ⊎ (effect_of v.op.family v.ty ≡ Some call_words)) × (u ≡ t)
        go None e = absurd (off (does.on e))
        go (Some y) e = elim (call_or_not y) as (λ _. ((effect_of v.op.family v.ty ≡ Some call) ⊎ (effect_of v.op.family v.ty ≡ Some call_words)) × (u ≡ t)) [
          | inl k ↦ (let c = does.call y e k in (which y e k, stage_same t u (does.acted y e) c.1 c.2))
          | inr k ↦ absurd (off (does.acts_on y e k))
        ]

  -- after a call its results have what it gave
  pub returns_so : (g : Ground) (t u : Stage) (a : Activation) (w : World) → IsAt p f b m g pre t a w → (calls : Calls) (d : Activation) (y : World) → one calls p f v a w ≡ gives d y → has_effect v ≡ true → ¬ (v.op.family ≡ op.SelectN) →
      d.env.args ≡ a.env.args → d.memory ≡ v.id → IsShown d y → y.window ≡ u.window → d.out ≡ word_in u.words.out → d.back ≡ word_in u.words.back → d.regs ≡ u.words.regs.items → length u.numbers ≡ length t.numbers →
      ((c : ValueRecord) → IsResultOf f b v c → table f u.numbers c.id ≡ number_given p f c (d.env.given v.id)) →
      ((n : ℕ) → ((c : ValueRecord) → IsResultOf f b v c → ¬ (c.id ≡ n)) → table f u.numbers n ≡ table f t.numbers n) →
      IsAt p f b m g (pre ++ v ∷ []) u d y
  returns_so g t u a w here calls d y q act sel args memory shown window out back regs long given others = record {
    target = here.target;
    args = args ∙ here.args;
    knows = (
        let k = knows_effect s f b level class pre v post turn calls p (table f t.numbers) (table f u.numbers) a w act here.knows
        (λ e. others v.id (λ c i d. self c i d) ∙ here.blank b v stands act e) others in
        let P : Run Activation → Type 0 = λ r. IfGives r (λ d z. ((c : ValueRecord) → IsResultOf f b v c → table f u.numbers c.id ≡ number_given p f c (d.env.given v.id)) → Knows p f b (pre ++ v ∷ []) (table f u.numbers) d.env) in
        subst P q k given
        );
    blank = λ c z i e n. others z.id (λ x j k. blank_result c z i e n x j k) ∙ here.blank c z i e n;
    long = (let l = here.long in omega (arith, l, long));
    memory = memory ∙ sym (memory_end (first_state b m) pre v ∙ ap (λ z. if z then v.id else memory_after (first_state b m) pre) act);
    shown = shown;
    window = window;
    out = out;
    back = back;
    regs = regs;
  }
    where
      -- a result has no effect, but one that selects memory
      blank_result : (c : BlockRecord) (z : ValueRecord) → HasValue f c z → has_effect z ≡ true → ¬ (z.op.family ≡ op.SelectN) → (x : ValueRecord) → IsResultOf f b v x → ¬ (x.id ≡ z.id)
      blank_result c z i e n x j k =
          let d = h.named.same_value b c x z j.0 i k in
          n (result_selects z (ap (λ (y : ValueRecord). origin_of y.op.family) (sym d) ∙ j.1) e)

      self : (c : ValueRecord) → IsResultOf f b v c → c.id ≡ v.id → ⊥
      self c i e = blank_result b v stands act sel c i e
