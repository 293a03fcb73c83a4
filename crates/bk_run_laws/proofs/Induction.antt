-- From one block to all runs, and from runs to outcomes.
use Rattle.std.proofs.Common.{◌≡◌, ℕ, zero, suc, ◌+◌, ◌-◌, ◌*◌, ◌/◌, ◌<◌, ◌≤◌, List, ap, ◌∙◌, sym, subst, refl, arith, Some, None}
use Rattle.std.specs.Prelude.{slice_get}
use Rattle.bk_machine.specs.declared.stop.Stop.TheVariants.{Returned}
use Rattle.bk_machine.specs.Runs.{Gives, go_on, run}
use Rattle.bk_func.specs.Records.{BlockRecord, FuncRecord}
use Rattle.bk_func.specs.Numbers.{Program}
use Rattle.bk_func.specs.Edits.{block_of}
use Rattle.bk_func.specs.Meaning as meaning
use Rattle.bk_func.specs.Meaning.{World, Run, Activation, Outcome, returned, trapped, wild, going, gives, stops, entered, in_block, in_func, at_count, ended}
use Rattle.bk_run_laws.specs.Follows.{System, Holding, GoesOn, StopsBy, Follows, Meets}
use Rattle.bk_run_laws.specs.Standing.{Standing, ArePlaces, BlockLaw, OneBlock}
use Rattle.bk_run_laws.proofs.Following.{enough}

module _ (y : System) where
  -- where no block may be entered the machine has gone on
  none_left : (blocks place : ℕ) (window : List ℕ) (m : y.Machine) → place < blocks → GoesOn y blocks place (record { window = window; left = 0 }) m
  none_left blocks place window m h = record { steps = 0; after = m; goes = refl; count = let e : blocks * 0 ≡ 0 = omega arith in omega (arith, h, e) }

  counted : (z : Standing y) (left k : ℕ) (p : Program) → ArePlaces p z.blocks z.place → OneBlock y z p → BlockLaw y z k p →
      (i : ℕ) (f : FuncRecord) (b : BlockRecord) (a : Activation) (edge id : ℕ) (call : z.Call) (window : List ℕ) (m : y.Machine) →
      slice_get p.pkg.funcs i ≡ Some f → block_of f id ≡ Some b → left ≤ suc k →
      z.At i f id (entered p f b edge a (record { window = window; left = left })) window call m →
      Follows y (List ℕ) z.blocks (z.place i id) (record { window = window; left = left }) m (z.Back i call m)
      (at_count left (record { window = window; left = left }) (in_func (slice_get p.pkg.funcs i) (meaning.run k p) p i a id edge))
  counted z zero k p places one law i f b a edge id call window m ef eb l u = none_left z.blocks (z.place i id) window m (places i f b id ef eb)
  counted z (suc n) k p places one law i f b a edge id call window m ef eb l u =
      let w : World = record { window = window; left = suc n } in
      let v : World = record { window = window; left = n } in
      let q = one (meaning.run k p) k law i f b a edge id call window n m ef eb (omega (arith, l)) u in
      let r = subst (λ o. Follows y (List ℕ) z.blocks (z.place i id) w m (z.Back i call m) (in_block o (meaning.run k p) p i f a edge v)) (sym eb) q in
      subst (λ o. Follows y (List ℕ) z.blocks (z.place i id) w m (z.Back i call m) (in_func o (meaning.run k p) p i a id edge v)) (sym ef) r

  -- where each block is followed, all runs are
  pub block_law : (z : Standing y) (p : Program) → ArePlaces p z.blocks z.place → OneBlock y z p → (k : ℕ) → BlockLaw y z k p
  unfolding meaning.run
  block_law z p places one zero i f b a edge id call window left m ef eb l u =
      let e : left ≡ 0 = omega (arith, l) in
      subst (λ n. GoesOn y z.blocks (z.place i id) (record { window = window; left = n }) m) (sym e) (none_left z.blocks (z.place i id) window m (places i f b id ef eb))
  block_law z p places one (suc k) i f b a edge id call window left m ef eb l u =
      counted z left k p places one (block_law z p places one k) i f b a edge id call window m ef eb l u

  -- a machine that goes on has gone on before

  no_stop : (g : Gives y.Machine) (f : y.Machine → Gives y.Machine) (after : y.Machine) → go_on g f ≡ (None, after) → (m : y.Machine) × (g ≡ (None, m)) × (f m ≡ (None, after))
  no_stop (None, m) f after h = (m, refl, h)
  no_stop (Some s, m) f after h = let e : Some s ≡ None = ap (λ (q : Gives y.Machine). q.0) h in absurd cc

  before : (j k : ℕ) (m after : y.Machine) → run y.step (j + k) m ≡ (None, after) → (n : y.Machine) × (run y.step j m ≡ (None, n))
  before zero k m after h = (m, refl)
  before (suc j) k m after h =
      let e : suc j + k ≡ suc (j + k) = omega arith in
      let x = no_stop (y.step m) (run y.step (j + k)) after (sym (ap (λ n. run y.step n m) e) ∙ h) in
      let z = before j k x.0 after x.2 in
      (z.0, ap (λ g. go_on g (run y.step j)) x.1 ∙ z.1)

  sooner : (j n : ℕ) (m after : y.Machine) → j ≤ n → run y.step n m ≡ (None, after) → (o : y.Machine) × (run y.step j m ≡ (None, o))
  sooner j n m after l h = let e : j + (n - j) ≡ n = omega arith in before j (n - j) m after (ap (λ k. run y.step k m) e ∙ h)

  stops_meet : (o : Outcome) (blocks : ℕ) (w : World) (m : y.Machine) (H : List ℕ → y.Machine → Type 0) (d : List ℕ) → StopsBy y o blocks 0 w m d → Meets y w.left blocks m H o d
  stops_meet (returned r) blocks w m H d h = absurd h
  stops_meet (trapped k) blocks w m H d h = h
  stops_meet (wild a) blocks w m H d h = tt
  stops_meet going blocks w m H d h = sooner (w.left / blocks) h.steps m h.after (enough w.left blocks h.steps (let c = h.count in omega (arith, c))) h.goes

  -- where what holds at the end is at a return that halts, the machine does what a followed run comes to
  pub meets : (blocks : ℕ) (w : World) (m : y.Machine) (K : Holding y (List ℕ)) (H : List ℕ → y.Machine → Type 0) (r : Run (List ℕ)) →
      ((x : List ℕ) (v : World) (n : y.Machine) → K x v n → (run y.step 1 n ≡ (Some Returned, n)) × (y.window n ≡ v.window) × H x n) →
      Follows y (List ℕ) blocks 0 w m K r → Meets y w.left blocks m H (ended r).0 (ended r).1
  meets blocks w m K H (gives x v) h f =
      let k = h x v f.after f.holds in
      (f.steps + 1, f.after, f.goes.by 1 ∙ k.0, k.1, k.2)
  meets blocks w m K H (stops o d) h f = stops_meet o blocks w m H d f
