-- The turns of a block's values do what its list of values does.
use Rattle.std.proofs.Common.{◌≡◌, ℕ, ◌+◌, refl, ap, sym, ◌∙◌, subst, ◌⊎◌, inl, inr, List, [], ◌∷◌, ◌++◌, take, append_assoc, append-nil, Option, Some, None}
use Rattle.std.specs.Prelude.{slice_get}
use Rattle.bk_func.specs.Records.{ValueRecord, BlockRecord, FuncRecord}
use Rattle.bk_func.specs.Numbers.{Program, values_of}
use Rattle.bk_func.specs.Effects.{call, call_words, effect_of}
use Rattle.bk_func.specs.Meaning.{World, Run, gives, bind, Activation, Calls}
use Rattle.bk_func.specs.declared.form.FormKind.TheVariants.{Missing}
use Rattle.bk_func.specs.Form.Text.{HasValue}
use Rattle.bk_func.specs.Form.Signatures.{Setting}
use Rattle.bk_func.proofs.Flat.{flat, one}
use Rattle.bk_mean.specs.Numbering.{place_in}
use Rattle.bk_mean.specs.Ready.{IsReadyValue, AreReadyValues, count_values}
use Rattle.bk_mean.specs.Turned.{Stage, Ground, IsTurn, Turned, all, absent, onward, ends}
use Rattle.bk_mean.specs.declared.step.After.{After}
use Rattle.bk_mean.specs.declared.step.After.TheVariants.{On, Trap, Wild, Call}
use Rattle.bk_mean.specs.declared.ready.ReadyValue.{ReadyValue}
use Rattle.bk_places.proofs.Elements.{to_contains}
use Rattle.bk_mean.proofs.Named.{got_in}
use Rattle.bk_mean.proofs.Arranged.{with_value, values_at}
use Rattle.bk_mean.proofs.Tabled.{place_at, ready_at, ready_there}
use Rattle.bk_mean.proofs.Doing.{Order, IsAt, Comes, done_so, called_so}

-- a value of a block calls a function, and the places of those behind it are left
pub record Waits (p : Program) (f : FuncRecord) (b : BlockRecord) (m : ℕ) (g : Ground) (ls vs : List ValueRecord) (rest : List ℕ) (place : ℕ) (u : Stage) (calls : Calls) (a : Activation) (w : World) : Type 0 where
  pub pre : List ValueRecord
  pub value : ValueRecord
  pub parts : ls ≡ pre ++ value ∷ values_at b.values rest
  pub stands : HasValue f b value
  pub here : place ≡ place_in f value.id
  pub calling : (effect_of value.op.family value.ty ≡ Some call) ⊎ (effect_of value.op.family value.ty ≡ Some call_words)
  pub act : Activation
  pub world : World
  pub at : IsAt p f b m g pre u act world
  pub run : flat calls p f vs a w ≡ bind (one calls p f value act world) (λ d y. flat calls p f (values_at b.values rest) d y)
  pub stack : act.stack ≡ a.stack
  pub left : world.left ≡ w.left

module _ (p : Program) (s : Setting) (f : FuncRecord) (b : BlockRecord) (m : ℕ) (level class : ValueRecord → ℕ) (ls : List ValueRecord) (o : Order s f b m level class ls) (g : Ground) (i first : ℕ) (stands : slice_get f.blocks i ≡ Some b) (begins : first ≡ count_values (take i f.blocks)) (rs : List ReadyValue) (ready : AreReadyValues p.pkg f (values_of f) rs) (calls : Calls) where
  abbrev pub Round : List ValueRecord → List ℕ → ℕ → Stage → After → Activation → World → Type 0
  Round vs rest place u x a w =
      Comes x (flat calls p f vs a w) (λ d y. IsAt p f b m g ls u d y × (d.stack ≡ a.stack) × (y.left ≡ w.left)) u.window
      × (x ≡ Call → Waits p f b m g ls vs rest place u calls a w)

  here : (k : ℕ) (v : ValueRecord) → slice_get b.values k ≡ Some v → HasValue f b v
  here k v e = (to_contains b f.blocks (got_in f.blocks i b stands), to_contains v b.values (got_in b.values k v e))

  placed : (k : ℕ) (v : ValueRecord) → slice_get b.values k ≡ Some v → place_in f v.id ≡ first + k
  placed k v e = place_at s f (o.formed.kinds Missing) i k b v stands e ∙ ap (λ n. n + k) (sym begins)

  -- the run goes on from another activation and world of the same call
  same_run : (vs : List ValueRecord) (rest : List ℕ) (place : ℕ) (u : Stage) (x : After) (v : ValueRecord) (a d : Activation) (w y : World) → one calls p f v a w ≡ gives d y → d.stack ≡ a.stack → y.left ≡ w.left →
      Round vs rest place u x d y → Round (v ∷ vs) rest place u x a w
  same_run vs rest place u x v a d w y e st le (c, k) = (comes x c, λ q. waits (k q))
    where
      step : flat calls p f (v ∷ vs) a w ≡ flat calls p f vs d y
      step = ap (λ (r : Run Activation). bind r (λ a w. flat calls p f vs a w)) e

      comes : (x : After) → Comes x (flat calls p f vs d y) (λ c z. IsAt p f b m g ls u c z × (c.stack ≡ d.stack) × (z.left ≡ y.left)) u.window →
          Comes x (flat calls p f (v ∷ vs) a w) (λ c z. IsAt p f b m g ls u c z × (c.stack ≡ a.stack) × (z.left ≡ w.left)) u.window
      comes On (c, z, q, (k, l, n)) = (c, z, step ∙ q, (k, l ∙ st, n ∙ le))
      comes (Trap n) q = step ∙ q
      comes (Wild n) q = step ∙ q
      comes Call q = tt

      waits : Waits p f b m g ls vs rest place u calls d y → Waits p f b m g ls (v ∷ vs) rest place u calls a w
      waits q = record {
        pre = q.pre;
        value = q.value;
        parts = q.parts;
        stands = q.stands;
        here = q.here;
        calling = q.calling;
        act = q.act;
        world = q.world;
        at = q.at;
        run = step ∙ q.run;
        stack = q.stack ∙ st;
        left = q.left ∙ le;
      }

  -- the turns do what the list of values does
  pub round : (ks rest : List ℕ) (t u : Stage) (place : ℕ) (x : After) → Turned g b first rs ks t u rest place x → (pre : List ValueRecord) → ls ≡ pre ++ values_at b.values ks → (a : Activation) (w : World) →
      IsAt p f b m g pre t a w → Round (values_at b.values ks) rest place u x a w
  round _ _ t _ place _ (all _ _) pre parts a w at =
      let e : pre ≡ ls = sym (append-nil pre) ∙ sym parts in
      ((a, w, refl, ((let P : List ValueRecord → Type 0 = λ xs. IsAt p f b m g xs t a w in subst P e at), refl, refl)), λ q. absurd cc)
  round _ rest t u place x (absent k ks _ _ _ _ _ none turned) pre parts a w at = go (slice_get b.values k) refl (λ q. round ks rest t u place x turned pre q a w at)
    where
      missing : (v : ValueRecord) → slice_get b.values k ≡ Some v → (slice_get b.values k ≡ None) ⊎ (slice_get rs (first + k) ≡ None) → ⊥
      missing v e (inl q) = cc
      missing v e (inr q) =
          let r = ready_there s f (o.formed.kinds Missing) p.pkg rs ready b v (here k v e) in
          let z = ap (slice_get rs) (placed k v e) in
          let y = r.1 in
          cc

      go : (z : Option ValueRecord) → slice_get b.values k ≡ z → (ls ≡ pre ++ values_at b.values ks → Round (values_at b.values ks) rest place u x a w) → Round (values_at b.values (k ∷ ks)) rest place u x a w
      go (Some v) e more = absurd (missing v e none)
      go None e more =
          let q : values_at b.values ks ≡ values_at b.values (k ∷ ks) = ap (λ z. with_value z (values_at b.values ks)) (sym e) in
          let P : List ValueRecord → Type 0 = λ vs. Round vs rest place u x a w in
          subst P q (more (parts ∙ ap (λ vs. pre ++ vs) (sym q)))
  round _ rest t u place x (onward k ks _ v r _ d _ _ _ e known turn turned) pre parts a w at =
      let q : v ∷ values_at b.values ks ≡ values_at b.values (k ∷ ks) = ap (λ z. with_value z (values_at b.values ks)) (sym e) in
      let P : List ValueRecord → Type 0 = λ vs. Round vs rest place u x a w in
      let part : ls ≡ pre ++ v ∷ values_at b.values ks = parts ∙ ap (λ vs. pre ++ vs) (sym q) in
      let its = ready_at s f (o.formed.kinds Missing) p.pkg rs ready b v (here k v e) r (ap (slice_get rs) (placed k v e) ∙ known) in
      let n : ℕ → Type 0 = λ z. IsTurn g v r z t d On in
      let c = done_so p s f b m level class ls o pre v (values_at b.values ks) part (here k v e) g r its t d On (subst n (sym (placed k v e)) turn) a w at calls in
      subst P q (same_run (values_at b.values ks) rest place u x v a c.0 w c.1 c.2 c.3.1 c.3.2
      (round ks rest d u place x turned (pre ++ v ∷ []) (part ∙ sym (append_assoc pre (v ∷ []) (values_at b.values ks))) c.0 c.1 c.3.0))
  round _ _ t u _ x (ends k ks v r _ _ _ e known turn off) pre parts a w at =
      let P : List ValueRecord → Type 0 = λ vs. Round vs ks (first + k) u x a w in
      subst P q (comes x refl c, λ z. waits (called_so p s f b m level class ls o pre v (values_at b.values ks) part (here k v e) g r its t u x turned a w at z))
    where
      q : v ∷ values_at b.values ks ≡ values_at b.values (k ∷ ks)
      q = ap (λ z. with_value z (values_at b.values ks)) (sym e)

      part : ls ≡ pre ++ v ∷ values_at b.values ks
      part = parts ∙ ap (λ vs. pre ++ vs) (sym (ap (λ z. with_value z (values_at b.values ks)) (sym e)))

      its : IsReadyValue p.pkg f v r
      its = ready_at s f (o.formed.kinds Missing) p.pkg rs ready b v (here k v e) r (ap (slice_get rs) (placed k v e) ∙ known)

      turned : IsTurn g v r (place_in f v.id) t u x
      turned = (let P : ℕ → Type 0 = λ z. IsTurn g v r z t u x in subst P (sym (placed k v e)) turn)

      c : Comes x (one calls p f v a w) (λ d z. IsAt p f b m g (pre ++ v ∷ []) u d z × (d.stack ≡ a.stack) × (z.left ≡ w.left)) u.window
      c = done_so p s f b m level class ls o pre v (values_at b.values ks) part (here k v e) g r its t u x turned a w at calls

      comes : (y : After) → x ≡ y → Comes y (one calls p f v a w) (λ d z. IsAt p f b m g (pre ++ v ∷ []) u d z × (d.stack ≡ a.stack) × (z.left ≡ w.left)) u.window →
          Comes y (flat calls p f (v ∷ values_at b.values ks) a w) (λ d z. IsAt p f b m g ls u d z × (d.stack ≡ a.stack) × (z.left ≡ w.left)) u.window
      comes On z y = absurd (off z)
      comes (Trap n) z y = ap (λ (r : Run Activation). bind r (λ a w. flat calls p f (values_at b.values ks) a w)) y
      comes (Wild n) z y = ap (λ (r : Run Activation). bind r (λ a w. flat calls p f (values_at b.values ks) a w)) y
      comes Call z y = tt

      waits : ((effect_of v.op.family v.ty ≡ Some call) ⊎ (effect_of v.op.family v.ty ≡ Some call_words)) × (u ≡ t) → Waits p f b m g ls (v ∷ values_at b.values ks) ks (first + k) u calls a w
      waits z = record {
        pre = pre;
        value = v;
        parts = part;
        stands = here k v e;
        here = sym (placed k v e);
        calling = z.0;
        act = a;
        world = w;
        at = (let P : Stage → Type 0 = λ y. IsAt p f b m g pre y a w in subst P (sym z.1) at);
        run = refl;
        stack = refl;
        left = refl;
      }
