-- A rule that is sound over machine words, applied at one value: numbers that the values of the new function may have are numbers
-- that those of the old one may have.
use Rattle.std.proofs.Common.{◌≡◌, ℕ, refl, ap, subst, sym, ◌∙◌, arith, List, map, Some, Bool, true, inl, inr}
use Rattle.std.specs.Prelude.{slice_get}
use Rattle.std.proofs.lemmas.Bool.{cases_eq}
use Rattle.bk_ops.specs.Values.{op_value}
use Rattle.bk_func.specs.Records.{ValueRecord, FuncRecord}
use Rattle.bk_func.specs.Numbers.{Program, Env, Origin, computed, value_of, origin_of}
use Rattle.bk_rule.specs.declared.trees.Bound.{Bound}
use Rattle.bk_rule.specs.declared.trees.Rule.{Rule}
use Rattle.bk_rule.specs.Bindings.{value_in, bound_env}
use Rattle.bk_rule.specs.Expressions.{hold_each}
use Rattle.bk_rule.specs.Match.{ordered}
use Rattle.bk_rule.specs.WordSound.{value_at, bits, MakesTheSame, SoundWordRule}
use Rattle.bk_rewrite.specs.Making.{source, root_made, next_number}
use Rattle.bk_rewrite.proofs.Standings.{named}
use Rattle.bk_refine_laws.specs.Possible.{HasLow, MayBe, Possible}
use Rattle.bk_refine_laws.specs.Trees.{HasNoPhi, env_by}
use Rattle.bk_refine_laws.specs.Applied.{Application, SameNames}
use Rattle.bk_refine_laws.specs.Words.{setting_of, AreWell, Falls, BuildsValues}
use Rattle.bk_refine_laws.proofs.Names.{may_alike}
use Rattle.bk_refine_laws.proofs.Expressions.{hold_same, ints_same}
use Rattle.bk_refine_laws.proofs.Placed.{root_named, made_named, other_named}
use Rattle.bk_refine_laws.proofs.WordLeft.{Under, root_at, ordered_low}
use Rattle.bk_refine_laws.proofs.WordRight.{root_low}

pub may_computed : (c : Origin) → c ≡ computed → (p : Program) (f : FuncRecord) (e : Env) (m : ℕ → ℕ) (v : ValueRecord) (n : ℕ) →
    HasLow (op_value v.op v.int (map m v.args) p.target) (bits p.target v) n → MayBe c p f e m v n
may_computed c q p f e m v n h = subst (λ (o : Origin). MayBe o p f e m v n) (sym q) h

pub possible_kept : (p : Program) (r : Rule) (f g : FuncRecord) (b k : ℕ) (v : ValueRecord) (bs : List Bound) (cs : List Bool) → Application p r f g b k v bs cs →
    HasNoPhi r.left → BuildsValues r.right → SoundWordRule p.target r → origin_of v.op.family ≡ computed → AreWell p f → SameNames f g →
    (live : ℕ → Type 0) (rank : ℕ → ℕ) → Falls f live rank → live v.id → (e : Env) (m : ℕ → ℕ) → Possible p g e m → Possible p f e m
unfolding SoundWordRule
possible_kept p r f g b k v bs cs a nophi builds sound pure well names live rank falls lv e m possible = all
  where
    here : value_of f v.id ≡ Some v
    here = named f v.id b k v a.numbers a.stands refl

    other : (id : ℕ) (u : ValueRecord) → value_of f id ≡ Some u → (id ≡ v.id → ⊥) → MayBe (origin_of u.op.family) p f e m u (m id)
    other id u d n =
        may_alike (origin_of u.op.family) p f g e m u (m id) (names id u d).state (names id u d).callee
        (possible id u (ap (λ z. value_of z id) a.gives ∙ other_named f bs p.target r.right b k v a.numbers a.stands id u d n))

    under : Under p f e m live rank (rank v.id)
    under = record { well = well; falls = falls; possible = λ id u d l h. other id u d (λ z. omega (arith, h, ap rank z)) }

    makes : MakesTheSame p.target (setting_of p e.windows) (env_by f m bs) r.right (value_at v.op v.ty v.int v.aux (map m (ordered v.op cs v.args)))
    makes =
        root_at r.left p f e e.windows m live rank v bs under nophi cs lv a.matches.stands here
        (λ l. hold_each p.target (env_by f m bs) r.conds ≡ true → MakesTheSame p.target (setting_of p e.windows) (env_by f m bs) r.right l)
        (sound (env_by f m bs) (setting_of p e.windows))
        (hold_same r.conds p.target (bound_env f bs) (λ i. m (value_in (slice_get bs i))) ∙ a.matches.holds)

    low : HasLow (op_value v.op v.int (map m (ordered v.op cs v.args)) p.target) (bits p.target v) (m v.id)
    low =
        root_low r.right p f g e e.windows m bs v.id (value_at v.op v.ty v.int v.aux (map m (ordered v.op cs v.args))) (next_number f) builds
        (ints_same r.right p.target (bound_env f bs) (λ i. m (value_in (slice_get bs i))) a.matches.has_ints) pure
        (λ w i. possible w.id w (ap (λ z. value_of z w.id) a.gives ∙ made_named f bs p.target r.right b k v a.numbers a.stands w i))
        (possible v.id (root_made (source f bs p.target) v.id v.ty r.right (next_number f)) (ap (λ z. value_of z v.id) a.gives ∙ root_named f bs p.target r.right b k v a.numbers a.stands))
        makes

    all : Possible p f e m
    all id u d = elim (cases_eq id v.id) [
      | inr n ↦ other id u d n
      | inl n ↦
          (let q : v ≡ u = (let z : Some v ≡ Some u = sym here ∙ (ap (value_of f) (sym n) ∙ d) in cc) in
          let P : ValueRecord → Type 0 = λ u. MayBe (origin_of u.op.family) p f e m u (m id) in
          subst P q
          (may_computed (origin_of v.op.family) pure p f e m v (m id)
          (subst (λ i. HasLow (op_value v.op v.int (map m v.args) p.target) (bits p.target v) (m i)) (sym n)
          (subst (λ o. HasLow o (bits p.target v) (m v.id)) (ordered_low p.target m v.op v.int cs v.args) low))))
    ]
