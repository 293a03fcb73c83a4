-- A sound rule, applied at one value, keeps the number of each value that was there.
use Rattle.std.proofs.Common.{◌≡◌, ℕ, zero, suc, ◌<◌, refl, ap, sym, ◌∙◌, arith, List, Option, Some, None, Bool, inl, inr}
use Rattle.std.specs.Prelude.{slice_get}
use Rattle.std.proofs.lemmas.Bool.{cases_eq}
use Rattle.bk_func.specs.Records.{ValueRecord, FuncRecord}
use Rattle.bk_func.specs.Numbers.{Program, Env, value_of, number_of, origin_of}
use Rattle.bk_func.proofs.Unique.{Ranked, Solves, equation_same}
use Rattle.bk_rule.specs.declared.trees.Bound.{Bound}
use Rattle.bk_rule.specs.declared.trees.Rule.{Rule}
use Rattle.bk_rule.specs.Bindings.{value_in, bound_env}
use Rattle.bk_rule.specs.Sound.{SoundRule, Gives, built}
use Rattle.bk_rewrite.specs.Making.{source, root_made, next_number}
use Rattle.bk_refine_laws.specs.Possible.{Exact}
use Rattle.bk_refine_laws.specs.Trees.{IsSimple, IsBuilt, NamesBelow, env_by}
use Rattle.bk_refine_laws.specs.Known.{Knows, KnowsBelow}
use Rattle.bk_refine_laws.specs.Applied.{Application, SameNames, Lives}
use Rattle.bk_refine_laws.proofs.Names.{number_same}
use Rattle.bk_refine_laws.proofs.Stand.{stands_at}
use Rattle.bk_refine_laws.proofs.Expressions.{hold_same, ints_same}
use Rattle.bk_refine_laws.proofs.Made.{Agrees, root_value, each_built}
use Rattle.bk_refine_laws.proofs.Placed.{root_named, made_named, other_named}
use Rattle.bk_refine_laws.proofs.Below.{IsUnder, below_root}

gives_some : (o : Option ℕ) (v : ℕ) → Gives o v → o ≡ Some v
gives_some None v h = elim h [ ]
gives_some (Some u) v h = ap Some h

-- the left tree stands at the root with the old numbers, so the right tree has the root's old number
pub right_value : (p : Program) (r : Rule) (f g : FuncRecord) (b k : ℕ) (v : ValueRecord) (bs : List Bound) (cs : List Bool) → Application p r f g b k v bs cs → IsSimple r → SoundRule p.target r →
    (live : ℕ → Type 0) (rank : ℕ → ℕ) → Ranked f live rank → live v.id → (m : ℕ → ℕ) → KnowsBelow p.target f m live rank (suc (rank v.id)) → built p.target (env_by f m bs) r.right ≡ Some (m v.id)
unfolding SoundRule
right_value p r f g b k v bs cs a s sound live rank ranked lv m known =
    gives_some (built p.target (env_by f m bs) r.right) (m v.id)
    (sound (env_by f m bs) (m v.id)
    (stands_at r.left p.target f m live rank bs ranked s.left v.id cs lv known a.matches.stands)
    (hold_same r.conds p.target (bound_env f bs) (λ i. m (value_in (slice_get bs i))) ∙ a.matches.holds)
    (ints_same r.right p.target (bound_env f bs) (λ i. m (value_in (slice_get bs i))) a.matches.has_ints))

pub at_root : (p q : Program) → p.target ≡ q.target → (r : Rule) (f g : FuncRecord) (b k : ℕ) (v : ValueRecord) (bs : List Bound) (cs : List Bool) → Application p r f g b k v bs cs → IsSimple r →
    (e : Env) (m n : ℕ → ℕ) → Exact p g e n → IsBuilt (Agrees m n bs) r.right → (x : ℕ) → built p.target (env_by f m bs) r.right ≡ Some x → n v.id ≡ x
at_root p q t r f g b k v bs cs a s e m n exact agree x h =
    root_value r.right p f g e m n bs v.id v.ty (next_number f) agree
    (λ w i. exact w.id w (ap (λ z. value_of z w.id) a.gives ∙ made_named f bs p.target r.right b k v a.numbers a.stands w i))
    (exact v.id (root_made (source f bs p.target) v.id v.ty r.right (next_number f))
    (ap (λ z. value_of z v.id) a.gives ∙ root_named f bs p.target r.right b k v a.numbers a.stands))
    x h

-- n solves the equations of g, and m those of f: they agree on the live values of f
kept : (p : Program) (r : Rule) (f g : FuncRecord) (b k : ℕ) (v : ValueRecord) (bs : List Bound) (cs : List Bool) → Application p r f g b k v bs cs → IsSimple r → SoundRule p.target r → SameNames f g →
    (live : ℕ → Type 0) (rank : ℕ → ℕ) → Lives f live rank → live v.id → (e : Env) (m n : ℕ → ℕ) → Solves p f e live m → Knows p.target f m → Exact p g e n →
    (room x : ℕ) → live x → rank x < room → n x ≡ m x
kept p r f g b k v bs cs a s sound names live rank lives lv e m n solves known exact zero x l h = absurd (omega arith)
kept p r f g b k v bs cs a s sound names live rank lives lv e m n solves known exact (suc room) x l h = elim (cases_eq x v.id) [
  | inl y ↦ (ap n y ∙ at_root p p refl r f g b k v bs cs a s e m n exact
      (each_built r.right (λ i. NamesBelow i r.left) (Agrees m n bs) (λ i z.
      (let u : IsUnder live rank (rank v.id) (value_in (slice_get bs i)) = below_root r.left f live rank lives.ranked bs s.left v.id cs lv a.matches.stands i z in
      kept p r f g b k v bs cs a s sound names live rank lives lv e m n solves known exact room (value_in (slice_get bs i)) u.0 (omega (arith, u.1, h, ap rank y)))) s.right)
      (m v.id) (right_value p r f g b k v bs cs a s sound live rank lives.ranked lv m (λ i u d c y z. known i u d c)) ∙ sym (ap m y))
  | inr y ↦ (let (u, d) = lives.there x l in
      let c : value_of g x ≡ Some u = ap (λ z. value_of z x) a.gives ∙ other_named f bs p.target r.right b k v a.numbers a.stands x u d y in
      exact x u c
      ∙ sym (number_same (origin_of u.op.family) p f g e n u (names x u d).state (names x u d).callee)
      ∙ ap (λ o. number_of o p f e n) (sym d)
      ∙ equation_same (value_of f x) p f e n m (λ z i. (let w = lives.ranked.falls x l z i in
      kept p r f g b k v bs cs a s sound names live rank lives lv e m n solves known exact room z w.0 (omega (arith, w.1, h))))
      ∙ sym (solves x l))
]

pub numbers_kept : (p : Program) (r : Rule) (f g : FuncRecord) (b k : ℕ) (v : ValueRecord) (bs : List Bound) (cs : List Bool) → Application p r f g b k v bs cs → IsSimple r → SoundRule p.target r → SameNames f g →
    (live : ℕ → Type 0) (rank : ℕ → ℕ) → Lives f live rank → live v.id → (e : Env) (m n : ℕ → ℕ) → Solves p f e live m → Knows p.target f m → Exact p g e n →
    (x : ℕ) → live x → n x ≡ m x
numbers_kept p r f g b k v bs cs a s sound names live rank lives lv e m n solves known exact x l =
    kept p r f g b k v bs cs a s sound names live rank lives lv e m n solves known exact (suc (rank x)) x l (omega arith)
