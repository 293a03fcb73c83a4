-- A block as one list of values, done one after the other.
use Rattle.std.proofs.Common.{◌≡◌, ℕ, refl, ap, sym, ◌∙◌, List, [], ◌∷◌, ◌++◌, Option, Some, None, true, false}
use Rattle.std.specs.Prelude.{if◌then◌else◌}
use Rattle.bk_ops.specs.declared.types.Target.{Target}
use Rattle.bk_func.specs.Records.{ValueRecord, BlockRecord, FuncRecord}
use Rattle.bk_func.specs.Numbers.{Program, numbers}
use Rattle.bk_func.specs.Effects.{effect_of, has_effect, order}
use Rattle.bk_func.specs.Meaning.{Outcome, World, Run, gives, stops, bind, Activation, Calls, halted, fault_at, first_fault, or_else, checked_at, done_by, done_at, in_state, performed}

-- a value in its turn: a memory value does what it does, a check or a load faults or not, others do nothing
abbrev pub one : Calls → Program → FuncRecord → ValueRecord → Activation → World → Run Activation
one calls p f v a w = if has_effect v then done_at calls p f v a w else halted (fault_at p.target (numbers p f a.env) w.window v) a w

abbrev pub flat : Calls → Program → FuncRecord → List ValueRecord → Activation → World → Run Activation
flat calls p f [] a w = gives a w
flat calls p f (v ∷ vs) a w = bind (one calls p f v a w) (λ a w. flat calls p f vs a w)

pub bind_bind : {A B C : Type 0} (r : Run A) (go : A → World → Run B) (ho : B → World → Run C) → bind (bind r go) ho ≡ bind r (λ a w. bind (go a w) ho)
bind_bind (gives a w) go ho = refl
bind_bind (stops o d) go ho = refl

pub bind_same : {A B : Type 0} (r : Run A) (go ho : A → World → Run B) → ((a : A) (w : World) → go a w ≡ ho a w) → bind r go ≡ bind r ho
bind_same (gives a w) go ho k = k a w
bind_same (stops o d) go ho k = refl

pub flat-append : (calls : Calls) (p : Program) (f : FuncRecord) (xs ys : List ValueRecord) (a : Activation) (w : World) →
    flat calls p f (xs ++ ys) a w ≡ bind (flat calls p f xs a w) (λ a w. flat calls p f ys a w)
flat-append calls p f [] ys a w = refl
flat-append calls p f (x ∷ xs) ys a w =
    bind_same (one calls p f x a w) (λ a w. flat calls p f (xs ++ ys) a w) (λ a w. bind (flat calls p f xs a w) (λ a w. flat calls p f ys a w)) (λ b v. flat-append calls p f xs ys b v)
    ∙ sym (bind_bind (one calls p f x a w) (λ a w. flat calls p f xs a w) (λ a w. flat calls p f ys a w))

-- none of the values is a memory value
abbrev pub Still : List ValueRecord → Type 0
Still [] = Unit {0}
Still (v ∷ vs) = (has_effect v ≡ false) × Still vs

flat_still : (calls : Calls) (p : Program) (f : FuncRecord) (vs : List ValueRecord) → Still vs → (a : Activation) (w : World) →
    flat calls p f vs a w ≡ halted (first_fault p.target (numbers p f a.env) w.window vs) a w
flat_still calls p f [] h a w = refl
flat_still calls p f (v ∷ vs) (e, h) a w = rw e (go (fault_at p.target (numbers p f a.env) w.window v) (flat_still calls p f vs h a w))
  where
    go : (o : Option Outcome) → flat calls p f vs a w ≡ halted (first_fault p.target (numbers p f a.env) w.window vs) a w →
        bind (halted o a w) (λ a w. flat calls p f vs a w) ≡ halted (or_else o (first_fault p.target (numbers p f a.env) w.window vs)) a w
    go None k = k
    go (Some x) k = refl

-- the values lie in order: at each state first those that fault as its checks and loads do, then the next memory value
abbrev FaultsAlike : FuncRecord → BlockRecord → ℕ → List ValueRecord → Type 0
FaultsAlike f b s vs = (t : Target) (m : ℕ → ℕ) (d : List ℕ) → first_fault t m d (order f b s) ≡ first_fault t m d vs

pub data Laid (f : FuncRecord) (b : BlockRecord) : ℕ → List ValueRecord → List ValueRecord → Type 0 where
  last : (s : ℕ) (vs : List ValueRecord) → Still vs → FaultsAlike f b s vs → Laid f b s [] vs
  more : (s : ℕ) (vs rest ls : List ValueRecord) (v : ValueRecord) → Still vs → FaultsAlike f b s vs → has_effect v ≡ true → Laid f b v.id rest ls →
      Laid f b s (v ∷ rest) (vs ++ v ∷ ls)

checks_flat : (calls : Calls) (p : Program) (f : FuncRecord) (b : BlockRecord) (s : ℕ) (vs : List ValueRecord) → Still vs → FaultsAlike f b s vs → (a : Activation) (w : World) → a.memory ≡ s →
    checked_at p f b a w ≡ flat calls p f vs a w
checks_flat calls p f b s vs h k a w e =
    ap (λ n. halted (first_fault p.target (numbers p f a.env) w.window (order f b n)) a w) e
    ∙ ap (λ o. halted o a w) (k p.target (numbers p f a.env) w.window)
    ∙ sym (flat_still calls p f vs h a w)

halted_then : {B : Type 0} (o : Option Outcome) (a : Activation) (w : World) (go ho : Activation → World → Run B) → go a w ≡ ho a w → bind (halted o a w) go ≡ bind (halted o a w) ho
halted_then None a w go ho e = e
halted_then (Some x) a w go ho e = refl

-- so the block does what its list does
pub performed_flat : (calls : Calls) (p : Program) (f : FuncRecord) (b : BlockRecord) (s : ℕ) (vs ls : List ValueRecord) → Laid f b s vs ls → (a : Activation) (w : World) → a.memory ≡ s →
    performed calls p f b vs a w ≡ flat calls p f ls a w
performed_flat calls p f b s _ _ (last _ vs h k) a w e = checks_flat calls p f b s vs h k a w e
performed_flat calls p f b s _ _ (more _ vs rest ls v h k t laid) a w e =
    ap (λ (r : Run Activation). bind r (λ a w. bind (done_at calls p f v a w) (λ a w. performed calls p f b rest a w))) (checks_flat calls p f b s vs h k a w e)
    ∙ bind_same (flat calls p f vs a w) (λ a w. bind (done_at calls p f v a w) (λ a w. performed calls p f b rest a w)) (λ a w. flat calls p f (v ∷ ls) a w)
    (λ x u. after (λ y z. performed_flat calls p f b v.id rest ls laid (in_state v.id y z) z refl) x u)
    ∙ sym (flat-append calls p f vs (v ∷ ls) a w)
  where
    inner : ((y : Activation) (z : World) → performed calls p f b rest (in_state v.id y z) z ≡ flat calls p f ls (in_state v.id y z) z) → (r : Run Activation) →
        bind (bind r (λ a w. gives (in_state v.id a w) w)) (λ a w. performed calls p f b rest a w) ≡ bind (bind r (λ a w. gives (in_state v.id a w) w)) (λ a w. flat calls p f ls a w)
    inner q (gives x u) = q x u
    inner q (stops o d) = refl

    after : ((y : Activation) (z : World) → performed calls p f b rest (in_state v.id y z) z ≡ flat calls p f ls (in_state v.id y z) z) → (x : Activation) (u : World) →
        bind (done_at calls p f v x u) (λ a w. performed calls p f b rest a w) ≡ flat calls p f (v ∷ ls) x u
    after q x u = rw t (inner q (done_by (effect_of v.op.family v.ty) calls p (numbers p f x.env) v x u))
