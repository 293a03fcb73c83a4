-- A block whose base of the order has no cycle has none in the whole order: no edge from a check to a load closes one.
use Rattle.std.proofs.Common.{◌≡◌, ℕ, refl, sym, subst, ◌∙◌, arith, ◌⊎◌, inl, inr}
use Rattle.std.proofs.lemmas.Bool.{cases_lt}
use Rattle.bk_func.specs.Records.{ValueRecord, BlockRecord, FuncRecord}
use Rattle.bk_func.specs.Form.States.{Names}
use Rattle.bk_func.specs.Form.Before.{IsLoad, IsNilCheck, IsTakenBy, Needs, takes, through, IsListed, Checks, Loads, ComesBefore, argument, state, checks, needed, unneeded, Precedes, right, onward}
use Rattle.bk_order_laws.specs.Base.{BaseBefore, BasePrecedes, AreInTurn}
use Rattle.bk_order_laws.specs.Base as base
use Rattle.bk_places.proofs.Elements.{to_in}
use Rattle.bk_mean.proofs.Named.{in_got}
use Rattle.bk_order_laws.proofs.First.{base_onward}

-- a nil check u comes before a load v of its state, by the rules for loads
record Late (f : FuncRecord) (b : BlockRecord) (u v : ValueRecord) (s : ℕ) : Type 0 where
  check : Checks f b u s
  load : Loads f b v s
  use_of : (c : ValueRecord) → Checks f b c s → Needs b c v → BasePrecedes f b u c

of_needed : (f : FuncRecord) (b : BlockRecord) (u v w : ValueRecord) (s : ℕ) → Checks f b u s → Loads f b v s → Checks f b w s → ((x : ValueRecord) → Checks f b x s → Needs b x v → ¬ IsListed b x w) → IsListed b u w →
    Late f b u v s
of_needed f b u v w s cu lv cw n (i, j, l, e, g) = record {
  check = cu;
  load = lv;
  use_of = λ c cc2 h.
      let (k, q) = in_got b.values c (to_in c b.values cc2.0) in
      elim (cases_lt k j) as (λ _. BasePrecedes f b u c) [
        | inl m ↦ absurd (n c cc2 h (k, j, m, q, g))
        | inr m ↦ base.right u c (base.checks u c s cu cc2 (i, k, omega (arith, l, m), e, q))
      ];
}

-- one value is not a load and a nil check
apart : (v : ValueRecord) → IsLoad v → IsNilCheck v → ⊥
apart v (inl e) (inl d) = cc
apart v (inl e) (inr (inl d)) = cc
apart v (inl e) (inr (inr d)) = cc
apart v (inr (inl e)) (inl d) = cc
apart v (inr (inl e)) (inr (inl d)) = (let z = sym e ∙ d in cc)
apart v (inr (inl e)) (inr (inr d)) = cc
apart v (inr (inr e)) (inl d) = cc
apart v (inr (inr e)) (inr (inl d)) = cc
apart v (inr (inr e)) (inr (inr d)) = (let z = sym e ∙ d in cc)

needs_base : (f : FuncRecord) (b : BlockRecord) (p v : ValueRecord) → Needs b p v → BasePrecedes f b v p
needs_base f b _ _ (takes u v h) = base.right u v (base.argument u v h)
needs_base f b _ _ (through t u v h k) = base_onward f b t u v (needs_base f b u t k) (base.right u v (base.argument u v h))

-- p is v or needs it
abbrev Reach : BlockRecord → ValueRecord → ValueRecord → Type 0
Reach b v p = (p ≡ v) ⊎ Needs b p v

more_reach : (b : BlockRecord) (v p m : ValueRecord) → Reach b v p → IsTakenBy b p m → Reach b v m
more_reach b v p m (inl e) h = inr (takes v m (let P : ValueRecord → Type 0 = λ y. IsTakenBy b y m in subst P e h))
more_reach b v p m (inr k) h = inr (through v p m h k)

-- what p is reached from cannot come after it
no_return : (f : FuncRecord) (b : BlockRecord) → ((u : ValueRecord) → ¬ BasePrecedes f b u u) → (v p : ValueRecord) → Reach b v p → ¬ BasePrecedes f b p v
no_return f b n v p (inl e) k = (let P : ValueRecord → Type 0 = λ y. BasePrecedes f b y v in n v (subst P e k))
no_return f b n v p (inr h) k = n v (base_onward f b v p v (needs_base f b p v h) k)

-- a check that the load reaches comes after u
check_case : (f : FuncRecord) (b : BlockRecord) → AreInTurn f b → ((u : ValueRecord) → ¬ BasePrecedes f b u u) → (u v p : ValueRecord) (s r : ℕ) → Late f b u v s → Reach b v p → Checks f b p r → BasePrecedes f b u p
check_case f b t n u v p s r l h c = elim (t u v p s r l.check l.load c.0 (inr (inl c.1)) c.2) as (λ _. BasePrecedes f b u p) [
  | inl e ↦ (elim h as (λ _. BasePrecedes f b u p) [
    | inl d ↦ absurd (let P : ValueRecord → Type 0 = λ y. IsNilCheck y in apart v l.load.1 (subst P d c.1))
    | inr k ↦ l.use_of p (c.0, c.1, subst (λ m. Names f p m) (sym e) c.2) k
  ])
  | inr (inl k) ↦ k
  | inr (inr k) ↦ absurd (no_return f b n v p h k)
]

step : (f : FuncRecord) (b : BlockRecord) → AreInTurn f b → ((u : ValueRecord) → ¬ BasePrecedes f b u u) → (u v p m : ValueRecord) (s : ℕ) → Late f b u v s → Reach b v p → BaseBefore f b p m → Reach b v m ⊎ BasePrecedes f b u m
step f b t n u v _ _ s l h (base.argument p m k) = inl (more_reach b v p m h k)
step f b t n u v _ _ s l h (base.state p m r c z a q d) = inr (elim (t u v p s r l.check l.load c z a) as (λ _. BasePrecedes f b u m) [
  | inl e ↦ base.right u m (base.state u m s l.check.0 (inr (inl l.check.1)) l.check.2 q (subst (λ i. Names f m i) (sym e) d))
  | inr (inl k) ↦ base_onward f b u p m k (base.right p m (base.state p m r c z a q d))
  | inr (inr k) ↦ absurd (no_return f b n v p h k)
])
step f b t n u v _ _ s l h (base.checks p m r c d k) = inr (base_onward f b u p m (check_case f b t n u v p s r l h c) (base.right p m (base.checks p m r c d k)))

-- so does each check that the load comes before in the base
walk : (f : FuncRecord) (b : BlockRecord) → AreInTurn f b → ((u : ValueRecord) → ¬ BasePrecedes f b u u) → (u v p c : ValueRecord) (s r : ℕ) → Late f b u v s → Reach b v p → Checks f b c r → BasePrecedes f b p c → BasePrecedes f b u c
walk f b t n u v _ _ s r l h k (base.right p c e) = elim (step f b t n u v p c s l h e) as (λ _. BasePrecedes f b u c) [
  | inl z ↦ check_case f b t n u v c s r l z k
  | inr z ↦ z
]
walk f b t n u v _ _ s r l h k (base.onward p m c e q) = elim (step f b t n u v p m s l h e) as (λ _. BasePrecedes f b u c) [
  | inl z ↦ walk f b t n u v m c s r l z k q
  | inr z ↦ base_onward f b u m c z q
]

abbrev IsEdge : FuncRecord → BlockRecord → ValueRecord → ValueRecord → Type 0
IsEdge f b u v = BaseBefore f b u v ⊎ ((s : ℕ) × Late f b u v s)

kind : (f : FuncRecord) (b : BlockRecord) (u v : ValueRecord) → ComesBefore f b u v → IsEdge f b u v
kind f b _ _ (argument u v h) = inl (base.argument u v h)
kind f b _ _ (state u v s a c d e g) = inl (base.state u v s a c d e g)
kind f b _ _ (checks u v s c d l) = inl (base.checks u v s c d l)
kind f b _ _ (needed u v w s cu lv cw nd n l) = inr (s, of_needed f b u v w s cu lv cw n l)
kind f b _ _ (unneeded u v s cu lv n) = inr (s, record { check = cu; load = lv; use_of = λ c k h. absurd (n c k h) })

-- what comes before a check does so in the base
to_check : (f : FuncRecord) (b : BlockRecord) → AreInTurn f b → ((u : ValueRecord) → ¬ BasePrecedes f b u u) → (a c : ValueRecord) (r : ℕ) → Checks f b c r → Precedes f b a c → BasePrecedes f b a c
to_check f b t n _ _ r k (right a c e) = elim (kind f b a c e) as (λ _. BasePrecedes f b a c) [
  | inl h ↦ base.right a c h
  | inr h ↦ absurd (apart c h.1.load.1 k.1)
]
to_check f b t n _ _ r k (onward a m c e q) = elim (kind f b a m e) as (λ _. BasePrecedes f b a c) [
  | inl h ↦ base.onward a m c h (to_check f b t n m c r k q)
  | inr h ↦ walk f b t n a m m c h.0 r h.1 (inl refl) k (to_check f b t n m c r k q)
]

-- a path is one of the base, or has a late edge
record HasLate (f : FuncRecord) (b : BlockRecord) (a c : ValueRecord) : Type 0 where
  first : ValueRecord
  second : ValueRecord
  state : ℕ
  late : Late f b first second state
  before : (a ≡ first) ⊎ Precedes f b a first
  behind : (second ≡ c) ⊎ Precedes f b second c

split : (f : FuncRecord) (b : BlockRecord) (a c : ValueRecord) → Precedes f b a c → BasePrecedes f b a c ⊎ HasLate f b a c
split f b _ _ (right a c e) = elim (kind f b a c e) as (λ _. BasePrecedes f b a c ⊎ HasLate f b a c) [
  | inl h ↦ inl (base.right a c h)
  | inr h ↦ inr (record { first = a; second = c; state = h.0; late = h.1; before = inl refl; behind = inl refl })
]
split f b _ _ (onward a m c e q) = elim (kind f b a m e) as (λ _. BasePrecedes f b a c ⊎ HasLate f b a c) [
  | inl h ↦ (elim (split f b m c q) as (λ _. BasePrecedes f b a c ⊎ HasLate f b a c) [
    | inl k ↦ inl (base.onward a m c h k)
    | inr k ↦ inr (record { first = k.first; second = k.second; state = k.state; late = k.late; before = inr (front f b a m k.first e k.before); behind = k.behind })
  ])
  | inr h ↦ inr (record { first = a; second = m; state = h.0; late = h.1; before = inl refl; behind = inr q })
]
  where
    front : (f : FuncRecord) (b : BlockRecord) (a m z : ValueRecord) → ComesBefore f b a m → (m ≡ z) ⊎ Precedes f b m z → Precedes f b a z
    front f b a m z e (inl d) = (let P : ValueRecord → Type 0 = λ y. Precedes f b a y in subst P d (right a m e))
    front f b a m z e (inr k) = onward a m z e k

both : (f : FuncRecord) (b : BlockRecord) (t u v : ValueRecord) → Precedes f b t u → Precedes f b u v → Precedes f b t v
both f b _ _ v (right t u h) k = onward t u v h k
both f b _ _ v (onward t u w h l) k = onward t u v h (both f b u w v l k)

-- A block whose states are in turn, and whose base of the order has no cycle, has none.
pub base_suffices : (f : FuncRecord) (b : BlockRecord) → AreInTurn f b → ((u : ValueRecord) → ¬ BasePrecedes f b u u) → (v : ValueRecord) → ¬ Precedes f b v v
base_suffices f b t n v h = elim (split f b v v h) as (λ _. ⊥) [
  | inl k ↦ n v k
  | inr k ↦ n k.first (walk f b t n k.first k.second k.second k.first k.state k.state k.late (inl refl) k.late.check (to_check f b t n k.second k.first k.state k.late.check (round k k.behind k.before)))
]
  where
    round : (k : HasLate f b v v) → (k.second ≡ v) ⊎ Precedes f b k.second v → (v ≡ k.first) ⊎ Precedes f b v k.first → Precedes f b k.second k.first
    round k (inl e) (inl d) = absurd (let P : ValueRecord → Type 0 = λ y. IsLoad y in apart k.first (subst P (e ∙ d) k.late.load.1) k.late.check.1)
    round k (inl e) (inr q) = (let P : ValueRecord → Type 0 = λ y. Precedes f b y k.first in subst P (sym e) q)
    round k (inr q) (inl d) = (let P : ValueRecord → Type 0 = λ y. Precedes f b k.second y in subst P d q)
    round k (inr q) (inr r) = both f b k.second v k.first q r
