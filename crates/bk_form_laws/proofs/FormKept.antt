-- Order after an application, and with it all of form.
use Rattle.std.proofs.Common.{◌≡◌, ℕ, refl, sym, subst, List, [], Bool}
use Rattle.bk_func.specs.Records.{ValueRecord, BlockRecord, FuncRecord}
use Rattle.bk_func.specs.declared.form.FormKind.{FormKind}
use Rattle.bk_func.specs.declared.form.FormKind.TheVariants.{Control, Missing, Arity, Ty, Width, Use, Memory, Order}
use Rattle.bk_func.specs.Form.{Keeps, IsFormed}
use Rattle.bk_func.specs.Form.Walks.{IsReached}
use Rattle.bk_func.specs.Form.Before.{ComesBefore, argument, state, checks, Precedes, right, onward}
use Rattle.bk_func.specs.Form.Signatures.{Setting}
use Rattle.bk_func.proofs.Faults.{In}
use Rattle.bk_rule.specs.declared.trees.Bound.{Bound}
use Rattle.bk_rule.specs.declared.trees.Rule.{Rule}
use Rattle.bk_rewrite.specs.Making.{source, applied}
use Rattle.bk_places.proofs.Elements.{to_in}
use Rattle.bk_mean.proofs.Named.{IsNamed, is_named}
use Rattle.bk_order_laws.specs.Base.{BaseBefore, BasePrecedes, KeepsAllButOrder}
use Rattle.bk_order_laws.specs.Base as base
use Rattle.bk_order_laws.proofs.Turns.{in_turn}
use Rattle.bk_order_laws.proofs.BaseSuffices.{base_suffices}
use Rattle.bk_form_laws.specs.Rules.{IsRead, IsPure, KeepsState, KeepsRoles}
use Rattle.bk_form_laws.specs.Typed.{KeepsTypes}
use Rattle.bk_form_laws.specs.Kinds.{Applies, Nearly, HasNoCycle, AllReached}
use Rattle.bk_form_laws.proofs.Pairs.{turn_shape, turn, in_old, beside, one_partner}
use Rattle.bk_form_laws.proofs.Steps.{Step, after, block_after, root_in, turned_at}
use Rattle.bk_form_laws.proofs.EasyKinds.{each_block}
use Rattle.bk_form_laws.proofs.Applied.{applied_is, step}
use Rattle.bk_form_laws.proofs.BaseKept.{starts_in}
use Rattle.bk_form_laws.proofs.Calm.{nearly}
use Rattle.bk_form_laws.proofs.Rising.{no_cycle}
use Rattle.bk_form_laws.proofs.StateRoots.{state_kept, state_no_cycle}

in_order : (f : FuncRecord) (b : BlockRecord) (u v : ValueRecord) → BaseBefore f b u v → ComesBefore f b u v
in_order f b _ _ (base.argument u v h) = argument u v h
in_order f b _ _ (base.state u v s a c d e g) = state u v s a c d e g
in_order f b _ _ (base.checks u v s c d l) = checks u v s c d l

all_in_order : (f : FuncRecord) (b : BlockRecord) (u v : ValueRecord) → BasePrecedes f b u v → Precedes f b u v
all_in_order f b _ _ (base.right u v h) = right u v (in_order f b u v h)
all_in_order f b _ _ (base.onward t u v h k) = onward t u v (in_order f b t u h) (all_in_order f b u v k)

-- ---- blocks that are reached stay so
reached_after : (t : Step) → IsNamed (after t) → AllReached t.f → AllReached (after t)
reached_after t n r d i = each_block t.f t.b t.k t.x t.v t.root t.made t.visit (λ d. IsReached (after t) d) (λ c d p.
    (let w = r c (in_old t.f (after t) t.x (block_after t) c d p) in
    let b = beside t.f (after t) t.x (block_after t) (turned_at t).over (turned_at t).shape c w.0 w.1 in
    let e : b.last ≡ d = one_partner (after t) t.f (block_after t) t.x (turn_shape t.x (block_after t) (turned_at t).shape) n b.last d c
    (turn t.f (after t) t.x (block_after t) c b.last b.pair) (turn t.f (after t) t.x (block_after t) c d p) in
    let P : BlockRecord → Type 0 = λ z. IsReached (after t) z in
    subst P e (b.before, b.walk))) d i

-- ---- all kinds but Order, and all kinds
but_order : (s : Setting) (f : FuncRecord) → Nearly s f → KeepsAllButOrder s f
but_order s f q Control n = q.framed.control
but_order s f q Missing n = q.framed.missing
but_order s f q Arity n = q.framed.arity
but_order s f q Ty n = q.typed.types
but_order s f q Width n = q.typed.width
but_order s f q Use n = q.framed.uses
but_order s f q Memory n = q.memory
but_order s f q Order n = absurd (n refl)

all_kinds : (s : Setting) (f : FuncRecord) → Nearly s f → Keeps s f Order → (k : FormKind) → Keeps s f k
all_kinds s f q o Control = q.framed.control
all_kinds s f q o Missing = q.framed.missing
all_kinds s f q o Arity = q.framed.arity
all_kinds s f q o Ty = q.typed.types
all_kinds s f q o Width = q.typed.width
all_kinds s f q o Use = q.framed.uses
all_kinds s f q o Memory = q.memory
all_kinds s f q o Order = o

nearly_of : (s : Setting) (f : FuncRecord) → IsFormed s f → Nearly s f
nearly_of s f h = record {
  framed = record { control = h.kinds Control; missing = h.kinds Missing; arity = h.kinds Arity; uses = h.kinds Use };
  typed = record { types = h.kinds Ty; width = h.kinds Width };
  memory = h.kinds Memory;
}

-- the rest of form, where all kinds but Order are kept and no cycle is made in the base of the order
rest : (s : Setting) (r : Rule) (f : FuncRecord) (b k : ℕ) (x : BlockRecord) (v : ValueRecord) (bs : List Bound) (cs : List Bool) → Applies s r f b k x v bs cs → IsRead r → AllReached f → IsFormed s f →
    Nearly s (applied (source f bs s.target) r.right b k v) → HasNoCycle (applied (source f bs s.target) r.right b k v) →
    IsFormed s (applied (source f bs s.target) r.right b k v) × AllReached (applied (source f bs s.target) r.right b k v)
rest s r f b k x v bs cs h d reached form p n =
    let g : FuncRecord = applied (source f bs s.target) r.right b k v in
    let q : Nearly s f = nearly_of s f form in
    let t : Step = step s r f b k x v bs cs h d q.framed.missing in
    let e : g ≡ after t = applied_is s r f b k x v bs cs h in
    let a : AllReached g = (let P : FuncRecord → Type 0 = λ z. IsNamed z → AllReached z in subst P (sym e) (λ n. reached_after t n reached)) (is_named s g p.framed.missing) in
    let o : Keeps s g Order = λ c i. record {
      block = tt;
      value = λ w j. base_suffices g c (in_turn s g (but_order s g p) c (a c i)) (λ u p. n c u (i, starts_in g c u u p) p) w;
    } in
    let some : ¬ (g.blocks ≡ []) = (let P : FuncRecord → Type 0 = λ z. ¬ (z.blocks ≡ []) in subst P (sym e) (λ l.
    (let i = to_in (block_after t) (after t).blocks (root_in t).0 in elim (subst (λ z. In (block_after t) z) l i) [ ]))) in
    (record { blocks = some; kinds = all_kinds s g p o }, a)

no_cycle_of : (s : Setting) (f : FuncRecord) → IsFormed s f → HasNoCycle f
no_cycle_of s f form c u j p = (form.kinds Order c j.0).value u j.1 (all_in_order f c u u p)

-- A rule that is read and keeps types, and whose roots have nothing to do with memory, keeps form.
pub form_kept : (s : Setting) (r : Rule) (f : FuncRecord) (b k : ℕ) (x : BlockRecord) (v : ValueRecord) (bs : List Bound) (cs : List Bool) → Applies s r f b k x v bs cs → IsRead r → KeepsTypes s r → IsPure r →
    AllReached f → IsFormed s f → IsFormed s (applied (source f bs s.target) r.right b k v) × AllReached (applied (source f bs s.target) r.right b k v)
form_kept s r f b k x v bs cs h d y z reached form =
    let q : Nearly s f = nearly_of s f form in
    rest s r f b k x v bs cs h d reached form (nearly s r f b k x v bs cs h d y z q) (no_cycle s r f b k x v bs cs h d y z q reached (no_cycle_of s f form))

-- So does one whose roots take one state, and load or check alike.
pub state_form_kept : (s : Setting) (r : Rule) (f : FuncRecord) (b k : ℕ) (x : BlockRecord) (v : ValueRecord) (bs : List Bound) (cs : List Bool) → Applies s r f b k x v bs cs → IsRead r → KeepsTypes s r → KeepsState r → KeepsRoles r →
    AllReached f → IsFormed s f → IsFormed s (applied (source f bs s.target) r.right b k v) × AllReached (applied (source f bs s.target) r.right b k v)
state_form_kept s r f b k x v bs cs h d y z l reached form =
    let q : Nearly s f = nearly_of s f form in
    rest s r f b k x v bs cs h d reached form (state_kept s r f b k x v bs cs h d y z q) (state_no_cycle s r f b k x v bs cs h d y z l q reached (no_cycle_of s f form))
