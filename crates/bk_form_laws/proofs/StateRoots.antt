-- A rule whose roots take memory, both the same state, keeps all the kinds but Order, and makes no cycle in the base of the order.
use Rattle.std.proofs.Common.{◌⊎◌, ◌≡◌, ℕ, suc, ◌+◌, refl, ap, sym, subst, ◌∙◌, arith, inl, inr, List, [], ◌∷◌, length, Some, Bool, true, false, drop}
use Rattle.std.specs.Prelude.{slice_get, if◌then◌else◌}
use Rattle.bk_ops.specs.Table.{info_of}
use Rattle.bk_ops.specs.declared.table.Op.{Op}
use Rattle.bk_ops.specs.declared.types.Ty.{Ty as Types}
use Rattle.bk_func.specs.Records.{ValueRecord, BlockRecord, FuncRecord}
use Rattle.bk_func.specs.Numbers.{value_of, origin_of}
use Rattle.bk_func.specs.declared.form.FormKind.TheVariants.{Missing, Memory}
use Rattle.bk_func.specs.Form.{Keeps}
use Rattle.bk_func.specs.Form.States.{CopiesMemory, StandsFor, NamesAt, Names}
use Rattle.bk_func.specs.Form.Signatures.{Setting}
use Rattle.bk_func.proofs.Faults.{In}
use Rattle.bk_rule.specs.declared.trees.Bound.{Bound}
use Rattle.bk_rule.specs.declared.trees.Pattern.{Pattern, Row_of-Pattern, end_of-Pattern, more_of-Pattern}
use Rattle.bk_rule.specs.declared.trees.Pattern as pattern
use Rattle.bk_rule.specs.declared.trees.Build.{Build, Row_of-Build, end_of-Build, more_of-Build}
use Rattle.bk_rule.specs.declared.trees.Build as build
use Rattle.bk_rule.specs.declared.trees.Rule.{Rule}
use Rattle.bk_rule.specs.Bindings.{value_in}
use Rattle.bk_rule.specs.Match.{Matches, MatchesEach, swapped, first_is, order_of, orders}
use Rattle.bk_rewrite.specs.Making.{Source, source, values_made, name_made, row_names, root_made, applied, next_number}
use Rattle.bk_ops.specs.declared.family.Family.{Family}
use Rattle.bk_ops.specs.declared.family.Family.TheVariants as op
use Rattle.bk_ops.specs.declared.family.ArmOp.TheVariants as arm
use Rattle.bk_ops.specs.declared.family.RvOp.TheVariants as rv
use Rattle.bk_func.specs.Effects.{is_load, is_check}
use Rattle.bk_form_laws.proofs.Rising.{placed}
use Rattle.bk_form_laws.proofs.BaseKept.{IsPlaced, base_kept}
use Rattle.bk_form_laws.specs.Fits.{is_special, SameNames}
use Rattle.bk_form_laws.specs.Rules.{IsRead, EndsWith, RowEnds, MadeEndsWith, MadeEnds, TakesState, MakesState, KeepsState, KeepsRole, KeepsRoles, AtMade}
use Rattle.bk_form_laws.specs.Typed.{KeepsTypes}
use Rattle.bk_form_laws.specs.Kinds.{Applies, Nearly, HasNoCycle, AllReached}
use Rattle.bk_mean.proofs.Named.{is_named, found_value}
use Rattle.bk_form_laws.proofs.EasyKinds.{missing_kept}
use Rattle.bk_form_laws.proofs.Steps.{Step, after, here, stands_over, stands_back, argument_there, no_result}
use Rattle.bk_form_laws.proofs.Applied.{framed, made_by, root_by, as_visit, applied_is, nodes, new_names, step}
use Rattle.bk_form_laws.proofs.TypedLeft.{Ground, shows_in}
use Rattle.bk_form_laws.proofs.MemoryKept.{IsCalm, memory_kept}
use Rattle.bk_form_laws.proofs.Whole.{facts, typed, names_none}
use Rattle.bk_form_laws.proofs.Calm.{dry_inner, old_root}

-- a number is the last of a list
record IsLast (ns : List ℕ) (n : ℕ) : Type 0 where
  place : ℕ
  got : slice_get ns place ≡ Some n
  end : place + 1 ≡ length ns

behind : (y : ℕ) (ns : List ℕ) (n : ℕ) → IsLast ns n → IsLast (y ∷ ns) n
behind y ns n h = record { place = suc h.place; got = h.got; end = (let e = h.end in omega arith) }

left_last : (p : Pattern) {m : _} (ps : Row_of-Pattern m) (f : FuncRecord) (bs : List Bound) (i y : ℕ) (ids : List ℕ) (cs ds : List Bool) → EndsWith i p ps → Matches f bs p y cs → MatchesEach f bs ps ids ds →
    IsLast (y ∷ ids) (value_in (slice_get bs i))
left_last (pattern.Var j) end_of-Pattern f bs i y [] cs ds e m h =
    record { place = 0; got = ap Some (sym (ap (λ k. value_in (slice_get bs k)) (sym e) ∙ ap value_in m)); end = refl }
left_last (pattern.Var j) end_of-Pattern f bs i y (z ∷ ids) cs ds e m h = elim h [ ]
left_last pattern.Any end_of-Pattern f bs i y ids cs ds e m h = elim e [ ]
left_last (pattern.Node' name o ty int x shape qs) end_of-Pattern f bs i y ids cs ds e m h = elim e [ ]
left_last p (more_of-Pattern q ps) f bs i y [] cs ds e m h = elim h [ ]
left_last p (more_of-Pattern q ps) f bs i y (z ∷ ids) cs ds e m (h, hs) = behind y (z ∷ ids) (value_in (slice_get bs i)) (left_last q ps f bs i z ids ds (drop (orders q) ds) e h hs)

right_last : (b : Build) {m : _} (rs : Row_of-Build m) (c : Source) (i first : ℕ) → MadeEndsWith i b rs →
    IsLast (name_made c b first ∷ row_names c rs (first + length (values_made c b first))) (value_in (slice_get c.binds i))
right_last (build.Var j) end_of-Build c i first e = record { place = 0; got = ap (λ k. Some (value_in (slice_get c.binds k))) e; end = refl }
right_last (build.Node' o ty int a shape args) end_of-Build c i first e = elim e [ ]
right_last b (more_of-Build q rs) c i first e =
    let next : ℕ = first + length (values_made c b first) in
    behind (name_made c b first) (row_names c (more_of-Build q rs) next) (value_in (slice_get c.binds i)) (right_last q rs c i next e)

-- the old root's last argument, and the new root's
old_last : (p : Pattern) (f : FuncRecord) (bs : List Bound) (i id : ℕ) (cs : List Bool) (v : ValueRecord) → TakesState i p → Matches f bs p id cs → value_of f id ≡ Some v →
    ((info_of v.op).memory ≡ true) × IsLast v.args (value_in (slice_get bs i))
old_last pattern.Any f bs i id cs v t m e = elim t [ ]
old_last (pattern.Var j) f bs i id cs v t m e = elim t [ ]
old_last (pattern.Node' name o ty int x shape ps) f bs i id cs v (a, b, r) (n, (w, d, q, y, z, u, ms)) e =
    let k : w ≡ v = (let s : Some w ≡ Some v = sym d ∙ e in cc) in
    let P : ValueRecord → Type 0 = λ u. ((info_of u.op).memory ≡ true) × IsLast u.args (value_in (slice_get bs i)) in
    subst P k (
      ap (λ (u : Op). (info_of u).memory) q ∙ a,
      row ps w.args (drop (order_of o) cs) r (subst (λ (t : Bool). MatchesEach f bs ps (if t then (if first_is cs then swapped w.args else w.args) else w.args) (drop (order_of o) cs)) b ms),
    )
  where
    row : {m : _} (ps : Row_of-Pattern m) (ids : List ℕ) (ds : List Bool) → RowEnds i ps → MatchesEach f bs ps ids ds → IsLast ids (value_in (slice_get bs i))
    row end_of-Pattern ids ds r h = elim r [ ]
    row (more_of-Pattern p ps) [] ds r h = elim h [ ]
    row (more_of-Pattern p ps) (y ∷ ids) ds r (h, hs) = left_last p ps f bs i y ids ds (drop (orders p) ds) r h hs

new_last : (r : Build) (c : Source) (i id : ℕ) (ty : Types) (first : ℕ) → MakesState i r →
    ((info_of (root_made c id ty r first).op).memory ≡ true) × IsLast (root_made c id ty r first).args (value_in (slice_get c.binds i))
new_last (build.Var j) c i id ty first h = elim h [ ]
new_last (build.Node' o u int a shape args) c i id ty first (m, h) = (m, row args h)
  where
    row : {m : _} (rs : Row_of-Build m) → MadeEnds i rs → IsLast (row_names c rs first) (value_in (slice_get c.binds i))
    row end_of-Build h = elim h [ ]
    row (more_of-Build b rs) h = right_last b rs c i first h

at_last : (w : ValueRecord) (k : ℕ) → is_special w.op.family ≡ false → ¬ CopiesMemory w → NamesAt w k → k + 1 ≡ length w.args
at_last w k p c (inl h) = absurd (c h.0)
at_last w k p c (inr (inl h)) = absurd (let z = no_result w.op.family p in let d = h.0 in cc)
at_last w k p c (inr (inr h)) = h.1

-- the argument there is the last
is_last : (ns : List ℕ) (n k m : ℕ) → IsLast ns n → k + 1 ≡ length ns → slice_get ns k ≡ Some m → m ≡ n
is_last ns n k m h e g =
    let a : k ≡ h.place = (let q = h.end in omega (arith, q, e)) in
    let b : Some m ≡ Some n = sym g ∙ (ap (λ i. slice_get ns i) a ∙ h.got) in
    cc

state_names : (t : Step) (n : ℕ) → is_special t.v.op.family ≡ false → ¬ CopiesMemory t.v → is_special t.root.op.family ≡ false → ¬ CopiesMemory t.root →
    ((info_of t.v.op).memory ≡ true) × IsLast t.v.args n → ((info_of t.root.op).memory ≡ true) × IsLast t.root.args n →
    ((w : ValueRecord) → In w t.made → (n : ℕ) → ¬ Names (after t) w n) → SameNames t.f (after t) t.v t.root t.made
state_names t n p c q d (om, ol) (nm, nl) m = record {
  of_made = m;
  stands = stands_over t c d;
  stands_back = stands_back t c d;
  of_root = λ s h. (
    nl.place,
    n,
    inr (inr (nm, nl.end)),
    nl.got,
    stands_over t c d n s (subst (λ m. StandsFor t.f m s) (is_last t.v.args n h.0 h.1 ol (at_last t.v h.0 p c h.2) h.3) h.4),
  );
  of_root_back = λ s h. (
    ol.place,
    n,
    inr (inr (om, ol.end)),
    ol.got,
    stands_back t c d n s (argument_there t t.x t.v (here t) ol.place n ol.got) (subst (λ m. StandsFor (after t) m s) (is_last t.root.args n h.0 h.1 nl (at_last t.root h.0 q d h.2) h.3) h.4),
  );
}

-- what a visit by such a rule is
pub record StateCalmed (t : Step) : Type 0 where
  pub calm : IsCalm t
  pub silent_made : (w : ValueRecord) → In w t.made → (n : ℕ) → ¬ Names (after t) w n

pub state_calmed : (s : Setting) (r : Rule) (f : FuncRecord) (b k : ℕ) (x : BlockRecord) (v : ValueRecord) (bs : List Bound) (cs : List Bool) (h : Applies s r f b k x v bs cs) (d : IsRead r) → KeepsTypes s r → KeepsState r →
    (q : Nearly s f) → StateCalmed (step s r f b k x v bs cs h d q.framed.missing)
state_calmed s r f b k x v bs cs h d y z q =
    let g : Ground s f = record { missing = q.framed.missing; types = q.typed.types } in
    let t : Step = step s r f b k x v bs cs h d g.missing in
    let c : Source = source f bs s.target in
    let a = facts s r f b k x v bs cs h d g y in
    let old : ¬ CopiesMemory v = λ i. a.old_plain.copy i.0 in
    let ol = old_last r.left f bs z.variable v.id cs v z.left h.matches.stands (found_value f (is_named s f g.missing) x v v.id (here t) refl) in
    let nl = new_last r.right c z.variable v.id v.ty (next_number f) z.right in
    let dry = dry_inner r.right s c (shows_in f bs) v.ty (next_number f) a.fits in
    let silent : (w : ValueRecord) → In w (made_by s r f bs) → (n : ℕ) → ¬ Names (after t) w n = λ w i. names_none (after t) w (t.plain w i) (λ j. (dry w i).1 j.1) (dry w i).0 in
    let names : SameNames f (after t) v (root_by s r f bs v) (made_by s r f bs) = state_names t (value_in (slice_get bs z.variable)) a.old_plain.family old a.plain a.copies ol nl silent in
    let m : Keeps s (after t) Missing = missing_kept s f b k x v (root_by s r f bs v) (made_by s r f bs) (as_visit s r f b k x v bs cs h)
    (λ w i. new_names s f v.id (made_by s r f bs) w g.missing (nodes s r f b k x v bs cs h d g.missing w i)) g.missing in
    let calm : IsCalm t = record {
      named = is_named s (after t) m;
      old_plain = a.old_plain.family;
      plain = a.plain;
      old_copies = old;
      copies = a.copies;
      memory = a.replaces.memory;
      memory_back = a.replaces.memory_back;
      names = names;
      at = λ j n l. (ol.1.place, inr (inr (ol.0, ol.1.end)), (let w = ol.1.end in omega (arith, w)));
      made_type = λ w i. (dry w i).1;
      made_memory = λ w i. (dry w i).0;
    } in record {
      calm = calm;
      silent_made = silent;
    }

-- A rule that is read and keeps types, and whose roots take the same state, keeps all the kinds but Order.
pub state_kept : (s : Setting) (r : Rule) (f : FuncRecord) (b k : ℕ) (x : BlockRecord) (v : ValueRecord) (bs : List Bound) (cs : List Bool) → Applies s r f b k x v bs cs → IsRead r → KeepsTypes s r → KeepsState r →
    Nearly s f → Nearly s (applied (source f bs s.target) r.right b k v)
state_kept s r f b k x v bs cs h d y z q =
    let g : Ground s f = record { missing = q.framed.missing; types = q.typed.types } in
    let t : Step = step s r f b k x v bs cs h d g.missing in
    let e = applied_is s r f b k x v bs cs h in
    let calm = (state_calmed s r f b k x v bs cs h d y z q).calm in record {
      framed = framed s r f b k x v bs cs h d q.framed;
      typed = typed s r f b k x v bs cs h d g y (let P : FuncRecord → Type 0 = λ g. SameNames f g v (root_by s r f bs v) (made_by s r f bs) in subst P (sym e) calm.names) q.typed;
      memory = (let P : FuncRecord → Type 0 = λ g. Keeps s g Memory in subst P (sym e) (memory_kept t calm q.memory));
    }

-- ---- order
load_to : (o : Family) → is_load (origin_of o) ≡ true → (o ≡ op.Load) ⊎ (o ≡ op.Arm arm.Load) ⊎ (o ≡ op.Rv rv.Load)
load_to op.Load e = inl refl
load_to (op.Arm arm.Load) e = inr (inl refl)
load_to (op.Rv rv.Load) e = inr (inr refl)
load_to _ e = absurd cc

load_from : (o : Family) → (o ≡ op.Load) ⊎ (o ≡ op.Arm arm.Load) ⊎ (o ≡ op.Rv rv.Load) → is_load (origin_of o) ≡ true
load_from o (inl e) = rw e refl
load_from o (inr (inl e)) = rw e refl
load_from o (inr (inr e)) = rw e refl

check_to : (o : Family) → is_check (origin_of o) ≡ true → (o ≡ op.NilCheck) ⊎ (o ≡ op.Arm arm.Nil) ⊎ (o ≡ op.Rv rv.Nil)
check_to op.NilCheck e = inl refl
check_to (op.Arm arm.Nil) e = inr (inl refl)
check_to (op.Rv rv.Nil) e = inr (inr refl)
check_to _ e = absurd cc

check_from : (o : Family) → (o ≡ op.NilCheck) ⊎ (o ≡ op.Arm arm.Nil) ⊎ (o ≡ op.Rv rv.Nil) → is_check (origin_of o) ≡ true
check_from o (inl e) = rw e refl
check_from o (inr (inl e)) = rw e refl
check_from o (inr (inr e)) = rw e refl

new_role : (r : Build) (c : Source) (i id : ℕ) (ty : Types) (first : ℕ) (o : Family) → MakesState i r → AtMade r (λ q. KeepsRole o q.family) → KeepsRole o (root_made c id ty r first).op.family
new_role (build.Var j) c i id ty first o m h = elim m [ ]
new_role (build.Node' q u int a shape args) c i id ty first o m h = h

-- Such a rule whose roots load or check alike makes no cycle in the base of the order.
pub state_no_cycle : (s : Setting) (r : Rule) (f : FuncRecord) (b k : ℕ) (x : BlockRecord) (v : ValueRecord) (bs : List Bound) (cs : List Bool) → Applies s r f b k x v bs cs → IsRead r → KeepsTypes s r → KeepsState r → KeepsRoles r →
    Nearly s f → AllReached f → HasNoCycle f → HasNoCycle (applied (source f bs s.target) r.right b k v)
state_no_cycle s r f b k x v bs cs h d y z l q reached n =
    let t : Step = step s r f b k x v bs cs h d q.framed.missing in
    let c : Source = source f bs s.target in
    let a = state_calmed s r f b k x v bs cs h d y z q in
    let e = applied_is s r f b k x v bs cs h in
    let role : KeepsRole v.op.family (root_by s r f bs v).op.family = new_role r.right c z.variable v.id v.ty (next_number f) v.op.family z.right
    (old_root r.left f bs v.id cs v (λ o. AtMade r.right (λ q. KeepsRole o.family q.family)) l h.matches.stands (found_value f (is_named s f q.framed.missing) x v v.id (here t) refl)) in
    let p : IsPlaced t = placed s r f b k x v bs cs h d q reached a.calm a.silent_made
    (λ m j. (λ i. load_to v.op.family (role.0 (load_from (root_by s r f bs v).op.family i)), λ i. check_to v.op.family (role.1 (check_from (root_by s r f bs v).op.family i)))) in
    (let P : FuncRecord → Type 0 = λ g. HasNoCycle g in subst P (sym e) (base_kept t p n))
