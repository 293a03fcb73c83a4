-- A rule whose roots have nothing to do with memory keeps all the kinds but Order.
use Rattle.std.proofs.Common.{◌≡◌, ℕ, suc, ◌+◌, refl, ap, sym, subst, ◌∙◌, inl, inr, List, [], ◌∷◌, length, Some, Bool, false}
use Rattle.bk_ops.specs.Table.{info_of, is_op, row, entry}
use Rattle.bk_ops.specs.declared.table.Op.{Op}
use Rattle.bk_ops.specs.declared.types.Ty.{Ty as Types}
use Rattle.bk_ops.specs.declared.types.Ty.TheVariants.{Mem}
use Rattle.bk_func.specs.Records.{ValueRecord, BlockRecord, FuncRecord}
use Rattle.bk_func.specs.Numbers.{value_of}
use Rattle.bk_func.specs.declared.form.FormKind.TheVariants.{Missing, Memory}
use Rattle.bk_func.specs.Form.{Keeps}
use Rattle.bk_func.specs.Form.States.{CopiesMemory, NamesAt, Names}
use Rattle.bk_func.specs.Form.Signatures.{Setting}
use Rattle.bk_func.proofs.Faults.{In}
use Rattle.bk_rule.specs.declared.trees.Bound.{Bound}
use Rattle.bk_rule.specs.declared.trees.Pattern.{Pattern}
use Rattle.bk_rule.specs.declared.trees.Pattern as pattern
use Rattle.bk_rule.specs.declared.trees.Build.{Build, Row_of-Build, end_of-Build, more_of-Build}
use Rattle.bk_rule.specs.declared.trees.Build as build
use Rattle.bk_rule.specs.declared.trees.Rule.{Rule}
use Rattle.bk_rule.specs.Bindings.{bound_env}
use Rattle.bk_rule.specs.Match.{Matches}
use Rattle.bk_rewrite.specs.Making.{Source, source, node_made, result_type, values_made, row_made, row_names, inner_made, root_made, applied, next_number}
use Rattle.bk_form_laws.specs.Fits.{is_special, SameNames}
use Rattle.bk_form_laws.specs.Rules.{AtRoot, AtMade, IsPure, IsRead}
use Rattle.bk_form_laws.specs.Kinds.{Applies, Nearly}
use Rattle.bk_form_laws.specs.Typed.{Seen, type_of, IsRight, AreRight, IsRoot, KeepsTypes}
use Rattle.bk_places.proofs.Elements.{in_either}
use Rattle.bk_mean.proofs.Named.{is_named, found_value}
use Rattle.bk_form_laws.proofs.EasyKinds.{missing_kept}
use Rattle.bk_form_laws.proofs.Steps.{Step, after, here, no_result}
use Rattle.bk_form_laws.proofs.Applied.{framed, made_by, root_by, as_visit, applied_is, nodes, new_names, step}
use Rattle.bk_form_laws.proofs.TypedLeft.{Ground, shows_in}
use Rattle.bk_form_laws.proofs.TypedRight.{type_is}
use Rattle.bk_form_laws.proofs.MemoryKept.{IsCalm, memory_kept}
use Rattle.bk_form_laws.proofs.Whole.{facts, typed, pure_names, names_none}

-- a value below the root is data of an op that neither takes nor gives memory
abbrev pub IsDry : ValueRecord → Type 0
IsDry w = ((info_of w.op).memory ≡ false) × ¬ (w.ty ≡ Mem)

mutual
  dry_tree : (b : Build) (s : Setting) (c : Source) (sh : ℕ → Seen) (first : ℕ) → IsRight s (bound_env c.func c.binds) sh b → (u : ValueRecord) → In u (values_made c b first) → IsDry u
  dry_tree (build.Var i) s c sh first h u j = elim j [ ]
  dry_tree (build.Node' o ty int a shape args) s c sh first (q, p, n, k) u j =
      let y : ValueRecord = node_made c (first + length (row_made c args first)) (result_type o) o ty int a (row_names c args first) in
      elim (in_either u (row_made c args first) (y ∷ []) j) as (λ _. IsDry u) [
        | inl i ↦ dry_row args s c sh o (type_of (bound_env c.func c.binds) ty (result_type o)) 0 first k u i
        | inr i ↦ (elim i as (λ _. IsDry u) [
          | inl e ↦ subst (λ (z : ValueRecord). IsDry z) e (p, λ r. n (sym (type_is c.func c.binds ty (result_type o)) ∙ r))
          | inr z ↦ elim z [ ]
        ])
      ]

  dry_row : {m : _} (rs : Row_of-Build m) (s : Setting) (c : Source) (sh : ℕ → Seen) (o : Op) (x : Types) (k first : ℕ) → AreRight s (bound_env c.func c.binds) sh o x k rs → (u : ValueRecord) → In u (row_made c rs first) → IsDry u
  dry_row end_of-Build s c sh o x k first h u j = elim j [ ]
  dry_row (more_of-Build b rs) s c sh o x k first (a, q, h) u j =
      let next : ℕ = first + length (values_made c b first) in
      elim (in_either u (values_made c b first) (row_made c rs next) j) as (λ _. IsDry u) [
        | inl i ↦ dry_tree b s c sh first q u i
        | inr i ↦ dry_row rs s c sh o x (suc k) next h u i
      ]

pub dry_inner : (r : Build) (s : Setting) (c : Source) (sh : ℕ → Seen) (x : Types) (first : ℕ) → IsRoot s (bound_env c.func c.binds) sh r x → (u : ValueRecord) → In u (inner_made c r first) → IsDry u
dry_inner (build.Var i) s c sh x first h u j = elim j [ ]
dry_inner (build.Node' o ty int a shape args) s c sh x first (l, q, k) u j = dry_row args s c sh o (type_of (bound_env c.func c.binds) ty x) 0 first k u j

-- the roots
pub old_root : (p : Pattern) (f : FuncRecord) (bs : List Bound) (id : ℕ) (cs : List Bool) (v : ValueRecord) (P : Op → Type 0) → AtRoot p P → Matches f bs p id cs → value_of f id ≡ Some v → P v.op
old_root pattern.Any f bs id cs v P n m e = elim n [ ]
old_root (pattern.Var i) f bs id cs v P n m e = elim n [ ]
old_root (pattern.Node' name o ty int x shape ps) f bs id cs v P p (a, (w, d, q, y, z, r, ms)) e = (let k : w ≡ v = (let s : Some w ≡ Some v = sym d ∙ e in cc) in subst P (sym q ∙ ap (λ (u : ValueRecord). u.op) k) p)

pub new_root : (r : Build) (c : Source) (id : ℕ) (x : Types) (first : ℕ) → AtMade r (λ o. (info_of o).memory ≡ false) → (info_of (root_made c id x r first).op).memory ≡ false
unfolding info_of is_op row entry
new_root (build.Var i) c id x first h = refl
new_root (build.Node' o ty int a shape args) c id x first h = h

no_place : (w : ValueRecord) (k : ℕ) → is_special w.op.family ≡ false → ¬ CopiesMemory w → (info_of w.op).memory ≡ false → NamesAt w k → ⊥
no_place w k p c m (inl h) = c h.0
no_place w k p c m (inr (inl h)) = (let z = no_result w.op.family p in let d = h.0 in cc)
no_place w k p c m (inr (inr h)) = (let d = h.0 in cc)

-- what a visit by such a rule is
pub record Calmed (t : Step) : Type 0 where
  pub calm : IsCalm t
  pub silent : (n : ℕ) → ¬ Names (after t) t.root n
  pub silent_made : (w : ValueRecord) → In w t.made → (n : ℕ) → ¬ Names (after t) w n

pub calmed : (s : Setting) (r : Rule) (f : FuncRecord) (b k : ℕ) (x : BlockRecord) (v : ValueRecord) (bs : List Bound) (cs : List Bool) (h : Applies s r f b k x v bs cs) (d : IsRead r) → KeepsTypes s r → IsPure r →
    (q : Nearly s f) → Calmed (step s r f b k x v bs cs h d q.framed.missing)
calmed s r f b k x v bs cs h d y z q =
    let g : Ground s f = record { missing = q.framed.missing; types = q.typed.types } in
    let t : Step = step s r f b k x v bs cs h d g.missing in
    let c : Source = source f bs s.target in
    let a = facts s r f b k x v bs cs h d g y in
    let old : ¬ CopiesMemory v = λ i. a.old_plain.copy i.0 in
    let om : (info_of v.op).memory ≡ false = old_root r.left f bs v.id cs v (λ o. (info_of o).memory ≡ false) z.left h.matches.stands (found_value f (is_named s f g.missing) x v v.id (here t) refl) in
    let nm : (info_of (root_by s r f bs v).op).memory ≡ false = new_root r.right c v.id v.ty (next_number f) z.right in
    let dry = dry_inner r.right s c (shows_in f bs) v.ty (next_number f) a.fits in
    let silent : (w : ValueRecord) → In w (made_by s r f bs) → (n : ℕ) → ¬ Names (after t) w n = λ w i. names_none (after t) w (t.plain w i) (λ j. (dry w i).1 j.1) (dry w i).0 in
    let names : SameNames f (after t) v (root_by s r f bs v) (made_by s r f bs) = pure_names t a.old_plain.family old a.plain a.copies (record { old = om; new = nm }) silent in
    let m : Keeps s (after t) Missing = missing_kept s f b k x v (root_by s r f bs v) (made_by s r f bs) (as_visit s r f b k x v bs cs h)
    (λ w i. new_names s f v.id (made_by s r f bs) w g.missing (nodes s r f b k x v bs cs h d g.missing w i)) g.missing in
    let calm : IsCalm t = record {
      named = is_named s (after t) m;
      old_plain = a.old_plain.family;
      plain = a.plain;
      old_copies = old;
      copies = a.copies;
      memory = a.replaces.memory;
      memory_back = a.replaces.memory_back;
      names = names;
      at = λ j n l. absurd (no_place (root_by s r f bs v) j a.plain a.copies nm n);
      made_type = λ w i. (dry w i).1;
      made_memory = λ w i. (dry w i).0;
    } in record {
      calm = calm;
      silent = names_none (after t) (root_by s r f bs v) a.plain a.copies nm;
      silent_made = silent;
    }

-- A rule that is read and keeps types, and whose roots have nothing to do with memory, keeps all the kinds but Order: in each setting,
-- sound or not.
pub nearly : (s : Setting) (r : Rule) (f : FuncRecord) (b k : ℕ) (x : BlockRecord) (v : ValueRecord) (bs : List Bound) (cs : List Bool) → Applies s r f b k x v bs cs → IsRead r → KeepsTypes s r → IsPure r →
    Nearly s f → Nearly s (applied (source f bs s.target) r.right b k v)
nearly s r f b k x v bs cs h d y z q =
    let g : Ground s f = record { missing = q.framed.missing; types = q.typed.types } in
    let t : Step = step s r f b k x v bs cs h d g.missing in
    let e = applied_is s r f b k x v bs cs h in
    let calm = (calmed s r f b k x v bs cs h d y z q).calm in record {
      framed = framed s r f b k x v bs cs h d q.framed;
      typed = typed s r f b k x v bs cs h d g y (let P : FuncRecord → Type 0 = λ g. SameNames f g v (root_by s r f bs v) (made_by s r f bs) in subst P (sym e) calm.names) q.typed;
      memory = (let P : FuncRecord → Type 0 = λ g. Keeps s g Memory in subst P (sym e) (memory_kept t calm q.memory));
    }
