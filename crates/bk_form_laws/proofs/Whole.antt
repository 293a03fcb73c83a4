-- One application of a rule that is read and keeps types: it keeps Type and Width too.
use Rattle.std.proofs.Common.{◌≡◌, ℕ, refl, ap, sym, subst, ◌∙◌, inl, inr, List, [], Some, Bool, false}
use Rattle.bk_ops.specs.Table.{info_of}
use Rattle.bk_ops.specs.Types.{width_of}
use Rattle.bk_ops.specs.declared.types.Ty.{Ty as Types}
use Rattle.bk_ops.specs.declared.types.Ty.TheVariants.{Mem}
use Rattle.bk_ops.specs.declared.family.Family.{Family}
use Rattle.bk_ops.specs.declared.family.Family.TheVariants as op
use Rattle.bk_func.specs.Records.{ValueRecord, BlockRecord, FuncRecord}
use Rattle.bk_func.specs.Numbers.{value_of}
use Rattle.bk_func.specs.declared.form.FormKind.TheVariants.{Missing}
use Rattle.bk_func.specs.Form.{Keeps}
use Rattle.bk_func.specs.Form.States.{CopiesMemory, NamesAt, Names}
use Rattle.bk_func.specs.Form.Signatures.{Setting}
use Rattle.bk_func.specs.Form.Shapes.{IsData, IsAlike, HasTypes}
use Rattle.bk_func.proofs.Faults.{In}
use Rattle.bk_rule.specs.declared.trees.Bound.{Bound}
use Rattle.bk_rule.specs.declared.trees.Pattern.{Pattern}
use Rattle.bk_rule.specs.declared.trees.Pattern as pattern
use Rattle.bk_rule.specs.declared.trees.Build.{Build}
use Rattle.bk_rule.specs.declared.trees.Build as build
use Rattle.bk_rule.specs.declared.trees.Rule.{Rule}
use Rattle.bk_rule.specs.Bindings.{bound_env}
use Rattle.bk_rule.specs.Match.{Matches}
use Rattle.bk_rewrite.specs.Making.{Source, source, inner_made, root_made, applied, next_number}
use Rattle.bk_form_laws.specs.Visits.{IsNew}
use Rattle.bk_form_laws.specs.Fits.{is_special, Replaces, SameNames}
use Rattle.bk_form_laws.specs.Rules.{IsPlainOp, IsPlain, IsNode, IsBuilt, IsRead}
use Rattle.bk_form_laws.specs.Kinds.{Applies, Typed}
use Rattle.bk_form_laws.specs.Typed.{seen, is_base, Fits, IsLike, IsRoot, type_of, KeepsTypes}
use Rattle.bk_mean.proofs.Named.{is_named, found_value}
use Rattle.bk_form_laws.proofs.Matched.{Under, named_below}
use Rattle.bk_form_laws.proofs.New.{IsNode as IsMadeNode}
use Rattle.bk_form_laws.proofs.EasyKinds.{missing_kept}
use Rattle.bk_form_laws.proofs.Steps.{Step, after, here, stands_over, stands_back, no_result, no_call}
use Rattle.bk_form_laws.proofs.WidthKept.{width_kept}
use Rattle.bk_form_laws.proofs.TypeKept.{type_kept}
use Rattle.bk_form_laws.proofs.Applied.{made_by, root_by, as_visit, applied_is, nodes, new_names, step}
use Rattle.bk_form_laws.proofs.TypedLeft.{Ground, shows_in, left_fits}
use Rattle.bk_form_laws.proofs.TypedRight.{Right, node_types, row_types, copy_types, type_is}

-- the op of the root
root_op : (p : Pattern) (f : FuncRecord) (bs : List Bound) (id : ℕ) (cs : List Bool) (v : ValueRecord) → IsNode p → IsPlain p → Matches f bs p id cs → value_of f id ≡ Some v → IsPlainOp v.op
root_op pattern.Any f bs id cs v n p m e = elim n [ ]
root_op (pattern.Var i) f bs id cs v n p m e = elim n [ ]
root_op (pattern.Node' name o ty int x shape ps) f bs id cs v n (p, ps2) (a, (w, d, q, y, z, r, ms)) e = (let k : w ≡ v = (let s : Some w ≡ Some v = sym d ∙ e in cc) in subst IsPlainOp (sym q ∙ ap (λ (u : ValueRecord). u.op) k) p)

plain_base : (o : Family) → is_special o ≡ false → is_base o ≡ false
plain_base op.Sb z = absurd cc
plain_base _ z = refl

data_memory : (s : Setting) (x : Types) → IsData s x → ¬ (x ≡ Mem)
data_memory s x h e = h (ap (λ y. width_of y s.target) e)

-- what is known of the root of the right tree
record Root (s : Setting) (v root : ValueRecord) : Type 0 where
  like : IsLike s v.ty root.ty
  plain : is_special root.op.family ≡ false
  copies : ¬ CopiesMemory root

replaces : (s : Setting) (v root : ValueRecord) → is_special v.op.family ≡ false → Root s v root → Replaces s.target v root
replaces s v root p r = record {
  width = r.like.width;
  truth = r.like.truth;
  memory = r.like.memory;
  memory_back = r.like.memory_back;
  special = λ o z e. absurd (let d = ap is_special e in cc);
  special_back = λ o z e. absurd (let q = r.plain in let d = ap is_special e in cc);
  aux = λ c. absurd (let z = no_call v.op.family p in cc);
}

same_like : (s : Setting) (x : Types) → IsLike s x x
same_like s x = record { width = refl; truth = λ e. e; memory = λ e. e; memory_back = λ e. e }

root_is : (s : Setting) (c : Source) (l : Pattern) (r : Build) (v : ValueRecord) (n : ℕ) → IsBuilt l r → is_special (root_made c v.id v.ty r n).op.family ≡ false → IsRoot s (bound_env c.func c.binds) (shows_in c.func c.binds) r v.ty →
    Root s v (root_made c v.id v.ty r n)
root_is s c l (build.Var i) v n h p k = record { like = same_like s v.ty; plain = p; copies = λ q. data_memory s v.ty k.1.0 q.1 }
root_is s c l (build.Node' o ty int a shape args) v n (h, hs) p (q, x, as2) = record {
  like = subst (IsLike s v.ty) (sym (type_is c.func c.binds ty v.ty)) q;
  plain = p;
  copies = λ z. h.copy z.0;
}

-- neither the old root nor the new one names a state
pub record IsPure (v root : ValueRecord) : Type 0 where
  pub old : (info_of v.op).memory ≡ false
  pub new : (info_of root.op).memory ≡ false

pub names_none : (f : FuncRecord) (v : ValueRecord) → is_special v.op.family ≡ false → ¬ CopiesMemory v → (info_of v.op).memory ≡ false → (n : ℕ) → ¬ Names f v n
names_none f v p c m n (k, j, a, e, s) = at a
  where
    at : NamesAt v k → ⊥
    at (inl h) = c h.0
    at (inr (inl h)) = (let z = no_result v.op.family p in let d = h.0 in cc)
    at (inr (inr h)) = (let d = h.0 in cc)

pub pure_names : (t : Step) → is_special t.v.op.family ≡ false → ¬ CopiesMemory t.v → is_special t.root.op.family ≡ false → ¬ CopiesMemory t.root → IsPure t.v t.root →
    ((w : ValueRecord) → In w t.made → (n : ℕ) → ¬ Names (after t) w n) → SameNames t.f (after t) t.v t.root t.made
pure_names t p c q d h m = record {
  stands = stands_over t c d;
  stands_back = stands_back t c d;
  of_root = λ n k. absurd (names_none t.f t.v p c h.old n k);
  of_root_back = λ n k. absurd (names_none (after t) t.root q d h.new n k);
  of_made = m;
}

right_types : (t : Step) (c : Source) (l : Pattern) → Right t c l → (r : Build) (first : ℕ) → t.made ≡ inner_made c r first → t.root ≡ root_made c t.v.id t.v.ty r first → IsBuilt l r →
    ((w : ValueRecord) → IsNew t.root t.made w → IsMadeNode t.s t.f t.v.id t.made w) → IsRoot t.s (bound_env t.f c.binds) (shows_in t.f c.binds) r t.v.ty → (w : ValueRecord) → IsNew t.root t.made w → HasTypes t.s (after t) w
right_types t c l g (build.Var i) first m d h k q w (inl e) =
    subst (HasTypes t.s (after t)) e (copy_types t c l g i h t.root (ap (λ (y : ValueRecord). y.op) d) (ap (λ (y : ValueRecord). y.args) d) (ap (λ (y : ValueRecord). y.aux) d) q.0
    (let P : Types → Type 0 = λ x. IsAlike t.s x (shows_in t.f c.binds i).ty in subst P (sym (ap (λ (y : ValueRecord). y.ty) d)) q.1))
right_types t c l g (build.Var i) first m d h k q w (inr j) = absurd (let z : In w [] = subst (λ ws. In w ws) m j in elim z [ ])
right_types t c l g (build.Node' o ty int a shape args) first m d (h, hs) k (x, y, as2) w (inl e) =
    let root : ValueRecord = root_made c t.v.id t.v.ty (build.Node' o ty int a shape args) first in
    let n : IsMadeNode t.s t.f t.v.id t.made root = subst (IsMadeNode t.s t.f t.v.id t.made) d (k t.root (inl refl)) in
    subst (HasTypes t.s (after t)) (sym d ∙ e) (node_types t c l g t.made t.v.id t.v.ty o ty int a args first hs (λ u i. subst (λ ws. In u ws) (sym m) i) n y as2)
right_types t c l g (build.Node' o ty int a shape args) first m d (h, hs) k (x, y, as2) w (inr j) =
    row_types args t c l g o (type_of (bound_env t.f c.binds) ty t.v.ty) 0 first hs (λ u i. subst (λ ws. In u ws) (sym m) i) (λ u i. k u (inr i)) as2 w (subst (λ ws. In w ws) m j)

-- what is known of an application of a rule that is read and keeps types
pub record Facts (t : Step) (bs : List Bound) (right : Build) : Type 0 where
  pub old_plain : IsPlainOp t.v.op
  pub plain : is_special t.root.op.family ≡ false
  pub copies : ¬ CopiesMemory t.root
  pub replaces : Replaces t.s.target t.v t.root
  pub types : (w : ValueRecord) → IsNew t.root t.made w → HasTypes t.s (after t) w
  pub nodes : (w : ValueRecord) → IsNew t.root t.made w → IsMadeNode t.s t.f t.v.id t.made w
  pub fits : IsRoot t.s (bound_env t.f bs) (shows_in t.f bs) right t.v.ty

pub facts : (s : Setting) (r : Rule) (f : FuncRecord) (b k : ℕ) (x : BlockRecord) (v : ValueRecord) (bs : List Bound) (cs : List Bool) (h : Applies s r f b k x v bs cs) (d : IsRead r) (g : Ground s f) → KeepsTypes s r →
    Facts (step s r f b k x v bs cs h d g.missing) bs r.right
unfolding KeepsTypes
facts s r f b k x v bs cs h d g y =
    let t : Step = step s r f b k x v bs cs h d g.missing in
    let c : Source = source f bs s.target in
    let n = nodes s r f b k x v bs cs h d g.missing in
    let p : IsPlainOp v.op = root_op r.left f bs v.id cs v d.node d.left h.matches.stands (found_value f (is_named s f g.missing) x v v.id (here t) refl) in
    let e : seen v ≡ record { ty = v.ty; base = false } = ap (λ (z : Bool). record { ty = v.ty; base = z }) (plain_base v.op.family p.family) in
    let q : IsRoot s (bound_env f bs) (shows_in f bs) r.right v.ty = y (bound_env f bs) (shows_in f bs) v.ty
    (subst (Fits s (bound_env f bs) (shows_in f bs) r.left) e (left_fits r.left s f g bs v.id cs d.left h.matches.stands x v (here t) refl)) h.matches.holds in
    let z : Root s v (root_by s r f bs v) = root_is s c r.left r.right v (next_number f) d.right (n (root_by s r f bs v) (inl refl)).plain q in
    let m : Keeps s (after t) Missing = missing_kept s f b k x v (root_by s r f bs v) (made_by s r f bs) (as_visit s r f b k x v bs cs h) (λ w i. new_names s f v.id (made_by s r f bs) w g.missing (n w i)) g.missing in
    let a : Replaces s.target v (root_by s r f bs v) = replaces s v (root_by s r f bs v) p.family z in
    let right : Right t c r.left = record {
      func = refl;
      named = is_named s (after t) m;
      replaces = a;
      under = λ i j l w. subst (Under f v.id) w (named_below r.left f bs i v.id cs d.left h.matches.stands l);
    } in record {
      old_plain = p;
      plain = z.plain;
      copies = z.copies;
      replaces = a;
      nodes = n;
      fits = q;
      types = right_types t c r.left right r.right (next_number f) refl refl d.right n q;
    }

-- A rule that is read and keeps types keeps Type and Width, where root names what v names.
pub typed : (s : Setting) (r : Rule) (f : FuncRecord) (b k : ℕ) (x : BlockRecord) (v : ValueRecord) (bs : List Bound) (cs : List Bool) (h : Applies s r f b k x v bs cs) (d : IsRead r) (g : Ground s f) → KeepsTypes s r →
    SameNames f (applied (source f bs s.target) r.right b k v) v (root_by s r f bs v) (made_by s r f bs) → Typed s f → Typed s (applied (source f bs s.target) r.right b k v)
typed s r f b k x v bs cs h d g y n q =
    let t : Step = step s r f b k x v bs cs h d g.missing in
    let a = facts s r f b k x v bs cs h d g y in
    let e = applied_is s r f b k x v bs cs h in
    let m : SameNames f (after t) v (root_by s r f bs v) (made_by s r f bs) = (let P : FuncRecord → Type 0 = λ g. SameNames f g v (root_by s r f bs v) (made_by s r f bs) in subst P e n) in
    subst (Typed s) (sym e) (record {
      types = type_kept t a.replaces m a.types q.types;
      width = width_kept t a.replaces m q.types (λ w i. (a.nodes w i).range (after t).blocks q) q.width;
    })
