-- What a rule that keeps types makes has its types in the new function.
use Rattle.std.proofs.Common.{◌≡◌, ℕ, zero, suc, ◌+◌, refl, ap, sym, subst, ◌∙◌, arith, inl, inr, List, [], ◌∷◌, length, Some, None, Option, false}
use Rattle.std.specs.Prelude.{slice_get}
use Rattle.bk_ops.specs.Table.{info_of, is_op, row, entry}
use Rattle.bk_ops.specs.declared.table.Op.{Op}
use Rattle.bk_ops.specs.declared.table.Class.{Class}
use Rattle.bk_ops.specs.declared.table.Class.TheVariants.{Number, Word, Bool as Truth, Mem as State, Void as Nothing, Tuple as Results, ByType}
use Rattle.bk_ops.specs.declared.types.Ty.{Ty as Types}
use Rattle.bk_ops.specs.declared.family.Family.{Family}
use Rattle.bk_ops.specs.declared.family.Family.TheVariants as op
use Rattle.bk_func.specs.declared.parts.Aux.{Aux}
use Rattle.bk_func.specs.declared.parts.Aux.TheVariants as beside
use Rattle.bk_func.specs.Records.{ValueRecord, BlockRecord, FuncRecord}
use Rattle.bk_func.specs.Numbers.{value_of}
use Rattle.bk_func.specs.Form.Text.{HasValue}
use Rattle.bk_func.specs.Form.Signatures.{Setting}
use Rattle.bk_func.specs.Form.Shapes.{IsData, FitsWord, IsAlike, Slot, bits, word, truth, memory, same, stored, base, call, argument, result, slot, IsFree, FitsSlot, FitsPlace, GivesByType, GivesWord, Gives, FitsAux, HasTypes}
use Rattle.bk_func.proofs.Faults.{In}
use Rattle.bk_rule.specs.declared.trees.Bound.{Bound}
use Rattle.bk_rule.specs.declared.trees.Pattern.{Pattern}
use Rattle.bk_rule.specs.declared.trees.Expr.{Expr}
use Rattle.bk_rule.specs.declared.trees.TyPart.{TyPart}
use Rattle.bk_rule.specs.declared.trees.TyPart.TheVariants as part
use Rattle.bk_rule.specs.declared.trees.Build.{Build, Row_of-Build, end_of-Build, more_of-Build}
use Rattle.bk_rule.specs.declared.trees.Build as build
use Rattle.bk_rule.specs.Bindings.{value_in, bound_env}
use Rattle.bk_rule.specs.Expressions.{Env}
use Rattle.bk_rewrite.specs.Making.{Source, type_made, node_made, result_type, values_made, row_made, name_made, row_names}
use Rattle.bk_form_laws.specs.Fits.{is_special, IsThere, Replaces}
use Rattle.bk_refine_laws.specs.Trees.{NamesBelow}
use Rattle.bk_form_laws.specs.Rules.{IsBuilt, AreBuilt}
use Rattle.bk_form_laws.specs.Typed.{Seen, is_base, seen, Takes, HasResult, type_of, shown, IsRight, AreRight}
use Rattle.bk_places.proofs.Elements.{in_left, in_right, in_either}
use Rattle.bk_mean.proofs.Named.{IsNamed, is_named, found_value}
use Rattle.bk_form_laws.proofs.Matched.{Under, under_number}
use Rattle.bk_form_laws.proofs.New.{IsNode}
use Rattle.bk_form_laws.proofs.TypedLeft.{seen_of, shows_in}
use Rattle.bk_form_laws.proofs.TypeKept.{slot_root}
use Rattle.bk_form_laws.proofs.Turning.{new_in}
use Rattle.bk_form_laws.proofs.Steps.{Step, after, block_after, here, old_value, there}

is_free : (u : ValueRecord) → is_base u.op.family ≡ false → IsFree u
is_free u h e = (let d = ap is_base e in cc)

takes_slot : (s : Setting) (g : FuncRecord) (w u : ValueRecord) (z : Slot) → Takes s w.ty z (seen u) → FitsSlot s g w u z
takes_slot s g w u (bits n) h = (is_free u h.0, h.1)
takes_slot s g w u word h = (is_free u h.0, h.1)
takes_slot s g w u truth h = (is_free u h.0, h.1)
takes_slot s g w u memory h = h
takes_slot s g w u same (inl h) = inl h
takes_slot s g w u same (inr h) = inr (is_free u h.0, h.1)
takes_slot s g w u stored h = elim h [ ]
takes_slot s g w u base h = elim h [ ]
takes_slot s g w u call h = elim h [ ]
takes_slot s g w u argument h = elim h [ ]
takes_slot s g w u result h = elim h [ ]

place_of : (s : Setting) (g : FuncRecord) (w u : ValueRecord) (o : Family) (i : ℕ) → is_special o ≡ false → FitsSlot s g w u (slot w.op o i) → FitsPlace s g w o i u
unfolding FitsPlace
place_of s g w u op.StaticLECall i z h = absurd cc
place_of s g w u op.MakeResult i z h = absurd cc
place_of s g w u op.CallRegs i z h = absurd cc
place_of s g w u op.RetRegs i z h = absurd cc
place_of s g w u _ i z h = h

gives_of : (s : Setting) (g : FuncRecord) (w : ValueRecord) → is_special w.op.family ≡ false → (c : Class) → HasResult s c w.ty → Gives s g w c
unfolding GivesWord GivesByType
gives_of s g w z (Number n) h = h
gives_of s g w z Word h = go w.op.family z h
  where
    go : (o : Family) → is_special o ≡ false → FitsWord s w.ty → GivesWord s g w o
    go op.ArgWord z h = absurd cc
    go op.ResWord z h = absurd cc
    go op.ArgReg z h = absurd cc
    go op.ResReg z h = absurd cc
    go _ z h = h
gives_of s g w z Truth h = h
gives_of s g w z State h = h
gives_of s g w z Nothing h = h
gives_of s g w z Results h = elim h [ ]
gives_of s g w z ByType h = go w.op.family z h
  where
    go : (o : Family) → is_special o ≡ false → IsData s w.ty → GivesByType s g w o
    go op.Phi z h = inr h
    go op.Copy z h = inr h
    go op.Arg z h = absurd cc
    go op.SelectN z h = absurd cc
    go _ z h = h

aux_fits : (s : Setting) (o : Family) (a : Aux) → ¬ (o ≡ op.Store) → ((x : Types) → ¬ (a ≡ beside.Ty x)) → FitsAux s o a
unfolding FitsAux
aux_fits s op.Store a h k = absurd (h refl)
aux_fits s _ beside.Nothing h k = tt
aux_fits s _ (beside.Sym n) h k = tt
aux_fits s _ (beside.Arg n) h k = tt
aux_fits s _ (beside.Ty x) h k = absurd (k x refl)

pub type_is : (f : FuncRecord) (bs : List Bound) (ty : Option TyPart) (other : Types) → type_made bs ty other ≡ type_of (bound_env f bs) ty other
type_is f bs None other = refl
type_is f bs (Some (part.Is t)) other = refl
type_is f bs (Some (part.Var i)) other = refl

-- ---- arguments
-- a value of g that bears a number below the root shows what the variable does, or is the root
old_shows : (t : Step) → Replaces t.s.target t.v t.root → (w : ValueRecord) (z : Slot) (n : ℕ) → Under t.f t.v.id n → Takes t.s w.ty z (seen_of (value_of t.f n)) → (d : BlockRecord) (u : ValueRecord) → HasValue (after t) d u → u.id ≡ n →
    FitsSlot t.s (after t) w u z
old_shows t r w z n h k d u i e = elim (old_value t d u i (subst (λ m. IsThere t.f m) (sym e) (there t.f n (under_number t.s t.f t.missing t.v.id n h)))) as (λ _. FitsSlot t.s (after t) w u z) [
  | inl q ↦ (let f1 : value_of t.f n ≡ Some t.v = found_value t.f (is_named t.s t.f t.missing) t.x t.v n (here t) (sym t.visit.same ∙ (ap (λ (y : ValueRecord). y.id) (sym q) ∙ e)) in
      let k2 : Takes t.s w.ty z (seen t.v) = subst (λ o. Takes t.s w.ty z (seen_of o)) f1 k in
      let P : ValueRecord → Type 0 = λ y. FitsSlot t.s (after t) w y z in
      subst P (sym q) (slot_root t.s (after t) w t.v t.root r z (takes_slot t.s (after t) w t.v z k2)))
  | inr q ↦ (let f1 : value_of t.f n ≡ Some u = found_value t.f (is_named t.s t.f t.missing) q.0 u n q.2 e in
      takes_slot t.s (after t) w u z (subst (λ o. Takes t.s w.ty z (seen_of o)) f1 k))
]

-- what the proof goes on
pub record Right (t : Step) (c : Source) (l : Pattern) : Type 0 where
  pub func : c.func ≡ t.f
  pub named : IsNamed (after t)
  pub replaces : Replaces t.s.target t.v t.root
  pub under : (i n : ℕ) → NamesBelow i l → value_in (slice_get c.binds i) ≡ n → Under t.f t.v.id n

abbrev env : Step → Source → Env
env t c = bound_env t.f c.binds

abbrev shows : Step → Source → ℕ → Seen
shows t c = shows_in t.f c.binds

-- a tree's value stands at a place that takes what the tree shows
tree_stands : (t : Step) (c : Source) (l : Pattern) → Right t c l → (w : ValueRecord) (z : Slot) (b : Build) (first : ℕ) → IsBuilt l b → ((u : ValueRecord) → In u (values_made c b first) → In u t.made) →
    Takes t.s w.ty z (shown (env t c) (shows t c) b) → (d : BlockRecord) (u : ValueRecord) → HasValue (after t) d u → u.id ≡ name_made c b first → FitsSlot t.s (after t) w u z
tree_stands t c l r w z (build.Var i) first h m k d u j e = old_shows t r.replaces w z (value_in (slice_get c.binds i)) (r.under i (value_in (slice_get c.binds i)) h refl) k d u j e
tree_stands t c l r w z (build.Node' o ty int a shape args) first h m k d u j e =
    let n : ℕ = first + length (row_made c args first) in
    let y : ValueRecord = node_made c n (result_type o) o ty int a (row_names c args first) in
    let i : In y t.made = m y (in_right y (row_made c args first) (y ∷ []) (inl refl)) in
    let q : u ≡ y = r.named.same_value d (block_after t) u y j (new_in t.f t.b t.k t.x t.v t.root t.made t.visit y (inr i)) e in
    let P : ValueRecord → Type 0 = λ y. FitsSlot t.s (after t) w y z in
    let k2 : Takes t.s w.ty z (seen y) = subst (λ (x : Types). Takes t.s w.ty z (record { ty = x; base = is_base o.family })) (sym (type_is t.f c.binds ty (result_type o))) k in
    subst P (sym q) (takes_slot t.s (after t) w y z k2)

zero_more : (k : ℕ) → k ≡ k + 0
zero_more k = omega arith

suc_more : (k i : ℕ) → suc k + i ≡ k + suc i
suc_more k i = omega arith

none_more : (i : ℕ) → 0 + i ≡ i
none_more i = omega arith

row_stands : {m : _} (rs : Row_of-Build m) (t : Step) (c : Source) (l : Pattern) → Right t c l → (w : ValueRecord) (o : Op) (k first : ℕ) → AreBuilt l rs → ((u : ValueRecord) → In u (row_made c rs first) → In u t.made) →
    AreRight t.s (env t c) (shows t c) o w.ty k rs → (i : ℕ) (d : BlockRecord) (u : ValueRecord) → HasValue (after t) d u → slice_get (row_names c rs first) i ≡ Some u.id → FitsSlot t.s (after t) w u (slot o o.family (k + i))
row_stands end_of-Build t c l r w o k first h m a i d u j e = absurd (let z : None ≡ Some u.id = e in cc)
row_stands (more_of-Build b rs) t c l r w o k first (h, hs) m (a, x, as2) zero d u j e =
    let q : name_made c b first ≡ u.id = cc in
    subst (λ (n : ℕ). FitsSlot t.s (after t) w u (slot o o.family n)) (zero_more k)
    (tree_stands t c l r w (slot o o.family k) b first h (λ y i. m y (in_left y (values_made c b first) (row_made c rs (first + length (values_made c b first))) i)) a d u j (sym q))
row_stands (more_of-Build b rs) t c l r w o k first (h, hs) m (a, x, as2) (suc i) d u j e =
    subst (λ (n : ℕ). FitsSlot t.s (after t) w u (slot o o.family n)) (suc_more k i)
    (row_stands rs t c l r w o (suc k) (first + length (values_made c b first)) hs (λ y i. m y (in_right y (values_made c b first) (row_made c rs (first + length (values_made c b first))) i)) as2 i d u j e)

-- ---- one node, and all
pub node_types : (t : Step) (c : Source) (l : Pattern) → Right t c l → (made : List ValueRecord) (n : ℕ) (other : Types) (o : Op) (ty : Option TyPart) (int : Option Expr) (a : Option ℕ) {m : _} (rs : Row_of-Build m) (first : ℕ) → AreBuilt l rs →
    ((u : ValueRecord) → In u (row_made c rs first) → In u t.made) → IsNode t.s t.f t.v.id made (node_made c n other o ty int a (row_names c rs first)) →
    HasResult t.s (info_of o).result (type_of (env t c) ty other) → AreRight t.s (env t c) (shows t c) o (type_of (env t c) ty other) 0 rs → HasTypes t.s (after t) (node_made c n other o ty int a (row_names c rs first))
node_types t c l r made n other o ty int a rs first hs m k q as2 =
    let w : ValueRecord = node_made c n other o ty int a (row_names c rs first) in
    let e : type_of (env t c) ty other ≡ w.ty = sym (type_is t.f c.binds ty other) in record {
      op = k.is_one;
      result = gives_of t.s (after t) w k.plain (info_of o).result (subst (HasResult t.s (info_of o).result) e q);
      aux = aux_fits t.s o.family w.aux k.store k.no_type;
      args = λ i b u j d. place_of t.s (after t) w u o.family i k.plain (subst (λ (n : ℕ). FitsSlot t.s (after t) w u (slot o o.family n)) (none_more i)
          (row_stands rs t c l r w o 0 first hs m (subst (λ (x : Types). AreRight t.s (env t c) (shows t c) o x 0 rs) e as2) i b u j d));
    }

mutual
  tree_types : (b : Build) (t : Step) (c : Source) (l : Pattern) → Right t c l → (first : ℕ) → IsBuilt l b → ((u : ValueRecord) → In u (values_made c b first) → In u t.made) →
      ((u : ValueRecord) → In u t.made → IsNode t.s t.f t.v.id t.made u) → IsRight t.s (env t c) (shows t c) b → (u : ValueRecord) → In u (values_made c b first) → HasTypes t.s (after t) u
  tree_types (build.Var i) t c l r first h m k q u j = elim j [ ]
  tree_types (build.Node' o ty int a shape args) t c l r first (h, hs) m k (q, p, n, as2) u j =
      let y : ValueRecord = node_made c (first + length (row_made c args first)) (result_type o) o ty int a (row_names c args first) in
      let into : (u : ValueRecord) → In u (row_made c args first) → In u t.made = λ u i. m u (in_left u (row_made c args first) (y ∷ []) i) in
      elim (in_either u (row_made c args first) (y ∷ []) j) as (λ _. HasTypes t.s (after t) u) [
        | inl i ↦ row_types args t c l r o (type_of (env t c) ty (result_type o)) 0 first hs into k as2 u i
        | inr i ↦ (elim i as (λ _. HasTypes t.s (after t) u) [
          | inl e ↦ subst (HasTypes t.s (after t)) e (node_types t c l r t.made (first + length (row_made c args first)) (result_type o) o ty int a args first hs into
              (k y (m y (in_right y (row_made c args first) (y ∷ []) (inl refl)))) q as2)
          | inr z ↦ elim z [ ]
        ])
      ]

  pub row_types : {m : _} (rs : Row_of-Build m) (t : Step) (c : Source) (l : Pattern) → Right t c l → (o : Op) (x : Types) (k first : ℕ) → AreBuilt l rs → ((u : ValueRecord) → In u (row_made c rs first) → In u t.made) →
      ((u : ValueRecord) → In u t.made → IsNode t.s t.f t.v.id t.made u) → AreRight t.s (env t c) (shows t c) o x k rs → (u : ValueRecord) → In u (row_made c rs first) → HasTypes t.s (after t) u
  row_types end_of-Build t c l r o x k first h m n q u j = elim j [ ]
  row_types (more_of-Build b rs) t c l r o x k first (h, hs) m n (a, q, as2) u j =
      let next : ℕ = first + length (values_made c b first) in
      elim (in_either u (values_made c b first) (row_made c rs next) j) as (λ _. HasTypes t.s (after t) u) [
        | inl i ↦ tree_types b t c l r first h (λ y z. m y (in_left y (values_made c b first) (row_made c rs next) z)) n q u i
        | inr i ↦ row_types rs t c l r o x (suc k) next hs (λ y z. m y (in_right y (values_made c b first) (row_made c rs next) z)) n as2 u i
      ]

-- the copy of a variable, at the root
pub copy_types : (t : Step) (c : Source) (l : Pattern) → Right t c l → (i : ℕ) → NamesBelow i l → (w : ValueRecord) → w.op ≡ record { family = op.Copy; a = 0; b = 0 } → w.args ≡ value_in (slice_get c.binds i) ∷ [] → w.aux ≡ beside.Nothing →
    (shows t c i).base ≡ false → IsAlike t.s w.ty (shows t c i).ty → HasTypes t.s (after t) w
unfolding is_op row entry info_of FitsAux FitsPlace slot GivesByType
copy_types t c l r i h w o a x p q = record {
  op = ap (λ (y : Op). is_op y.family y.a y.b) o;
  result = (let P : Op → Type 0 = λ y. Gives t.s (after t) w (info_of y).result in subst P (sym o) (let Q : Family → Type 0 = λ y. GivesByType t.s (after t) w y in subst Q (ap (λ (y : Op). y.family) (sym o)) (inr q.0)));
  aux = (let P : Op → Type 0 = λ y. FitsAux t.s y.family w.aux in subst P (sym o) (subst (FitsAux t.s op.Copy) (sym x) tt));
  args = λ j b u m e. (let P : Op → Type 0 = λ y. FitsPlace t.s (after t) w y.family j u in subst P (sym o) (place j b u m (ap (λ ys. slice_get ys j) (sym a) ∙ e)));
}
  where
    place : (j : ℕ) (b : BlockRecord) (u : ValueRecord) → HasValue (after t) b u → slice_get (value_in (slice_get c.binds i) ∷ []) j ≡ Some u.id → FitsSlot t.s (after t) w u same
    place zero b u m e = (let d : value_in (slice_get c.binds i) ≡ u.id = cc in
        old_shows t r.replaces w same (value_in (slice_get c.binds i)) (r.under i (value_in (slice_get c.binds i)) h refl) (inr (p, q)) b u m (sym d))
    place (suc j) b u m e = absurd (let z : None ≡ Some u.id = e in cc)
