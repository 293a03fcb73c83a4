-- What an edge brings is live where it is left.
use Rattle.std.proofs.Common.{◌≡◌, ◌∙◌, sym, refl, ap, subst, ℕ, ◌<◌, ◌≤◌, ◌==◌, ◌⊎◌, inl, inr, ⊎_elim, Bool, true, false, cond, not, List, [], ◌∷◌, ◌++◌, length, map, get_or, Some, arith, eqb-true, eq-eqb, ne_eqb}
use Rattle.std.specs.Prelude.{filter, slice_index}
use Rattle.std.specs.List.{Contains, count_by, find, position_or_len, slice_get}
use Rattle.std.proofs.lemmas.Bool.{MatchBool-at_true, MatchBool-at_false, and_from, and_parts, cases_Bool, cases_eq, false≢true, not_from_false}
use Rattle.std.proofs.lemmas.List.Elements.{All-contains}
use Rattle.std.proofs.lemmas.List.Sums.{passes_at_first}
use Rattle.std.proofs.lemmas.Option.{slice_get-get_or, slice_get_within}
use Rattle.bk_ops.specs.Families.{is_nil_check}
use Rattle.bk_ops.specs.Types.{width_of}
use Rattle.bk_ops.specs.declared.family.Family.{Family}
use Rattle.bk_ops.specs.declared.family.Family.TheVariants as op
use Rattle.bk_ops.specs.declared.types.Target.{Target}
use Rattle.bk_ops.specs.declared.types.Ty.{Ty}
use Rattle.bk_ops.specs.declared.types.Ty.TheVariants as ty
use Rattle.bk_func.specs.declared.form.FormKind.TheVariants.{Arity, Missing, Ty as Typed}
use Rattle.bk_func.specs.Records.{ValueRecord, BlockRecord, FuncRecord}
use Rattle.bk_func.specs.Form.Parts.{HasArity, IsValueNumber}
use Rattle.bk_func.specs.Form.Shapes.{FitsPlace, FitsSlot, IsAlike, IsData, same as same_slot, slot}
use Rattle.bk_func.specs.Form.Signatures.{Setting}
use Rattle.bk_func.specs.Form.Text.{HasBlock, HasValue, IsPhi}
use Rattle.bk_func.proofs.Faults.{In}
use Rattle.bk_graph.specs.Joined.{IsJoined}
use Rattle.bk_graph.proofs.Listed.{counted_at}
use Rattle.bk_live.specs.Live.{here, leave, order_at}
use Rattle.bk_live.proofs.Alone.{at_contains, contains_at, counted}
use Rattle.bk_places.proofs.Elements.{to_in}
use Rattle.bk_alloc.specs.Blocks.{Next, PhiRecord, phi_of, source_by, source_of}
use Rattle.bk_alloc.specs.Placement.{has_word, has_word_of, is_phi_value, is_word, is_word_phi}
use Rattle.bk_alloc_quality.specs.Pressure.{IsUsed}
use Rattle.bk_alloc_quality.specs.Flows.{IsBrought}
use Rattle.bk_alloc_whole.specs.Whole.{IsLoweredLeaf, words_of}
use Rattle.bk_alloc_whole.proofs.Beginning.{data_word, numbered, phi_ids, phi_is, plan_with}
use Rattle.bk_alloc_whole.proofs.Flowing.{Lies, ids}
use Rattle.bk_alloc_whole.proofs.Laying.{any_eq, eq_any}
use Rattle.bk_alloc_whole.proofs.Words.{in_words, live_of, used_of}
use Rattle.bk_func.proofs.Faults as faults

-- the argument of a phi

record Source (xs : List ValueRecord) (k v : ℕ) : Type 0 where
  value : ValueRecord
  there : In value xs
  id : value.id ≡ v
  is : source_of (map phi_of xs) k v ≡ slice_index value.args k

source_case : (x : ValueRecord) (xs : List ValueRecord) (k v : ℕ) → (In v (ids xs) → Source xs k v) → (x.id ≡ v) ⊎ (x.id ≡ v → ⊥) → In v (ids (x ∷ xs)) → Source (x ∷ xs) k v
source_case x xs k v r (inl e) j = record {
  value = x;
  there = inl refl;
  id = e;
  is = ap (λ (b : Bool). source_by (cond b (Some (phi_of x)) (find (λ (p : PhiRecord). p.value == v) (map phi_of xs))) k v) (eq-eqb x.id v e);
}
source_case x xs k v r (inr n) (inl e) = absurd (n e)
source_case x xs k v r (inr n) (inr j) =
    let q = r j in
    record {
      value = q.value;
      there = inr q.there;
      id = q.id;
      is = ap (λ (b : Bool). source_by (cond b (Some (phi_of x)) (find (λ (p : PhiRecord). p.value == v) (map phi_of xs))) k v) (ne_eqb x.id v n) ∙ q.is;
    }

source_in : (xs : List ValueRecord) (k v : ℕ) → In v (ids xs) → Source xs k v
source_in [] k v i = elim i [ ]
source_in (x ∷ xs) k v i = source_case x xs k v (source_in xs k v) (cases_eq x.id v) i

first_place : (ns : List ℕ) (n : ℕ) → Contains ns n → slice_get ns (position_or_len (λ m. m == n) ns) ≡ Some n
first_place ns n c =
    let p : ℕ → Bool = λ m. m == n in
    let (i, at) = at_contains ns n c in
    let one : 1 ≤ count_by p ns = counted p ns i n at (eq-eqb n n refl) in
    let l = counted_at p ns (omega (arith, one)) in
    slice_get-get_or ns (position_or_len p ns) 0 l ∙ ap Some (eqb-true (get_or ns (position_or_len p ns) 0) n (passes_at_first p ns 0 l))

phi_args : (s : Setting) (f : FuncRecord) (b : BlockRecord) (z : ValueRecord) (g : Family) → HasArity s f b z g → g ≡ op.Phi → length z.args ≡ length b.preds
unfolding HasArity
phi_args s f b z g h e = (subst (λ (x : Family). HasArity s f b z x) e h).0

phi_slot : (s : Setting) (f : FuncRecord) (z u : ValueRecord) (g : Family) (k : ℕ) → FitsPlace s f z g k u → g ≡ op.Phi → FitsSlot s f z u same_slot
unfolding FitsPlace slot
phi_slot s f z u g k h e = subst (λ (x : Family). FitsPlace s f z x k u) e h

no_word : (x : Ty) → has_word_of x ≡ true → x ≡ ty.Mem → ⊥
no_word x w e = false≢true (sym (ap has_word_of e) ∙ w)

alike_word : (s : Setting) (x y : Ty) → IsAlike s x y → has_word_of y ≡ true
alike_word s x y (d, h) = data_word s y (⊎_elim
    (λ (e : s.loose ≡ true). MatchBool-at_true (IsData s y) (width_of y s.target ≡ width_of x s.target) e h)
    (λ (e : s.loose ≡ false). λ z. d (sym (MatchBool-at_false (IsData s y) (width_of y s.target ≡ width_of x s.target) e h) ∙ z))
    (cases_Bool s.loose))

arg_word : (s : Setting) (f : FuncRecord) (z u : ValueRecord) → has_word_of z.ty ≡ true → FitsSlot s f z u same_slot → has_word_of u.ty ≡ true
arg_word s f z u w (inl (m, n)) = absurd (no_word z.ty w m)
arg_word s f z u w (inr (free, alike)) = alike_word s z.ty u.ty alike

pub edge_brings : (t : Target) (f : FuncRecord) (os : List (List ℕ)) (next : Next) → IsLoweredLeaf t f → IsJoined f → (i j : ℕ) (a b : BlockRecord) (ps ts qs us : List ValueRecord) → Lies f os next i a ps ts → Lies f os next j b qs us
    → Contains a.succs b.id
    → IsBrought (words_of f) next (plan_with (is_word f.blocks) a (order_at os i) (ps ++ ts)) (plan_with (is_word f.blocks) b (order_at os j) (qs ++ us))
edge_brings t f os next free g i j a b ps ts qs us la lb succ =
    let end = length (order_at os i) in
    let zs = qs ++ us in
    let s = lb.ordered.setting in
    let form = lb.ordered.formed in
    let ha : HasBlock f a = contains_at f.blocks i a la.at in
    let hb : HasBlock f b = contains_at f.blocks j b lb.at in
    let pred : Contains b.preds a.id = any_eq b.preds a.id (g.agree a b ha hb ∙ eq_any a.succs b.id succ) in
    let k = position_or_len (λ n. n == a.id) b.preds in
    let at : slice_get b.preds k ≡ Some a.id = first_place b.preds a.id pred in
    record {
      live = λ v c u.
          let m = live_of f os next lb.uses j 0 v b lb.at (omega arith) u in
          used_of f os next la.uses i end v a la.at (omega arith) (_, leave i j end m.0 refl (a, b, la.at, lb.at, succ) m.1);
      phis = λ v c.
          let named : In v (ids (filter is_word_phi zs)) = subst (λ (l : List ℕ). In v l) (phi_ids (filter is_word_phi zs)) (to_in v (map (λ (p : PhiRecord). p.value) (map phi_of (filter is_word_phi zs))) c) in
          let r = source_in (filter is_word_phi zs) k v named in
          let z = r.value in
          let (iz, wp) = faults.in-filter is_word_phi z zs r.there in
          let (p, w) = and_parts (is_phi_value z) (has_word z) wp in
          let phi : IsPhi z = phi_is z.op.family p in
          let hz : HasValue f b z = (hb, lb.inside z iz) in
          let same_length = phi_args s f b z z.op.family ((form.kinds Arity b hb).value z hz.1) phi in
          let l : k < length z.args = omega (arith, same_length, slice_get_within b.preds k a.id at) in
          let arg : slice_get z.args k ≡ Some (slice_index z.args k) = slice_get-get_or z.args k 0 l in
          let x = slice_index z.args k in
          let inside : Contains z.args x = contains_at z.args k x arg in
          let (d, u, hu, id) = numbered f x (All-contains (IsValueNumber f) z.args x ((form.kinds Missing b hb).value z hz.1).args inside) in
          let fits = phi_slot s f z u z.op.family k (((form.kinds Typed b hb).value z hz.1).args k d u hu (arg ∙ ap Some (sym id))) phi in
          let full = arg_word s f z u (and_parts (has_word_of z.ty) (not (is_nil_check z.op.family)) w).0 fits in
          let check = free.phis b d u z hz phi hu (subst (λ (n : ℕ). Contains z.args n) (sym id) inside) in
          let word : has_word u ≡ true = and_from (has_word_of u.ty) (not (is_nil_check u.op.family)) full (not_from_false (is_nil_check u.op.family) check) in
          let known : Contains (words_of f) x = subst (λ (n : ℕ). Contains (words_of f) n) id (in_words f d u hu word) in
          let used = used_of f os next la.uses i end x a la.at (omega arith) (1, here i end (inr (refl, (a, la.at, inr (b, z, k, hz, phi, at, arg))))) in
          subst (λ (n : ℕ). Contains (words_of f) n × IsUsed (next a.id end) n) (sym r.is) (known, used);
    }
