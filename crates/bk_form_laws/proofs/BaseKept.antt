-- A visit makes no cycle in the base of the order inside a block.
use Rattle.std.proofs.Common.{◌≡◌, ℕ, zero, suc, ◌<◌, refl, ap, sym, subst, ◌∙◌, arith, ◌⊎◌, inl, inr, List, [], ◌∷◌, ◌++◌, Some, true, false}
use Rattle.std.specs.Prelude.{slice_get, slice_set}
use Rattle.std.specs.List.{Contains}
use Rattle.std.proofs.lemmas.Bool.{cases_eq}
use Rattle.bk_ops.specs.Families.{is_word_result}
use Rattle.bk_ops.specs.declared.family.Family.{Family}
use Rattle.bk_ops.specs.declared.family.Family.TheVariants as op
use Rattle.bk_func.specs.Records.{ValueRecord, BlockRecord, FuncRecord}
use Rattle.bk_func.specs.declared.form.FormKind.TheVariants.{Missing, Use, Memory}
use Rattle.bk_func.specs.Form.{Keeps}
use Rattle.bk_func.specs.Form.Text.{HasValue, IsPhi}
use Rattle.bk_func.specs.Form.Walks.{IsReached, IsDefinedAt}
use Rattle.bk_func.specs.Form.States.{IsState, Names}
use Rattle.bk_func.specs.Form.Before.{IsLoad, IsNilCheck, IsResult}
use Rattle.bk_func.specs.Form.Signatures.{Setting}
use Rattle.bk_func.proofs.Faults.{In}
use Rattle.bk_order_laws.specs.Base.{BaseBefore, argument, state, checks, BasePrecedes, right, onward}
use Rattle.bk_order_laws.proofs.First.{base_onward}
use Rattle.bk_form_laws.specs.Fits.{is_special}
use Rattle.bk_places.proofs.Elements.{to_in, to_contains}
use Rattle.bk_mean.proofs.Named.{IsNamed, got_in, in_got}
use Rattle.bk_mean.proofs.Dominance.{Home, home, one_dominates, defined_from, defined_here, arguments_defined}
use Rattle.bk_form_laws.proofs.Lists.{set_here, set_other, front}
use Rattle.bk_form_laws.proofs.Pairs.{in_new, one_partner}
use Rattle.bk_form_laws.proofs.Matched.{Under, argument as direct, below, under_defined, under_number}
use Rattle.bk_form_laws.proofs.New.{IsTaken}
use Rattle.bk_form_laws.proofs.Steps.{Step, after, block_after, Pairs, named_before, here, pair_here, turned_at, is_v, each, there, argument_there, names_back}
use Rattle.bk_form_laws.proofs.EasyKinds.{each_block}
use Rattle.bk_form_laws.proofs.MemoryKept.{IsCalm, state_back}

-- what is under a value of a reached block, and stands in the block too, comes before it there
under_first : (s : Setting) (f : FuncRecord) → Keeps s f Missing → IsNamed f → Keeps s f Use → (x : BlockRecord) → IsReached f x → (m n : ℕ) → Under f m n → (w u : ValueRecord) → HasValue f x w → w.id ≡ m → HasValue f x u → u.id ≡ n → BasePrecedes f x u w
under_first s f k n l x r _ _ (direct c z i hz p j) w u hw e hu d =
    let q : z ≡ w = n.same_value c x z w hz hw (sym e) in
    right u w (argument u w (
      hu.1,
      hw.1,
      (let P : ValueRecord → Type 0 = λ y. ¬ IsPhi y in subst P q p),
      (let P : ValueRecord → Type 0 = λ y. Contains y.args u.id in subst P q (to_contains u.id z.args (subst (λ i. In i z.args) (sym d) j))),
    ))
under_first s f k n l x r _ _ (below c z i j hz p a h) w u hw e hu d =
    let q : z ≡ w = n.same_value c x z w hz hw (sym e) in
    let b : c ≡ x = n.same_block c x z w hz hw (sym e) in
    let def : IsDefinedAt f x i = arguments_defined s f n l c x z hz p (subst (λ y. IsDefinedAt f x y) e (defined_here f x w.id (w, hw.1, refl))) i a in
    let o : Home f x i = home f n x i r def in
    let def2 : IsDefinedAt f o.block j = under_defined s f k l o.block i j h (subst (λ y. IsDefinedAt f o.block y) o.named (defined_here f o.block o.value.id (o.value, o.stands.1, refl))) in
    let dom : x ≡ o.block = sym (one_dominates f o.block x r o.dominates (defined_from f n x o.block u hu (subst (λ y. IsDefinedAt f o.block y) (sym d) def2))) in
    let ho : HasValue f x o.value = (let P : BlockRecord → Type 0 = λ y. HasValue f y o.value in subst P (sym dom) o.stands) in
    base_onward f x u o.value w (under_first s f k n l x r i j h o.value u ho o.named hu d)
    (right o.value w (argument o.value w (
      ho.1,
      hw.1,
      (let P : ValueRecord → Type 0 = λ y. ¬ IsPhi y in subst P q p),
      (let P : ValueRecord → Type 0 = λ y. Contains y.args o.value.id in subst P q (to_contains o.value.id z.args (subst (λ y. In y z.args) (sym o.named) a))),
    )))

-- ---- what a value of the block after the visit stands for
-- an old value for itself, root and what is made for v
abbrev Is : Step → ValueRecord → ValueRecord → Type 0
Is t w u = ((u ≡ w) × ¬ (w.id ≡ t.v.id)) ⊎ ((u ≡ t.v) × ((w ≡ t.root) ⊎ In w t.made))

-- w is made, and u is root or made after it
abbrev Inside : Step → ValueRecord → ValueRecord → Type 0
Inside t w u = In w t.made × ((u ≡ t.root) ⊎ (In u t.made × (w.id < u.id)))

-- what is known of the visit besides
pub record IsPlaced (t : Step) : Type 0 where
  pub calm : IsCalm t
  pub uses : Keeps t.s t.f Use
  pub memory : Keeps t.s t.f Memory
  pub reached : IsReached t.f t.x
  pub takes : (w : ValueRecord) → (w ≡ t.root) ⊎ In w t.made → (n : ℕ) → In n w.args → IsTaken t.f t.v.id t.made n
  pub rising : (w : ValueRecord) → In w t.made → (u : ValueRecord) → In u t.made → In u.id w.args → u.id < w.id
  pub role : (n : ℕ) → Names (after t) t.root n → (IsLoad t.root → IsLoad t.v) × (IsNilCheck t.root → IsNilCheck t.v)
  pub silent_made : (w : ValueRecord) → In w t.made → (n : ℕ) → ¬ Names (after t) w n

Place : Step → BlockRecord → ValueRecord → Type 0
Place t c w = (u : ValueRecord) × HasValue t.f c u × Is t w u

abbrev Found : Step → BlockRecord → ValueRecord → Type 0
Found t d w = (c : BlockRecord) → Pairs t c d → (u : ValueRecord) × HasValue t.f c u × Is t w u

found : (t : Step) → IsPlaced t → (d : BlockRecord) (w : ValueRecord) → HasValue (after t) d w → Found t d w
found t q d w h = each t (Found t) (λ c p. at_x c p t.root (inl refl)) (λ w i c p. at_x c p w (inr i)) (λ c2 d u p2 i a c p.
    (let e = one_partner t.f (after t) t.x (block_after t) (turned_at t).shape (turned_at t).named c2 c d p2 p in
    (u, (let P : BlockRecord → Type 0 = λ y. HasValue t.f y u in subst P e i), inl (refl, a)))) d w h
  where
    at_x : (c : BlockRecord) → Pairs t c (block_after t) → (w : ValueRecord) → (w ≡ t.root) ⊎ In w t.made → (u : ValueRecord) × HasValue t.f c u × Is t w u
    at_x c p w o = (let e = one_partner t.f (after t) t.x (block_after t) (turned_at t).shape (turned_at t).named t.x c (block_after t) (pair_here t) p in
        (t.v, (let P : BlockRecord → Type 0 = λ y. HasValue t.f y t.v in subst P e (here t)), inr (refl, o)))

-- new values stand in the block of v alone
new_block : (t : Step) → IsPlaced t → (c d : BlockRecord) → Pairs t c d → (u : ValueRecord) → HasValue t.f c u → u ≡ t.v → c ≡ t.x
new_block t q c d p u h e = (is_v t c u h (ap (λ (y : ValueRecord). y.id) e)).0

-- ---- edges
abbrev Edge : Step → BlockRecord → ValueRecord → ValueRecord → ValueRecord → ValueRecord → Type 0
Edge t c a b u v = BasePrecedes t.f c u v ⊎ (Inside t a b × (u ≡ v))

-- an argument of a new value
new_argument : (t : Step) → IsPlaced t → (c d : BlockRecord) → Pairs t c d → (a b u v : ValueRecord) → HasValue t.f c u → Is t a u → HasValue t.f c v → v ≡ t.v → (b ≡ t.root) ⊎ In b t.made → In a.id b.args → Edge t c a b u v
new_argument t q c d p a b u v hu iu hv e o j = elim (q.takes b o a.id j) as (λ _. Edge t c a b u v) [
  | inl z ↦ inl (let x : c ≡ t.x = new_block t q c d p v hv e in
      let hx : HasValue t.f t.x u = (let P : BlockRecord → Type 0 = λ y. HasValue t.f y u in subst P x hu) in
      let id : u.id ≡ a.id = old_id z iu in
      let r : BasePrecedes t.f t.x u t.v = under_first t.s t.f t.missing (named_before t) q.uses t.x q.reached t.v.id a.id z t.v u (here t) refl hx id in
      (let P : BlockRecord → Type 0 = λ y. BasePrecedes t.f y u v in subst P (sym x) (let Q : ValueRecord → Type 0 = λ y. BasePrecedes t.f t.x u y in subst Q (sym e) r)))
  | inr z ↦ inr (is_made z iu)
]
  where
    old_id : Under t.f t.v.id a.id → Is t a u → u.id ≡ a.id
    old_id z (inl i) = ap (λ (y : ValueRecord). y.id) i.0
    old_id z (inr (i, inl r)) = ap (λ (y : ValueRecord). y.id) i ∙ (sym t.visit.same ∙ ap (λ (y : ValueRecord). y.id) (sym r))
    old_id z (inr (i, inr r)) = (let n = there t.f a.id (under_number t.s t.f t.missing t.v.id a.id z) in absurd (t.visit.fresh a r n.0 n.1 n.2 n.3))

    inside : In a t.made → (b ≡ t.root) ⊎ In b t.made → Inside t a b
    inside i (inl r) = (i, inl r)
    inside i (inr r) = (i, inr (r, q.rising b r a i j))

    is_made : (y : ValueRecord) × In y t.made × (y.id ≡ a.id) → Is t a u → Inside t a b × (u ≡ v)
    is_made (y, i, n) (inl k) = absurd (t.visit.fresh y i c u hu (ap (λ (y : ValueRecord). y.id) k.0 ∙ sym n))
    is_made (y, i, n) (inr (k, inl r)) = absurd (t.visit.fresh y i t.x t.v (here t) (sym t.visit.same ∙ (ap (λ (y : ValueRecord). y.id) (sym r) ∙ sym n)))
    is_made (y, i, n) (inr (k, inr r)) = (inside r o, k ∙ sym e)

-- an argument of an old value
old_argument : (t : Step) → IsPlaced t → (c : BlockRecord) (a b u : ValueRecord) → HasValue t.f c u → Is t a u → HasValue t.f c b → ¬ IsPhi b → Contains b.args a.id → BasePrecedes t.f c u b
old_argument t q c a b u hu iu hb p j = right u b (argument u b (hu.1, hb.1, p, subst (λ n. Contains b.args n) (sym (id iu)) j))
  where
    id : Is t a u → u.id ≡ a.id
    id (inl i) = ap (λ (y : ValueRecord). y.id) i.0
    id (inr (i, inl r)) = ap (λ (y : ValueRecord). y.id) i ∙ (sym t.visit.same ∙ ap (λ (y : ValueRecord). y.id) (sym r))
    id (inr (i, inr r)) = (let z = to_in a.id b.args j in let k = in_got b.args a.id z in let n = argument_there t c b hb k.0 a.id k.1 in absurd (t.visit.fresh a r n.0 n.1 n.2 n.3))

-- ---- values that name a state
old_names : (t : Step) → IsPlaced t → (c : BlockRecord) (a u : ValueRecord) → HasValue t.f c u → u ≡ a → (n : ℕ) → Names (after t) a n → Names t.f u n
old_names t q c a u h e n k = names_back t q.calm.names c u h n (let P : ValueRecord → Type 0 = λ y. Names (after t) y n in subst P (sym e) k)

appended : {X : Type 0} (xs ys : List X) (i : ℕ) (x : X) → slice_get (xs ++ ys) i ≡ Some x → (slice_get xs i ≡ Some x) ⊎ In x ys
appended [] ys i x e = inr (got_in ys i x e)
appended (z ∷ xs) ys zero x e = inl e
appended (z ∷ xs) ys (suc i) x e = appended xs ys i x e

place_back : (t : Step) (c d : BlockRecord) → Pairs t c d → (a : ValueRecord) → HasValue t.f c a → ¬ (a.id ≡ t.v.id) → (i : ℕ) → slice_get d.values i ≡ Some a → slice_get c.values i ≡ Some a
place_back t c d p a h n i e = go p.same
  where
    at : slice_get (block_after t).values i ≡ Some a → slice_get t.x.values i ≡ Some a
    at e = elim (cases_eq t.k i) [
      | inl z ↦ absurd (n (let w : Some t.root ≡ Some a = sym (set_here (t.x.values ++ t.made) t.k t.v t.root (front t.x.values t.made t.k t.v t.visit.stands)) ∙
          (ap (λ m. slice_get (slice_set (t.x.values ++ t.made) t.k t.root) m) z ∙ e) in let s : t.root ≡ a = cc in ap (λ (y : ValueRecord). y.id) (sym s) ∙ t.visit.same))
      | inr z ↦ (elim (appended t.x.values t.made i a (sym (set_other (t.x.values ++ t.made) t.k i t.root z) ∙ e)) [
        | inl r ↦ r
        | inr r ↦ absurd (t.visit.fresh a r c a h refl)
      ])
    ]

    go : (c ≡ d) ⊎ ((c ≡ t.x) × (d ≡ block_after t)) → slice_get c.values i ≡ Some a
    go (inl z) = (let P : BlockRecord → Type 0 = λ y. slice_get y.values i ≡ Some a in subst P (sym z) e)
    go (inr z) = (let P : BlockRecord → Type 0 = λ y. slice_get y.values i ≡ Some a in subst P (sym z.0) (at (subst P z.1 e)))

-- the place of root is that of v
root_place : (t : Step) (c d : BlockRecord) → Pairs t c d → HasValue t.f c t.v → (i : ℕ) → slice_get d.values i ≡ Some t.root → slice_get c.values i ≡ Some t.v
root_place t c d p h i e = go p.same
  where
    old : slice_get c.values i ≡ Some t.root → slice_get c.values i ≡ Some t.v
    old g = (let P : ValueRecord → Type 0 = λ y. slice_get c.values i ≡ Some y in
        subst P ((is_v t c t.root (h.0, to_contains t.root c.values (got_in c.values i t.root g)) t.visit.same).1) g)

    at : c ≡ t.x → slice_get (block_after t).values i ≡ Some t.root → slice_get c.values i ≡ Some t.v
    at z g = elim (cases_eq t.k i) [
      | inl w ↦ (let P : BlockRecord → Type 0 = λ y. slice_get y.values i ≡ Some t.v in subst P (sym z) (subst (λ m. slice_get t.x.values m ≡ Some t.v) w t.visit.stands))
      | inr w ↦ (elim (appended t.x.values t.made i t.root (sym (set_other (t.x.values ++ t.made) t.k i t.root w) ∙ g)) [
        | inl r ↦ (let P : BlockRecord → Type 0 = λ y. slice_get y.values i ≡ Some t.root in old (subst P (sym z) r))
        | inr r ↦ absurd (t.visit.fresh t.root r t.x t.v (here t) (sym t.visit.same))
      ])
    ]

    go : (c ≡ d) ⊎ ((c ≡ t.x) × (d ≡ block_after t)) → slice_get c.values i ≡ Some t.v
    go (inl z) = old (let P : BlockRecord → Type 0 = λ y. slice_get y.values i ≡ Some t.root in subst P (sym z) e)
    go (inr z) = at z.0 (let P : BlockRecord → Type 0 = λ y. slice_get y.values i ≡ Some t.root in subst P z.1 e)

no_word : (o : Family) → is_special o ≡ false → is_word_result o ≡ true → ⊥
no_word op.ResWord z e = cc
no_word op.ResReg z e = cc
no_word _ z e = cc

plain_result : (w : ValueRecord) → is_special w.op.family ≡ false → IsResult w → ⊥
plain_result w p (inl e) = no_word w.op.family p e
plain_result w p (inr e) = (let d = ap is_special e.0 in cc)

-- what a value of g that names a state stands for names it too, and is what that is
record One (t : Step) (c d : BlockRecord) (a u : ValueRecord) (n : ℕ) : Type 0 where
  id : u.id ≡ a.id
  names : Names t.f u n
  kind : IsLoad a ⊎ IsNilCheck a ⊎ IsResult a → IsLoad u ⊎ IsNilCheck u ⊎ IsResult u
  check : IsNilCheck a → IsNilCheck u
  place : (i : ℕ) → slice_get d.values i ≡ Some a → slice_get c.values i ≡ Some u

one : (t : Step) → IsPlaced t → (c d : BlockRecord) → Pairs t c d → (a u : ValueRecord) → HasValue t.f c u → Is t a u → (n : ℕ) → Names (after t) a n → One t c d a u n
one t q c d p a u hu (inl i) n h = record {
  id = ap (λ (y : ValueRecord). y.id) i.0;
  names = old_names t q c a u hu i.0 n h;
  kind = (let P : ValueRecord → Type 0 = λ y. IsLoad y ⊎ IsNilCheck y ⊎ IsResult y in λ r. subst P (sym i.0) r);
  check = (let P : ValueRecord → Type 0 = λ y. IsNilCheck y in λ r. subst P (sym i.0) r);
  place = λ j e. (let G : ValueRecord → Type 0 = λ y. slice_get c.values j ≡ Some y in
      let H : ValueRecord → Type 0 = λ y. HasValue t.f c y in
      subst G (sym i.0) (place_back t c d p a (subst H i.0 hu) i.1 j e));
}
one t q c d p a u hu (inr (i, inl r)) n h =
    let N : ValueRecord → Type 0 = λ y. Names (after t) y n in
    let k : Names (after t) t.root n = subst N r h in
    let L : ValueRecord → Type 0 = λ y. IsLoad y in
    let C : ValueRecord → Type 0 = λ y. IsNilCheck y in
    let S : ValueRecord → Type 0 = λ y. IsResult y in record {
      id = ap (λ (y : ValueRecord). y.id) i ∙ (sym t.visit.same ∙ ap (λ (y : ValueRecord). y.id) (sym r));
      names = (let P : ValueRecord → Type 0 = λ y. Names t.f y n in subst P (sym i) (q.calm.names.of_root_back n k));
      kind = λ z. elim z as (λ _. IsLoad u ⊎ IsNilCheck u ⊎ IsResult u) [
        | inl e ↦ inl (subst L (sym i) ((q.role n k).0 (subst L r e)))
        | inr (inl e) ↦ inr (inl (subst C (sym i) ((q.role n k).1 (subst C r e))))
        | inr (inr e) ↦ absurd (plain_result t.root q.calm.plain (subst S r e))
      ];
      check = λ e. subst C (sym i) ((q.role n k).1 (subst C r e));
      place = λ j e. (let G : ValueRecord → Type 0 = λ y. slice_get c.values j ≡ Some y in
          let H : ValueRecord → Type 0 = λ y. HasValue t.f c y in
          let D : ValueRecord → Type 0 = λ y. slice_get d.values j ≡ Some y in
          subst G (sym i) (root_place t c d p (subst H i hu) j (subst D r e)));
    }
one t q c d p a u hu (inr (i, inr r)) n h = absurd (q.silent_made a r n h)

edge : (t : Step) → IsPlaced t → (c d : BlockRecord) → Pairs t c d → (a b : ValueRecord) → BaseBefore (after t) d a b → (u v : ValueRecord) → HasValue t.f c u → Is t a u → HasValue t.f c v → Is t b v → Edge t c a b u v
edge t q c d p _ _ (argument a b (ca, cb, np, j)) u v hu iu hv (inl i) =
    let P : ValueRecord → Type 0 = λ y. HasValue t.f c y in
    let Q : ValueRecord → Type 0 = λ y. BasePrecedes t.f c u y in
    inl (subst Q (sym i.0) (old_argument t q c a b u hu iu (subst P i.0 hv) np j))
edge t q c d p _ _ (argument a b (ca, cb, np, j)) u v hu iu hv (inr i) = new_argument t q c d p a b u v hu iu hv i.0 i.1 (to_in a.id b.args j)
edge t q c d p _ _ (state a b s ca r na sb nb) u v hu iu hv iv =
    let x = one t q c d p a u hu iu s na in
    let y = one t q c d p b v hv iv s nb in
    let (z, sz, e) = state_back t q.calm q.memory c d p b.id (b, sb, refl) in
    let w : z ≡ v = (named_before t).same_value c c z v sz.0 hv (e ∙ sym y.id) in
    let Q : ValueRecord → Type 0 = λ y. IsState t.f c y in
    inl (right u v (state u v s hu.1 (x.kind r) x.names (subst Q w sz) y.names))
edge t q c d p _ _ (checks a b s (ca, ka, na) (cb, kb, nb) (i, j, l, e, g)) u v hu iu hv iv =
    let x = one t q c d p a u hu iu s na in
    let y = one t q c d p b v hv iv s nb in
    inl (right u v (checks u v s (hu.1, x.check ka, x.names) (hv.1, y.check kb, y.names) (i, j, l, x.place i e, y.place j g)))

begins : (f : FuncRecord) (d : BlockRecord) (a b : ValueRecord) → BaseBefore f d a b → Contains d.values a
begins f d _ _ (argument a b (ca, cb, np, j)) = ca
begins f d _ _ (state a b s ca r na sb nb) = ca
begins f d _ _ (checks a b s (ca, ka, na) h l) = ca

pub starts_in : (f : FuncRecord) (d : BlockRecord) (a b : ValueRecord) → BasePrecedes f d a b → Contains d.values a
starts_in f d _ _ (right a b h) = begins f d a b h
starts_in f d _ _ (onward a m b h l) = begins f d a m h

-- root is not made
not_made : (t : Step) (w : ValueRecord) → w ≡ t.root → In w t.made → ⊥
not_made t w e i = t.visit.fresh w i t.x t.v (here t) (sym t.visit.same ∙ ap (λ (y : ValueRecord). y.id) (sym e))

inside_onward : (t : Step) (a m b : ValueRecord) → Inside t a m → Inside t m b → Inside t a b
inside_onward t a m b (i, inl r) (j, h) = absurd (not_made t m r j)
inside_onward t a m b (i, inr r) (j, inl h) = (i, inl h)
inside_onward t a m b (i, inr r) (j, inr h) = (i, inr (h.0, (let x = r.1 in let y = h.1 in omega arith)))

join : (t : Step) (c : BlockRecord) (a m b u w v : ValueRecord) → Edge t c a m u w → Edge t c m b w v → Edge t c a b u v
join t c a m b u w v (inl h) (inl k) = inl (base_onward t.f c u w v h k)
join t c a m b u w v (inl h) (inr k) = (let P : ValueRecord → Type 0 = λ y. BasePrecedes t.f c u y in inl (subst P k.1 h))
join t c a m b u w v (inr h) (inl k) = (let P : ValueRecord → Type 0 = λ y. BasePrecedes t.f c y v in inl (subst P (sym h.1) k))
join t c a m b u w v (inr h) (inr k) = inr (inside_onward t a m b h.0 k.0, h.1 ∙ k.1)

path : (t : Step) → IsPlaced t → (c d : BlockRecord) → Pairs t c d → (a b : ValueRecord) → BasePrecedes (after t) d a b → (u v : ValueRecord) → HasValue t.f c u → Is t a u → HasValue t.f c v → Is t b v → Edge t c a b u v
path t q c d p _ _ (right a b h) u v hu iu hv iv = edge t q c d p a b h u v hu iu hv iv
path t q c d p _ _ (onward a m b h l) u v hu iu hv iv =
    let (w, hw, iw) = found t q d m (in_new t.f (after t) t.x (block_after t) c d p, starts_in (after t) d m b l) c p in
    join t c a m b u w v (edge t q c d p a m h u w hu iu hw iw) (path t q c d p m b l w v hw iw hv iv)

-- A visit that leaves memory alone makes no cycle in the base of the order.
pub base_kept : (t : Step) → IsPlaced t → ((c : BlockRecord) (u : ValueRecord) → HasValue t.f c u → ¬ BasePrecedes t.f c u u) → (d : BlockRecord) (w : ValueRecord) → HasValue (after t) d w → ¬ BasePrecedes (after t) d w w
base_kept t q n d w h r = each_block t.f t.b t.k t.x t.v t.root t.made t.visit (λ d. Contains d.values w → BasePrecedes (after t) d w w → ⊥) at d h.0 h.1 r
  where
    at : (c d : BlockRecord) → Pairs t c d → Contains d.values w → BasePrecedes (after t) d w w → ⊥
    at c d p i r =
        let (u, hu, iu) = found t q d w (in_new t.f (after t) t.x (block_after t) c d p, i) c p in
        elim (path t q c d p w w r u u hu iu hu iu) as (λ _. ⊥) [
          | inl k ↦ n c u hu k
          | inr k ↦ (elim k.0.1 as (λ _. ⊥) [
            | inl e ↦ not_made t w e k.0.0
            | inr e ↦ (let x = e.1 in absurd (omega arith))
          ])
        ]
