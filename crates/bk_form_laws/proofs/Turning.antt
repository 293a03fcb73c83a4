-- The blocks and values of a function after a visit.
use Rattle.std.proofs.Common.{◌≡◌, ℕ, ◌==◌, refl, ap, sym, subst, ◌∙◌, arith, ◌⊎◌, inl, inr, List, ◌++◌, Some}
use Rattle.std.specs.Prelude.{slice_get, slice_set, count_by}
use Rattle.std.proofs.lemmas.Bool.{cases_eq}
use Rattle.std.specs.List.{Contains}
use Rattle.bk_func.specs.Records.{ValueRecord, BlockRecord, FuncRecord}
use Rattle.bk_func.specs.declared.form.FormKind.TheVariants.{Missing}
use Rattle.bk_func.specs.Form.{Keeps}
use Rattle.bk_func.specs.Form.Text.{HasBlock, HasValue, Defines}
use Rattle.bk_func.specs.Form.Signatures.{Setting}
use Rattle.bk_func.specs.Form.Parts.{IsBlockNumber}
use Rattle.bk_func.proofs.Faults.{In}
use Rattle.bk_refine_laws.specs.Visits.{edited}
use Rattle.bk_form_laws.specs.Visits.{visited, Visit, IsNew}
use Rattle.bk_places.proofs.Elements.{to_in, to_contains, in_left, in_right, in_either}
use Rattle.bk_mean.proofs.Named.{IsNamed, is_named, got_in, in_got}
use Rattle.bk_form_laws.proofs.Lists.{set_here, set_other, set_front, set_member, member_apart, one_place}
use Rattle.bk_form_laws.proofs.Pairs.{Pair, Over, Turned, in_new}

-- the values of the block
values_after : (x : BlockRecord) (k : ℕ) (v root : ValueRecord) (made : List ValueRecord) → slice_get x.values k ≡ Some v → (edited x k root made).values ≡ slice_set x.values k root ++ made
values_after x k v root made e = set_front x.values made k v root e

pub over : (f : FuncRecord) (b k : ℕ) (x : BlockRecord) (v root : ValueRecord) (made : List ValueRecord) → Visit f b k x v root made → Over f (visited f b k x root made) x (edited x k root made)
over f b k x v root made t i c e = elim (cases_eq b i) [
  | inl q ↦ (let d : slice_get (slice_set f.blocks b (edited x k root made)) i ≡ Some (edited x k root made) =
      ap (λ j. slice_get (slice_set f.blocks b (edited x k root made)) j) (sym q) ∙ set_here f.blocks b x (edited x k root made) t.there in
      let h : Some c ≡ Some x = sym e ∙ ap (λ j. slice_get f.blocks j) (sym q) ∙ t.there in
      (edited x k root made, d, inr ((let z : c ≡ x = cc in z), refl)))
  | inr q ↦ (c, set_other f.blocks b i (edited x k root made) q ∙ e, inl refl)
]

pub back : (f : FuncRecord) (b k : ℕ) (x : BlockRecord) (v root : ValueRecord) (made : List ValueRecord) → Visit f b k x v root made → Over (visited f b k x root made) f (edited x k root made) x
back f b k x v root made t i c e = elim (cases_eq b i) [
  | inl q ↦ (let d : slice_get (slice_set f.blocks b (edited x k root made)) i ≡ Some (edited x k root made) =
      ap (λ j. slice_get (slice_set f.blocks b (edited x k root made)) j) (sym q) ∙ set_here f.blocks b x (edited x k root made) t.there in
      let h : Some c ≡ Some (edited x k root made) = sym e ∙ d in
      let h2 : slice_get f.blocks i ≡ Some x = ap (λ j. slice_get f.blocks j) (sym q) ∙ t.there in
      (x, h2, inr ((let z : c ≡ edited x k root made = cc in z), refl)))
  | inr q ↦ (c, sym (set_other f.blocks b i (edited x k root made) q) ∙ e, inl refl)
]

pub old_here : (f : FuncRecord) (b k : ℕ) (x : BlockRecord) (v root : ValueRecord) (made : List ValueRecord) → Visit f b k x v root made → HasValue f x v
old_here f b k x v root made t = (to_contains x f.blocks (got_in f.blocks b x t.there), to_contains v x.values (got_in x.values k v t.stands))

pub block_here : (f : FuncRecord) (b k : ℕ) (x : BlockRecord) (v root : ValueRecord) (made : List ValueRecord) → Visit f b k x v root made → Pair f (visited f b k x root made) x (edited x k root made) x (edited x k root made)
block_here f b k x v root made t = record { place = b; old = t.there; new = set_here f.blocks b x (edited x k root made) t.there; same = inr (refl, refl) }

-- the new values stand in the block
pub new_in : (f : FuncRecord) (b k : ℕ) (x : BlockRecord) (v root : ValueRecord) (made : List ValueRecord) → Visit f b k x v root made → (w : ValueRecord) → IsNew root made w →
    HasValue (visited f b k x root made) (edited x k root made) w
new_in f b k x v root made t w h = (in_new f (visited f b k x root made) x (edited x k root made) x (edited x k root made) (block_here f b k x v root made t), to_contains w (edited x k root made).values (go h))
  where
    P : List ValueRecord → Type 0
    P vs = In w vs

    go : IsNew root made w → In w (edited x k root made).values
    go (inl e) = (let i : In w (slice_set x.values k root) = (let Q : ValueRecord → Type 0 = λ z. In z (slice_set x.values k root) in subst Q e (got_in (slice_set x.values k root) k root (set_here x.values k v root t.stands))) in
        subst (λ vs. In w vs) (sym (values_after x k v root made t.stands)) (in_left w (slice_set x.values k root) made i))
    go (inr i) = subst (λ vs. In w vs) (sym (values_after x k v root made t.stands)) (in_right w (slice_set x.values k root) made i)

pub numbers : (f : FuncRecord) (b k : ℕ) (x : BlockRecord) (v root : ValueRecord) (made : List ValueRecord) → Visit f b k x v root made → (n : ℕ) → Defines x n → Defines (edited x k root made) n
numbers f b k x v root made t n (u, i, e) = go (set_member x.values k v root u t.stands (to_in u x.values i))
  where
    go : (v ≡ u) ⊎ In u (slice_set x.values k root) → Defines (edited x k root made) n
    go (inl q) = (root, (new_in f b k x v root made t root (inl refl)).1, t.same ∙ ap (λ (z : ValueRecord). z.id) q ∙ e)
    go (inr j) = (u, to_contains u (edited x k root made).values (subst (λ vs. In u vs) (sym (values_after x k v root made t.stands)) (in_left u (slice_set x.values k root) made j)), e)

pub turned : (f : FuncRecord) (b k : ℕ) (x : BlockRecord) (v root : ValueRecord) (made : List ValueRecord) → IsNamed f → Visit f b k x v root made → Turned f (visited f b k x root made) x (edited x k root made)
turned f b k x v root made n t = record {
  over = over f b k x v root made t;
  back = back f b k x v root made t;
  shape = record { id = refl; kind = refl; control = refl; preds = refl; succs = refl };
  named = n;
  numbers = numbers f b k x v root made t;
}

-- an old value stands in the partner of its block
pub old_in : (f : FuncRecord) (b k : ℕ) (x : BlockRecord) (v root : ValueRecord) (made : List ValueRecord) → Visit f b k x v root made → (c d : BlockRecord) →
    Pair f (visited f b k x root made) x (edited x k root made) c d → (u : ValueRecord) → HasValue f c u → ¬ (u.id ≡ v.id) → HasValue (visited f b k x root made) d u
old_in f b k x v root made t c d p u h a = (in_new f (visited f b k x root made) x (edited x k root made) c d p, go p.same)
  where
    here : Contains x.values u → Contains (edited x k root made).values u
    here i = elim (set_member x.values k v root u t.stands (to_in u x.values i)) [
      | inl q ↦ absurd (a (ap (λ (z : ValueRecord). z.id) (sym q)))
      | inr j ↦ to_contains u (edited x k root made).values (subst (λ vs. In u vs) (sym (values_after x k v root made t.stands)) (in_left u (slice_set x.values k root) made j))
    ]

    go : (c ≡ d) ⊎ ((c ≡ x) × (d ≡ edited x k root made)) → Contains d.values u
    go (inl e) = (let P : BlockRecord → Type 0 = λ z. Contains z.values u in subst P e h.1)
    go (inr e) = (let P : BlockRecord → Type 0 = λ z. Contains z.values u in subst P (sym e.1) (here (subst P e.0 h.1)))

-- each value is new, or an old one other than v
pub each_value : (s : Setting) (f : FuncRecord) (b k : ℕ) (x : BlockRecord) (v root : ValueRecord) (made : List ValueRecord) → Keeps s f Missing → Visit f b k x v root made →
    (P : BlockRecord → ValueRecord → Type 0) →
    ((w : ValueRecord) → IsNew root made w → P (edited x k root made) w) →
    ((c d : BlockRecord) (u : ValueRecord) → Pair f (visited f b k x root made) x (edited x k root made) c d → HasValue f c u → ¬ (u.id ≡ v.id) → P d u) →
    (d : BlockRecord) (w : ValueRecord) → HasValue (visited f b k x root made) d w → P d w
unfolding IsBlockNumber
each_value s f b k x v root made m t P new old d w (h, i) = at_place (in_got g.blocks d (to_in d g.blocks h))
  where
    g : FuncRecord
    g = visited f b k x root made

    y : BlockRecord
    y = edited x k root made

    n : IsNamed f
    n = is_named s f m

    here : Contains (edited x k root made).values w → P (edited x k root made) w
    here j = elim (in_either w (slice_set x.values k root) made (subst (λ vs. In w vs) (values_after x k v root made t.stands) (to_in w (edited x k root made).values j))) [
      | inl q ↦ (elim (member_apart x.values k v root w (n.once x (old_here f b k x v root made t).0) t.stands q) [
        | inl e ↦ new w (inl e)
        | inr r ↦ old x (edited x k root made) w (block_here f b k x v root made t) ((old_here f b k x v root made t).0, to_contains w x.values r.0)
            (λ e. r.1 (n.same_value x x v w (old_here f b k x v root made t) ((old_here f b k x v root made t).0, to_contains w x.values r.0) (sym e)))
      ])
      | inr q ↦ new w (inr q)
    ]

    at_place : (i : ℕ) × (slice_get (visited f b k x root made).blocks i ≡ Some d) → P d w
    at_place (i2, e) = elim (cases_eq b i2) [
      | inl q ↦ (let a : Some d ≡ Some (edited x k root made) = sym e ∙ (ap (λ j. slice_get (slice_set f.blocks b (edited x k root made)) j) (sym q)) ∙ set_here f.blocks b x (edited x k root made) t.there in
          let z : d ≡ edited x k root made = cc in
          let Q : BlockRecord → Type 0 = λ c. Contains c.values w in
          let R : BlockRecord → Type 0 = λ c. P c w in
          subst R (sym z) (here (subst Q z i)))
      | inr q ↦ (let a : slice_get f.blocks i2 ≡ Some d = sym (set_other f.blocks b i2 (edited x k root made) q) ∙ e in
          let c : HasBlock f d = to_contains d f.blocks (got_in f.blocks i2 d a) in
          old d d w (record { place = i2; old = a; new = e; same = inl refl }) (c, i)
          (λ r. (let z : d ≡ x = n.same_block d x w v (c, i) (old_here f b k x v root made t) r in
          let l : count_by (λ b. b.id == x.id) f.blocks ≡ 1 = (m x (old_here f b k x v root made t).0).block.own in
          q (one_place f.blocks x.id b i2 x d (omega (arith, l)) t.there a refl (ap (λ (u : BlockRecord). u.id) z)))))
    ]
