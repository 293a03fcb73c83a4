-- Visits of values: what is counted after them, and visits one after the other.
use Rattle.std.proofs.Common.{◌≡◌, ℕ, zero, suc, ◌+◌, ◌-◌, ◌<◌, ◌≤◌, refl, ap, sym, subst, ◌∙◌, append_assoc, arith, Bool, List, [], ◌∷◌, ◌++◌, length, get_or, drop, map, Option, Some, None, inl, inr}
use Rattle.std.specs.Prelude.{slice_get, slice_set}
use Rattle.std.specs.List.{flat_map}
use Rattle.std.proofs.lemmas.Option.{slice_get_read, get_or_from_slice_get}
use Rattle.std.proofs.lemmas.List.{drop_all, drop_more, append-nil}
use Rattle.std.proofs.lemmas.List.Concat.{flat_map-cons}
use Rattle.bk_ops.specs.declared.types.Target.{Target}
use Rattle.bk_ops.specs.declared.types.Ty.{Ty}
use Rattle.bk_func.specs.Records.{ValueRecord, BlockRecord, FuncRecord}
use Rattle.bk_func.specs.Edits.{greatest_value}
use Rattle.bk_rule.specs.declared.trees.Bound.{Bound}
use Rattle.bk_rule.specs.declared.trees.Build.{Build}
use Rattle.bk_rule.specs.declared.trees.Build as build
use Rattle.bk_rule.specs.declared.trees.Rule.{Rule}
use Rattle.bk_rewrite.specs.Places.{StandsAt, HasNumbers, in_block, value_at, in_place, with_block, with_made, value_limit}
use Rattle.bk_rewrite.specs.Making.{Source, source, inner, root_made, applied, Grows}
use Rattle.bk_rewrite.specs.First.{IsFirst}
use Rattle.bk_rewrite.specs.Passes.{with_args, with_value, looked_through, with_looked_through, Applies, Exceeds, Tries, Stands, Stops, Visits, VisitsEach, StopsAmong, IsPass, PassExceeds, Changes, Settles, Outgrows, IsCounted}
use Rattle.bk_rewrite.proofs.Kept.{Edit, edited, edited_greatest, edited_count, edited_numbers, numbered_inner, numbered_none}

-- ---- edits of a value that stands somewhere
root_id : (s : Source) (id : ℕ) (t : Ty) (r : Build) (n : ℕ) → (root_made s id t r n).id ≡ id
root_id s id t (build.Var i) n = refl
root_id s id t (build.Node' o u x a shape args) n = refl

counted_edit : (f : FuncRecord) (b p : ℕ) (v root : ValueRecord) (made : List ValueRecord) (greatest room : ℕ) → value_at f b p ≡ Some v → root.id ≡ v.id →
    ((x : BlockRecord) → Edit f b p x v root made → IsCounted greatest room f → IsCounted (greatest + length made) (room - length made) (edited f b p root made))
counted_edit f b p v root made greatest room e h = λ x d c. record {
  numbers = edited_numbers f b p x v root made d c.numbers;
  greatest_is = omega (arith, c.greatest_is, edited_greatest f b p x v root made d);
  room_is = omega (arith, c.room_is, edited_count f b p x v root made d);
}

counted_at : (f : FuncRecord) (b p : ℕ) (v root : ValueRecord) (made : List ValueRecord) (greatest room : ℕ) → value_at f b p ≡ Some v → root.id ≡ v.id →
    ((k : ℕ) (w : ValueRecord) → slice_get made k ≡ Some w → w.id ≡ greatest_value f + 1 + k) →
    IsCounted greatest room f → IsCounted (greatest + length made) (room - length made) (edited f b p root made)
counted_at f b p v root made greatest room e h k c = go (slice_get f.blocks b) refl e
  where
    go : (o : Option BlockRecord) → slice_get f.blocks b ≡ o → in_block o p ≡ Some v → IsCounted (greatest + length made) (room - length made) (edited f b p root made)
    go None d q = absurd (let z : None ≡ Some v = q in cc)
    go (Some x) d q = counted_edit f b p v root made greatest room e h x (record { block = d; value = q; same = h; numbered = k }) c

pub counted_applied : (f : FuncRecord) (bs : List Bound) (t : Target) (r : Build) (b p : ℕ) (w : ValueRecord) (greatest room n : ℕ) → IsCounted greatest room f →
    value_at f b p ≡ Some w → n ≡ length (inner (source f bs t) r) → IsCounted (greatest + n) (room - n) (applied (source f bs t) r b p w)
counted_applied f bs t r b p w greatest room n c e h =
    let s : Source = source f bs t in
    let g : IsCounted (greatest + length (inner s r)) (room - length (inner s r)) (applied s r b p w) =
    counted_at f b p w (root_made s w.id w.ty r (greatest_value f + 1)) (inner s r) greatest room e (root_id s w.id w.ty r (greatest_value f + 1)) (numbered_inner s r (greatest_value f + 1)) c in
    subst (λ (k : ℕ). IsCounted (greatest + k) (room - k) (applied s r b p w)) (sym h) g

as_edit : (f : FuncRecord) (b p : ℕ) (w : ValueRecord) → with_block f b (with_value p w) ≡ edited f b p w []
as_edit f b p w = go (slice_get f.blocks b)
  where
    go : (o : Option BlockRecord) → record f { blocks = in_place f.blocks b o (with_value p w) } ≡ record f { blocks = in_place f.blocks b o (with_made p w []) }
    go None = refl
    go (Some x) = ap (λ vs. record f { blocks = slice_set f.blocks b (record x { values = slice_set vs p w }) }) (sym (append-nil x.values))

pub counted_looked : (f : FuncRecord) (b p : ℕ) (v : ValueRecord) (greatest room : ℕ) → IsCounted greatest room f → value_at f b p ≡ Some v →
    IsCounted greatest room (with_looked_through f b p v)
counted_looked f b p v greatest room c e =
    let g = counted_at f b p v (looked_through f v) [] greatest room e refl (numbered_none (greatest_value f + 1)) c in
    let h : IsCounted greatest room (edited f b p (looked_through f v) []) = record { numbers = g.numbers; greatest_is = omega (arith, g.greatest_is); room_is = omega (arith, g.room_is) } in
    subst (λ (z : FuncRecord). IsCounted greatest room z) (sym (as_edit f b p (looked_through f v))) h

-- ---- the value that is looked through
set_here : {X : Type 0} (xs : List X) (i : ℕ) (x y : X) → slice_get xs i ≡ Some x → slice_get (slice_set xs i y) i ≡ Some y
set_here [] i x y e = absurd (let q : None ≡ Some x = e in cc)
set_here (z ∷ xs) zero x y e = refl
set_here (z ∷ xs) (suc i) x y e = set_here xs i x y e

pub looked_stands : (f : FuncRecord) (id b p : ℕ) (v : ValueRecord) → Stands f id b p v → Stands (with_looked_through f b p v) id b p (looked_through f v)
looked_stands f id b p v s = record { value = go (slice_get f.blocks b) refl s.value; number = s.number }
  where
    go : (o : Option BlockRecord) → slice_get f.blocks b ≡ o → in_block o p ≡ Some v → value_at (with_looked_through f b p v) b p ≡ Some (looked_through f v)
    go None d q = absurd (let z : None ≡ Some v = q in cc)
    go (Some x) d q =
        let y : BlockRecord = with_value p (looked_through f v) x in
        let a : (with_looked_through f b p v).blocks ≡ slice_set f.blocks b y = ap (λ o. in_place f.blocks b o (with_value p (looked_through f v))) d in
        let c : slice_get (slice_set f.blocks b y) b ≡ Some y = set_here f.blocks b x y d in
        ap (λ bs. in_block (slice_get bs b) p) a ∙ (ap (λ o. in_block o p) c ∙ set_here x.values p v (looked_through f v) q)

-- a value with other arguments, put where it was
pub set_with : (b : BlockRecord) (p : ℕ) (v w x : ValueRecord) (xs : List ℕ) → slice_get b.values p ≡ Some v → w ≡ get_or b.values p w → x ≡ with_args w xs →
    record b { values = slice_set b.values p x } ≡ with_value p (with_args v xs) b
set_with b p v w x xs e h k =
    let q : w ≡ v = h ∙ get_or_from_slice_get b.values p v w e in
    ap (λ z. with_value p z b) (k ∙ ap (λ z. with_args z xs) q)

-- ---- what a visit makes
pub turned : (t : Target) (rules : List Rule) (f h g : FuncRecord) (id b p : ℕ) (v : ValueRecord) → Stands f id b p v → h ≡ with_looked_through f b p v →
    Tries t rules h id b p (looked_through f v) g → Visits t rules f id g
turned t rules f h g id b p v s e k = inr (record {
  block = b;
  place = p;
  value = v;
  stands = s;
  tries = subst (λ (z : FuncRecord). Tries t rules z id b p (looked_through f v) g) e k;
})

pub stopped : (t : Target) (rules : List Rule) (f h : FuncRecord) (id b p : ℕ) (v : ValueRecord) → Stands f id b p v → h ≡ with_looked_through f b p v →
    Exceeds t rules h id → Stops t rules f id
stopped t rules f h id b p v s e k = record {
  block = b;
  place = p;
  value = v;
  stands = s;
  exceeds = subst (λ (z : FuncRecord). Exceeds t rules z id) e k;
}

same_rule : (rules : List Rule) (place : ℕ) (r s : Rule) → place < length rules → r ≡ get_or rules place r → slice_get rules place ≡ Some s → r ≡ s
same_rule rules place r s l e h = (let q : Some r ≡ Some s = sym (slice_get_read rules (length rules) place r refl l e) ∙ h in cc)

pub applies : (t : Target) (rules : List Rule) (f g : FuncRecord) (id b p place : ℕ) (w : ValueRecord) (bs : List Bound) (cs : List Bool) (r : Rule) →
    IsFirst t f rules id place bs cs → place < length rules → r ≡ get_or rules place r → g ≡ applied (source f bs t) r.right b p w → Applies t rules f id b p w g
applies t rules f g id b p place w bs cs r m l e h = record {
  place = place;
  binds = bs;
  orders = cs;
  first = m;
  gives = h ∙ ap (λ (z : Rule). applied (source f bs t) z.right b p w) (same_rule rules place r m.rule l e m.stands);
}

pub exceeds : (t : Target) (rules : List Rule) (f : FuncRecord) (id place : ℕ) (bs : List Bound) (cs : List Bool) (r : Rule) →
    IsFirst t f rules id place bs cs → place < length rules → r ≡ get_or rules place r → Grows (source f bs t) r.right → Exceeds t rules f id
exceeds t rules f id place bs cs r m l e h = record {
  place = place;
  binds = bs;
  orders = cs;
  first = m;
  grows = subst (λ (z : Rule). Grows (source f bs t) z.right) (same_rule rules place r m.rule l e m.stands) h;
}

-- ---- visits one after the other
front : {X : Type 0} (xs : List X) (i : ℕ) (x : X) → i < length xs → x ≡ get_or xs i x → drop i xs ≡ x ∷ drop (i + 1) xs
front xs i x l e = drop_more xs i x l ∙ ap (λ q. q ∷ drop (i + 1) xs) (sym e)

pub visits_on : (t : Target) (rules : List Rule) (ids : List ℕ) (i id : ℕ) (f h : FuncRecord) (R : FuncRecord → Type 0) → ((g : FuncRecord) → VisitsEach t rules (drop i ids) f g → R g) →
    i < length ids → id ≡ get_or ids i id → Visits t rules f id h → (g : FuncRecord) → VisitsEach t rules (drop (i + 1) ids) h g → R g
visits_on t rules ids i id f h R k l e v g m = k g (subst (λ (xs : List ℕ). VisitsEach t rules xs f g) (sym (front ids i id l e)) (h, v, m))

pub visits_end : (t : Target) (rules : List Rule) (ids : List ℕ) (i : ℕ) (f : FuncRecord) (R : FuncRecord → Type 0) → ((g : FuncRecord) → VisitsEach t rules (drop i ids) f g → R g) →
    length ids ≤ i → R f
visits_end t rules ids i f R k l = k f (subst (λ (xs : List ℕ). VisitsEach t rules xs f f) (sym (drop_all i ids l)) refl)

pub stops_on : (t : Target) (rules : List Rule) (ids : List ℕ) (i id : ℕ) (f h : FuncRecord) (R : Type 0) → (StopsAmong t rules (drop i ids) f → R) →
    i < length ids → id ≡ get_or ids i id → Visits t rules f id h → StopsAmong t rules (drop (i + 1) ids) h → R
stops_on t rules ids i id f h R k l e v m = k (subst (λ (xs : List ℕ). StopsAmong t rules xs f) (sym (front ids i id l e)) (inr (h, v, m)))

pub stops_here : (t : Target) (rules : List Rule) (ids : List ℕ) (i id : ℕ) (f : FuncRecord) (R : Type 0) → (StopsAmong t rules (drop i ids) f → R) →
    i < length ids → id ≡ get_or ids i id → Stops t rules f id → R
stops_here t rules ids i id f R k l e s = k (subst (λ (xs : List ℕ). StopsAmong t rules xs f) (sym (front ids i id l e)) (inl s))

-- ---- loops that gather numbers
pub mapped_on : {X : Type 0} (g : X → ℕ) (xs : List X) (i : ℕ) (x : X) (out more r : List ℕ) → out ++ map g (drop i xs) ≡ r → i < length xs → x ≡ get_or xs i x →
    more ≡ out ++ g x ∷ [] → more ++ map g (drop (i + 1) xs) ≡ r
mapped_on g xs i x out more r h l e d =
    ap (λ ys. ys ++ map g (drop (i + 1) xs)) d ∙ (append_assoc out (g x ∷ []) (map g (drop (i + 1) xs)) ∙ (ap (λ ys. out ++ map g ys) (sym (front xs i x l e)) ∙ h))

pub mapped_end : {X : Type 0} (g : X → ℕ) (xs : List X) (i : ℕ) (out r : List ℕ) → out ++ map g (drop i xs) ≡ r → length xs ≤ i → out ≡ r
mapped_end g xs i out r h l = sym (append-nil out) ∙ (ap (λ ys. out ++ map g ys) (sym (drop_all i xs l)) ∙ h)

map_both : {X : Type 0} (g : X → ℕ) (xs ys : List X) → map g (xs ++ ys) ≡ map g xs ++ map g ys
map_both g [] ys = refl
map_both g (x ∷ xs) ys = ap (λ zs. g x ∷ zs) (map_both g xs ys)

abbrev pub ids_of : List BlockRecord → List ℕ
ids_of bs = map (λ v. v.id) (flat_map (λ b. b.values) bs)

ids_cons : (x : BlockRecord) (bs : List BlockRecord) → ids_of (x ∷ bs) ≡ map (λ v. v.id) x.values ++ ids_of bs
ids_cons x bs = ap (map (λ (v : ValueRecord). v.id)) (flat_map-cons (λ (b : BlockRecord). b.values) x bs) ∙ map_both (λ (v : ValueRecord). v.id) x.values (flat_map (λ b. b.values) bs)

pub ids_on : (bs : List BlockRecord) (i : ℕ) (x : BlockRecord) (out more r : List ℕ) → out ++ ids_of (drop i bs) ≡ r → i < length bs → x ≡ get_or bs i x →
    more ≡ out ++ map (λ v. v.id) x.values → more ++ ids_of (drop (i + 1) bs) ≡ r
ids_on bs i x out more r h l e d =
    ap (λ ys. ys ++ ids_of (drop (i + 1) bs)) d ∙ (append_assoc out (map (λ v. v.id) x.values) (ids_of (drop (i + 1) bs)) ∙
    (ap (λ ys. out ++ ys) (sym (ids_cons x (drop (i + 1) bs)) ∙ ap ids_of (sym (front bs i x l e))) ∙ h))

pub ids_end : (bs : List BlockRecord) (i : ℕ) (out r : List ℕ) → out ++ ids_of (drop i bs) ≡ r → length bs ≤ i → out ≡ r
ids_end bs i out r h l = sym (append-nil out) ∙ (ap (λ ys. out ++ ids_of ys) (sym (drop_all i bs l)) ∙ h)

-- ---- pass after pass
pub changes_start : (t : Target) (rules : List Rule) (f : FuncRecord) (m : ℕ) (g : FuncRecord) → Changes t rules m f g → Changes t rules (0 + m) f g
changes_start t rules f m g c = (let e : m ≡ 0 + m = omega arith in subst (λ (k : ℕ). Changes t rules k f g) e c)

pub changes_on : (t : Target) (rules : List Rule) (n : ℕ) (s f h : FuncRecord) → ((m : ℕ) (g : FuncRecord) → Changes t rules m f g → Changes t rules (n + m) s g) →
    IsPass t rules f h → (h ≡ f → ⊥) → (m : ℕ) (g : FuncRecord) → Changes t rules m h g → Changes t rules (n + 1 + m) s g
changes_on t rules n s f h k p d m g c =
    let e : n + suc m ≡ n + 1 + m = omega arith in
    subst (λ (i : ℕ). Changes t rules i s g) e (k (suc m) g (h, p, d, c))

pub changes_now : (t : Target) (rules : List Rule) (n : ℕ) (s f : FuncRecord) → ((m : ℕ) (g : FuncRecord) → Changes t rules m f g → Changes t rules (n + m) s g) → Changes t rules n s f
changes_now t rules n s f k = (let e : n + 0 ≡ n = omega arith in subst (λ (i : ℕ). Changes t rules i s f) e (k 0 f refl))

pub settles : (t : Target) (rules : List Rule) (n limit : ℕ) (s f h : FuncRecord) → ((m : ℕ) (g : FuncRecord) → Changes t rules m f g → Changes t rules (n + m) s g) →
    n < limit → IsPass t rules f h → h ≡ f → Settles t rules limit s h
settles t rules n limit s f h k l p e = record {
  passes = n;
  fewer = l;
  changes = subst (λ (z : FuncRecord). Changes t rules n s z) (sym e) (changes_now t rules n s f k);
  settled = subst (λ (z : FuncRecord). IsPass t rules z h) (sym e) p;
}

pub outgrows : (t : Target) (rules : List Rule) (n limit : ℕ) (s f : FuncRecord) → ((m : ℕ) (g : FuncRecord) → Changes t rules m f g → Changes t rules (n + m) s g) →
    n < limit → PassExceeds t rules f → Outgrows t rules limit s
outgrows t rules n limit s f k l p = record { passes = n; fewer = l; func = f; changes = changes_now t rules n s f k; exceeds = p }

-- ---- the function once the arguments of a value are looked through
pub record Looked (f h : FuncRecord) (id b p greatest room : ℕ) : Type 0 where
  pub value : ValueRecord
  pub stands : Stands f id b p value
  pub is : h ≡ with_looked_through f b p value
  pub here : Stands h id b p (looked_through f value)
  pub counted : IsCounted greatest room h

pub looked : (f h : FuncRecord) (id b p greatest room : ℕ) → StandsAt f id b p → IsCounted greatest room f →
    ((v : ValueRecord) → HasNumbers f → value_at f b p ≡ Some v → h ≡ with_looked_through f b p v) → Looked f h id b p greatest room
looked f h id b p greatest room (v, e, n) c k =
    let s : Stands f id b p v = record { value = e; number = n } in
    let q : h ≡ with_looked_through f b p v = k v c.numbers e in
    record {
      value = v;
      stands = s;
      is = q;
      here = subst (λ (z : FuncRecord). Stands z id b p (looked_through f v)) (sym q) (looked_stands f id b p v s);
      counted = subst (λ (z : FuncRecord). IsCounted greatest room z) (sym q) (counted_looked f b p v greatest room c e);
    }

pub looked_visits : (t : Target) (rules : List Rule) (f h g : FuncRecord) (id b p greatest room : ℕ) (l : Looked f h id b p greatest room) →
    Tries t rules h id b p (looked_through f l.value) g → Visits t rules f id g
looked_visits t rules f h g id b p greatest room l k = turned t rules f h g id b p l.value l.stands l.is k

pub looked_stops : (t : Target) (rules : List Rule) (f h : FuncRecord) (id b p greatest room : ℕ) (l : Looked f h id b p greatest room) →
    Exceeds t rules h id → Stops t rules f id
looked_stops t rules f h id b p greatest room l k = stopped t rules f h id b p l.value l.stands l.is k

-- ---- an application by the first rule, in the words of the code
pub exceeds_by : (t : Target) (rules : List Rule) (f : FuncRecord) (id place greatest room : ℕ) (bs dl : List Bound) (cs : List Bool) (r : Rule) → dl ≡ bs → IsCounted greatest room f →
    IsFirst t f rules id place bs cs → place < length rules → r ≡ get_or rules place r → (greatest ≡ greatest_value f → room < length (inner (source f dl t) r.right)) → Exceeds t rules f id
exceeds_by t rules f id place greatest room bs dl cs r d c m l e h =
    let g : room < length (inner (source f bs t) r.right) = subst (λ (w : List Bound). room < length (inner (source f w t) r.right)) d (h c.greatest_is) in
    exceeds t rules f id place bs cs r m l e (omega (arith, g, c.room_is))

pub applies_by : (t : Target) (rules : List Rule) (f g : FuncRecord) (id b p place greatest room : ℕ) (w : ValueRecord) (bs dl : List Bound) (cs : List Bool) (r : Rule) → dl ≡ bs → IsCounted greatest room f →
    Stands f id b p w → IsFirst t f rules id place bs cs → place < length rules → r ≡ get_or rules place r →
    ((v : ValueRecord) → value_at f b p ≡ Some v → greatest ≡ greatest_value f → g ≡ applied (source f dl t) r.right b p v) → Tries t rules f id b p w g
applies_by t rules f g id b p place greatest room w bs dl cs r d c s m l e h =
    inr (applies t rules f g id b p place w bs cs r m l e (subst (λ (x : List Bound). g ≡ applied (source f x t) r.right b p w) d (h w s.value c.greatest_is)))

pub counted_by : (t : Target) (f g : FuncRecord) (id b p greatest values n : ℕ) (w : ValueRecord) (dl : List Bound) (r : Rule) → IsCounted greatest (value_limit - values) f → Stands f id b p w →
    ((v : ValueRecord) → value_at f b p ≡ Some v → greatest ≡ greatest_value f → g ≡ applied (source f dl t) r.right b p v) →
    (greatest ≡ greatest_value f → n ≡ length (inner (source f dl t) r.right)) → IsCounted (greatest + n) (value_limit - (values + n)) g
counted_by t f g id b p greatest values n w dl r c s h k =
    let a : IsCounted (greatest + n) (value_limit - values - n) (applied (source f dl t) r.right b p w) = counted_applied f dl t r.right b p w greatest (value_limit - values) n c s.value (k c.greatest_is) in
    let m : value_limit - values - n ≡ value_limit - (values + n) = omega arith in
    subst (λ (z : FuncRecord). IsCounted (greatest + n) (value_limit - (values + n)) z) (sym (h w s.value c.greatest_is)) (subst (λ (i : ℕ). IsCounted (greatest + n) i (applied (source f dl t) r.right b p w)) m a)
