-- Visits, passes, and pass after pass: what they keep, and that they come to one function.
use Rattle.std.proofs.Common.{◌≡◌, ℕ, zero, suc, ◌+◌, ◌-◌, ◌<◌, ◌≤◌, refl, ap, sym, subst, ◌∙◌, arith, List, [], ◌∷◌, length, Option, Some, None, inl, inr}
use Rattle.std.specs.Prelude.{slice_get, slice_set}
use Rattle.std.proofs.lemmas.Bool.{cases_lt}
use Rattle.std.proofs.lemmas.List.{append-nil}
use Rattle.bk_ops.specs.declared.types.Target.{Target}
use Rattle.bk_ops.specs.declared.types.Ty.{Ty}
use Rattle.bk_func.specs.Records.{ValueRecord, BlockRecord, FuncRecord}
use Rattle.bk_func.specs.Edits.{greatest_value}
use Rattle.bk_rule.specs.declared.trees.Bound.{Bound}
use Rattle.bk_rule.specs.declared.trees.Build.{Build}
use Rattle.bk_rule.specs.declared.trees.Build as build
use Rattle.bk_rule.specs.declared.trees.Rule.{Rule}
use Rattle.bk_rewrite.specs.Places.{HasNumbers, in_block, value_at, in_place, with_block, with_made, count_values, value_limit}
use Rattle.bk_rewrite.specs.Making.{Source, source, inner, root_made, applied}
use Rattle.bk_rewrite.specs.Passes.{with_value, looked_through, with_looked_through, Tries, Stands, Turned, Stops, Visits, VisitsEach, StopsAmong, numbers, IsPass, PassExceeds, Changes, Settles, Outgrows}
use Rattle.bk_rewrite.proofs.Kept.{Edit, NumberedFrom, edited, edited_count, edited_numbers, numbered_inner, numbered_none}
use Rattle.bk_rewrite.proofs.Turns.{looked_stands}
use Rattle.bk_rewrite_laws.specs.Numbered.{RulesNumbered}
use Rattle.bk_rewrite_laws.proofs.Firsts.{some_same, same_tries, exceeded}

-- ---- what an edit keeps
-- the numbers stand once, and values are no fewer
pub record Grown (f g : FuncRecord) : Type 0 where
  pub numbers : HasNumbers g
  pub more : count_values f ≤ count_values g

edit_at : (f : FuncRecord) (b p : ℕ) (v root : ValueRecord) (made : List ValueRecord) → value_at f b p ≡ Some v → root.id ≡ v.id → NumberedFrom (greatest_value f + 1) made →
    (x : BlockRecord) × Edit f b p x v root made
edit_at f b p v root made e h k = go (slice_get f.blocks b) refl e
  where
    go : (o : Option BlockRecord) → slice_get f.blocks b ≡ o → in_block o p ≡ Some v → (x : BlockRecord) × Edit f b p x v root made
    go None d q = absurd (let z : None ≡ Some v = q in cc)
    go (Some x) d q = (x, record { block = d; value = q; same = h; numbered = k })

edited_grown : (f : FuncRecord) (b p : ℕ) (v root : ValueRecord) (made : List ValueRecord) → value_at f b p ≡ Some v → root.id ≡ v.id → NumberedFrom (greatest_value f + 1) made → HasNumbers f →
    Grown f (edited f b p root made) × (count_values (edited f b p root made) ≡ count_values f + length made)
edited_grown f b p v root made e h k u =
    let (x, d) = edit_at f b p v root made e h k in
    let c = edited_count f b p x v root made d in
    (record { numbers = edited_numbers f b p x v root made d u; more = omega (arith, c) }, c)

root_id : (s : Source) (id : ℕ) (t : Ty) (r : Build) (n : ℕ) → (root_made s id t r n).id ≡ id
root_id s id t (build.Var i) n = refl
root_id s id t (build.Node' o u x a shape args) n = refl

applied_grown : (f : FuncRecord) (bs : List Bound) (t : Target) (r : Build) (b p : ℕ) (v : ValueRecord) → value_at f b p ≡ Some v → HasNumbers f →
    Grown f (applied (source f bs t) r b p v) × (count_values (applied (source f bs t) r b p v) ≡ count_values f + length (inner (source f bs t) r))
applied_grown f bs t r b p v e u =
    let s : Source = source f bs t in
    edited_grown f b p v (root_made s v.id v.ty r (greatest_value f + 1)) (inner s r) e (root_id s v.id v.ty r (greatest_value f + 1)) (numbered_inner s r (greatest_value f + 1)) u

as_edit : (f : FuncRecord) (b p : ℕ) (w : ValueRecord) → with_block f b (with_value p w) ≡ edited f b p w []
as_edit f b p w = go (slice_get f.blocks b)
  where
    go : (o : Option BlockRecord) → record f { blocks = in_place f.blocks b o (with_value p w) } ≡ record f { blocks = in_place f.blocks b o (with_made p w []) }
    go None = refl
    go (Some x) = ap (λ vs. record f { blocks = slice_set f.blocks b (record x { values = slice_set vs p w }) }) (sym (append-nil x.values))

looked_grown : (f : FuncRecord) (b p : ℕ) (v : ValueRecord) → value_at f b p ≡ Some v → HasNumbers f → Grown f (with_looked_through f b p v)
looked_grown f b p v e u =
    let g = (edited_grown f b p v (looked_through f v) [] e refl (numbered_none (greatest_value f + 1)) u).0 in
    subst (λ (z : FuncRecord). Grown f z) (sym (as_edit f b p (looked_through f v))) g

grown_self : (f : FuncRecord) → HasNumbers f → Grown f f
grown_self f u = record { numbers = u; more = omega arith }

grown_on : (f g h : FuncRecord) → Grown f g → Grown g h → Grown f h
grown_on f g h x y = record { numbers = y.numbers; more = omega (arith, x.more, y.more) }

-- ---- one visit
module _ (t : Target) (rules : List Rule) where
  tries_grown : (f : FuncRecord) (id b p : ℕ) (v : ValueRecord) (g : FuncRecord) → value_at f b p ≡ Some v → HasNumbers f → Tries t rules f id b p v g → Grown f g
  tries_grown f id b p v g e u (inl x) = subst (λ (z : FuncRecord). Grown f z) (sym x.1) (grown_self f u)
  tries_grown f id b p v g e u (inr x) = subst (λ (z : FuncRecord). Grown f z) (sym x.gives) (applied_grown f x.binds t x.first.rule.right b p v e u).0

  turned_grown : (f : FuncRecord) (id : ℕ) (g : FuncRecord) → HasNumbers f → Turned t rules f id g → Grown f g
  turned_grown f id g u x =
      let l = looked_grown f x.block x.place x.value x.stands.value u in
      let s = looked_stands f id x.block x.place x.value x.stands in
      grown_on f (with_looked_through f x.block x.place x.value) g l
      (tries_grown (with_looked_through f x.block x.place x.value) id x.block x.place (looked_through f x.value) g s.value l.numbers x.tries)

  pub visit_grown : (f : FuncRecord) (id : ℕ) (g : FuncRecord) → HasNumbers f → Visits t rules f id g → Grown f g
  visit_grown f id g u (inl x) = subst (λ (z : FuncRecord). Grown f z) (sym x.1) (grown_self f u)
  visit_grown f id g u (inr x) = turned_grown f id g u x

  -- the tries at one place
  moved : (f : FuncRecord) (id b c p q : ℕ) (v w : ValueRecord) (g : FuncRecord) → HasNumbers f → Stands f id b p v → Stands f id c q w →
      Tries t rules (with_looked_through f c q w) id c q (looked_through f w) g → Tries t rules (with_looked_through f b p v) id b p (looked_through f v) g
  moved f id b c p q v w g u x y h =
      let (d, e) = u id b p c q (v, x.value, x.number) (w, y.value, y.number) in
      let i : v ≡ w = some_same (value_at f c q) v w (subst (λ n. value_at f c n ≡ Some v) e (subst (λ n. value_at f n p ≡ Some v) d x.value)) y.value in
      subst (λ n. Tries t rules (with_looked_through f n p v) id n p (looked_through f v) g) (sym d)
      (subst (λ n. Tries t rules (with_looked_through f c n v) id c n (looked_through f v) g) (sym e)
      (subst (λ z. Tries t rules (with_looked_through f c q z) id c q (looked_through f z) g) (sym i) h))

  module _ (n : RulesNumbered rules) where
    pub same_visit : (f : FuncRecord) (id : ℕ) (g h : FuncRecord) → HasNumbers f → Visits t rules f id g → Visits t rules f id h → g ≡ h
    same_visit f id g h u (inl x) (inl y) = x.1 ∙ sym y.1
    same_visit f id g h u (inl x) (inr y) = absurd (x.0 y.block y.place (y.value, y.stands.value, y.stands.number))
    same_visit f id g h u (inr x) (inl y) = absurd (y.0 x.block x.place (x.value, x.stands.value, x.stands.number))
    same_visit f id g h u (inr x) (inr y) =
        same_tries t (with_looked_through f x.block x.place x.value) rules id n x.block x.place (looked_through f x.value) g h x.tries
        (moved f id x.block y.block x.place y.place x.value y.value h u x.stands y.stands y.tries)

    over_limit : (count more : ℕ) → value_limit - count < more → value_limit < count + more
    over_limit count more l = omega (arith, l)

    -- a visit that is to stop makes more values than the limit
    stop_exceeds : (f : FuncRecord) (id : ℕ) (g : FuncRecord) → HasNumbers f → Stops t rules f id → Visits t rules f id g → value_limit < count_values g
    stop_exceeds f id g u s (inl y) = absurd (y.0 s.block s.place (s.value, s.stands.value, s.stands.number))
    stop_exceeds f id g u s (inr y) =
        let h : FuncRecord = with_looked_through f s.block s.place s.value in
        let w : ValueRecord = looked_through f s.value in
        let m = moved f id s.block y.block s.place y.place s.value y.value g u s.stands y.stands y.tries in
        let l = looked_grown f s.block s.place s.value s.stands.value u in
        let at = looked_stands f id s.block s.place s.value s.stands in
        let (x, k) = exceeded t h rules id n s.block s.place w g s.exceeds m in
        let c = (applied_grown h x.binds t x.first.rule.right s.block s.place w at.value l.numbers).1 in
        let e : count_values g ≡ count_values h + length (inner (source h x.binds t) x.first.rule.right) = ap count_values x.gives ∙ c in
        subst (λ (z : ℕ). value_limit < z) (sym e) (over_limit (count_values h) (length (inner (source h x.binds t) x.first.rule.right)) k)

  -- ---- one pass
  pub each_grown : (ids : List ℕ) (f g : FuncRecord) → HasNumbers f → VisitsEach t rules ids f g → Grown f g
  each_grown [] f g u e = subst (λ (z : FuncRecord). Grown f z) (sym e) (grown_self f u)
  each_grown (id ∷ ids) f g u (h, v, m) =
      let a = visit_grown f id h u v in
      grown_on f h g a (each_grown ids h g a.numbers m)

  pub pass_grown : (f g : FuncRecord) → HasNumbers f → IsPass t rules f g → Grown f g
  pass_grown f g u x = each_grown (numbers f) f g u x

  module _ (n : RulesNumbered rules) where
    same_each : (ids : List ℕ) (f g h : FuncRecord) → HasNumbers f → VisitsEach t rules ids f g → VisitsEach t rules ids f h → g ≡ h
    same_each [] f g h u x y = x ∙ sym y
    same_each (id ∷ ids) f g h u (i, v, m) (j, w, o) =
        let e : j ≡ i = same_visit n f id j i u w v in
        same_each ids i g h (visit_grown f id i u v).numbers m (subst (λ z. VisitsEach t rules ids z h) e o)

    pub same_pass : (f g h : FuncRecord) → HasNumbers f → IsPass t rules f g → IsPass t rules f h → g ≡ h
    same_pass f g h u x y = same_each (numbers f) f g h u x y

    among_exceeds : (ids : List ℕ) (f g : FuncRecord) → HasNumbers f → StopsAmong t rules ids f → VisitsEach t rules ids f g → value_limit < count_values g
    among_exceeds [] f g u s x = absurd s
    among_exceeds (id ∷ ids) f g u (inl s) (h, v, m) =
        let a = visit_grown f id h u v in
        let b = each_grown ids h g a.numbers m in
        let l = stop_exceeds n f id h u s v in
        omega (arith, l, b.more)
    among_exceeds (id ∷ ids) f g u (inr (j, w, s)) (h, v, m) =
        let e : j ≡ h = same_visit n f id j h u w v in
        among_exceeds ids h g (visit_grown f id h u v).numbers (subst (λ z. StopsAmong t rules ids z) e s) m

    pub pass_exceeds : (f g : FuncRecord) → HasNumbers f → PassExceeds t rules f → IsPass t rules f g → value_limit < count_values g
    pass_exceeds f g u s x = among_exceeds (numbers f) f g u s x

  -- ---- pass after pass
  pub changes_grown : (k : ℕ) (f g : FuncRecord) → HasNumbers f → Changes t rules k f g → Grown f g
  changes_grown zero f g u e = subst (λ (z : FuncRecord). Grown f z) (sym e) (grown_self f u)
  changes_grown (suc k) f g u (h, x, d, m) =
      let a = pass_grown f h u x in
      grown_on f h g a (changes_grown k h g a.numbers m)

  module _ (n : RulesNumbered rules) where
    -- passes that change something come to no function that a pass does not change, unless they are as many
    pub same_settled : (k m : ℕ) (f g h : FuncRecord) → HasNumbers f → Changes t rules k f g → IsPass t rules g g → Changes t rules m f h → (m ≡ k → ⊥) → k ≤ m → ⊥
    same_settled zero zero f g h u x s y d l = d refl
    same_settled zero (suc m) f g h u x s (j, z, c, y) d l =
        c (same_pass n f j f u z (subst (λ w. IsPass t rules w w) x s))
    same_settled (suc k) zero f g h u x s y d l = omega (arith, l)
    same_settled (suc k) (suc m) f g h u (i, z, c, x) s (j, w, b, y) d l =
        let e : j ≡ i = same_pass n f j i u w z in
        same_settled k m i g h (pass_grown f i u z).numbers x s (subst (λ a. Changes t rules m a h) e y) (λ q. d (ap suc q)) (omega (arith, l))

    pub same_changes : (k : ℕ) (f g h : FuncRecord) → HasNumbers f → Changes t rules k f g → Changes t rules k f h → g ≡ h
    same_changes zero f g h u x y = x ∙ sym y
    same_changes (suc k) f g h u (i, z, c, x) (j, w, b, y) =
        let e : j ≡ i = same_pass n f j i u w z in
        same_changes k i g h (pass_grown f i u z).numbers x (subst (λ a. Changes t rules k a h) e y)

    as_many : (f g h : FuncRecord) (k m : ℕ) → HasNumbers f → Changes t rules k f g → IsPass t rules g g → Changes t rules m f h → IsPass t rules h h → m ≡ k
    as_many f g h k m u x s y r = elim (cases_lt m k) [
      | inl l ↦ absurd (same_settled m k f h g u y r x (λ q. omega (arith, q, l)) (omega (arith, l)))
      | inr l ↦ elim (cases_lt k m) [
        | inl o ↦ absurd (same_settled k m f g h u x s y (λ q. omega (arith, q, o)) (omega (arith, o)))
        | inr o ↦ omega (arith, l, o)
      ]
    ]

    pub same_end : (i j : ℕ) (f g h : FuncRecord) → HasNumbers f → Settles t rules i f g → Settles t rules j f h → g ≡ h
    same_end i j f g h u x y =
        let e = as_many f g h x.passes y.passes u x.changes x.settled y.changes y.settled in
        same_changes x.passes f g h u x.changes (subst (λ k. Changes t rules k f h) e y.changes)

    -- passes that settle are fewer than these
    pub settles_sooner : (i : ℕ) (f g h : FuncRecord) → HasNumbers f → Settles t rules i f g → Changes t rules i f h → ⊥
    settles_sooner i f g h u x y = same_settled x.passes i f g h u x.changes x.settled y (λ q. omega (arith, q, x.fewer)) (omega (arith, x.fewer))

    -- a pass that exceeds the limit, at one of the functions to which passes come
    outgrown : (k m : ℕ) (f g h : FuncRecord) → HasNumbers f → Changes t rules k f g → IsPass t rules g g → Changes t rules m f h → PassExceeds t rules h → m ≤ k → value_limit < count_values g
    outgrown k zero f g h u x s y e l = go k x
      where
        exceeds : PassExceeds t rules f
        exceeds = subst (λ w. PassExceeds t rules w) y e

        go : (i : ℕ) → Changes t rules i f g → value_limit < count_values g
        go zero z = pass_exceeds n f g u exceeds (subst (λ w. IsPass t rules w g) z s)
        go (suc i) (j, z, c, d) =
            let a = pass_exceeds n f j u exceeds z in
            let b = changes_grown i j g (pass_grown f j u z).numbers d in
            omega (arith, a, b.more)
    outgrown zero (suc m) f g h u x s y e l = absurd (omega (arith, l))
    outgrown (suc k) (suc m) f g h u (i, z, c, x) s (j, w, b, y) e l =
        let q : j ≡ i = same_pass n f j i u w z in
        outgrown k m i g h (pass_grown f i u z).numbers x s (subst (λ a. Changes t rules m a h) q y) e (omega (arith, l))

    pub outgrows_limit : (i j : ℕ) (f g : FuncRecord) → HasNumbers f → Settles t rules i f g → Outgrows t rules j f → value_limit < count_values g
    outgrows_limit i j f g u x y = elim (cases_lt x.passes y.passes) [
      | inl l ↦ absurd (same_settled x.passes y.passes f g y.func u x.changes x.settled y.changes (λ q. omega (arith, q, l)) (omega (arith, l)))
      | inr l ↦ outgrown x.passes y.passes f g y.func u x.changes x.settled y.changes y.exceeds l
    ]

    -- the same where passes go on
    pub outgrows_passes : (i : ℕ) (f g : FuncRecord) → HasNumbers f → Changes t rules i f g → Outgrows t rules i f → value_limit < count_values g
    outgrows_passes i f g u x y = go i y.passes f u x y.changes y.fewer
      where
        go : (k m : ℕ) (f : FuncRecord) → HasNumbers f → Changes t rules k f g → Changes t rules m f y.func → m < k → value_limit < count_values g
        go zero m f u x z l = absurd (omega (arith, l))
        go (suc k) zero f u (j, w, c, x) z l =
            let a = pass_exceeds n f j u (subst (λ w. PassExceeds t rules w) z y.exceeds) w in
            let b = changes_grown k j g (pass_grown f j u w).numbers x in
            omega (arith, a, b.more)
        go (suc k) (suc m) f u (i, v, c, x) (j, w, b, z) l =
            let q : j ≡ i = same_pass n f j i u w v in
            go k m i (pass_grown f i u v).numbers x (subst (λ a. Changes t rules m a y.func) q z) (omega (arith, l))
