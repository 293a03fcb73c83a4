-- Which values the numbers of a function name after a rule was applied.
use Rattle.std.proofs.Common.{◌≡◌, ℕ, zero, suc, ◌-◌, ◌<◌, ◌≤◌, ◌==◌, cond, refl, ap, sym, ◌∙◌, arith, Bool, true, false, List, [], ◌∷◌, ◌++◌, length, Option, Some, None, inl, inr}
use Rattle.std.specs.Prelude.{slice_get, slice_set}
use Rattle.std.specs.List.{find, flat_map}
use Rattle.std.specs.Option.{option_or}
use Rattle.std.proofs.lemmas.List.Folds.{find-append}
use Rattle.std.proofs.lemmas.List.Concat.{flat_map-cons}
use Rattle.std.proofs.lemmas.Bool.{cases_eq}
use Rattle.std.proofs.lemmas.Bool.Decides.{nat_tests}
use Rattle.bk_ops.specs.declared.types.Target.{Target}
use Rattle.bk_ops.specs.declared.types.Ty.{Ty}
use Rattle.bk_func.specs.Records.{ValueRecord, BlockRecord, FuncRecord}
use Rattle.bk_func.specs.Numbers.{value_of}
use Rattle.bk_func.specs.Edits.{greatest_value}
use Rattle.bk_func.proofs.Faults.{In}
use Rattle.bk_rule.specs.declared.trees.Bound.{Bound}
use Rattle.bk_rule.specs.declared.trees.Build.{Build}
use Rattle.bk_rule.specs.declared.trees.Build as build
use Rattle.bk_rewrite.specs.Places.{HasNumbers, in_block, value_in, value_at, in_place, with_block, with_made, count_values, value_limit}
use Rattle.bk_rewrite.specs.Making.{Source, source, inner, root_made, applied, next_number}
use Rattle.bk_rewrite.proofs.Standings.{named}
use Rattle.bk_rewrite.proofs.Turns.{counted_applied}

-- ---- where the value with a number stands
among : (vs : List ValueRecord) (id : ℕ) (w : ValueRecord) → find (λ v. v.id == id) vs ≡ Some w → (k : ℕ) × (slice_get vs k ≡ Some w) × (w.id ≡ id)
among [] id w e = absurd (let q : None ≡ Some w = e in cc)
among (v ∷ vs) id w e = go (v.id == id) refl e (among vs id w)
  where
    go : (t : Bool) → (v.id == id) ≡ t → cond t (Some v) (find (λ v. v.id == id) vs) ≡ Some w →
        (find (λ v. v.id == id) vs ≡ Some w → (k : ℕ) × (slice_get vs k ≡ Some w) × (w.id ≡ id)) → (k : ℕ) × (slice_get (v ∷ vs) k ≡ Some w) × (w.id ≡ id)
    go true h d r = (0, d, (let q : v ≡ w = cc in let z : v.id ≡ id = grind (arith, nat_tests, h) in ap (λ (x : ValueRecord). x.id) (sym q) ∙ z))
    go false h d r = (let (k, a, b) = r d in (suc k, a, b))

abbrev all_values : List BlockRecord → List ValueRecord
all_values bs = flat_map (λ b. b.values) bs

split : (x : BlockRecord) (bs : List BlockRecord) (id : ℕ) →
    find (λ v. v.id == id) (all_values (x ∷ bs)) ≡ option_or (find (λ v. v.id == id) x.values) (find (λ v. v.id == id) (all_values bs))
split x bs id = ap (find (λ v. v.id == id)) (flat_map-cons (λ (b : BlockRecord). b.values) x bs) ∙ find-append (λ v. v.id == id) x.values (all_values bs)

-- the place of a value that is named
pub stands : (bs : List BlockRecord) (id : ℕ) (w : ValueRecord) → find (λ v. v.id == id) (all_values bs) ≡ Some w →
    (b : ℕ) × (p : ℕ) × (value_in bs b p ≡ Some w) × (w.id ≡ id)
stands [] id w e = absurd (let q : None ≡ Some w = e in cc)
stands (x ∷ bs) id w e = go (find (λ v. v.id == id) x.values) (among x.values id w) (stands bs id w) (sym (split x bs id) ∙ e)
  where
    go : (o : Option ValueRecord) → (o ≡ Some w → (k : ℕ) × (slice_get x.values k ≡ Some w) × (w.id ≡ id)) →
        (find (λ v. v.id == id) (all_values bs) ≡ Some w → (b : ℕ) × (p : ℕ) × (value_in bs b p ≡ Some w) × (w.id ≡ id)) →
        option_or o (find (λ v. v.id == id) (all_values bs)) ≡ Some w → (b : ℕ) × (p : ℕ) × (value_in (x ∷ bs) b p ≡ Some w) × (w.id ≡ id)
    go None a r d = (let (b, p, q, s) = r d in (suc b, p, q, s))
    go (Some u) a r d = (let (k, q, s) = a d in (0, k, q, s))

-- ---- one element set, and others appended
set_here : {X : Type 0} (xs : List X) (i : ℕ) (x y : X) → slice_get xs i ≡ Some x → slice_get (slice_set xs i y) i ≡ Some y
set_here [] i x y e = absurd (let q : None ≡ Some x = e in cc)
set_here (z ∷ xs) zero x y e = refl
set_here (z ∷ xs) (suc i) x y e = set_here xs i x y e

set_other : {X : Type 0} (xs : List X) (i j : ℕ) (y : X) → (i ≡ j → ⊥) → slice_get (slice_set xs i y) j ≡ slice_get xs j
set_other [] i j y n = refl
set_other (z ∷ xs) zero zero y n = absurd (n refl)
set_other (z ∷ xs) zero (suc j) y n = refl
set_other (z ∷ xs) (suc i) zero y n = refl
set_other (z ∷ xs) (suc i) (suc j) y n = set_other xs i j y (λ e. n (ap suc e))

front : {X : Type 0} (xs ys : List X) (i : ℕ) (x : X) → slice_get xs i ≡ Some x → slice_get (xs ++ ys) i ≡ Some x
front [] ys i x e = absurd (let q : None ≡ Some x = e in cc)
front (z ∷ xs) ys zero x e = e
front (z ∷ xs) ys (suc i) x e = front xs ys i x e

back : {X : Type 0} (xs ys : List X) (x : X) → In x ys → (j : ℕ) × (slice_get (xs ++ ys) j ≡ Some x) × (length xs ≤ j)
back [] [] x i = elim i [ ]
back [] (y ∷ ys) x (inl e) = (0, ap Some e, omega arith)
back [] (y ∷ ys) x (inr i) = (let (j, e, l) = back [] ys x i in (suc j, e, omega arith))
back (z ∷ xs) ys x i = (let (j, e, l) = back xs ys x i in (suc j, e, omega (arith, l)))

got_below : {X : Type 0} (xs : List X) (i : ℕ) (x : X) → slice_get xs i ≡ Some x → i < length xs
got_below [] i x e = absurd (let q : None ≡ Some x = e in cc)
got_below (z ∷ xs) zero x e = omega arith
got_below (z ∷ xs) (suc i) x e = omega (arith, got_below xs i x e)

-- ---- an edit: root stands for v, and others last in the block
abbrev pub Edited : FuncRecord → ℕ → ℕ → ValueRecord → List ValueRecord → FuncRecord
Edited f b k root made = with_block f b (with_made k root made)

record Spot (f : FuncRecord) (b k : ℕ) (v : ValueRecord) : Type 0 where
  block : BlockRecord
  there : slice_get f.blocks b ≡ Some block
  value : slice_get block.values k ≡ Some v

spot : (f : FuncRecord) (b k : ℕ) (v : ValueRecord) → value_at f b k ≡ Some v → Spot f b k v
spot f b k v e = go (slice_get f.blocks b) refl e
  where
    go : (o : Option BlockRecord) → slice_get f.blocks b ≡ o → in_block o k ≡ Some v → Spot f b k v
    go None d h = absurd (let q : None ≡ Some v = h in cc)
    go (Some x) d h = record { block = x; there = d; value = h }

blocks_after : (f : FuncRecord) (b k : ℕ) (v root : ValueRecord) (made : List ValueRecord) (s : Spot f b k v) →
    (Edited f b k root made).blocks ≡ slice_set f.blocks b (with_made k root made s.block)
blocks_after f b k v root made s = ap (λ o. in_place f.blocks b o (with_made k root made)) s.there

at_place : (bs : List BlockRecord) (b k : ℕ) (x : BlockRecord) (o : Option ValueRecord) → slice_get bs b ≡ Some x → slice_get x.values k ≡ o → value_in bs b k ≡ o
at_place bs b k x o e h = ap (λ z. in_block z k) e ∙ h

-- the block after the edit
block_after : (f : FuncRecord) (b k : ℕ) (v root : ValueRecord) (made : List ValueRecord) (s : Spot f b k v) → slice_get (Edited f b k root made).blocks b ≡ Some (with_made k root made s.block)
block_after f b k v root made s =
    ap (λ bs. slice_get bs b) (blocks_after f b k v root made s) ∙ set_here f.blocks b s.block (with_made k root made s.block) s.there

pub root_at : (f : FuncRecord) (b k : ℕ) (v root : ValueRecord) (made : List ValueRecord) → value_at f b k ≡ Some v → value_at (Edited f b k root made) b k ≡ Some root
root_at f b k v root made e =
    let s : Spot f b k v = spot f b k v e in
    at_place (Edited f b k root made).blocks b k (with_made k root made s.block) (Some root) (block_after f b k v root made s)
    (set_here (s.block.values ++ made) k v root (front s.block.values made k v s.value))

made_at : (f : FuncRecord) (b k : ℕ) (v root : ValueRecord) (made : List ValueRecord) → value_at f b k ≡ Some v → (w : ValueRecord) → In w made →
    (j : ℕ) × (value_at (Edited f b k root made) b j ≡ Some w)
made_at f b k v root made e w i =
    let s : Spot f b k v = spot f b k v e in
    let (j, d, l) = back s.block.values made w i in
    let n : k ≡ j → ⊥ = λ q. omega (arith, q, l, got_below s.block.values k v s.value) in (
      j,
      at_place (Edited f b k root made).blocks b j (with_made k root made s.block) (Some w) (block_after f b k v root made s)
          (set_other (s.block.values ++ made) k j root n ∙ d),
    )

pub other_at : (f : FuncRecord) (b k : ℕ) (v root : ValueRecord) (made : List ValueRecord) → value_at f b k ≡ Some v → (c j : ℕ) (u : ValueRecord) → value_at f c j ≡ Some u → (u ≡ v → ⊥) →
    value_at (Edited f b k root made) c j ≡ Some u
other_at f b k v root made e c j u h n = elim (cases_eq b c) [
  | inl q ↦ same_block q
  | inr q ↦ (let s : Spot f b k v = spot f b k v e in
      ap (λ o. in_block o j) (ap (λ bs. slice_get bs c) (blocks_after f b k v root made s) ∙ set_other f.blocks b c (with_made k root made s.block) q) ∙ h)
]
  where
    same_block : b ≡ c → value_at (Edited f b k root made) c j ≡ Some u
    same_block q =
        let s : Spot f b k v = spot f b k v e in
        let d : slice_get s.block.values j ≡ Some u = sym (at_place f.blocks b j s.block (slice_get s.block.values j) s.there refl) ∙ (ap (λ i. value_at f i j) q ∙ h) in
        let apart : k ≡ j → ⊥ = λ z. n (let y : Some u ≡ Some v = sym d ∙ (ap (λ i. slice_get s.block.values i) (sym z) ∙ s.value) in cc) in
        ap (λ i. value_at (Edited f b k root made) i j) (sym q)
        ∙ at_place (Edited f b k root made).blocks b j (with_made k root made s.block) (Some u) (block_after f b k v root made s)
        (set_other (s.block.values ++ made) k j root apart ∙ front s.block.values made j u d)

-- ---- a rule applied
numbers_after : (f : FuncRecord) (bs : List Bound) (t : Target) (r : Build) (b k : ℕ) (v : ValueRecord) → HasNumbers f → value_at f b k ≡ Some v →
    HasNumbers (applied (source f bs t) r b k v)
numbers_after f bs t r b k v h e =
    (counted_applied f bs t r b k v (greatest_value f) (value_limit - count_values f) (length (inner (source f bs t) r)) (record { numbers = h; greatest_is = refl; room_is = refl }) e refl).numbers

root_id : (s : Source) (id : ℕ) (t : Ty) (r : Build) (n : ℕ) → (root_made s id t r n).id ≡ id
root_id s id t (build.Var i) n = refl
root_id s id t (build.Node' o u x a shape args) n = refl

pub root_named : (f : FuncRecord) (bs : List Bound) (t : Target) (r : Build) (b k : ℕ) (v : ValueRecord) → HasNumbers f → value_at f b k ≡ Some v →
    value_of (applied (source f bs t) r b k v) v.id ≡ Some (root_made (source f bs t) v.id v.ty r (next_number f))
root_named f bs t r b k v h e =
    let s : Source = source f bs t in
    let root : ValueRecord = root_made s v.id v.ty r (next_number f) in
    named (applied s r b k v) v.id b k root (numbers_after f bs t r b k v h e) (root_at f b k v root (inner s r) e) (root_id s v.id v.ty r (next_number f))

pub made_named : (f : FuncRecord) (bs : List Bound) (t : Target) (r : Build) (b k : ℕ) (v : ValueRecord) → HasNumbers f → value_at f b k ≡ Some v →
    (w : ValueRecord) → In w (inner (source f bs t) r) → value_of (applied (source f bs t) r b k v) w.id ≡ Some w
made_named f bs t r b k v h e w i =
    let s : Source = source f bs t in
    let (j, d) = made_at f b k v (root_made s v.id v.ty r (next_number f)) (inner s r) e w i in
    named (applied s r b k v) w.id b j w (numbers_after f bs t r b k v h e) d refl

pub other_named : (f : FuncRecord) (bs : List Bound) (t : Target) (r : Build) (b k : ℕ) (v : ValueRecord) → HasNumbers f → value_at f b k ≡ Some v →
    (x : ℕ) (u : ValueRecord) → value_of f x ≡ Some u → (x ≡ v.id → ⊥) → value_of (applied (source f bs t) r b k v) x ≡ Some u
other_named f bs t r b k v h e x u d n =
    let s : Source = source f bs t in
    let (c, j, q, i) = stands f.blocks x u d in
    let apart : u ≡ v → ⊥ = λ z. n (sym i ∙ ap (λ (y : ValueRecord). y.id) z) in
    named (applied s r b k v) x c j u (numbers_after f bs t r b k v h e) (other_at f b k v (root_made s v.id v.ty r (next_number f)) (inner s r) e c j u q apart) i
