-- Where values stand, found block by block.
use Rattle.std.proofs.Common.{◌≡◌, ℕ, zero, suc, ◌+◌, ◌<◌, ◌≤◌, ◌==◌, cond, refl, ap, sym, ◌∙◌, arith, Bool, true, false, List, [], ◌∷◌, length, get_or, Option, Some, None, inl, inr}
use Rattle.std.specs.Prelude.{slice_get}
use Rattle.std.specs.List.{find, flat_map}
use Rattle.std.specs.Option.{option_or}
use Rattle.std.proofs.lemmas.List.Folds.{find-append}
use Rattle.std.proofs.lemmas.List.Concat.{flat_map-cons}
use Rattle.std.proofs.lemmas.Bool.Decides.{nat_tests}
use Rattle.std.proofs.lemmas.Option.{slice_get_read, slice_get_within, get_or_from_slice_get}
use Rattle.std.proofs.lemmas.Bool.{cases_lt}
use Rattle.bk_func.specs.Records.{ValueRecord, BlockRecord, FuncRecord}
use Rattle.bk_func.specs.Numbers.{value_of}
use Rattle.bk_rewrite.specs.Places.{StandsAmong, StandsIn, HasNumbers, in_block, value_in, value_at}

pub here : (vs : List ValueRecord) (id p : ℕ) (v : ValueRecord) → p < length vs → v ≡ get_or vs p v → v.id ≡ id → StandsAmong vs id p
here vs id p v l e h = (v, slice_get_read vs (length vs) p v refl l e, h)

-- one place more at which no value has the number
pub not_here : (vs : List ValueRecord) (id i : ℕ) (v : ValueRecord) → v ≡ get_or vs i v → (v.id ≡ id → ⊥) →
    ((p : ℕ) → p < i → StandsAmong vs id p → ⊥) → (p : ℕ) → p < i + 1 → StandsAmong vs id p → ⊥
not_here vs id i v e h k p l (w, q, r) = elim (cases_lt p i) [
  | inl m ↦ k p m (w, q, r)
  | inr m ↦ (let s : i ≡ p = omega arith in
      let t : w ≡ v = sym (get_or_from_slice_get vs p w v q) ∙ (ap (λ n. get_or vs n v) (sym s) ∙ sym e) in h (ap (λ (x : ValueRecord). x.id) (sym t) ∙ r))
]

pub nowhere : (vs : List ValueRecord) (id i : ℕ) → length vs ≤ i → ((p : ℕ) → p < i → StandsAmong vs id p → ⊥) → (p : ℕ) → StandsAmong vs id p → ⊥
nowhere vs id i l k p (w, q, r) = (let m = slice_get_within vs p w q in k p (omega arith) (w, q, r))

block_read : (bs : List BlockRecord) (b : ℕ) (x : BlockRecord) → b < length bs → x ≡ get_or bs b x → slice_get bs b ≡ Some x
block_read bs b x l e = slice_get_read bs (length bs) b x refl l e

pub in_this : (bs : List BlockRecord) (id b p : ℕ) (x : BlockRecord) → b < length bs → x ≡ get_or bs b x → StandsAmong x.values id p → StandsIn bs id b p
in_this bs id b p x l e (v, q, r) = (v, ap (λ o. in_block o p) (block_read bs b x l e) ∙ q, r)

pub not_in_this : (bs : List BlockRecord) (id i : ℕ) (x : BlockRecord) → i < length bs → x ≡ get_or bs i x → ((p : ℕ) → StandsAmong x.values id p → ⊥) →
    ((b p : ℕ) → b < i → StandsIn bs id b p → ⊥) → (b p : ℕ) → b < i + 1 → StandsIn bs id b p → ⊥
not_in_this bs id i x h e n k b p l (w, q, r) = elim (cases_lt b i) [
  | inl m ↦ k b p m (w, q, r)
  | inr m ↦ (let s : i ≡ b = omega arith in
      n p (w, sym (ap (λ o. in_block o p) (block_read bs i x h e)) ∙ (ap (λ c. in_block (slice_get bs c) p) s ∙ q), r))
]

pub in_none : (bs : List BlockRecord) (id i : ℕ) → length bs ≤ i → ((b p : ℕ) → b < i → StandsIn bs id b p → ⊥) → (b p : ℕ) → StandsIn bs id b p → ⊥
in_none bs id i l k b p (w, q, r) = go (slice_get bs b) refl q
  where
    go : (o : Option BlockRecord) → slice_get bs b ≡ o → in_block o p ≡ Some w → ⊥
    go None e d = cc
    go (Some x) e d = (let m = slice_get_within bs b x e in k b p (omega arith) (w, q, r))

-- ---- the value that a number names
among : (vs : List ValueRecord) (id : ℕ) (w : ValueRecord) → find (λ v. v.id == id) vs ≡ Some w → (k : ℕ) × (slice_get vs k ≡ Some w) × (w.id ≡ id)
among [] id w e = absurd (let q : None ≡ Some w = e in cc)
among (v ∷ vs) id w e = go (v.id == id) refl e (among vs id w)
  where
    go : (t : Bool) → (v.id == id) ≡ t → cond t (Some v) (find (λ v. v.id == id) vs) ≡ Some w →
        (find (λ v. v.id == id) vs ≡ Some w → (k : ℕ) × (slice_get vs k ≡ Some w) × (w.id ≡ id)) → (k : ℕ) × (slice_get (v ∷ vs) k ≡ Some w) × (w.id ≡ id)
    go true h d r = (0, d, (let q : v ≡ w = cc in let z : v.id ≡ id = grind (arith, nat_tests, h) in ap (λ (x : ValueRecord). x.id) (sym q) ∙ z))
    go false h d r = (let (k, a, b) = r d in (suc k, a, b))

missed : (vs : List ValueRecord) (id p : ℕ) (v : ValueRecord) → slice_get vs p ≡ Some v → v.id ≡ id → find (λ v. v.id == id) vs ≡ None → ⊥
missed [] id p v e h n = (let q : None ≡ Some v = e in cc)
missed (u ∷ us) id zero v e h n = go (u.id == id) refl n
  where
    go : (t : Bool) → (u.id == id) ≡ t → cond t (Some u) (find (λ v. v.id == id) us) ≡ None → ⊥
    go true d m = (let q : Some u ≡ None = m in cc)
    go false d m = (let q : u ≡ v = cc in let r : u.id ≡ id = ap (λ (x : ValueRecord). x.id) q ∙ h in grind (arith, nat_tests, r, d))
missed (u ∷ us) id (suc p) v e h n = go (u.id == id) n (missed us id p v e h)
  where
    go : (t : Bool) → cond t (Some u) (find (λ v. v.id == id) us) ≡ None → (find (λ v. v.id == id) us ≡ None → ⊥) → ⊥
    go true m r = (let q : Some u ≡ None = m in cc)
    go false m r = r m

neither : (o p : Option ValueRecord) → option_or o p ≡ None → (o ≡ None) × (p ≡ None)
neither None p e = (refl, e)
neither (Some x) p e = absurd (let q : Some x ≡ None = e in cc)

abbrev all_values : List BlockRecord → List ValueRecord
all_values bs = flat_map (λ b. b.values) bs

split : (x : BlockRecord) (bs : List BlockRecord) (id : ℕ) →
    find (λ v. v.id == id) (all_values (x ∷ bs)) ≡ option_or (find (λ v. v.id == id) x.values) (find (λ v. v.id == id) (all_values bs))
split x bs id = ap (find (λ v. v.id == id)) (flat_map-cons (λ (b : BlockRecord). b.values) x bs) ∙ find-append (λ v. v.id == id) x.values (all_values bs)

stands : (bs : List BlockRecord) (id : ℕ) (w : ValueRecord) → find (λ v. v.id == id) (all_values bs) ≡ Some w →
    (b : ℕ) × (p : ℕ) × (value_in bs b p ≡ Some w) × (w.id ≡ id)
stands [] id w e = absurd (let q : None ≡ Some w = e in cc)
stands (x ∷ bs) id w e = go (find (λ v. v.id == id) x.values) (among x.values id w) (stands bs id w) (sym (split x bs id) ∙ e)
  where
    go : (o : Option ValueRecord) → (o ≡ Some w → (k : ℕ) × (slice_get x.values k ≡ Some w) × (w.id ≡ id)) →
        (find (λ v. v.id == id) (all_values bs) ≡ Some w → (b : ℕ) × (p : ℕ) × (value_in bs b p ≡ Some w) × (w.id ≡ id)) →
        option_or o (find (λ v. v.id == id) (all_values bs)) ≡ Some w → (b : ℕ) × (p : ℕ) × (value_in (x ∷ bs) b p ≡ Some w) × (w.id ≡ id)
    go None a r d = (let (b, p, q, s) = r d in (suc b, p, q, s))
    go (Some u) a r d = (let (k, q, s) = a d in (0, k, q, s))

lost : (bs : List BlockRecord) (id b p : ℕ) (v : ValueRecord) → value_in bs b p ≡ Some v → v.id ≡ id → find (λ v. v.id == id) (all_values bs) ≡ None → ⊥
lost [] id b p v e h n = (let q : None ≡ Some v = e in cc)
lost (x ∷ bs) id zero p v e h n =
    let (l, r) = neither (find (λ v. v.id == id) x.values) (find (λ v. v.id == id) (all_values bs)) (sym (split x bs id) ∙ n) in missed x.values id p v e h l
lost (x ∷ bs) id (suc b) p v e h n =
    let (l, r) = neither (find (λ v. v.id == id) x.values) (find (λ v. v.id == id) (all_values bs)) (sym (split x bs id) ∙ n) in lost bs id b p v e h r

-- where no two values have one number, a value that stands somewhere is the one that its number names
pub named : (f : FuncRecord) (id b p : ℕ) (v : ValueRecord) → HasNumbers f → value_at f b p ≡ Some v → v.id ≡ id → value_of f id ≡ Some v
named f id b p v u e h = go (find (λ v. v.id == id) (all_values f.blocks)) refl
  where
    go : (o : Option ValueRecord) → find (λ v. v.id == id) (all_values f.blocks) ≡ o → find (λ v. v.id == id) (all_values f.blocks) ≡ Some v
    go None d = absurd (lost f.blocks id b p v e h d)
    go (Some w) d =
        let (c, q, k, l) = stands f.blocks id w d in
        let (m, n) = u id b p c q (v, e, h) (w, k, l) in
        let s : value_in f.blocks b p ≡ Some w = ap (λ i. value_in f.blocks i p) m ∙ (ap (λ i. value_in f.blocks c i) n ∙ k) in
        d ∙ (sym s ∙ e)

pub unnamed : (f : FuncRecord) (id : ℕ) → ((b p : ℕ) → StandsIn f.blocks id b p → ⊥) → value_of f id ≡ None
unnamed f id h = go (find (λ v. v.id == id) (all_values f.blocks)) refl
  where
    go : (o : Option ValueRecord) → find (λ v. v.id == id) (all_values f.blocks) ≡ o → find (λ v. v.id == id) (all_values f.blocks) ≡ None
    go None d = d
    go (Some w) d = (let (b, p, q, s) = stands f.blocks id w d in absurd (h b p (w, q, s)))

pub named_id : (f : FuncRecord) (id : ℕ) (v : ValueRecord) → value_of f id ≡ Some v → v.id ≡ id
named_id f id v e = (let (b, p, q, s) = stands f.blocks id v e in s)

-- what was found where a value with the number stands
pub found_named : (f : FuncRecord) (id b p : ℕ) (o : Option ValueRecord) → HasNumbers f → StandsIn f.blocks id b p → o ≡ value_at f b p → o ≡ value_of f id
found_named f id b p o u s d = (let (v, e, h) = s in d ∙ (e ∙ sym (named f id b p v u e h)))
