-- Where the values of a block stand among all values of a function.
use Rattle.std.proofs.Common.{◌≡◌, ℕ, zero, suc, ◌+◌, ◌<◌, ◌≤◌, ◌==◌, refl, ap, sym, ◌∙◌, subst, arith, List, [], ◌∷◌, ◌++◌, length, take, Option, Some, None, Bool, true, false, cond, eq-eqb, length-append}
use Rattle.std.specs.Prelude.{flat_map, sum_by, count_by, slice_get}
use Rattle.std.proofs.lemmas.Bool.{eqb-true}
use Rattle.std.proofs.lemmas.List.Sums.{sum_by-cons, sum_by-append}
use Rattle.bk_func.specs.Records.{ValueRecord, BlockRecord, FuncRecord}
use Rattle.bk_func.specs.Numbers.{values_of}
use Rattle.bk_func.specs.declared.form.FormKind.TheVariants.{Missing}
use Rattle.bk_func.specs.Form.{IsFormed}
use Rattle.bk_func.specs.Form.Text.{HasBlock, HasValue}
use Rattle.bk_func.specs.Form.Parts.{IsValueNumber}
use Rattle.bk_func.specs.Form.Signatures.{Setting}
use Rattle.bk_mean.specs.Numbering.{found_in}
use Rattle.bk_mean.specs.Ready.{count_values}
use Rattle.bk_places.proofs.Elements.{to_in, to_contains}
use Rattle.bk_places.proofs.Positions.{first_position, position_first, position_none}
use Rattle.bk_mean.proofs.Named.{in_got, got_in, to_flat}

-- lists one after the other

pub got_left : {A : Type 0} (xs ys : List A) (k : ℕ) (x : A) → slice_get xs k ≡ Some x → slice_get (xs ++ ys) k ≡ Some x
got_left [] ys k x e = absurd cc
got_left (z ∷ xs) ys zero x e = e
got_left (z ∷ xs) ys (suc k) x e = got_left xs ys k x e

pub got_right : {A : Type 0} (xs ys : List A) (k j : ℕ) → j ≡ length xs + k → slice_get (xs ++ ys) j ≡ slice_get ys k
got_right [] ys k j e = let d : j ≡ k = omega (arith, e) in ap (slice_get ys) d
got_right (z ∷ xs) ys k zero e = absurd (omega (arith, e))
got_right (z ∷ xs) ys k (suc j) e = got_right xs ys k j (omega (arith, e))

-- the place of a value of the i-th block
pub value_at : (bs : List BlockRecord) (i : ℕ) (b : BlockRecord) (k j : ℕ) (v : ValueRecord) → slice_get bs i ≡ Some b → slice_get b.values k ≡ Some v → j ≡ count_values (take i bs) + k → slice_get (flat_map (λ c. c.values) bs) j ≡ Some v
value_at [] i b k j v e g d = absurd cc
value_at (c ∷ bs) zero b k j v e g d =
    let q : c ≡ b = cc in
    let z : j ≡ k = omega (arith, d) in
    let P : BlockRecord → Type 0 = λ x. slice_get x.values k ≡ Some v in
    ap (slice_get (c.values ++ flat_map (λ c. c.values) bs)) z ∙ got_left c.values (flat_map (λ c. c.values) bs) k v (subst P (sym q) g)
value_at (c ∷ bs) (suc i) b k j v e g d =
    let l = length-append c.values (flat_map (λ (x : BlockRecord). x.values) (take i bs)) in
    got_right c.values (flat_map (λ c. c.values) bs) (count_values (take i bs) + k) j (omega (arith, d, l)) ∙ value_at bs i b k (count_values (take i bs) + k) v e g refl

-- an element that passes alone

hit_is : (b : Bool) → b ≡ true → ◌≡◌ {A = ℕ} (cond b 1 0) 1
hit_is b e = rw e refl

passing_counts : {A : Type 0} (t : A → Bool) (xs : List A) (k : ℕ) (x : A) → slice_get xs k ≡ Some x → t x ≡ true → 0 < count_by t xs
passing_counts t [] k x e p = absurd cc
passing_counts {A} t (z ∷ zs) zero x e p =
    let s = sum_by-cons (λ (y : A). cond (t y) 1 0) z zs in
    let d : z ≡ x = cc in
    let c = hit_is (t z) (ap t d ∙ p) in
    omega (arith, s, c)
passing_counts {A} t (z ∷ zs) (suc k) x e p =
    let s = sum_by-cons (λ (y : A). cond (t y) 1 0) z zs in
    let r = passing_counts t zs k x e p in
    omega (arith, s, r)

pub one_passes : {A : Type 0} (t : A → Bool) (xs : List A) → count_by t xs ≤ 1 → (i j : ℕ) (x y : A) → slice_get xs i ≡ Some x → slice_get xs j ≡ Some y → t x ≡ true → t y ≡ true → i ≡ j
one_passes t [] l i j x y a b p q = absurd cc
one_passes t (z ∷ zs) l zero zero x y a b p q = refl
one_passes {A} t (z ∷ zs) l zero (suc j) x y a b p q =
    let s = sum_by-cons (λ (w : A). cond (t w) 1 0) z zs in
    let d : z ≡ x = cc in
    let c = hit_is (t z) (ap t d ∙ p) in
    let r = passing_counts t zs j y b q in
    absurd (omega (arith, s, c, r, l))
one_passes {A} t (z ∷ zs) l (suc i) zero x y a b p q =
    let s = sum_by-cons (λ (w : A). cond (t w) 1 0) z zs in
    let d : z ≡ y = cc in
    let c = hit_is (t z) (ap t d ∙ q) in
    let r = passing_counts t zs i x a p in
    absurd (omega (arith, s, c, r, l))
one_passes {A} t (z ∷ zs) l (suc i) (suc j) x y a b p q =
    let s = sum_by-cons (λ (w : A). cond (t w) 1 0) z zs in
    ap suc (one_passes t zs (omega (arith, s, l)) i j x y a b p q)

count_flat : (t : ValueRecord → Bool) (bs : List BlockRecord) → count_by t (flat_map (λ b. b.values) bs) ≡ sum_by (λ b. count_by t b.values) bs
count_flat t [] = refl
count_flat t (b ∷ bs) =
    let a = sum_by-append (λ (v : ValueRecord). cond (t v) 1 0) b.values (flat_map (λ (c : BlockRecord). c.values) bs) in
    let s = sum_by-cons (λ (c : BlockRecord). count_by t c.values) b bs in
    let r = count_flat t bs in
    omega (arith, a, s, r)

-- a number stands at one place
pub one_stands : (s : Setting) (f : FuncRecord) → IsFormed s f → (b : BlockRecord) (v : ValueRecord) → HasValue f b v → (i j : ℕ) (x y : ValueRecord) → slice_get (values_of f) i ≡ Some x → slice_get (values_of f) j ≡ Some y →
    x.id ≡ v.id → y.id ≡ v.id → i ≡ j
unfolding IsValueNumber
one_stands s f h b v k i j x y a d p q =
    let n = ((h.kinds Missing b k.0).value v k.1).own in
    let c = count_flat (λ (u : ValueRecord). u.id == v.id) f.blocks in
    one_passes (λ (u : ValueRecord). u.id == v.id) (values_of f) (omega (arith, n, c)) i j x y a d (eq-eqb x.id v.id p) (eq-eqb y.id v.id q)

-- the values of a block, from a place of the function on
pub record StandsFrom (f : FuncRecord) (first : ℕ) (b : BlockRecord) : Type 0 where
  pub block : HasBlock f b
  pub found : (k : ℕ) (v : ValueRecord) → slice_get b.values k ≡ Some v → found_in f v.id ≡ Some (first + k)

pub stands_from : (s : Setting) (f : FuncRecord) → IsFormed s f → (i : ℕ) (b : BlockRecord) → slice_get f.blocks i ≡ Some b → (first : ℕ) → first ≡ count_values (take i f.blocks) → StandsFrom f first b
stands_from s f h i b g first e = record {
  block = here;
  found = λ k v q.
      let j : first + k ≡ count_values (take i f.blocks) + k = ap (λ n. n + k) e in
      let a = value_at f.blocks i b k (first + k) v g q j in
      first_position (λ (u : ValueRecord). u.id == v.id) (values_of f) (first + k) v (record {
        got = a;
        passes = eq-eqb v.id v.id refl;
        before = λ l y m z. earlier k v q a l y m z (y.id == v.id) refl;
      });
}
  where
    here : HasBlock f b
    here = to_contains b f.blocks (got_in f.blocks i b g)

    earlier : (k : ℕ) (v : ValueRecord) → slice_get b.values k ≡ Some v → slice_get (values_of f) (first + k) ≡ Some v → (l : ℕ) (y : ValueRecord) → l < first + k → slice_get (values_of f) l ≡ Some y →
        (t : Bool) → (y.id == v.id) ≡ t → (y.id == v.id) ≡ false
    earlier k v q a l y m z true d =
        let w = one_stands s f h b v (here, to_contains v b.values (got_in b.values k v q)) l (first + k) y v z a (eqb-true y.id v.id d) refl in
        absurd (omega (arith, w, m))
    earlier k v q a l y m z false d = d

-- a value of the function is found
pub value_found_in : (f : FuncRecord) (b : BlockRecord) (v : ValueRecord) → HasValue f b v → (p : ℕ) × (found_in f v.id ≡ Some p)
value_found_in f b v i = go (found_in f v.id) refl
  where
    go : (o : Option ℕ) → found_in f v.id ≡ o → (p : ℕ) × (found_in f v.id ≡ Some p)
    go (Some p) e = (p, e)
    go None e =
        let k = in_got (values_of f) v (to_flat (λ (c : BlockRecord). c.values) b v f.blocks (to_in b f.blocks i.0) (to_in v b.values i.1)) in
        let x = position_none (λ (u : ValueRecord). u.id == v.id) (values_of f) e k.0 v k.1 in
        let y = eq-eqb v.id v.id refl in
        absurd cc

-- a place is that of one number
pub one_number : (f : FuncRecord) (a c p : ℕ) → found_in f a ≡ Some p → found_in f c ≡ Some p → a ≡ c
one_number f a c p x y =
    let u = position_first (λ (v : ValueRecord). v.id == a) (values_of f) p x in
    let w = position_first (λ (v : ValueRecord). v.id == c) (values_of f) p y in
    let d : u.0 ≡ w.0 = (let q = sym u.1.got ∙ w.1.got in cc) in
    sym (eqb-true u.0.id a u.1.passes) ∙ ap (λ (v : ValueRecord). v.id) d ∙ eqb-true w.0.id c w.1.passes
