-- Numbers by places, as a table by the numbers of values.
use Rattle.std.proofs.Common.{◌≡◌, ℕ, zero, suc, ◌+◌, ◌<◌, ◌≤◌, ◌≢◌, ◌==◌, refl, ap, sym, ◌∙◌, subst, arith, ◌⊎◌, inl, inr, List, [], ◌∷◌, ◌++◌, length, take, map, length-append, Some, None, Bool, true, false, cond, not, eq-eqb}
use Rattle.std.specs.Prelude.{slice_get, slice_index, slice_set, unwrap_or, flat_map, sum_by, count_by, nat_lt}
use Rattle.std.specs.List.{Contains, position_or_len, AllZip}
use Rattle.std.proofs.lemmas.Bool.{eqb-true, ltb-false}
use Rattle.std.proofs.lemmas.List.{get_or-set_same, get_or-set_other}
use Rattle.std.proofs.lemmas.List.Sums.{sum_by-cons, sum_by-append}
use Rattle.std.proofs.lemmas.Option.{slice_get_within}
use Rattle.bk_func.specs.Records.{ValueRecord, BlockRecord, FuncRecord, PackageRecord}
use Rattle.bk_func.specs.Numbers.{values_of, room}
use Rattle.bk_func.specs.declared.form.FormKind.TheVariants.{Missing}
use Rattle.bk_func.specs.Form.{Keeps}
use Rattle.bk_func.specs.Form.Text.{HasValue}
use Rattle.bk_func.specs.Form.Signatures.{Setting}
use Rattle.bk_func.specs.Form.Parts.{IsValueNumber}
use Rattle.bk_mean.specs.Numbering.{place_in}
use Rattle.bk_mean.specs.Ready.{IsReadyValue, AreReadyValues, count_values}
use Rattle.bk_mean.specs.declared.ready.ReadyValue.{ReadyValue}
use Rattle.bk_places.proofs.Elements.{to_in, to_contains}
use Rattle.bk_mean.proofs.Named.{got_in, in_got}

-- the numbers of values, where they stand by places
abbrev pub table : FuncRecord → List ℕ → ℕ → ℕ
table f numbers n = slice_index numbers (place_in f n)

-- the place of the first value with a number
abbrev first_with : ℕ → List ValueRecord → ℕ
first_with n vs = position_or_len (λ v. v.id == n) vs

first_most : (n : ℕ) (vs : List ValueRecord) → first_with n vs ≤ length vs
first_most n [] = omega arith
first_most n (v ∷ vs) = go (v.id == n) (first_most n vs)
  where
    go : (t : Bool) → first_with n vs ≤ length vs → cond (not t) (1 + first_with n vs) 0 ≤ suc (length vs)
    go true l = omega arith
    go false l = omega arith

place_first : (f : FuncRecord) (n : ℕ) → place_in f n ≡ first_with n (values_of f)
place_first f n = go (nat_lt (first_with n (values_of f)) (room f)) refl
  where
    go : (t : Bool) → nat_lt (first_with n (values_of f)) (room f) ≡ t → unwrap_or (cond t (Some (first_with n (values_of f))) None) (room f) ≡ first_with n (values_of f)
    go true e = refl
    go false e = let l = ltb-false (first_with n (values_of f)) (room f) e in let m = first_most n (values_of f) in omega (arith, l, m)

-- what stands first with a number bears it, or nothing does
first_found : (n : ℕ) (vs : List ValueRecord) → ((u : ValueRecord) × (slice_get vs (first_with n vs) ≡ Some u) × (u.id ≡ n)) ⊎ (first_with n vs ≡ length vs)
first_found n [] = inr refl
first_found n (v ∷ vs) = go (v.id == n) refl (first_found n vs)
  where
    go : (t : Bool) → (v.id == n) ≡ t → ((u : ValueRecord) × (slice_get vs (first_with n vs) ≡ Some u) × (u.id ≡ n)) ⊎ (first_with n vs ≡ length vs) →
        ((u : ValueRecord) × (slice_get (v ∷ vs) (cond (not t) (1 + first_with n vs) 0) ≡ Some u) × (u.id ≡ n)) ⊎ (cond (not t) (1 + first_with n vs) 0 ≡ suc (length vs))
    go true e r = inl (v, refl, eqb-true v.id n e)
    go false e (inl (u, g, i)) = let d : 1 + first_with n vs ≡ suc (first_with n vs) = omega arith in inl (u, ap (slice_get (v ∷ vs)) d ∙ g, i)
    go false e (inr l) = inr (omega (arith, l))

abbrev hit : ℕ → ValueRecord → ℕ
hit n v = cond (v.id == n) 1 0

-- a value at a place, where its number is that of one value
counted : (vs : List ValueRecord) (i : ℕ) (v : ValueRecord) → slice_get vs i ≡ Some v → 0 < count_by (λ u. u.id == v.id) vs
counted [] i v e = absurd cc
counted (x ∷ xs) zero v e =
    let d : x ≡ v = cc in
    let s = sum_by-cons (hit v.id) x xs in
    let c : hit v.id x ≡ 1 = rw (eq-eqb x.id v.id (ap (λ (y : ValueRecord). y.id) d)) refl in
    omega (arith, s, c)
counted (x ∷ xs) (suc i) v e =
    let s = sum_by-cons (hit v.id) x xs in
    let r = counted xs i v e in
    omega (arith, s, r)

first_of : (vs : List ValueRecord) (i : ℕ) (v : ValueRecord) → slice_get vs i ≡ Some v → count_by (λ u. u.id == v.id) vs ≤ 1 → first_with v.id vs ≡ i
first_of [] i v e c = absurd cc
first_of (x ∷ xs) zero v e c = let d : x ≡ v = cc in rw (eq-eqb x.id v.id (ap (λ (y : ValueRecord). y.id) d)) refl
first_of (x ∷ xs) (suc i) v e c = go (x.id == v.id) refl (sum_by-cons (hit v.id) x xs) (counted xs i v e) (first_of xs i v e)
  where
    go : (t : Bool) → (x.id == v.id) ≡ t → count_by (λ u. u.id == v.id) (x ∷ xs) ≡ hit v.id x + count_by (λ u. u.id == v.id) xs → 0 < count_by (λ u. u.id == v.id) xs →
        (count_by (λ u. u.id == v.id) xs ≤ 1 → first_with v.id xs ≡ i) → cond (not t) (1 + first_with v.id xs) 0 ≡ suc i
    go true q s l r = let d : hit v.id x ≡ 1 = rw q refl in absurd (omega (arith, s, d, l, c))
    go false q s l r = let d : hit v.id x ≡ 0 = rw q refl in let k = r (omega (arith, s, c, d)) in omega (arith, k)

counted_flat : (n : ℕ) (bs : List BlockRecord) → count_by (λ v. v.id == n) (flat_map (λ b. b.values) bs) ≡ sum_by (λ b. count_by (λ v. v.id == n) b.values) bs
counted_flat n [] = refl
counted_flat n (b ∷ bs) =
    let s = sum_by-append (hit n) b.values (flat_map (λ b. b.values) bs) in
    let t = sum_by-cons (λ (c : BlockRecord). count_by (λ v. v.id == n) c.values) b bs in
    let r = counted_flat n bs in
    omega (arith, s, t, r)

get_left : {A : Type 0} (xs ys : List A) (i : ℕ) (x : A) → slice_get xs i ≡ Some x → slice_get (xs ++ ys) i ≡ Some x
get_left [] ys i x e = absurd cc
get_left (z ∷ xs) ys zero x e = e
get_left (z ∷ xs) ys (suc i) x e = get_left xs ys i x e

get_right : {A : Type 0} (xs ys : List A) (i : ℕ) → slice_get (xs ++ ys) (length xs + i) ≡ slice_get ys i
get_right [] ys i = let d : 0 + i ≡ i = omega arith in ap (slice_get ys) d
get_right (z ∷ xs) ys i = let d : suc (length xs) + i ≡ suc (length xs + i) = omega arith in ap (slice_get (z ∷ (xs ++ ys))) d ∙ get_right xs ys i

-- the value at a place of a block, among those of all blocks
flat_at : (bs : List BlockRecord) (i k : ℕ) (b : BlockRecord) (v : ValueRecord) → slice_get bs i ≡ Some b → slice_get b.values k ≡ Some v →
    slice_get (flat_map (λ b. b.values) bs) (count_values (take i bs) + k) ≡ Some v
flat_at [] i k b v e g = absurd cc
flat_at (c ∷ cs) zero k b v e g =
    let d : c ≡ b = cc in
    let P : BlockRecord → Type 0 = λ x. slice_get (x.values ++ flat_map (λ b. b.values) cs) k ≡ Some v in
    let z : 0 + k ≡ k = omega arith in
    ap (slice_get (flat_map (λ (b : BlockRecord). b.values) (c ∷ cs))) z ∙ subst P (sym d) (get_left b.values (flat_map (λ b. b.values) cs) k v g)
flat_at (c ∷ cs) (suc i) k b v e g =
    let l = length-append c.values (flat_map (λ b. b.values) (take i cs)) in
    let d : count_values (take (suc i) (c ∷ cs)) + k ≡ length c.values + (count_values (take i cs) + k) = omega (arith, l) in
    ap (slice_get (c.values ++ flat_map (λ b. b.values) cs)) d
    ∙ get_right c.values (flat_map (λ b. b.values) cs) (count_values (take i cs) + k)
    ∙ flat_at cs i k b v e g

number_once : (f : FuncRecord) (n : ℕ) → IsValueNumber f n → count_by (λ v. v.id == n) (values_of f) ≤ 1
unfolding IsValueNumber
number_once f n h = let e = counted_flat n f.blocks in omega (arith, e, h)

-- the place of the value at a place of a block
pub place_at : (s : Setting) (f : FuncRecord) → Keeps s f Missing → (i k : ℕ) (b : BlockRecord) (v : ValueRecord) → slice_get f.blocks i ≡ Some b → slice_get b.values k ≡ Some v →
    place_in f v.id ≡ count_values (take i f.blocks) + k
place_at s f m i k b v e g =
    place_first f v.id
    ∙ first_of (values_of f) (count_values (take i f.blocks) + k) v (flat_at f.blocks i k b v e g)
    (number_once f v.id ((m b (got f.blocks i b e)).value v (got b.values k v g)).own)
  where
    got : {A : Type 0} (xs : List A) (i : ℕ) (x : A) → slice_get xs i ≡ Some x → Contains xs x
    got xs i x q = to_contains x xs (got_in xs i x q)

-- each value stands somewhere
stands_at : (f : FuncRecord) (b : BlockRecord) (v : ValueRecord) → HasValue f b v → (i : ℕ) × (k : ℕ) × (slice_get f.blocks i ≡ Some b) × (slice_get b.values k ≡ Some v)
stands_at f b v h =
    let i = in_got f.blocks b (to_in b f.blocks h.0) in
    let k = in_got b.values v (to_in v b.values h.1) in
    (i.0, k.0, i.1, k.1)

pub place_here : (s : Setting) (f : FuncRecord) → Keeps s f Missing → (b : BlockRecord) (v : ValueRecord) → HasValue f b v → slice_get (values_of f) (place_in f v.id) ≡ Some v
place_here s f m b v h =
    let q = stands_at f b v h in
    ap (slice_get (values_of f)) (place_at s f m q.0 q.1 b v q.2 q.3) ∙ flat_at f.blocks q.0 q.1 b v q.2 q.3

pub place_below : (s : Setting) (f : FuncRecord) → Keeps s f Missing → (b : BlockRecord) (v : ValueRecord) → HasValue f b v → place_in f v.id < room f
place_below s f m b v h = slice_get_within (values_of f) (place_in f v.id) v (place_here s f m b v h)

-- no other number has its place
pub place_apart : (s : Setting) (f : FuncRecord) → Keeps s f Missing → (b : BlockRecord) (v : ValueRecord) → HasValue f b v → (n : ℕ) → ¬ (n ≡ v.id) → place_in f n ≢ place_in f v.id
place_apart s f m b v h n d e = go (first_found n (values_of f))
  where
    here : slice_get (values_of f) (place_in f v.id) ≡ Some v
    here = place_here s f m b v h

    same : first_with n (values_of f) ≡ place_in f v.id
    same = sym (place_first f n) ∙ e

    go : ((u : ValueRecord) × (slice_get (values_of f) (first_with n (values_of f)) ≡ Some u) × (u.id ≡ n)) ⊎ (first_with n (values_of f) ≡ room f) → ⊥
    go (inl (u, g, i)) =
        let x : Some u ≡ Some v = sym g ∙ ap (slice_get (values_of f)) same ∙ here in
        let y : u ≡ v = cc in
        d (sym i ∙ ap (λ (z : ValueRecord). z.id) y)
    go (inr l) = let k = place_below s f m b v h in omega (arith, same, l, k)

-- the place of a value is written, and others stay
pub table_own : (s : Setting) (f : FuncRecord) → Keeps s f Missing → (b : BlockRecord) (v : ValueRecord) → HasValue f b v → (numbers : List ℕ) → room f < length numbers → (k : ℕ) →
    table f (slice_set numbers (place_in f v.id) k) v.id ≡ k
table_own s f m b v h numbers l k = let q = place_below s f m b v h in get_or-set_same numbers (place_in f v.id) k 0 (omega (arith, l, q))

pub table_other : (s : Setting) (f : FuncRecord) → Keeps s f Missing → (b : BlockRecord) (v : ValueRecord) → HasValue f b v → (numbers : List ℕ) (k n : ℕ) → ¬ (n ≡ v.id) →
    table f (slice_set numbers (place_in f v.id) k) n ≡ table f numbers n
table_other s f m b v h numbers k n d = get_or-set_other numbers (place_in f v.id) (place_in f n) k 0 (place_apart s f m b v h n d)

-- the numbers at the places of arguments
pub table_read : (f : FuncRecord) (numbers : List ℕ) (ns : List ℕ) → map (slice_index numbers) (map (place_in f) ns) ≡ map (table f numbers) ns
table_read f numbers [] = refl
table_read f numbers (n ∷ ns) = ap (λ xs. table f numbers n ∷ xs) (table_read f numbers ns)

-- what is known of the value at a place
all_zip_at : {A B : Type 0} (R : A → B → Type 0) (xs : List A) (ys : List B) → AllZip R xs ys → (i : ℕ) (x : A) (y : B) → slice_get xs i ≡ Some x → slice_get ys i ≡ Some y → R x y
all_zip_at R [] ys z i x y e g = absurd cc
all_zip_at R (a ∷ xs) [] z i x y e g = absurd cc
all_zip_at {A} {B} R (a ∷ xs) (b ∷ ys) z zero x y e g =
    let p : a ≡ x = cc in
    let q : b ≡ y = cc in
    let P : A → Type 0 = λ w. R w y in
    let Q : B → Type 0 = λ w. R a w in
    subst P p (subst Q q z.0)
all_zip_at R (a ∷ xs) (b ∷ ys) z (suc i) x y e g = all_zip_at R xs ys z.1 i x y e g

pub ready_at : (s : Setting) (f : FuncRecord) → Keeps s f Missing → (p : PackageRecord) (rs : List ReadyValue) → AreReadyValues p f (values_of f) rs → (b : BlockRecord) (v : ValueRecord) → HasValue f b v → (r : ReadyValue) →
    slice_get rs (place_in f v.id) ≡ Some r → IsReadyValue p f v r
ready_at s f m p rs h b v i r e = all_zip_at (IsReadyValue p f) (values_of f) rs h (place_in f v.id) v r (place_here s f m b v i) e

-- there is something known of each value
zip_there : {A B : Type 0} (R : A → B → Type 0) (xs : List A) (ys : List B) → AllZip R xs ys → (i : ℕ) (x : A) → slice_get xs i ≡ Some x → (y : B) × (slice_get ys i ≡ Some y)
zip_there R [] ys z i x e = absurd cc
zip_there R (a ∷ xs) [] z i x e = absurd z
zip_there R (a ∷ xs) (b ∷ ys) z zero x e = (b, refl)
zip_there R (a ∷ xs) (b ∷ ys) z (suc i) x e = zip_there R xs ys z.1 i x e

pub ready_there : (s : Setting) (f : FuncRecord) → Keeps s f Missing → (p : PackageRecord) (rs : List ReadyValue) → AreReadyValues p f (values_of f) rs → (b : BlockRecord) (v : ValueRecord) → HasValue f b v →
    (r : ReadyValue) × (slice_get rs (place_in f v.id) ≡ Some r)
ready_there s f m p rs h b v i = zip_there (IsReadyValue p f) (values_of f) rs h (place_in f v.id) v (place_here s f m b v i)
