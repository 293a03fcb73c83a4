-- What is known of a function before a run, as far as it was made.
use Rattle.std.proofs.Common.{◌≡◌, ℕ, zero, suc, ◌+◌, ◌<◌, ◌≤◌, refl, ap, sym, ◌∙◌, subst, arith, ◌⊎◌, inl, inr, List, [], ◌∷◌, ◌++◌, length, take, drop, get_or, length-append, append_assoc, Option, Some, None, Bool, true, false}
use Rattle.std.specs.Prelude.{◌==◌, if◌then◌else◌, flat_map, slice_get, slice_index, count_by}
use Rattle.std.specs.List.{AllZip}
use Rattle.std.proofs.lemmas.List.{take_more, drop_more}
use Rattle.std.proofs.lemmas.Grind.{flat_map-append}
use Rattle.bk_func.specs.Records.{ValueRecord, BlockRecord, FuncRecord, PackageRecord}
use Rattle.bk_func.specs.Numbers.{origin_of}
use Rattle.bk_func.specs.Edits.{rank_in}
use Rattle.bk_func.specs.Effects.{is_phi}
use Rattle.bk_func.specs.Meaning.{edge_place}
use Rattle.bk_mean.specs.declared.ready.ReadyValue.{ReadyValue}
use Rattle.bk_mean.specs.declared.ready.ReadyBlock.{ReadyBlock}
use Rattle.bk_mean.specs.Ready.{IsReadyValue, AreReadyValues, IsReadyBlock, AreReadyBlocks, phis_from, count_values, nth_in}

all_zip_push : {A B : Type 0} (R : A → B → Type 0) (xs : List A) (ys : List B) (x : A) (y : B) → AllZip R xs ys → R x y → AllZip R (xs ++ x ∷ []) (ys ++ y ∷ [])
all_zip_push R [] [] x y h k = (k, tt)
all_zip_push R [] (b ∷ ys) x y h k = elim h [ ]
all_zip_push R (a ∷ xs) [] x y h k = elim h [ ]
all_zip_push R (a ∷ xs) (b ∷ ys) x y (e, h) k = (e, all_zip_push R xs ys x y h k)

-- one more value
pub ready_more : (p : PackageRecord) (f : FuncRecord) (before values : List ValueRecord) (i : ℕ) (v : ValueRecord) (list : List ReadyValue) (r : ReadyValue) → i < length values → v ≡ get_or values i v →
    AreReadyValues p f (before ++ take i values) list → IsReadyValue p f v r → AreReadyValues p f (before ++ take (i + 1) values) (list ++ r ∷ [])
ready_more p f before values i v list r h e all one =
    subst (λ vs. AreReadyValues p f vs (list ++ r ∷ []))
    (append_assoc before (take i values) (v ∷ []) ∙ ap (λ x. before ++ (take i values ++ x ∷ [])) e ∙ ap (λ vs. before ++ vs) (sym (take_more values i v h)))
    (all_zip_push (IsReadyValue p f) (before ++ take i values) list v r all one)

-- one more block's values
pub values_more : (bs : List BlockRecord) (i : ℕ) (b : BlockRecord) → i < length bs → b ≡ get_or bs i b → flat_map (λ c. c.values) (take (i + 1) bs) ≡ flat_map (λ c. c.values) (take i bs) ++ b.values
values_more bs i b h e =
    ap (flat_map (λ c. c.values)) (take_more bs i b h)
    ∙ flat_map-append (λ c. c.values) (take i bs) (get_or bs i b ∷ [])
    ∙ ap (λ (c : BlockRecord). flat_map (λ c. c.values) (take i bs) ++ (c.values ++ [])) (sym e)
    ∙ ap (λ vs. flat_map (λ c. c.values) (take i bs) ++ vs) (nil b.values)
  where
    nil : (vs : List ValueRecord) → vs ++ [] ≡ vs
    nil [] = refl
    nil (v ∷ vs) = ap (λ xs. v ∷ xs) (nil vs)

pub count_more : (bs : List BlockRecord) (i : ℕ) (b : BlockRecord) → i < length bs → b ≡ get_or bs i b → count_values (take (i + 1) bs) ≡ count_values (take i bs) + length b.values
count_more bs i b h e = ap length (values_more bs i b h e) ∙ length-append (flat_map (λ c. c.values) (take i bs)) b.values

get_left : {A : Type 0} (xs : List A) (y : A) (i : ℕ) → i < length xs → slice_get (xs ++ y ∷ []) i ≡ slice_get xs i
get_left [] y i h = absurd (omega arith)
get_left (x ∷ xs) y zero h = refl
get_left (x ∷ xs) y (suc i) h = get_left xs y i (omega arith)

get_last : {A : Type 0} (xs : List A) (y : A) → slice_get (xs ++ y ∷ []) (length xs) ≡ Some y
get_last [] y = refl
get_last (x ∷ xs) y = get_last xs y

get_here : {A : Type 0} (xs : List A) (i : ℕ) (x y : A) → slice_get xs i ≡ Some y → x ≡ get_or xs i x → x ≡ y
get_here [] i x y e h = absurd cc
get_here (z ∷ xs) zero x y e h = let q : z ≡ y = cc in h ∙ q
get_here (z ∷ xs) (suc i) x y e h = get_here xs i x y e h

-- one more block
pub blocks_more : (f : FuncRecord) (bs : List BlockRecord) (i first : ℕ) (b : BlockRecord) (rs : List ReadyBlock) (r : ReadyBlock) → i < length bs → b ≡ get_or bs i b → first ≡ count_values (take i bs) →
    AreReadyBlocks f bs i rs → IsReadyBlock f first b r → AreReadyBlocks f bs (i + 1) (rs ++ r ∷ [])
blocks_more f bs i first b rs r h e n all one = record {
  length = length-append rs (r ∷ []) ∙ ap (λ k. k + 1) all.length;
  each = λ j c q l g k. elim (split j l) as (λ _. IsReadyBlock f (count_values (take j bs)) c q) [
    | inl m ↦ all.each j c q m g (sym (get_left rs r j (let z = all.length in omega arith)) ∙ k)
    | inr m ↦ last j c q m g k
  ];
}
  where
    split : (j : ℕ) → j < i + 1 → (j < i) ⊎ (j ≡ i)
    split j l = nat_split j i (omega arith)
      where
        nat_split : (x y : ℕ) → x ≤ y → (x < y) ⊎ (x ≡ y)
        nat_split zero zero l = inr refl
        nat_split zero (suc y) l = inl (omega arith)
        nat_split (suc x) zero l = absurd (omega arith)
        nat_split (suc x) (suc y) l = elim (nat_split x y (omega arith)) as (λ _. (suc x < suc y) ⊎ (suc x ≡ suc y)) [
          | inl m ↦ inl (omega arith)
          | inr m ↦ inr (ap suc m)
        ]

    last : (j : ℕ) (c : BlockRecord) (q : ReadyBlock) → j ≡ i → slice_get bs j ≡ Some c → slice_get (rs ++ r ∷ []) j ≡ Some q → IsReadyBlock f (count_values (take j bs)) c q
    last j c q m g k =
        let z : b ≡ c = get_here bs i b c (ap (slice_get bs) (sym m) ∙ g) e in
        let y : slice_get (rs ++ r ∷ []) (length rs) ≡ Some q = ap (slice_get (rs ++ r ∷ [])) (all.length ∙ sym m) ∙ k in
        let x : r ≡ q = (let t = get_last rs r in cc) in
        let w : first ≡ count_values (take j bs) = n ∙ ap (λ t. count_values (take t bs)) (sym m) in
        subst (λ t. IsReadyBlock f t c q) w (subst (λ t. IsReadyBlock f first t q) z (subst (λ t. IsReadyBlock f first b t) x one))

-- one more phi, or another value
pub phis_more : (vs : List ValueRecord) (i : ℕ) (v : ValueRecord) (list all : List ℕ) → i < length vs → v ≡ get_or vs i v → is_phi (origin_of v.op.family) ≡ true →
    list ++ phis_from i (drop i vs) ≡ all → (list ++ i ∷ []) ++ phis_from (i + 1) (drop (i + 1) vs) ≡ all
phis_more vs i v list all h e t q =
    append_assoc list (i ∷ []) (phis_from (i + 1) (drop (i + 1) vs))
    ∙ ap (λ (b : Bool). list ++ (if b then i ∷ phis_from (i + 1) (drop (i + 1) vs) else phis_from (i + 1) (drop (i + 1) vs))) (sym (ap (λ (x : ValueRecord). is_phi (origin_of x.op.family)) (sym e) ∙ t))
    ∙ ap (λ xs. list ++ phis_from i xs) (sym (drop_more vs i v h)) ∙ q

pub phis_other : (vs : List ValueRecord) (i : ℕ) (v : ValueRecord) (list all : List ℕ) → i < length vs → v ≡ get_or vs i v → is_phi (origin_of v.op.family) ≡ false →
    list ++ phis_from i (drop i vs) ≡ all → list ++ phis_from (i + 1) (drop (i + 1) vs) ≡ all
phis_other vs i v list all h e t q =
    ap (λ (b : Bool). list ++ (if b then i ∷ phis_from (i + 1) (drop (i + 1) vs) else phis_from (i + 1) (drop (i + 1) vs))) (sym (ap (λ (x : ValueRecord). is_phi (origin_of x.op.family)) (sym e) ∙ t))
    ∙ ap (λ xs. list ++ phis_from i xs) (sym (drop_more vs i v h)) ∙ q

-- the place of an edge
pub edge_is : (b : BlockRecord) (index to : ℕ) (n rank : ℕ) (o : Option BlockRecord) → to ≡ slice_index b.succs index → rank ≡ count_by (λ s. s == to) (take index b.succs) → n ≡ nth_in b.id rank o → n ≡ edge_place b index o
edge_is b index to n rank o h k e =
    e ∙ ap (λ r. nth_in b.id r o) k ∙ ap (λ x. nth_in b.id (count_by (λ s. s == x) (take index b.succs)) o) h ∙ go o
  where
    go : (o : Option BlockRecord) → nth_in b.id (rank_in (Some b) index) o ≡ edge_place b index o
    go None = refl
    go (Some c) = refl

-- the blocks so far have no more values than all
pub count_under : (bs : List BlockRecord) (i : ℕ) → count_values (take i bs) ≤ count_values bs
count_under [] zero = omega arith
count_under [] (suc i) = omega arith
count_under (b ∷ bs) zero = omega arith
count_under (b ∷ bs) (suc i) =
    let l = length-append b.values (flat_map (λ (c : BlockRecord). c.values) (take i bs)) in
    let k = length-append b.values (flat_map (λ (c : BlockRecord). c.values) bs) in
    let r = count_under bs i in
    omega (arith, l, k, r)

pub get_at : {A : Type 0} (xs : List A) (i : ℕ) (x : A) → i < length xs → x ≡ get_or xs i x → slice_get xs i ≡ Some x
get_at [] i x l e = absurd (omega (arith, l))
get_at (y ∷ ys) zero x l e = ap Some (sym e)
get_at (y ∷ ys) (suc i) x l e = get_at ys i x (omega (arith, l)) e
