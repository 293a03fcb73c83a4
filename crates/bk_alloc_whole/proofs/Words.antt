-- The words of a function, and which of them are used next.
use Rattle.std.proofs.Common.{◌≡◌, sym, refl, ap, subst, ℕ, ◌≤◌, ◌==◌, inl, inr, ⊎_elim, Bool, true, List, [], ◌∷◌, length, map, Option, Some, None, eqb-true}
use Rattle.std.specs.Prelude.{filter, flat_map}
use Rattle.std.specs.List.{Contains, list_any, slice_get}
use Rattle.std.proofs.lemmas.Bool.{and_parts, or_cases, false≢true}
use Rattle.bk_func.specs.Records.{ValueRecord, BlockRecord, FuncRecord}
use Rattle.bk_func.specs.Form.Text.{HasValue}
use Rattle.bk_func.proofs.Faults.{In, filter-in, in-filter}
use Rattle.bk_live.specs.Live.{AllNextUses, IsLive, IsOrdered, NextUseIs, order_at}
use Rattle.bk_places.proofs.Elements.{in_either, in_left, in_right, to_contains, to_in}
use Rattle.bk_alloc.specs.Blocks.{Next}
use Rattle.bk_alloc.specs.Placement.{has_word, is_word, is_word_named}
use Rattle.bk_alloc_quality.specs.Pressure.{IsUsed, is_used}
use Rattle.bk_alloc_whole.specs.Whole.{words_in, words_of}
use Rattle.bk_alloc_whole.proofs.Alone.{same}

-- lists

pub in_flat : {A B : Type 0} (h : A → List B) (xs : List A) (x : A) (y : B) → In x xs → In y (h x) → In y (flat_map h xs)
in_flat h [] x y i j = elim i [ ]
in_flat {A} {B} h (z ∷ zs) x y (inl e) j = in_left y (h z) (flat_map h zs) (subst (λ (w : A). In y (h w)) (sym e) j)
in_flat h (z ∷ zs) x y (inr i) j = in_right y (h z) (flat_map h zs) (in_flat h zs x y i j)

pub flat_in : {A B : Type 0} (h : A → List B) (xs : List A) (y : B) → In y (flat_map h xs) → (x : A) × In x xs × In y (h x)
flat_in h [] y i = elim i [ ]
flat_in {A} {B} h (z ∷ zs) y i = ⊎_elim
    (λ (j : In y (h z)). (z, inl refl, j))
    (λ (j : In y (flat_map h zs)). let r = flat_in h zs y j in (r.0, inr r.1, r.2))
    (in_either y (h z) (flat_map h zs) i)

pub in_map : {A B : Type 0} (g : A → B) (xs : List A) (x : A) → In x xs → In (g x) (map g xs)
in_map g [] x i = elim i [ ]
in_map g (y ∷ ys) x (inl e) = inl (ap g e)
in_map g (y ∷ ys) x (inr i) = inr (in_map g ys x i)

pub map_in : {A B : Type 0} (g : A → B) (xs : List A) (y : B) → In y (map g xs) → (x : A) × In x xs × (g x ≡ y)
map_in g [] y i = elim i [ ]
map_in g (x ∷ xs) y (inl e) = (x, inl refl, e)
map_in g (x ∷ xs) y (inr i) = (let r = map_in g xs y i in (r.0, inr r.1, r.2))

pub any_in : {A : Type 0} (t : A → Bool) (xs : List A) → list_any t xs ≡ true → (x : A) × In x xs × (t x ≡ true)
any_in t [] e = absurd (false≢true e)
any_in {A} t (y ∷ ys) e = ⊎_elim
    (λ (h : t y ≡ true). (y, inl refl, h))
    (λ (h : list_any t ys ≡ true). let r = any_in t ys h in (r.0, inr r.1, r.2))
    (or_cases (t y) (list_any t ys) e)

-- words

pub in_words : (f : FuncRecord) (b : BlockRecord) (v : ValueRecord) → HasValue f b v → has_word v ≡ true → Contains (words_of f) v.id
in_words f b v (hb, hv) w =
    to_contains v.id (words_of f) (in_flat words_in f.blocks b v.id (to_in b f.blocks hb)
    (in_map (λ (x : ValueRecord). x.id) (filter has_word b.values) v (filter-in has_word v b.values (to_in v b.values hv) w)))

pub record IsWordOf (f : FuncRecord) (n : ℕ) : Type 0 where
  pub block : BlockRecord
  pub value : ValueRecord
  pub there : HasValue f block value
  pub word : has_word value ≡ true
  pub id : value.id ≡ n

pub from_words : (f : FuncRecord) (n : ℕ) → Contains (words_of f) n → IsWordOf f n
from_words f n c =
    let (b, ib, i) = flat_in words_in f.blocks n (to_in n (words_of f) c) in
    let (v, iv, e) = map_in (λ (x : ValueRecord). x.id) (filter has_word b.values) n i in
    let (j, w) = in-filter has_word v b.values iv in
    record { block = b; value = v; there = (to_contains b f.blocks ib, to_contains v b.values j); word = w; id = e }

pub word_contained : (f : FuncRecord) (n : ℕ) → is_word f.blocks n ≡ true → Contains (words_of f) n
word_contained f n e =
    let (b, ib, g) = any_in (λ (b : BlockRecord). list_any (is_word_named n) b.values) f.blocks e in
    let (v, iv, h) = any_in (is_word_named n) b.values g in
    let (w, d) = and_parts (has_word v) (v.id == n) h in
    subst (λ (m : ℕ). Contains (words_of f) m) (eqb-true v.id n d) (in_words f b v (to_contains b f.blocks ib, to_contains v b.values iv) w)

pub has_word_by : (f : FuncRecord) (os : List (List ℕ)) → IsOrdered f os → (b : BlockRecord) (v : ValueRecord) → HasValue f b v → Contains (words_of f) v.id → has_word v ≡ true
has_word_by f os o b v h c =
    let r = from_words f v.id c in
    subst (λ (x : ValueRecord). has_word x ≡ true) (same f os o r.block b r.value v r.there h r.id).values r.word

-- what is used next is live

live_by : (f : FuncRecord) (os : List (List ℕ)) (v i k : ℕ) (o : Option ℕ) → NextUseIs f os v i k o → is_used o ≡ true → IsLive f os v i k
live_by f os v i k None h e = absurd (false≢true e)
live_by f os v i k (Some m) h e = (m, h.leads)

used_by : (f : FuncRecord) (os : List (List ℕ)) (v i k : ℕ) (o : Option ℕ) → NextUseIs f os v i k o → IsLive f os v i k → is_used o ≡ true
used_by f os v i k None h l = absurd (h l)
used_by f os v i k (Some m) h l = refl

pub live_of : (f : FuncRecord) (os : List (List ℕ)) (next : Next) → AllNextUses f os next → (i k v : ℕ) (b : BlockRecord) → slice_get f.blocks i ≡ Some b → k ≤ length (order_at os i)
    → IsUsed (next b.id k) v → IsLive f os v i k
live_of f os next a i k v b at l u = live_by f os v i k (next b.id k v) (a.each i b.id k v (b, at, refl, l)) u

pub used_of : (f : FuncRecord) (os : List (List ℕ)) (next : Next) → AllNextUses f os next → (i k v : ℕ) (b : BlockRecord) → slice_get f.blocks i ≡ Some b → k ≤ length (order_at os i)
    → IsLive f os v i k → IsUsed (next b.id k) v
used_of f os next a i k v b at l u = used_by f os v i k (next b.id k v) (a.each i b.id k v (b, at, refl, l)) u
