-- Blocks and entries of orders with one number are one.
use Rattle.std.proofs.Common.{◌≡◌, ◌∙◌, sym, refl, ap, subst, ℕ, zero, suc, ◌+◌, ◌<◌, ◌≤◌, ◌==◌, Bool, true, false, cond, List, [], ◌∷◌, length, Some, ⊎_elim, arith}
use Rattle.std.specs.List.{Contains, count_by, slice_get, sum_by}
use Rattle.std.proofs.lemmas.Bool.{cases_lt, eq-eqb, eqb-true}
use Rattle.std.proofs.lemmas.List.{get_or_past}
use Rattle.std.proofs.lemmas.List.Sums.{sum_by-cons}
use Rattle.std.proofs.lemmas.Option.{none-some, same_Some, slice_get_read, slice_get_within, slice_get_past, get_or_from_slice_get}
use Rattle.bk_func.specs.declared.form.FormKind.TheVariants.{Missing}
use Rattle.bk_func.specs.Records.{ValueRecord, BlockRecord, FuncRecord}
use Rattle.bk_func.specs.Form.Text.{HasBlock, HasValue}
use Rattle.bk_func.specs.Form.Parts.{IsBlockNumber, IsValueNumber, NamesInBlock}
use Rattle.bk_live.specs.Live.{IsOrdered, IsEntry, order_at}

-- an element is contained, and what is contained stands somewhere
pub contains_at : {A : Type 0} (xs : List A) (i : ℕ) (x : A) → slice_get xs i ≡ Some x → Contains xs x
contains_at xs i x e = (i, slice_get_within xs i x e, get_or_from_slice_get xs i x x e)

pub at_contains : {A : Type 0} (xs : List A) (x : A) → Contains xs x → (i : ℕ) × (slice_get xs i ≡ Some x)
at_contains xs x (i, l, e) = (i, slice_get_read xs (length xs) i x refl l (sym e))

pub at_some : {A : Type 0} (xs : List A) (i : ℕ) → i < length xs → (x : A) × (slice_get xs i ≡ Some x)
at_some [] i l = absurd (omega arith)
at_some (x ∷ xs) zero l = (x, refl)
at_some (x ∷ xs) (suc i) l = at_some xs i (omega arith)

nothing_at : {A : Type 0} (i : ℕ) (x : A) → slice_get [] i ≡ Some x → ⊥
nothing_at i x e = none-some x (sym (slice_get_past [] i (omega arith)) ∙ e)

-- an element counts in a sum
in_sum : {A : Type 0} (g : A → ℕ) (xs : List A) (i : ℕ) (x : A) → slice_get xs i ≡ Some x → g x ≤ sum_by g xs
in_sum g [] i x e = absurd (nothing_at i x e)
in_sum g (y ∷ xs) zero x e = let same : g y ≡ g x = ap g (same_Some y x e) in omega (arith, sum_by-cons g y xs)
in_sum g (y ∷ xs) (suc i) x e = let l : g x ≤ sum_by g xs = in_sum g xs i x e in omega (arith, sum_by-cons g y xs)

-- where it is at most one, one element alone counts
sum_alone : {A : Type 0} (g : A → ℕ) (xs : List A) (i j : ℕ) (x y : A) → sum_by g xs ≤ 1 → slice_get xs i ≡ Some x → slice_get xs j ≡ Some y → 1 ≤ g x → 1 ≤ g y → i ≡ j
sum_alone g [] i j x y few ei ej a b = absurd (nothing_at i x ei)
sum_alone g (z ∷ xs) zero zero x y few ei ej a b = refl
sum_alone g (z ∷ xs) zero (suc j) x y few ei ej a b =
    let first : g z ≡ g x = ap g (same_Some z x ei) in
    let rest : g y ≤ sum_by g xs = in_sum g xs j y ej in
    absurd (omega (arith, sum_by-cons g z xs))
sum_alone g (z ∷ xs) (suc i) zero x y few ei ej a b =
    let first : g z ≡ g y = ap g (same_Some z y ej) in
    let rest : g x ≤ sum_by g xs = in_sum g xs i x ei in
    absurd (omega (arith, sum_by-cons g z xs))
sum_alone g (z ∷ xs) (suc i) (suc j) x y few ei ej a b = let rest : sum_by g xs ≤ 1 = omega (arith, sum_by-cons g z xs) in ap suc (sum_alone g xs i j x y rest ei ej a b)

one_if : (b : Bool) → b ≡ true → 1 ≤ cond b 1 0
one_if b e = rw e (omega arith)

pub counted : {A : Type 0} (t : A → Bool) (xs : List A) (i : ℕ) (x : A) → slice_get xs i ≡ Some x → t x ≡ true → 1 ≤ count_by t xs
counted t xs i x e h = let l : cond (t x) 1 0 ≤ count_by t xs = in_sum (λ y. cond (t y) 1 0) xs i x e in let k : 1 ≤ cond (t x) 1 0 = one_if (t x) h in omega arith

pub count_alone : {A : Type 0} (t : A → Bool) (xs : List A) (i j : ℕ) (x y : A) → count_by t xs ≤ 1 → slice_get xs i ≡ Some x → slice_get xs j ≡ Some y → t x ≡ true → t y ≡ true → i ≡ j
count_alone t xs i j x y few ei ej a b = sum_alone (λ z. cond (t z) 1 0) xs i j x y few ei ej (one_if (t x) a) (one_if (t y) b)

abbrev pub bit : Bool → ℕ
bit b = cond b 1 0

-- what counts is there
pub found : {A : Type 0} (t : A → Bool) (xs : List A) → 1 ≤ count_by t xs → (i : ℕ) × (x : A) × (slice_get xs i ≡ Some x) × (t x ≡ true)
found t [] l = absurd (omega arith)
found {A} t (y ∷ xs) l = go (t y) refl (λ rest. found t xs rest)
  where
    go : (b : Bool) → t y ≡ b → (1 ≤ count_by t xs → (i : ℕ) × (x : A) × (slice_get xs i ≡ Some x) × (t x ≡ true))
        → (i : ℕ) × (x : A) × (slice_get (y ∷ xs) i ≡ Some x) × (t x ≡ true)
    go true e later = (0, y, refl, e)
    go false e later =
        let z : bit (t y) ≡ 0 = ap bit e in
        let sums : sum_by (λ (w : A). bit (t w)) (y ∷ xs) ≡ bit (t y) + sum_by (λ (w : A). bit (t w)) xs = sum_by-cons (λ (w : A). bit (t w)) y xs in
        let many : 1 ≤ sum_by (λ (w : A). bit (t w)) (y ∷ xs) = l in
        let rest : 1 ≤ sum_by (λ (w : A). bit (t w)) xs = omega arith in
        let (i, x, at, h) = later rest in (suc i, x, at, h)

-- the blocks and the values of a function in form bear numbers of their own
pub names_of : (f : FuncRecord) (os : List (List ℕ)) → IsOrdered f os → (b : BlockRecord) → HasBlock f b → NamesInBlock f b
names_of f os o b has = (o.formed.kinds Missing b has).block

pub value_number : (f : FuncRecord) (os : List (List ℕ)) → IsOrdered f os → (b : BlockRecord) (v : ValueRecord) → HasValue f b v → IsValueNumber f v.id
value_number f os o b v (hb, hv) = ((o.formed.kinds Missing b hb).value v hv).own

pub block_alone : (f : FuncRecord) (os : List (List ℕ)) → IsOrdered f os → (i j : ℕ) (b c : BlockRecord) → slice_get f.blocks i ≡ Some b → slice_get f.blocks j ≡ Some c → b.id ≡ c.id → i ≡ j
unfolding IsBlockNumber
block_alone f os o i j b c ei ej same =
    let one : count_by (λ (x : BlockRecord). x.id == c.id) f.blocks ≡ 1 = (names_of f os o c (contains_at f.blocks j c ej)).own in
    count_alone (λ (x : BlockRecord). x.id == c.id) f.blocks i j b c (omega arith) ei ej (eq-eqb b.id c.id same) (eq-eqb c.id c.id refl)

-- the order of a block is there
pub order_there : (f : FuncRecord) (os : List (List ℕ)) → IsOrdered f os → (i k x : ℕ) → IsEntry os i k x → (b : BlockRecord) × (slice_get f.blocks i ≡ Some b)
order_there f os o i k x e = ⊎_elim
    (λ (b : i < length os). at_some f.blocks i (omega (arith, o.size)))
    (λ (a : length os ≤ i). absurd (nothing_at k x (subst (λ (us : List ℕ). slice_get us k ≡ Some x) (get_or_past os i [] a) e)))
    (cases_lt i (length os))

-- an entry is the number of a value of its block
pub entry_value : (f : FuncRecord) (os : List (List ℕ)) → IsOrdered f os → (i k x : ℕ) (b : BlockRecord) → IsEntry os i k x → slice_get f.blocks i ≡ Some b
    → (v : ValueRecord) × Contains b.values v × (v.id ≡ x)
entry_value f os o i k x b e at =
    let there : 1 ≤ count_by (λ y. y == x) (order_at os i) = counted (λ y. y == x) (order_at os i) k x e (eq-eqb x x refl) in
    let same : count_by (λ y. y == x) (order_at os i) ≡ count_by (λ (v : ValueRecord). v.id == x) b.values = o.each i b at x in
    let (j, v, av, h) = found (λ (v : ValueRecord). v.id == x) b.values (omega arith) in
    (v, contains_at b.values j v av, eqb-true v.id x h)

-- and stands in an order
pub value_entry : (f : FuncRecord) (os : List (List ℕ)) → IsOrdered f os → (i : ℕ) (b : BlockRecord) (v : ValueRecord) → slice_get f.blocks i ≡ Some b → Contains b.values v
    → (k : ℕ) × IsEntry os i k v.id
value_entry f os o i b v at c =
    let (j, av) = at_contains b.values v c in
    let there : 1 ≤ count_by (λ (u : ValueRecord). u.id == v.id) b.values = counted (λ (u : ValueRecord). u.id == v.id) b.values j v av (eq-eqb v.id v.id refl) in
    let same : count_by (λ y. y == v.id) (order_at os i) ≡ count_by (λ (u : ValueRecord). u.id == v.id) b.values = o.each i b at v.id in
    let (k, x, e, h) = found (λ y. y == v.id) (order_at os i) (omega arith) in
    (k, subst (λ (y : ℕ). IsEntry os i k y) (eqb-true x v.id h) e)

-- entries with one number are one
pub entry_alone : (f : FuncRecord) (os : List (List ℕ)) → IsOrdered f os → (i j k l x : ℕ) → IsEntry os i k x → IsEntry os j l x → (i ≡ j) × (k ≡ l)
unfolding IsValueNumber
entry_alone f os o i j k l x ei ej =
    let (b, ab) = order_there f os o i k x ei in
    let (c, ac) = order_there f os o j l x ej in
    let (v, hv, ev) = entry_value f os o i k x b ei ab in
    let (u, hu, eu) = entry_value f os o j l x c ej ac in
    let (m, am) = at_contains b.values v hv in
    let (n, an) = at_contains c.values u hu in
    let one : sum_by (λ (d : BlockRecord). count_by (λ (w : ValueRecord). w.id == v.id) d.values) f.blocks ≡ 1 = value_number f os o b v (contains_at f.blocks i b ab, hv) in
    let here : 1 ≤ count_by (λ (w : ValueRecord). w.id == v.id) b.values = counted (λ (w : ValueRecord). w.id == v.id) b.values m v am (eq-eqb v.id v.id refl) in
    let there : 1 ≤ count_by (λ (w : ValueRecord). w.id == v.id) c.values = counted (λ (w : ValueRecord). w.id == v.id) c.values n u an (eq-eqb u.id v.id (eu ∙ sym ev)) in
    let blocks : i ≡ j = sum_alone (λ (d : BlockRecord). count_by (λ (w : ValueRecord). w.id == v.id) d.values) f.blocks i j b c (omega arith) ab ac here there in
    let few : count_by (λ (w : ValueRecord). w.id == v.id) b.values ≤ sum_by (λ (d : BlockRecord). count_by (λ (w : ValueRecord). w.id == v.id) d.values) f.blocks =
    in_sum (λ (d : BlockRecord). count_by (λ (w : ValueRecord). w.id == v.id) d.values) f.blocks i b ab in
    let same : count_by (λ y. y == v.id) (order_at os i) ≡ count_by (λ (w : ValueRecord). w.id == v.id) b.values = o.each i b ab v.id in (
      blocks,
      count_alone (λ y. y == v.id) (order_at os i) k l x x (omega arith) ei (subst (λ (q : ℕ). IsEntry os q l x) (sym blocks) ej) (eq-eqb x v.id (sym ev)) (eq-eqb x v.id (sym ev)),
    )
