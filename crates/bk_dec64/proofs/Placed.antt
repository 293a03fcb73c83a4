-- Values that go last in blocks, which a table of places finds.
use Rattle.std.proofs.Common.{◌≡◌, ◌∙◌, sym, ap, refl, ℕ, suc, ◌+◌, ◌<◌, ◌≤◌, ◌==◌, Bool, true, false, cond, not, List, [], ◌∷◌, length, take, get_or, Option, Some, None, position, nat_lt, if◌then◌else◌, ⊎_elim, arith}
use Rattle.std.specs.BTreeMap.{is_at}
use Rattle.std.specs.List.{position_or_len}
use Rattle.std.specs.Option.{option_or, unwrap_or}
use Rattle.std.specs.Ordering.{nat_cmp}
use Rattle.std.proofs.lemmas.Bool.{cases_eq, eq-eqb, ne_eqb, cases_lt, lt-ltb}
use Rattle.std.proofs.lemmas.Bool.Decides.{nat_tests}
use Rattle.std.proofs.lemmas.Option.{none-some}
use Rattle.bk_func.specs.Records.{ValueRecord, BlockRecord}
use Rattle.bk_func.specs.Edits.{change_block, with_value}
use Rattle.bk_callees.proofs.Found.{position_more}

-- a look-up by numbers finds the same number
is_at_number : (x n : ℕ) → is_at (nat_cmp x) n ≡ (x == n)
is_at_number x n = grind (arith, nat_tests)

or_here : (o : Option ℕ) (i : ℕ) → Some (unwrap_or o i) ≡ option_or o (Some i)
or_here None i = refl
or_here (Some x) i = refl

or_none : (o : Option ℕ) → o ≡ option_or o None
or_none None = refl
or_none (Some x) = refl

-- the first places, one more element being looked at
pub places_more : {A : Type 0} (name : A → ℕ) (xs : List A) (i : ℕ) (x : A) (f g : ℕ → Option ℕ) (v : ℕ) → i < length xs → x ≡ get_or xs i x
    → ((n : ℕ) → f n ≡ position (λ y. name y == n) (take i xs)) → v ≡ unwrap_or (f (name x)) i
    → ((n : ℕ) → g n ≡ cond (is_at (nat_cmp (name x)) n) (Some v) (f n)) → (n : ℕ) → g n ≡ position (λ y. name y == n) (take (i + 1) xs)
places_more name xs i x f g v l e before is after n =
    after n ∙ (rw (is_at_number (name x) n, position_more (λ y. name y == n) xs i x l, ← before n, ← e) (⊎_elim
    (λ (same : name x ≡ n). rw (eq-eqb (name x) n same) (ap Some is ∙ or_here (f (name x)) i ∙ ap (λ m. option_or (f m) (Some i)) same))
    (λ (apart : name x ≡ n → ⊥). rw (ne_eqb (name x) n apart) (or_none (f n)))
    (cases_eq (name x) n)))

-- a value more keeps the places of the blocks

picked : {X : Type 0} (t : Bool) (x y : X) (P : X → Type 0) → P x → P y → P (if t then x else y)
picked true x y P p q = p
picked false x y P p q = q

same_length : (id : ℕ) (v : ValueRecord) (bs : List BlockRecord) → length (change_block id (with_value v) bs) ≡ length bs
unfolding change_block
same_length id v [] = refl
same_length id v (b ∷ bs) =
    picked (b.id == id) (with_value v b ∷ bs) (b ∷ change_block id (with_value v) bs) (λ cs. length cs ≡ length (b ∷ bs))
    refl (ap suc (same_length id v bs))

same_or_len : (id n : ℕ) (v : ValueRecord) (bs : List BlockRecord)
    → position_or_len (λ b. b.id == n) (change_block id (with_value v) bs) ≡ position_or_len (λ b. b.id == n) bs
unfolding change_block
same_or_len id n v [] = refl
same_or_len id n v (b ∷ bs) =
    picked (b.id == id) (with_value v b ∷ bs) (b ∷ change_block id (with_value v) bs)
    (λ cs. position_or_len (λ b. b.id == n) cs ≡ position_or_len (λ b. b.id == n) (b ∷ bs))
    refl (ap (λ k. if not (b.id == n) then 1 + k else 0) (same_or_len id n v bs))

pub kept_place : (id n : ℕ) (v : ValueRecord) (bs : List BlockRecord)
    → position (λ b. b.id == n) (change_block id (with_value v) bs) ≡ position (λ b. b.id == n) bs
kept_place id n v bs =
    ap (λ k. if nat_lt k (length (change_block id (with_value v) bs)) then Some k else None) (same_or_len id n v bs)
    ∙ ap (λ m. if nat_lt (position_or_len (λ b. b.id == n) bs) m then Some (position_or_len (λ b. b.id == n) bs) else None) (same_length id v bs)

-- where no block has the number, nothing changes

none_from : (id : ℕ) (g : BlockRecord → BlockRecord) (bs : List BlockRecord) → length bs ≤ position_or_len (λ b. b.id == id) bs → change_block id g bs ≡ bs
unfolding change_block
none_from id g [] h = refl
none_from id g (b ∷ bs) h = one (b.id == id) refl (none_from id g bs)
  where
    one : (t : Bool) → (b.id == id) ≡ t → (length bs ≤ position_or_len (λ b. b.id == id) bs → change_block id g bs ≡ bs)
        → (if b.id == id then g b ∷ bs else b ∷ change_block id g bs) ≡ b ∷ bs
    one true e more =
        let z : position_or_len (λ b. b.id == id) (b ∷ bs) ≡ 0 = ap (λ t. if not t then 1 + position_or_len (λ b. b.id == id) bs else 0) e in
        absurd (omega (arith, z, h))
    one false e more =
        let z : position_or_len (λ b. b.id == id) (b ∷ bs) ≡ 1 + position_or_len (λ b. b.id == id) bs =
        ap (λ t. if not t then 1 + position_or_len (λ b. b.id == id) bs else 0) e in
        ap (λ t. if t then g b ∷ bs else b ∷ change_block id g bs) e ∙ ap (λ cs. b ∷ cs) (more (omega (arith, z, h)))

pub none_changed : (id : ℕ) (v : ValueRecord) (bs : List BlockRecord) → position (λ b. b.id == id) bs ≡ None → change_block id (with_value v) bs ≡ bs
none_changed id v bs h =
    none_from id (with_value v) bs (⊎_elim
    (λ l.
    let s : position (λ b. b.id == id) bs ≡ Some (position_or_len (λ b. b.id == id) bs) =
    rw (lt-ltb (position_or_len (λ b. b.id == id) bs) (length bs) l) refl in
    absurd (none-some _ (sym h ∙ s)))
    (λ g. g)
    (cases_lt (position_or_len (λ b. b.id == id) bs) (length bs)))
