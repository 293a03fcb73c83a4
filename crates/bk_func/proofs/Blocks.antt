-- A change of the first block with a number, by its place.
use Rattle.std.proofs.Common.{◌≡◌, ℕ, ◌+◌, ◌<◌, ◌==◌, Bool, true, false, if◌then◌else◌, List, [], ◌∷◌, length, get_or, slice_set, position, Some, None, refl, sym, ◌∙◌, ap, arith, zero, suc, nat_lt, not, IsSome, subst}
use Rattle.std.proofs.lemmas.List.{set-get_or}
use Rattle.std.proofs.lemmas.List.Quantifiers.{position-Some}
use Rattle.std.specs.List.{find, position_or_len}
use Rattle.bk_func.specs.Records.{BlockRecord}
use Rattle.bk_func.specs.Edits.{change_block, with_succ}

changed_from : (id : ℕ) (g : BlockRecord → BlockRecord) (bs : List BlockRecord) (i : ℕ) (d : BlockRecord) → i < length bs
    → ((get_or bs i d).id == id) ≡ true → ((k : ℕ) → k < i → ((get_or bs k d).id == id) ≡ false)
    → slice_set bs i (g (get_or bs i d)) ≡ change_block id g bs
unfolding change_block
changed_from id g [] i d l h f = absurd (omega (arith, l))
changed_from id g (b ∷ bs) zero d l h f = sym (ap (λ t. if t then g b ∷ bs else b ∷ change_block id g bs) h)
changed_from id g (b ∷ bs) (suc i) d l h f =
    ap (λ xs. b ∷ xs) (changed_from id g bs i d (omega (arith, l)) h (λ k m. f (suc k) (omega (arith, m))))
    ∙ sym (ap (λ t. if t then g b ∷ bs else b ∷ change_block id g bs) (f 0 (omega arith)))

pub changed_at : (id : ℕ) (g : BlockRecord → BlockRecord) (bs : List BlockRecord) (i : ℕ) (x y : BlockRecord)
    → position (λ b. b.id == id) bs ≡ Some i → x ≡ get_or bs i x → y ≡ g x → slice_set bs i y ≡ change_block id g bs
changed_at id g bs i x y p e h =
    let (l, t, f) = position-Some (λ b. b.id == id) bs i x p in
    ap (slice_set bs i) (h ∙ ap g e) ∙ changed_from id g bs i x l t f

pub kept_at : (bs : List BlockRecord) (i : ℕ) (x y : BlockRecord) → x ≡ get_or bs i x → y ≡ x → slice_set bs i y ≡ bs
kept_at bs i x y e h = ap (slice_set bs i) (h ∙ e) ∙ set-get_or bs i x

found_from : (id : ℕ) (bs : List BlockRecord) (i : ℕ) (d : BlockRecord) → i < length bs → ((get_or bs i d).id == id) ≡ true
    → ((k : ℕ) → k < i → ((get_or bs k d).id == id) ≡ false) → find (λ b. b.id == id) bs ≡ Some (get_or bs i d)
found_from id [] i d l h f = absurd (omega (arith, l))
found_from id (b ∷ bs) zero d l h f = ap (λ t. if t then Some b else find (λ b. b.id == id) bs) h
found_from id (b ∷ bs) (suc i) d l h f =
    ap (λ t. if t then Some b else find (λ b. b.id == id) bs) (f 0 (omega arith))
    ∙ found_from id bs i d (omega (arith, l)) h (λ k m. f (suc k) (omega (arith, m)))

-- the first block with a number, by its place
pub found_at : (id : ℕ) (bs : List BlockRecord) (i : ℕ) (x : BlockRecord) → position (λ b. b.id == id) bs ≡ Some i → x ≡ get_or bs i x
    → find (λ b. b.id == id) bs ≡ Some x
found_at id bs i x p e =
    let (l, t, f) = position-Some (λ b. b.id == id) bs i x p in
    found_from id bs i x l t f ∙ ap Some (sym e)

-- a change of successors keeps the places
picked : {X : Type 0} (t : Bool) (x y : X) (P : X → Type 0) → (t ≡ true → P x) → (t ≡ false → P y) → P (if t then x else y)
picked true x y P p q = p refl
picked false x y P p q = q refl

same_length : (from index n : ℕ) (bs : List BlockRecord) → length (change_block from (with_succ index n) bs) ≡ length bs
unfolding change_block
same_length from index n [] = refl
same_length from index n (b ∷ bs) =
    picked (b.id == from) (with_succ index n b ∷ bs) (b ∷ change_block from (with_succ index n) bs) (λ cs. length cs ≡ length (b ∷ bs))
    (λ _. refl) (λ _. ap suc (same_length from index n bs))

same_or_len : (from index n to : ℕ) (bs : List BlockRecord)
    → position_or_len (λ b. b.id == to) (change_block from (with_succ index n) bs) ≡ position_or_len (λ b. b.id == to) bs
unfolding change_block
same_or_len from index n to [] = refl
same_or_len from index n to (b ∷ bs) =
    picked (b.id == from) (with_succ index n b ∷ bs) (b ∷ change_block from (with_succ index n) bs)
    (λ cs. position_or_len (λ b. b.id == to) cs ≡ position_or_len (λ b. b.id == to) (b ∷ bs))
    (λ _. refl) (λ _. ap (λ k. if not (b.id == to) then 1 + k else 0) (same_or_len from index n to bs))

pub kept_place : (from index n to : ℕ) (bs cs : List BlockRecord) → cs ≡ change_block from (with_succ index n) bs
    → IsSome (position (λ b. b.id == to) bs) → IsSome (position (λ b. b.id == to) cs)
kept_place from index n to bs cs e h =
    subst (λ o. IsSome o)
    (sym (ap (position (λ b. b.id == to)) e
    ∙ ap (λ k. if nat_lt k (length (change_block from (with_succ index n) bs)) then Some k else None) (same_or_len from index n to bs)
    ∙ ap (λ m. if nat_lt (position_or_len (λ b. b.id == to) bs) m then Some (position_or_len (λ b. b.id == to) bs) else None)
    (same_length from index n bs)))
    h
