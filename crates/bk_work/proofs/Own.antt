-- Numbers that rise once they are sorted are those of one value each.
use Rattle.std.proofs.Common.{◌≡◌, ℕ, zero, suc, ◌+◌, ◌-◌, ◌<◌, ◌≤◌, ◌==◌, ⊎_elim, if◌then◌else◌, List, [], ◌∷◌, map, refl, sym, ap, ◌∙◌, subst, arith, Some}
use Rattle.std.specs.Prelude.{sum_by, slice_get, slice_index}
use Rattle.std.specs.List.{All, flat_map}
use Rattle.std.specs.List.Sorted.{IsPermutation, IsStrictlyIncreasing}
use Rattle.std.proofs.lemmas.Bool.{cases_eq}
use Rattle.std.proofs.lemmas.Bool.Decides.{nat_tests}
use Rattle.std.proofs.lemmas.List.{map-append}
use Rattle.std.proofs.lemmas.List.Elements.{All-head, All-tail}
use Rattle.std.proofs.lemmas.List.Kept.{AllPairs-from_increasing}
use Rattle.std.proofs.lemmas.List.Sorted.{sum_by-IsPermutation}
use Rattle.std.proofs.lemmas.List.Concat.{flat_map-cons}
use Rattle.std.proofs.lemmas.List.Sums.{sum_by-append, sum_by-cons}
use Rattle.bk_piece.specs.Rising.{Rise}
use Rattle.bk_piece.proofs.Rising.{head_of, tail_of}
use Rattle.bk_func.specs.Records.{ValueRecord, BlockRecord, FuncRecord}
use Rattle.bk_rewrite.specs.Places.{HasNumbers, StandsIn}

abbrev hit : ℕ → ℕ → ℕ
hit x y = if y == x then 1 else 0

-- how often a number is among others
abbrev times : ℕ → List ℕ → ℕ
times x ys = sum_by (hit x) ys

missed : (x : ℕ) (ys : List ℕ) → All (λ y. x < y) ys → times x ys ≡ 0
missed x [] h = refl
missed x (y ∷ ys) h = let above : x < y = All-head (λ y. x < y) y ys h in let rest = missed x ys (All-tail (λ y. x < y) y ys h) in grind (arith, nat_tests)

added : (x y n : ℕ) → (y ≡ x → n ≡ 0) → n ≤ 1 → hit x y + n ≤ 1
added x y n none few = ⊎_elim
    (λ (same : y ≡ x). let zero_left = none same in grind (arith, nat_tests))
    (λ (other : y ≡ x → ⊥). grind (arith, nat_tests))
    (cases_eq y x)

once : (x : ℕ) (ys : List ℕ) → Rise ys → times x ys ≤ 1
once x [] h = omega arith
once x (y ∷ ys) h = subst (λ n. n ≤ 1) (sym (sum_by-cons (hit x) y ys))
    (added x y (times x ys) (λ same. missed x ys (subst (λ z. All (λ w. z < w) ys) same (head_of y ys h))) (once x ys (tail_of y ys h)))

abbrev pub ids : List ValueRecord → List ℕ
ids vs = map (λ v. v.id) vs

abbrev pub numbers_in : List BlockRecord → List ℕ
numbers_in bs = ids (flat_map (λ b. b.values) bs)

counts : (x y n : ℕ) → y ≡ x → 1 ≤ hit x y + n
counts x y n e = grind (arith, nat_tests)

first_of_ids : (x : ℕ) (u : ValueRecord) (vs : List ValueRecord) → times x (ids (u ∷ vs)) ≡ hit x u.id + times x (ids vs)
first_of_ids x u vs = sum_by-cons (hit x) u.id (ids vs)

here : (x : ℕ) (vs : List ValueRecord) (p : ℕ) (v : ValueRecord) → slice_get vs p ≡ Some v → v.id ≡ x → 1 ≤ times x (ids vs)
here x [] p v e is = absurd cc
here x (u ∷ vs) zero v e is = let same : u ≡ v = cc in subst (λ n. 1 ≤ n) (sym (first_of_ids x u vs)) (counts x u.id (times x (ids vs)) (ap (λ w. w.id) same ∙ is))
here x (u ∷ vs) (suc p) v e is = let rest = here x vs p v e is in subst (λ n. 1 ≤ n) (sym (first_of_ids x u vs)) (omega (arith, rest))

twice : (x y n : ℕ) → y ≡ x → 1 ≤ n → hit x y + n ≤ 1 → ⊥
twice x y n e some few = grind (arith, nat_tests)

-- two values of a list with one number are one
one_place : (x : ℕ) (vs : List ValueRecord) (p q : ℕ) (v w : ValueRecord) → slice_get vs p ≡ Some v → v.id ≡ x → slice_get vs q ≡ Some w → w.id ≡ x → times x (ids vs) ≤ 1 → p ≡ q
one_place x [] p q v w e is d also few = absurd cc
one_place x (u ∷ vs) zero zero v w e is d also few = refl
one_place x (u ∷ vs) zero (suc q) v w e is d also few =
    let same : u ≡ v = cc in
    absurd (twice x u.id (times x (ids vs)) (ap (λ z. z.id) same ∙ is) (here x vs q w d also) (subst (λ n. n ≤ 1) (first_of_ids x u vs) few))
one_place x (u ∷ vs) (suc p) zero v w e is d also few =
    let same : u ≡ w = cc in
    absurd (twice x u.id (times x (ids vs)) (ap (λ z. z.id) same ∙ also) (here x vs p v e is) (subst (λ n. n ≤ 1) (first_of_ids x u vs) few))
one_place x (u ∷ vs) (suc p) (suc q) v w e is d also few =
    let fewer : hit x u.id + times x (ids vs) ≤ 1 = subst (λ n. n ≤ 1) (first_of_ids x u vs) few in
    ap suc (one_place x vs p q v w e is d also (omega (arith, fewer)))

split : (x : ℕ) (b : BlockRecord) (bs : List BlockRecord) → times x (numbers_in (b ∷ bs)) ≡ times x (ids b.values) + times x (numbers_in bs)
split x b bs =
    ap (λ l. times x (ids l)) (flat_map-cons (λ c. c.values) b bs)
    ∙ (ap (times x) (map-append (λ v. v.id) b.values (flat_map (λ c. c.values) bs)) ∙ sum_by-append (hit x) (ids b.values) (numbers_in bs))

somewhere : (x : ℕ) (bs : List BlockRecord) (b p : ℕ) → StandsIn bs x b p → 1 ≤ times x (numbers_in bs)
somewhere x [] b p h = absurd (let e = h.1 in cc)
somewhere x (c ∷ bs) zero p h = let own = here x c.values p h.0 h.1 h.2 in subst (λ n. 1 ≤ n) (sym (split x c bs)) (omega (arith, own))
somewhere x (c ∷ bs) (suc b) p h = let rest = somewhere x bs b p h in subst (λ n. 1 ≤ n) (sym (split x c bs)) (omega (arith, rest))

own_places : (x : ℕ) (bs : List BlockRecord) (b p c q : ℕ) → StandsIn bs x b p → StandsIn bs x c q → times x (numbers_in bs) ≤ 1 → (b ≡ c) × (p ≡ q)
own_places x [] b p c q h k few = absurd (let e = h.1 in cc)
own_places x (d ∷ bs) zero p zero q h k few =
    let parts : times x (ids d.values) + times x (numbers_in bs) ≤ 1 = subst (λ n. n ≤ 1) (split x d bs) few in
    (refl, one_place x d.values p q h.0 k.0 h.1 h.2 k.1 k.2 (omega (arith, parts)))
own_places x (d ∷ bs) zero p (suc c) q h k few =
    let parts : times x (ids d.values) + times x (numbers_in bs) ≤ 1 = subst (λ n. n ≤ 1) (split x d bs) few in
    let one = here x d.values p h.0 h.1 h.2 in
    let other = somewhere x bs c q k in
    absurd (omega (arith, parts, one, other))
own_places x (d ∷ bs) (suc b) p zero q h k few =
    let parts : times x (ids d.values) + times x (numbers_in bs) ≤ 1 = subst (λ n. n ≤ 1) (split x d bs) few in
    let one = here x d.values q k.0 k.1 k.2 in
    let other = somewhere x bs b p h in
    absurd (omega (arith, parts, one, other))
own_places x (d ∷ bs) (suc b) p (suc c) q h k few =
    let parts : times x (ids d.values) + times x (numbers_in bs) ≤ 1 = subst (λ n. n ≤ 1) (split x d bs) few in
    let r = own_places x bs b p c q h k (omega (arith, parts)) in
    (ap suc r.0, r.1)

pub own_numbers : (f : FuncRecord) (old new : List ℕ) → old ≡ numbers_in f.blocks → IsPermutation old new → IsStrictlyIncreasing new → HasNumbers f
own_numbers f old new e sorted rise = λ x b p c q h k.
    let kept : times x new ≡ times x old = sum_by-IsPermutation (hit x) old new sorted in
    let given : times x old ≡ times x (numbers_in f.blocks) = ap (times x) e in
    let few = once x new (λ i j d l m. AllPairs-from_increasing new rise i j d l m) in
    own_places x f.blocks b p c q h k (subst (λ n. n ≤ 1) (kept ∙ given) few)

-- one more number that is above the one before it
pub rises_more : (ws : List ℕ) (i : ℕ) → 1 ≤ i → ((k : ℕ) → k + 1 < i → slice_index ws k < slice_index ws (k + 1)) → slice_index ws (i - 1) < slice_index ws i
    → (k : ℕ) → k + 1 < i + 1 → slice_index ws k < slice_index ws (k + 1)
rises_more ws i some before here k l = ⊎_elim
    (λ (same : k + 1 ≡ i).
    let one : k ≡ i - 1 = omega (arith, same) in
    subst (λ n. slice_index ws n < slice_index ws (k + 1)) (sym one) (subst (λ n. slice_index ws (i - 1) < slice_index ws n) (sym same) here))
    (λ (other : k + 1 ≡ i → ⊥). before k (omega (arith, l, other)))
    (cases_eq (k + 1) i)
