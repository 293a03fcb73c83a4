-- Zeros in a window, and bytes that are copied.
use Rattle.std.proofs.Common.{◌≡◌, ℕ, zero, suc, ◌+◌, ◌-◌, ◌*◌, ◌/◌, ◌%◌, ◌<◌, refl, ap, sym, ◌∙◌, arith, List, [], ◌∷◌, ◌++◌, length, take, drop, replicate, Some, None, Bool, true, false, get_or, append_assoc, length-drop}
use Rattle.std.specs.Prelude.{if◌then◌else◌}
use Rattle.std.proofs.Math.ListN.{drop_of_length-le}
use Rattle.std.proofs.Math.Seq.{take-length}
use Rattle.std.proofs.lemmas.List.{append-nil, length-take-le}
use Rattle.bk_num.proofs.Bytes.{bounds, load_is}
use Rattle.bk_num.specs.Bytes.{number, bytes, is_within, store_in, written}
use Rattle.bk_num.specs.Memory.{data_base}
use Rattle.bk_ops.specs.Memory.{with_zeros, with_move, with_moved, do_overlap}

pub bytes-zero : (n : ℕ) → bytes n 0 ≡ replicate n 0
unfolding bytes
bytes-zero zero = refl
bytes-zero (suc n) = ap (λ (xs : List ℕ). 0 ∷ xs) (bytes-zero n)

-- each is a byte
abbrev pub AllBytes : List ℕ → Type 0
AllBytes [] = Unit {0}
AllBytes (x ∷ xs) = (x < 256) × AllBytes xs

pub bytes-number : (xs : List ℕ) → AllBytes xs → bytes (length xs) (number xs) ≡ xs
unfolding bytes number
bytes-number [] h = refl
bytes-number (x ∷ xs) (l, h) =
    let e : (x + 256 * number xs) % 256 ≡ x = omega arith in
    let d : (x + 256 * number xs) / 256 ≡ number xs = omega arith in
    ap (λ y. y ∷ bytes (length xs) ((x + 256 * number xs) / 256)) e ∙ ap (λ n. x ∷ bytes (length xs) n) d ∙ ap (λ ys. x ∷ ys) (bytes-number xs h)

pub found : (b : Bool) (x y : ℕ) → Some y ≡ (if b then Some x else None) → (b ≡ true) × (y ≡ x)
found true x y e = (refl, (let q : y ≡ x = cc in q))
found false x y e = absurd cc

pub lost : (b : Bool) (x : ℕ) → None ≡ (if b then Some x else None) → b ≡ false
lost true x e = absurd cc
lost false x e = refl

pub zeros_there : (w : List ℕ) (count a : ℕ) → is_within data_base w count a ≡ true →
    with_zeros w count a ≡ Some (take (a - data_base) w ++ (replicate count 0 ++ drop (a - data_base + count) w))
unfolding store_in
zeros_there w count a e =
    ap (λ (b : Bool). if b then Some (written data_base w count a 0) else None) e
    ∙ ap (λ xs. Some (take (a - data_base) w ++ (xs ++ drop (a - data_base + count) w))) (bytes-zero count)

pub zeros_elsewhere : (w : List ℕ) (count a : ℕ) → is_within data_base w count a ≡ false → with_zeros w count a ≡ None
unfolding store_in
zeros_elsewhere w count a e = ap (λ (b : Bool). if b then Some (written data_base w count a 0) else None) e

-- a list in the place of its front
pub in_place : (n : ℕ) (xs ys : List ℕ) → length xs ≡ length ys → n ≡ length ys → take n (xs ++ drop (length xs) ys) ≡ xs
in_place n xs ys e d =
    ap (λ zs. take n (xs ++ zs)) (drop_of_length-le ys (omega arith)) ∙ ap (take n) (append-nil xs) ∙ ap (λ k. take k xs) (let q : n ≡ length xs = omega arith in q) ∙ take-length xs

pub all_bytes : (xs : List ℕ) → ((i d : ℕ) → i < length xs → get_or xs i d < 256) → AllBytes xs
all_bytes [] h = tt
all_bytes (x ∷ xs) h = (h 0 0 (omega arith), all_bytes xs (λ i d l. h (suc i) d (omega arith)))

bytes_after : (xs ys : List ℕ) → AllBytes (xs ++ ys) → AllBytes ys
bytes_after [] ys h = h
bytes_after (x ∷ xs) ys h = bytes_after xs ys h.1

bytes_before : (xs ys : List ℕ) → AllBytes (xs ++ ys) → AllBytes xs
bytes_before [] ys h = tt
bytes_before (x ∷ xs) ys h = (h.0, bytes_before xs ys h.1)

pub bytes_within : (xs ys zs : List ℕ) → AllBytes ((xs ++ ys) ++ zs) → AllBytes ys
bytes_within xs ys zs h = bytes_after xs ys (bytes_before (xs ++ ys) zs h)

-- bytes that are moved where both places lie in the window and share none
pub move_there : (w : List ℕ) (count to from : ℕ) → is_within data_base w count from ≡ true → is_within data_base w count to ≡ true → do_overlap count to from ≡ false →
    AllBytes (take count (drop (from - data_base) w)) →
    with_move w count to from ≡ Some ((take (to - data_base) w ++ take count (drop (from - data_base) w)) ++ drop (to - data_base + count) w)
unfolding store_in
move_there w count to from f t o h =
    let b = bounds data_base count from w f in
    let slice = take count (drop (from - data_base) w) in
    let l : length slice ≡ count = length-take-le count (drop (from - data_base) w) (omega (arith, length-drop (from - data_base) w)) in
    ap (λ x. with_moved w count to x from) (load_is data_base count from w b.0 b.1)
    ∙ ap (λ (x : Bool). if x then None else store_in data_base w count to (number slice)) o
    ∙ ap (λ (x : Bool). if x then Some (written data_base w count to (number slice)) else None) t
    ∙ ap (λ n. Some (take (to - data_base) w ++ (bytes n (number slice) ++ drop (to - data_base + count) w))) (sym l)
    ∙ ap (λ xs. Some (take (to - data_base) w ++ (xs ++ drop (to - data_base + count) w))) (bytes-number slice h)
    ∙ ap Some (sym (append_assoc (take (to - data_base) w) slice (drop (to - data_base + count) w)))
