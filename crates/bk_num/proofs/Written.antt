-- The low bytes of a number.
use Rattle.std.proofs.Common.{◌≡◌, ℕ, zero, suc, ◌+◌, ◌-◌, ◌*◌, ◌/◌, ◌%◌, ◌^◌, ◌<◌, ◌≤◌, List, ◌∷◌, ◌++◌, take, drop, ap, ◌∙◌, sym, subst, refl, arith, length, length-drop, Some, None, Bool, true, false, cond}
use Rattle.std.proofs.lemmas.List.{drop-drop, length-take-le}
use Rattle.std.specs.Int.{to_le_bytes, w64}
use Rattle.bk_num.specs.Bytes.{bytes, is_within, store_in, written}
use borrow.Rule.Slice.PartMut.{put_mid}

pub take_bytes : (size k n : ℕ) → size ≤ k → take size (bytes k n) ≡ bytes size n
unfolding bytes
take_bytes zero k n h = refl
take_bytes (suc size) zero n h = absurd (omega arith)
take_bytes (suc size) (suc k) n h = ap (λ l. n % 256 ∷ l) (take_bytes size k (n / 256) (omega arith))

pub low_bytes : (n : ℕ) → to_le_bytes w64 n ≡ bytes 8 n
unfolding bytes
low_bytes n =
    let a2 : n / 65536 % 256 ≡ n / 256 / 256 % 256 = omega arith in
    let a3 : n / 16777216 % 256 ≡ n / 256 / 256 / 256 % 256 = omega arith in
    let a4 : n / 4294967296 % 256 ≡ n / 256 / 256 / 256 / 256 % 256 = omega arith in
    let a5 : n / 1099511627776 % 256 ≡ n / 256 / 256 / 256 / 256 / 256 % 256 = omega arith in
    let a6 : n / 281474976710656 % 256 ≡ n / 256 / 256 / 256 / 256 / 256 / 256 % 256 = omega arith in
    let a7 : n / 72057594037927936 % 256 ≡ n / 256 / 256 / 256 / 256 / 256 / 256 / 256 % 256 = omega arith in
    cc

pub low : (size n : ℕ) → size ≤ 8 → take size (to_le_bytes w64 n) ≡ bytes size n
low size n h = ap (take size) (low_bytes n) ∙ take_bytes size 8 n h

power : (k d : ℕ) → 256 ^ k ≤ 256 ^ (k + d)
power k zero = let e : k + 0 ≡ k = omega arith in let p : 256 ^ (k + 0) ≡ 256 ^ k = ap (λ j. 256 ^ j) e in omega arith
power k (suc d) =
    let n : k + suc d ≡ suc (k + d) = omega arith in
    let e : 256 ^ (k + suc d) ≡ 256 ^ suc (k + d) = ap (λ j. 256 ^ j) n in
    let p : 256 ^ suc (k + d) ≡ 256 * 256 ^ (k + d) = omega arith in
    let h = power k d in
    omega arith

-- a number of k bytes has no more than j
pub has_bytes : (n k j : ℕ) → n < 256 ^ k → k ≤ j → n < 256 ^ j
has_bytes n k j h l =
    let e : k + (j - k) ≡ j = omega arith in
    let m : 256 ^ k ≤ 256 ^ j = subst (λ i. 256 ^ k ≤ 256 ^ i) e (power k (j - k)) in
    omega arith

chosen : {A : Type 0} (b : Bool) (x at : A) → Some at ≡ cond b (Some x) None → (b ≡ true) × (at ≡ x)
chosen true x at h = (refl, let q = h in cc)
chosen false x at h = cc

-- the window after a write inside it
pub stored : (base size address n at : ℕ) (window ys : List ℕ) → Some at ≡ cond (is_within base window size address) (Some (address - base)) None → ys ≡ bytes size n → store_in base window size address n ≡ Some (put_mid at (at + size - at) window ys)
unfolding store_in
stored base size address n at window ys h e =
    let c = chosen (is_within base window size address) (address - base) at h in
    let k : at + size - at ≡ size = omega arith in
    ap (λ b. cond b (Some (written base window size address n)) None) c.0
    ∙ ap (λ l. Some (take (address - base) window ++ (l ++ drop (address - base + size) window))) (sym e)
    ∙ ap (λ a. Some (take a window ++ (ys ++ drop (a + size) window))) (sym c.1)
    ∙ ap (λ l. Some (take at window ++ (ys ++ l))) (sym (drop-drop size at window))
    ∙ ap (λ j. Some (put_mid at j window ys)) (sym k)

-- what all bytes but the first of at most eight spell
pub rest_spells : (xs : List ℕ) (n : ℕ) → length xs ≤ 8 → n < 256 ^ length (take (length xs - 1) (drop 1 xs)) → n < 72057594037927936
rest_spells xs n l b =
    let d : length (drop 1 xs) ≡ length xs - 1 = length-drop 1 xs in
    let e : length (take (length xs - 1) (drop 1 xs)) ≡ length xs - 1 = length-take-le (length xs - 1) (drop 1 xs) (omega arith) in
    has_bytes n (length xs - 1) 7 (subst (λ j. n < 256 ^ j) e b) (omega arith)
