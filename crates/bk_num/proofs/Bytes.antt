-- A window of bytes: what was written is read again, and the other bytes stay.
use Rattle.std.proofs.Common.{◌≡◌, ℕ, zero, suc, ◌+◌, ◌-◌, ◌*◌, ◌/◌, ◌%◌, ◌^◌, ◌<◌, ◌≤◌, List, [], ◌∷◌, ◌++◌, length, take, drop, ap, ◌∙◌, sym, refl, arith, Some, None, Bool, true, false, cond, ◌⊎◌, inl, inr, append_assoc, length-append, length-drop}
use Rattle.std.specs.Prelude.{nat_le, ◌&&◌}
use Rattle.std.proofs.lemmas.List.{length-take-le, take_at, drop_at, take-append-le, drop-append-le, take-take, drop-take, drop-drop}
use Rattle.std.proofs.lemmas.Bool.Decides.{nat_tests}
use Rattle.bk_num.specs.Bytes.{number, bytes, each_bytes, is_within, load_in, store_in, written}

pub length-bytes : (size n : ℕ) → length (bytes size n) ≡ size
unfolding bytes
length-bytes zero n = refl
length-bytes (suc size) n = ap suc (length-bytes size (n / 256))

pub length-each_bytes : (size : ℕ) (ns : List ℕ) → length (each_bytes size ns) ≡ size * length ns
length-each_bytes size [] = omega arith
length-each_bytes size (n ∷ ns) = omega (arith, length-append (bytes size n) (each_bytes size ns), length-bytes size n, length-each_bytes size ns)

pub number-bytes : (size n : ℕ) → n < 256 ^ size → number (bytes size n) ≡ n
unfolding bytes number
number-bytes zero n h = omega arith
number-bytes (suc size) n h =
    let e : 256 ^ suc size ≡ 256 * 256 ^ size = omega arith in
    let q : n / 256 < 256 ^ size = omega arith in
    ap (λ k. n % 256 + 256 * k) (number-bytes size (n / 256) q) ∙ (omega arith)

pub inside : (base size a : ℕ) (mem : List ℕ) → base ≤ a → a + size ≤ base + length mem → is_within base mem size a ≡ true
inside base size a mem h k = grind (arith, nat_tests)

pub outside : (base size a : ℕ) (mem : List ℕ) → (a < base) ⊎ (base + length mem < a + size) → is_within base mem size a ≡ false
outside base size a mem (inl h) = grind (arith, nat_tests)
outside base size a mem (inr h) = grind (arith, nat_tests)

pub store_there : (base size a n : ℕ) (mem : List ℕ) → base ≤ a → a + size ≤ base + length mem → store_in base mem size a n ≡ Some (written base mem size a n)
unfolding store_in
store_there base size a n mem h k = ap (λ b. cond b (Some (written base mem size a n)) None) (inside base size a mem h k)

pub store_elsewhere : (base size a n : ℕ) (mem : List ℕ) → (a < base) ⊎ (base + length mem < a + size) → store_in base mem size a n ≡ None
unfolding store_in
store_elsewhere base size a n mem h = ap (λ b. cond b (Some (written base mem size a n)) None) (outside base size a mem h)

pub load_is : (base size a : ℕ) (mem : List ℕ) → base ≤ a → a + size ≤ base + length mem → load_in base mem size a ≡ Some (number (take size (drop (a - base) mem)))
unfolding load_in
load_is base size a mem h k =
    let e : a - base + size - (a - base) ≡ size = omega arith in
    ap (λ b. cond b (Some (number (take (a - base + size - (a - base)) (drop (a - base) mem)))) None) (inside base size a mem h k)
    ∙ ap (λ n. Some (number (take n (drop (a - base) mem)))) e

pub load_elsewhere : (base size a : ℕ) (mem : List ℕ) → (a < base) ⊎ (base + length mem < a + size) → load_in base mem size a ≡ None
unfolding load_in
load_elsewhere base size a mem h = ap (λ b. cond b (Some (number (take (a - base + size - (a - base)) (drop (a - base) mem)))) None) (outside base size a mem h)

pub load_within : (base size a v : ℕ) (mem : List ℕ) → load_in base mem size a ≡ Some v → (base ≤ a) × (a + size ≤ base + length mem)
unfolding load_in
load_within base size a v mem h = grind (arith, nat_tests)

pub length-written : (base size a n : ℕ) (mem : List ℕ) → base ≤ a → a + size ≤ base + length mem → length (written base mem size a n) ≡ length mem
length-written base size a n mem h k =
    let e : a - base ≤ length mem = omega arith in
    simp (length-append, length-bytes, length-drop) (omega (arith, length-take-le (a - base) mem e))

pub load_written : (base size a n : ℕ) (mem : List ℕ) → base ≤ a → a + size ≤ base + length mem → n < 256 ^ size → load_in base (written base mem size a n) size a ≡ Some n
load_written base size a n mem h k l =
    let e : a - base ≤ length mem = omega arith in
    load_is base size a (written base mem size a n) h (omega (arith, length-written base size a n mem h k))
    ∙ ap (λ t. Some (number (take size t))) (drop_at (take (a - base) mem) (bytes size n ++ drop (a - base + size) mem) (a - base) (length-take-le (a - base) mem e))
    ∙ ap (λ t. Some (number t)) (take_at (bytes size n) (drop (a - base + size) mem) size (length-bytes size n))
    ∙ ap Some (number-bytes size n l)

-- `width` bytes at j that end before i, and bytes after the `size` bytes at i
below : (i j width : ℕ) (mem b : List ℕ) → j + width ≤ i → i ≤ length mem → take width (drop j (take i mem ++ b)) ≡ take width (drop j mem)
below i j width mem b h k =
    let p : length (take i mem) ≡ i = length-take-le i mem k in
    let m : i ≡ j + (i - j) = omega arith in
    ap (take width) (drop-append-le j (take i mem) b (omega arith))
    ∙ take-append-le width (drop j (take i mem)) b (omega (arith, length-drop j (take i mem)))
    ∙ ap (λ n. take width (drop j (take n mem))) m
    ∙ ap (take width) (drop-take j (i - j) mem)
    ∙ take-take width (i - j) (drop j mem) (omega arith)

above : (i j size : ℕ) (mem b : List ℕ) → i + size ≤ j → i + size ≤ length mem → length b ≡ size → drop j (take i mem ++ (b ++ drop (i + size) mem)) ≡ drop j mem
above i j size mem b h k l =
    let p : length (take i mem ++ b) ≡ i + size = length-append (take i mem) b ∙ (let q : length (take i mem) ≡ i = length-take-le i mem (omega arith) in omega arith) in
    let m : j ≡ i + size + (j - (i + size)) = omega arith in
    ap (drop j) (sym (append_assoc (take i mem) b (drop (i + size) mem)))
    ∙ ap (λ n. drop n ((take i mem ++ b) ++ drop (i + size) mem)) m
    ∙ sym (drop-drop (j - (i + size)) (i + size) ((take i mem ++ b) ++ drop (i + size) mem))
    ∙ ap (drop (j - (i + size))) (drop_at (take i mem ++ b) (drop (i + size) mem) (i + size) p)
    ∙ drop-drop (j - (i + size)) (i + size) mem
    ∙ ap (λ n. drop n mem) (sym m)

pub load_other : (base size width a b n v : ℕ) (mem : List ℕ) → base ≤ a → a + size ≤ base + length mem → (b + width ≤ a) ⊎ (a + size ≤ b) → load_in base mem width b ≡ Some v → load_in base (written base mem size a n) width b ≡ Some v
load_other base size width a b n v mem h k apart l =
    let w = load_within base width b v mem l in
    let len = length-written base size a n mem h k in
    let same : take width (drop (b - base) (written base mem size a n)) ≡ take width (drop (b - base) mem) =
    elim apart [
      | inl lt ↦ below (a - base) (b - base) width mem (bytes size n ++ drop (a - base + size) mem) (omega (arith, w)) (omega arith)
      | inr gt ↦ ap (take width) (above (a - base) (b - base) size mem (bytes size n) (omega (arith, w)) (omega arith) (length-bytes size n))
    ] in
    load_is base width b (written base mem size a n) w.0 (omega (arith, len, w.1))
    ∙ ap (λ t. Some (number t)) same
    ∙ sym (load_is base width b mem w.0 w.1)
    ∙ l

pub is_either : (b : Bool) → (b ≡ true) ⊎ (b ≡ false)
is_either true = inl refl
is_either false = inr refl

pub bounds : (base size a : ℕ) (mem : List ℕ) → is_within base mem size a ≡ true → (base ≤ a) × (a + size ≤ base + length mem)
bounds base size a mem h = (grind (arith, nat_tests), grind (arith, nat_tests))

-- a store into one window writes there, or answers None
pub tried : (base size a n : ℕ) (mem : List ℕ) → ((is_within base mem size a ≡ true) × (store_in base mem size a n ≡ Some (written base mem size a n))) ⊎ (store_in base mem size a n ≡ None)
unfolding store_in
tried base size a n mem =
    elim (is_either (is_within base mem size a)) [
      | inl t ↦ inl (t, ap (λ b. cond b (Some (written base mem size a n)) None) t)
      | inr f ↦ inr (ap (λ b. cond b (Some (written base mem size a n)) None) f)
    ]

there : (base width b : ℕ) (mem : List ℕ) → is_within base mem width b ≡ true → load_in base mem width b ≡ Some (number (take (b - base + width - (b - base)) (drop (b - base) mem)))
unfolding load_in
there base width b mem t = ap (λ c. cond c (Some (number (take (b - base + width - (b - base)) (drop (b - base) mem)))) None) t

nowhere : (base width b : ℕ) (mem : List ℕ) → is_within base mem width b ≡ false → load_in base mem width b ≡ None
unfolding load_in
nowhere base width b mem f = ap (λ c. cond c (Some (number (take (b - base + width - (b - base)) (drop (b - base) mem)))) None) f

-- a load apart from the bytes that were written
pub load_same : (base size width a b n : ℕ) (mem : List ℕ) → base ≤ a → a + size ≤ base + length mem → (b + width ≤ a) ⊎ (a + size ≤ b) → load_in base (written base mem size a n) width b ≡ load_in base mem width b
load_same base size width a b n mem h k apart =
    elim (is_either (is_within base mem width b)) [
      | inl t ↦ (
          let e = there base width b mem t in
          load_other base size width a b n _ mem h k apart e ∙ sym e)
      | inr f ↦ (
          let len = length-written base size a n mem h k in
          nowhere base width b (written base mem size a n) (ap (λ l. nat_le base b && nat_le (b + width) (base + l)) len ∙ f) ∙ sym (nowhere base width b mem f))
    ]
