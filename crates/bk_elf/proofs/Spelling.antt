-- Numbers in their bytes, and back.
use Rattle.std.proofs.Common.{◌≡◌, ℕ, zero, suc, ◌+◌, ◌*◌, ◌/◌, ◌^◌, ◌<◌, List, [], ◌∷◌, length, drop, refl, ap, arith}
use Rattle.std.proofs.lemmas.List.{length-drop, drop_at, take-append-drop}
use Rattle.std.proofs.Math.Nat.{mul-div_cancel_left}
use Rattle.std.specs.List.{flat_map, AllByRecursion}
use Rattle.byteorder.specs.Endian.{little_number, little_bytes}
use Rattle.byteorder.specs.Numbers.{little_from-lt, little_number-reads_back}
use Rattle.bk_elf.specs.Lists.{each, numbers}
use Rattle.bk_elf.proofs.Bytes.{AreBytes, bytes-drop, length-little, little_back}

-- numbers that fit so many bytes
abbrev pub FitAll : ℕ → List ℕ → Type 0
FitAll size ns = AllByRecursion (λ n. n < 256 ^ size) ns

-- the numbers are read back from their bytes
pub numbers_read : (size : ℕ) (ns : List ℕ) → FitAll size ns → numbers size (length ns) (flat_map (little_bytes size) ns) ≡ ns
unfolding each
numbers_read size [] fit = refl
numbers_read size (n ∷ ns) fit =
    let first = little_number-reads_back size n (flat_map (little_bytes size) ns) fit.0 in
    let rest = drop_at (little_bytes size n) (flat_map (little_bytes size) ns) size (length-little size n) in
    rw (first, rest, numbers_read size ns fit.1) refl

-- bytes are those of the numbers that they spell
pub numbers_back : (size n : ℕ) (xs : List ℕ) → AreBytes xs → length xs ≡ size * n → flat_map (little_bytes size) (numbers size n xs) ≡ xs
unfolding each
numbers_back size zero [] h e = refl
numbers_back size zero (x ∷ xs) h e = absurd (omega arith)
numbers_back size (suc n) xs h e =
    let more : size * suc n ≡ size + size * n = omega arith in
    let here = little_back size (little_number size xs) xs h (omega arith) refl in
    let rest = numbers_back size n (drop size xs) (bytes-drop xs size h) (omega (arith, length-drop size xs)) in
    rw (← here, rest) (take-append-drop size xs)

pub numbers_fit : (size n : ℕ) (xs : List ℕ) → AreBytes xs → FitAll size (numbers size n xs)
unfolding each
numbers_fit size zero xs h = tt
numbers_fit size (suc n) xs h = (little_from-lt 0 size xs h, numbers_fit size n (drop size xs) (bytes-drop xs size h))

pub length-each : {X : Type 0} (f : List ℕ → X) (size n : ℕ) (xs : List ℕ) → length (each f size n xs) ≡ n
unfolding each
length-each f size zero xs = refl
length-each f size (suc n) xs = ap suc (length-each f size n (drop size xs))

-- so many pieces of a size
pub count_is : (size n : ℕ) → 0 < size → size * n / size ≡ n
count_is size n some = mul-div_cancel_left n some
