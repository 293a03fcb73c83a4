-- Bytes and the numbers that they spell, the low byte first.
use Rattle.std.proofs.Common.{◌≡◌, ℕ, zero, suc, ◌+◌, ◌/◌, ◌^◌, ◌<◌, ◌≤◌, List, [], ◌∷◌, ◌++◌, length, take, drop, slice_index, None, inl, inr, refl, sym, ap, ◌∙◌, arith}
use Rattle.std.proofs.lemmas.Bool.{cases_lt, eq-eqb}
use Rattle.std.proofs.lemmas.Bool.Decides.{eqb_tells}
use Rattle.std.proofs.Math.Nat.{mod-lt}
use Rattle.std.proofs.Math.Seq.{take-add}
use Rattle.std.proofs.lemmas.List.{append-nil, take-take, drop-take, length-take-le, get_or-drop, get_or-take, get_or_past, length-take, length-drop, length-append, drop-drop, take_at, drop_at}
use Rattle.std.specs.Int.{byte_at, bytes_low_first}
use Rattle.std.specs.List.{AllByRecursion}
use Rattle.byteorder.specs.Endian.{little_from, little_number, little_bytes}
use Rattle.byteorder.specs.Numbers.{little_from-cons, little_from-take, little_from-lt, little_number-reads_back, length-bytes_low_first}
use Rattle.bk_elf.specs.declared.fields.Field.{Field}
use Rattle.bk_elf.specs.Fields.{bytes_of, number_at, extent, spelled, first_fault}

-- each is a byte; past the end stands 0
abbrev pub AreBytes : List ℕ → Type 0
AreBytes xs = (i : ℕ) → slice_index xs i < 256

pub bytes-drop : (xs : List ℕ) (n : ℕ) → AreBytes xs → AreBytes (drop n xs)
bytes-drop xs n h i = rw (get_or-drop n xs i 0) (h (n + i))

pub bytes-take : (xs : List ℕ) (n : ℕ) → AreBytes xs → AreBytes (take n xs)
bytes-take xs n h i = elim (cases_lt i n) [
  | inl inside ↦ rw (get_or-take n xs i 0 inside) (h i)
  | inr past ↦ rw (get_or_past (take n xs) i 0 (omega (arith, length-take n xs))) (omega arith)
]

byte_small : (j n : ℕ) → byte_at j n < 256
byte_small zero n = mod-lt n (omega arith)
byte_small (suc j) n = mod-lt (n / 256 ^ suc j) (omega arith)

bytes-low_first : (j k n : ℕ) → AreBytes (bytes_low_first j k n)
bytes-low_first j zero n i = omega arith
bytes-low_first j (suc k) n zero = byte_small j n
bytes-low_first j (suc k) n (suc i) = bytes-low_first (suc j) k n i

pub length-little : (size n : ℕ) → length (little_bytes size n) ≡ size
length-little size n = length-bytes_low_first 0 size n

-- as many bytes with one number are the same
same_bytes : (k : ℕ) (xs ys : List ℕ) → length xs ≡ k → length ys ≡ k → AreBytes xs → AreBytes ys → little_from 0 k xs ≡ little_from 0 k ys → xs ≡ ys
same_bytes zero [] [] a b hx hy e = refl
same_bytes zero (x ∷ xs) ys a b hx hy e = absurd (omega arith)
same_bytes zero [] (y ∷ ys) a b hx hy e = absurd (omega arith)
same_bytes (suc k) [] ys a b hx hy e = absurd (omega arith)
same_bytes (suc k) (x ∷ xs) [] a b hx hy e = absurd (omega arith)
same_bytes (suc k) (x ∷ xs) (y ∷ ys) a b hx hy e =
    let px : x < 256 = hx 0 in
    let py : y < 256 = hy 0 in
    let cx = little_from-cons 0 k x xs in
    let cy = little_from-cons 0 k y ys in
    let head : x ≡ y = omega arith in
    let tail : little_from 0 k xs ≡ little_from 0 k ys = omega arith in
    let rest = same_bytes k xs ys (omega arith) (omega arith) (λ i. hx (suc i)) (λ i. hy (suc i)) tail in
    cc

little_own : (size n : ℕ) → n < 256 ^ size → little_from 0 size (little_bytes size n) ≡ n
little_own size n small = rw (← append-nil (little_bytes size n)) (little_number-reads_back size n [] small)

-- bytes that read as a number are its bytes
pub little_back : (size n : ℕ) (xs : List ℕ) → AreBytes xs → size ≤ length xs → little_number size xs ≡ n → take size xs ≡ little_bytes size n
little_back size n xs h room is =
    let own : little_from 0 size (little_bytes size n) ≡ n = little_own size n (rw (← is) (little_from-lt 0 size xs h)) in
    same_bytes size (take size xs) (little_bytes size n) (length-take-le size xs room) (length-little size n) (bytes-take xs size h) (bytes-low_first 0 size n)
    (little_from-take 0 size size xs (omega arith) ∙ is ∙ sym own)

pub little_read : (size n : ℕ) (xs : List ℕ) → n < 256 ^ size → take size xs ≡ little_bytes size n → little_number size xs ≡ n
little_read size n xs small is =
    sym (little_from-take 0 size size xs (omega arith)) ∙ ap (little_from 0 size) is ∙ little_own size n small

-- a list is cut where its front is two lists
pub take_split : {X : Type 0} (a b : ℕ) (xs front back : List X) → length front ≡ a → take (a + b) xs ≡ front ++ back
    → (take a xs ≡ front) × (take b (drop a xs) ≡ back)
take_split a b xs front back size is =
    let low : take a (take (a + b) xs) ≡ take a xs = take-take a (a + b) xs (omega arith) in
    let high : drop a (take (a + b) xs) ≡ take b (drop a xs) = drop-take a b xs in (
      sym low ∙ ap (take a) is ∙ take_at front back a size,
      sym high ∙ ap (drop a) is ∙ drop_at front back a size,
    )

-- fields whose numbers fit them
abbrev pub FitFields : List Field → Type 0
FitFields fs = AllByRecursion (λ f. f.number < 256 ^ bytes_of f.width) fs

pub length-spelled : (fs : List Field) → length (spelled fs) ≡ extent fs
unfolding spelled
length-spelled [] = refl
length-spelled (f ∷ fs) =
    length-append (little_bytes (bytes_of f.width) f.number) (spelled fs) ∙ rw (length-little (bytes_of f.width) f.number, length-spelled fs) refl

-- where the fields' bytes stand, no field is at fault
pub fields_read : (bytes : List ℕ) (place : ℕ) (fs : List Field) → FitFields fs → take (extent fs) (drop place bytes) ≡ spelled fs → first_fault bytes place fs ≡ None
unfolding first_fault spelled number_at
fields_read bytes place [] fit is = refl
fields_read bytes place (f ∷ fs) fit is =
    let cut = take_split (bytes_of f.width) (extent fs) (drop place bytes) (little_bytes (bytes_of f.width) f.number) (spelled fs) (length-little (bytes_of f.width) f.number) is in
    let number = little_read (bytes_of f.width) f.number (drop place bytes) fit.0 cut.0 in
    let next = drop-drop (bytes_of f.width) place bytes in
    let rest = fields_read bytes (place + bytes_of f.width) fs fit.1 (rw (← next) cut.1) in
    rw (eq-eqb (little_number (bytes_of f.width) (drop place bytes)) f.number number) rest

-- where no field is at fault, the fields' bytes stand
pub fields_back : (bytes : List ℕ) (place : ℕ) (fs : List Field) → AreBytes bytes → place + extent fs ≤ length bytes → first_fault bytes place fs ≡ None
    → take (extent fs) (drop place bytes) ≡ spelled fs
unfolding first_fault spelled number_at
fields_back bytes place [] h room none = refl
fields_back bytes place (f ∷ fs) h room none = elim (eqb_tells (little_number (bytes_of f.width) (drop place bytes)) f.number) [
  | inl same ↦
      let rest = fields_back bytes (place + bytes_of f.width) fs h (omega arith) (rw same.0 at none) in
      let here = little_back (bytes_of f.width) f.number (drop place bytes) (bytes-drop bytes place h) (omega (arith, length-drop place bytes)) same.1 in
      let next = drop-drop (bytes_of f.width) place bytes in
      rw (take-add (bytes_of f.width) (extent fs) (drop place bytes), here, next, rest) refl
  | inr other ↦ let k = rw other.0 at none in cc
]
