-- Steps of the loops over fields.
use Rattle.std.proofs.Common.{◌≡◌, ◌≢◌, ℕ, ◌+◌, ◌-◌, ◌*◌, ◌<◌, ◌≤◌, zero, suc, true, false, List, [], ◌∷◌, ◌++◌, length, take, drop, get_or, Some, None, refl, sym, arith}
use Rattle.std.proofs.lemmas.List.{drop_more, drop_all, drop-drop, append_assoc, append-nil}
use Rattle.std.proofs.lemmas.Bool.{lt-ltb, le-ltb}
use Rattle.std.proofs.lemmas.Bool.Decides.{nat_tests}
use Rattle.byteorder.specs.Endian.{little_bytes}
use Rattle.bk_elf.specs.declared.fields.Width.{Width}
use Rattle.bk_elf.specs.declared.fields.Width.TheVariants.{Byte, Half, Word, Xword}
use Rattle.bk_elf.specs.declared.fields.Field.{Field}
use Rattle.bk_elf.specs.Lists.{each, rises_from}
use Rattle.bk_elf.specs.Fields.{field, bytes_of, number_at, extent, spelled, first_fault}

-- the field at a place of a list
abbrev pub field_at : List Field → ℕ → Field
field_at fs i = get_or fs i (field Byte 0)

fault_cons : (bytes : List ℕ) (place : ℕ) (f : Field) (fs : List Field) → number_at bytes place (bytes_of f.width) ≡ f.number
    → first_fault bytes place (f ∷ fs) ≡ first_fault bytes (place + bytes_of f.width) fs
unfolding first_fault
fault_cons bytes place f fs e = grind (arith, nat_tests)

fault_head : (bytes : List ℕ) (place : ℕ) (f : Field) (fs : List Field) → number_at bytes place (bytes_of f.width) ≢ f.number
    → first_fault bytes place (f ∷ fs) ≡ Some place
unfolding first_fault
fault_head bytes place f fs ne = grind (arith, nat_tests)

-- a field that reads as its number is passed
pub fault_after : (bytes : List ℕ) (place : ℕ) (fs : List Field) (i : ℕ) → i < length fs
    → number_at bytes place (bytes_of (field_at fs i).width) ≡ (field_at fs i).number
    → first_fault bytes place (drop i fs) ≡ first_fault bytes (place + bytes_of (field_at fs i).width) (drop (i + 1) fs)
fault_after bytes place fs i lt e = rw (drop_more fs i (field Byte 0) lt) (fault_cons bytes place (field_at fs i) (drop (i + 1) fs) e)

-- a field that does not is the first at fault
pub fault_here : (bytes : List ℕ) (place : ℕ) (fs : List Field) (i : ℕ) → i < length fs
    → number_at bytes place (bytes_of (field_at fs i).width) ≢ (field_at fs i).number
    → first_fault bytes place (drop i fs) ≡ Some place
fault_here bytes place fs i lt ne = rw (drop_more fs i (field Byte 0) lt) (fault_head bytes place (field_at fs i) (drop (i + 1) fs) ne)

pub fault_end : (bytes : List ℕ) (place : ℕ) (fs : List Field) (i : ℕ) → length fs ≤ i → first_fault bytes place (drop i fs) ≡ None
unfolding first_fault
fault_end bytes place fs i le = rw (drop_all i fs le) refl

pub extent_more : (fs : List Field) (i : ℕ) → i < length fs → extent (drop i fs) ≡ bytes_of (field_at fs i).width + extent (drop (i + 1) fs)
extent_more fs i lt = rw (drop_more fs i (field Byte 0) lt) refl

-- what is written and the fields that are left, after one more, and at the end
pub spelled_more : (out : List ℕ) (fs : List Field) (i : ℕ) → i < length fs
    → out ++ spelled (drop i fs) ≡ (out ++ little_bytes (bytes_of (field_at fs i).width) (field_at fs i).number) ++ spelled (drop (i + 1) fs)
unfolding spelled
spelled_more out fs i lt = rw (drop_more fs i (field Byte 0) lt) (sym (append_assoc out (little_bytes (bytes_of (field_at fs i).width) (field_at fs i).number) (spelled (drop (i + 1) fs))))

pub spelled_end : (out : List ℕ) (fs : List Field) (i : ℕ) → length fs ≤ i → out ++ spelled (drop i fs) ≡ out
unfolding spelled
spelled_end out fs i le = rw (drop_all i fs le) (append-nil out)

-- the bytes of a field are the first of the eight bytes of its number
pub low_bytes : (w : Width) (n : ℕ) (rest : List ℕ) → take (bytes_of w) (little_bytes 8 n ++ rest) ≡ little_bytes (bytes_of w) n
low_bytes Byte n rest = refl
low_bytes Half n rest = refl
low_bytes Word n rest = refl
low_bytes Xword n rest = refl

-- what is read and what is left, after one more, and at the end
pub each_more : {X : Type 0} (out : List X) (f : List ℕ → X) (size n k : ℕ) (xs : List ℕ) → k < n
    → out ++ each f size (n - k) (drop (size * k) xs) ≡ (out ++ f (drop (size * k) xs) ∷ []) ++ each f size (n - (k + 1)) (drop (size * (k + 1)) xs)
unfolding each
each_more out f size n k xs lt =
    let left : n - k ≡ suc (n - (k + 1)) = omega arith in
    let next : size * k + size ≡ size * (k + 1) = omega arith in
    rw (left, drop-drop size (size * k) xs, next) (sym (append_assoc out (f (drop (size * k) xs) ∷ []) (each f size (n - (k + 1)) (drop (size * (k + 1)) xs))))

pub each_end : {X : Type 0} (out : List X) (f : List ℕ → X) (size n k : ℕ) (xs : List ℕ) → n ≤ k → out ++ each f size (n - k) xs ≡ out
unfolding each
each_end out f size n k xs le = let none : n - k ≡ zero = omega arith in rw none (append-nil out)

rises_cons : (low x : ℕ) (xs : List ℕ) → low < x → rises_from low (x ∷ xs) ≡ rises_from x xs
rises_cons low x xs lt = rw (lt-ltb low x lt) refl

pub rises_more : (low : ℕ) (xs : List ℕ) (i : ℕ) → i < length xs → low < get_or xs i 0 → rises_from low (drop i xs) ≡ rises_from (get_or xs i 0) (drop (i + 1) xs)
rises_more low xs i lt above = rw (drop_more xs i 0 lt) (rises_cons low (get_or xs i 0) (drop (i + 1) xs) above)

pub rises_here : (low : ℕ) (xs : List ℕ) (i : ℕ) → i < length xs → get_or xs i 0 ≤ low → rises_from low (drop i xs) ≡ false
rises_here low xs i lt below = rw (drop_more xs i 0 lt, le-ltb low (get_or xs i 0) below) refl

pub rises_end : (low : ℕ) (xs : List ℕ) (i : ℕ) → length xs ≤ i → rises_from low (drop i xs) ≡ true
rises_end low xs i le = rw (drop_all i xs le) refl
