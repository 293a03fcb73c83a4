-- Signed numbers and their residues: conversions there and back.
use Rattle.std.proofs.Common.{◌≡◌, ℕ, ◌-◌, ◌*◌, ◌%◌, ◌^◌, ◌<◌, ◌≤◌, suc, arith, ℤ, pos, negsuc, IsTrue}
use Rattle.std.proofs.lemmas.Nat.{pow_pos}
use Rattle.std.proofs.lemmas.Bool.{ltb-true}
use Rattle.std.proofs.lemmas.Bool.Decides.{nat_tests}
use Rattle.std.proofs.Math.Nat.{mod-lt, mod-eq_of_lt}
use Rattle.bk_num.specs.Word.{signed, residue, fits_signed}
use Rattle.bk_num.proofs.Powers.{pow_split}

-- a signed number that fits is spelled by its residue
pub signed_residue : (w : ℕ) (z : ℤ) → 1 ≤ w → IsTrue (fits_signed w z) → signed w (residue w z) ≡ z
signed_residue w (pos n) h f =
    let l : n < 2 ^ (w - 1) = ltb-true n (2 ^ (w - 1)) f in
    let p : 2 ^ w ≡ 2 ^ (w - 1) * 2 ^ 1 = pow_split 1 w h in
    let a : n % 2 ^ w ≡ n = mod-eq_of_lt (omega arith) in
    grind (arith, nat_tests)
signed_residue w (negsuc n) h f =
    let l : n < 2 ^ (w - 1) = ltb-true n (2 ^ (w - 1)) f in
    let p : 2 ^ w ≡ 2 ^ (w - 1) * 2 ^ 1 = pow_split 1 w h in
    let a : n % 2 ^ w ≡ n = mod-eq_of_lt (omega arith) in
    let b : (2 ^ w - 1 - n) % 2 ^ w ≡ 2 ^ w - 1 - n = mod-eq_of_lt (omega arith) in
    grind (arith, nat_tests)

-- the residue of the signed number that n spells
pub residue_signed : (w n : ℕ) → 1 ≤ w → residue w (signed w n) ≡ n % 2 ^ w
residue_signed w n h =
    let p : 2 ^ w ≡ 2 ^ (w - 1) * 2 ^ 1 = pow_split 1 w h in
    let l : n % 2 ^ w < 2 ^ w = mod-lt n (pow_pos w) in
    let a : n % 2 ^ w % 2 ^ w ≡ n % 2 ^ w = mod-eq_of_lt l in
    let b : (2 ^ w - suc (n % 2 ^ w)) % 2 ^ w ≡ 2 ^ w - suc (n % 2 ^ w) = mod-eq_of_lt (omega arith) in
    grind (arith, nat_tests)

-- the signed number that n spells fits
pub signed_fits : (w n : ℕ) → 1 ≤ w → IsTrue (fits_signed w (signed w n))
signed_fits w n h =
    let p : 2 ^ w ≡ 2 ^ (w - 1) * 2 ^ 1 = pow_split 1 w h in
    let l : n % 2 ^ w < 2 ^ w = mod-lt n (pow_pos w) in
    grind (arith, nat_tests)

-- a residue has w bits
pub residue_below : (w : ℕ) (z : ℤ) → residue w z < 2 ^ w
residue_below w (pos n) = mod-lt n (pow_pos w)
residue_below w (negsuc n) = let p : 0 < 2 ^ w = pow_pos w in omega arith
