-- What is left of a signed number in w bits, and shifts right with the sign.
use Rattle.std.proofs.Common.{◌≡◌, ℕ, ◌+◌, ◌-◌, ◌*◌, ◌/◌, ◌%◌, ◌^◌, ◌<◌, ◌≤◌, suc, ap, ◌∙◌, sym, subst, lit<, arith, refl, ℤ, pos, negsuc, to_z, of_z, FitsSigned, w64, ◌⊎◌, inl, inr, ◌*ℤ◌}
use Rattle.std.specs.Int.{int_div_euclid, w128}
use lib.Signed.{shr_z, mag_shr}
use Rattle.std.specs.Int.RustNames.{unsigned_abs}
use Rattle.std.proofs.lemmas.Nat.{pow_pos, div_below, mod_low, shr_below, div-add-mod'}
use Rattle.std.proofs.lemmas.Int.{to_z-of_z, fits_signed_mul}
use Rattle.std.proofs.Math.Pow.{pow_mono}
use Rattle.std.proofs.Math.Nat.{mod-lt}
use Rattle.bk_num.specs.Word.{residue}
use Rattle.bk_num.proofs.Powers.{pow_split}

-- a multiple of m less a number, as a multiple of m and a rest
folded : (t m h q r n : ℕ) → n ≡ q * m + r → r < m → t ≡ (h + suc q) * m → t - suc n ≡ h * m + (m - suc r)
folded t m h q r n e l f = omega arith

-- the low w bits of a number's complement
complement : (w n : ℕ) → w ≤ 64 → n < 2 ^ 128 → (2 ^ 128 - suc n) % 2 ^ w ≡ 2 ^ w - suc (n % 2 ^ w)
complement w n h b =
    let e : 128 ≡ 128 - w + w = omega arith in
    let p : 2 ^ 128 ≡ 2 ^ (128 - w) * 2 ^ w = pow_split w 128 (omega arith) in
    let q : n / 2 ^ w < 2 ^ (128 - w) = shr_below n (128 - w) w (let P : ℕ → Type 0 = λ k. n < 2 ^ k in subst P e b) in
    let r : n % 2 ^ w < 2 ^ w = mod-lt n (pow_pos w) in
    let f : 2 ^ 128 - suc n ≡ (2 ^ (128 - w) - suc (n / 2 ^ w)) * 2 ^ w + (2 ^ w - suc (n % 2 ^ w)) =
    folded (2 ^ 128) (2 ^ w) (2 ^ (128 - w) - suc (n / 2 ^ w)) (n / 2 ^ w) (n % 2 ^ w) n (sym (div-add-mod' n (2 ^ w))) r
    (p ∙ ap (λ k. k * 2 ^ w) (let g : 2 ^ (128 - w) ≡ 2 ^ (128 - w) - suc (n / 2 ^ w) + suc (n / 2 ^ w) = omega arith in g)) in
    ap (λ k. k % 2 ^ w) f ∙ mod_low _ w _ (omega arith)

-- the low bits of the machine's 128 bits are the residue
pub residue_is : (w : ℕ) (v : ℤ) → w ≤ 64 → FitsSigned w128 v → of_z w128 v % 2 ^ w ≡ residue w v
residue_is w (pos n) h f = refl
residue_is w (negsuc n) h f = complement w n h (omega (arith, f.sfits)) ∙ (omega arith)

-- a shift by 63 and more leaves nothing of a number below 2 ^ 63
gone : (a by count : ℕ) → a < 2 ^ 63 → (by ≡ 63) × (63 ≤ count) → a / 2 ^ by ≡ a / 2 ^ count
gone a by count l e =
    let m : 2 ^ 63 ≤ 2 ^ count = pow_mono {i = 63} {j = count} e.1 in
    let x : a / 2 ^ 63 < 1 = div_below a (2 ^ 63) 1 (pow_pos 63) (omega arith) in
    let y : a / 2 ^ count < 1 = div_below a (2 ^ count) 1 (pow_pos count) (omega arith) in
    ap (λ k. a / 2 ^ k) e.0 ∙ (omega arith)

-- a shift by 63 and more has the sign alone left
pub shift_is : (v : ℤ) (by count : ℕ) → FitsSigned w64 v → (by ≡ count) ⊎ ((by ≡ 63) × (63 ≤ count)) → shr_z v (2 ^ by) ≡ int_div_euclid v (pos (2 ^ count))
shift_is (pos a) by count f (inl e) = ap (λ k. pos (a / 2 ^ k)) e
shift_is (negsuc a) by count f (inl e) = ap (λ k. negsuc (a / 2 ^ k)) e
shift_is (pos a) by count f (inr e) = ap pos (gone a by count (f.sfits) e)
shift_is (negsuc a) by count f (inr e) = ap negsuc (gone a by count (f.sfits) e)

-- a shift right keeps a number within 64 bits
pub shifted : (v : ℤ) (m : ℕ) → FitsSigned w64 v → to_z w128 (of_z w128 (to_z w64 (of_z w64 (shr_z (to_z w64 (of_z w64 v)) m)))) ≡ shr_z v m
shifted v m f =
    let g : FitsSigned w64 (shr_z v m) = record { sfits = omega (arith, mag_shr v m, f.sfits) } in
    let g' : FitsSigned w128 (shr_z v m) = record { sfits = omega (arith, mag_shr v m, f.sfits) } in
    rw (to_z-of_z w64 v f) (rw (to_z-of_z w64 (shr_z v m) g) (to_z-of_z w128 (shr_z v m) g'))

-- a shift right rounds down
shr_is : (v : ℤ) (m : ℕ) → shr_z v m ≡ int_div_euclid v (pos m)
shr_is (pos a) m = refl
shr_is (negsuc a) m = refl

-- the size of a number of 64 bits
abs_le : (a : ℤ) → FitsSigned w64 a → unsigned_abs a ≤ 2 ^ 63
abs_le (pos n) f = omega (arith, f.sfits)
abs_le (negsuc n) f = omega (arith, f.sfits)

-- a 128 bit product of two 64 bit numbers, shifted right
pub high : (a b : ℤ) (m : ℕ) → FitsSigned w64 a → FitsSigned w64 b → to_z w128 (of_z w128 (shr_z (to_z w128 (of_z w128 (to_z w128 (of_z w128 (to_z w64 (of_z w64 a))) *ℤ to_z w128 (of_z w128 (to_z w64 (of_z w64 b)))))) m)) ≡ int_div_euclid (a *ℤ b) (pos m)
high a b m f g =
    let fa : FitsSigned w128 a = record { sfits = omega (arith, f.sfits) } in
    let fb : FitsSigned w128 b = record { sfits = omega (arith, g.sfits) } in
    let p : FitsSigned w128 (a *ℤ b) = fits_signed_mul w128 a b (2 ^ 63) (2 ^ 63) (abs_le a f) (abs_le b g) (lit< tt) in
    let q : FitsSigned w128 (shr_z (a *ℤ b) m) = record { sfits = omega (arith, mag_shr (a *ℤ b) m, p.sfits) } in
    rw (to_z-of_z w64 a f) (rw (to_z-of_z w64 b g) (rw (to_z-of_z w128 a fa) (rw (to_z-of_z w128 b fb) (rw (to_z-of_z w128 (a *ℤ b) p) (to_z-of_z w128 (shr_z (a *ℤ b) m) q ∙ shr_is (a *ℤ b) m)))))
