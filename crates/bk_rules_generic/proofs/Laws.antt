-- The low bits of what expressions give.
use Rattle.std.proofs.Common.{◌≡◌, ℕ, ◌+◌, ◌-◌, ◌*◌, ◌%◌, ◌^◌, ◌≤◌, refl, ap, sym, ◌∙◌, ℤ, negsuc, ◌-ℤ◌, neg_ℤ, bit_and, bit_or, bit_xor}
use Rattle.std.proofs.lemmas.Nat.{mul-mod, and_mod, or_mod, xor_mod}
use Rattle.std.proofs.Math.Nat.{mod-add-mod, add-mod-mod}
use Rattle.bk_num.specs.Word.{residue}
use Rattle.bk_num.proofs.Powers.{mod_mod}
use Rattle.bk_num.proofs.Signs.{residue_below}
use Rattle.bk_ops.specs.Arithmetic.{difference, complement}
use Rattle.bk_ops.proofs.Cut.{sub_64}
use Rattle.bk_ops.proofs.LowBits.{residue-signed, residue-low, residue-neg, residue-complement}
use Rattle.bk_rule.specs.Expressions.{word, wrap}

-- a sum's remainder, from those of its parts
add_mod : (x y m : ℕ) → (x + y) % m ≡ (x % m + y % m) % m
add_mod x y m = sym (simp (mod-add-mod, add-mod-mod))

pub add_law : (w : ℕ) (c d : ℤ) → w ≤ 64 → residue w (wrap (word c + word d)) ≡ (residue w c + residue w d) % 2 ^ w
add_law w c d h =
    residue-signed w 64 (word c + word d) h ∙ (add_mod (word c) (word d) (2 ^ w) ∙ rw (residue-low w 64 c h, residue-low w 64 d h) refl)

pub sub_law : (w : ℕ) (c d : ℤ) → w ≤ 64 → residue w (wrap (word c + (2 ^ 64 - word d))) ≡ difference w (residue w c) (residue w d)
sub_law w c d h =
    residue-signed w 64 (word c + (2 ^ 64 - word d)) h ∙
    (sym (mod_mod (word c + (2 ^ 64 - word d)) w 64 h) ∙ (sub_64 (word c) (word d) w h (residue_below 64 d) ∙ rw (residue-low w 64 c h, residue-low w 64 d h) refl))

pub mul_law : (w : ℕ) (c d : ℤ) → w ≤ 64 → residue w (wrap (word c * word d)) ≡ residue w c * residue w d % 2 ^ w
mul_law w c d h =
    residue-signed w 64 (word c * word d) h ∙ (mul-mod (word c) (word d) (2 ^ w) ∙ rw (residue-low w 64 c h, residue-low w 64 d h) refl)

pub and_law : (w : ℕ) (c d : ℤ) → w ≤ 64 → residue w (wrap (bit_and (word c) (word d))) ≡ bit_and (residue w c) (residue w d)
and_law w c d h =
    residue-signed w 64 (bit_and (word c) (word d)) h ∙ (and_mod (word c) (word d) w ∙ rw (residue-low w 64 c h, residue-low w 64 d h) refl)

pub or_law : (w : ℕ) (c d : ℤ) → w ≤ 64 → residue w (wrap (bit_or (word c) (word d))) ≡ bit_or (residue w c) (residue w d)
or_law w c d h =
    residue-signed w 64 (bit_or (word c) (word d)) h ∙ (or_mod (word c) (word d) w ∙ rw (residue-low w 64 c h, residue-low w 64 d h) refl)

pub xor_law : (w : ℕ) (c d : ℤ) → w ≤ 64 → residue w (wrap (bit_xor (word c) (word d))) ≡ bit_xor (residue w c) (residue w d)
xor_law w c d h =
    residue-signed w 64 (bit_xor (word c) (word d)) h ∙ (xor_mod (word c) (word d) w ∙ rw (residue-low w 64 c h, residue-low w 64 d h) refl)

pub neg_law : (w : ℕ) (c : ℤ) → w ≤ 64 → residue w (wrap (2 ^ 64 - word c)) ≡ (2 ^ w - residue w c) % 2 ^ w
neg_law w c h =
    residue-signed w 64 (2 ^ 64 - word c) h ∙
    (sym (mod_mod (2 ^ 64 - word c) w 64 h) ∙
    (ap (λ n. n % 2 ^ w) (sym (residue-neg 64 c)) ∙ (residue-low w 64 (neg_ℤ c) h ∙ residue-neg w c)))

pub com_law : (w : ℕ) (c : ℤ) → w ≤ 64 → residue w (wrap (2 ^ 64 - 1 - word c)) ≡ complement w (residue w c)
com_law w c h =
    residue-signed w 64 (2 ^ 64 - 1 - word c) h ∙
    (ap (λ n. n % 2 ^ w) (sym (residue-complement 64 c)) ∙ (residue-low w 64 (negsuc 0 -ℤ c) h ∙ residue-complement w c))
