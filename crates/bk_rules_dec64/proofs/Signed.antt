-- Shifts of 64 bits to the right with the sign, from shifts of the halves.
use Rattle.std.proofs.Common.{◌≡◌, ℕ, suc, ◌+◌, ◌-◌, ◌*◌, ◌/◌, ◌%◌, ◌^◌, ◌<◌, ◌≤◌, ap, sym, ◌∙◌, arith, inl, inr, bit_and, ℤ, pos}
use Rattle.std.specs.Int.{int_div_euclid}
use Rattle.std.proofs.lemmas.Bool.{cases_lt}
use Rattle.std.proofs.lemmas.Bool.Decides.{nat_tests}
use Rattle.std.specs.Int.Bits.{and_zero_r}
use Rattle.std.proofs.lemmas.Nat.{pow_pos, mod_below, div-mul-add, and_mask}
use Rattle.std.proofs.Math.Nat.{mod-eq_of_lt, div-add-mod', div-le_self}
use Rattle.bk_num.specs.Word.{signed, residue}
use Rattle.bk_ops.specs.Arithmetic.{zero_mask}
use Rattle.bk_ops.proofs.Order.{signed_low, signed_high}
use Rattle.bk_rules_dec64.proofs.HalfShifts.{rest, past, three_parts, near, near_parts, near_below, far_parts, gone_right, right_whole, right_past, quotient, powers}

abbrev pub shifted : ℕ → ℕ → ℕ → ℕ
shifted w x s = residue w (int_div_euclid (signed w x) (pos (2 ^ s)))

-- ---- one shift
below : (x s : ℕ) → x / 2 ^ s ≤ x
below x s = div-le_self x (2 ^ s)

plus_32 : (h s : ℕ) → h < 2147483648 → shifted 32 h s ≡ h / 2 ^ s
plus_32 h s l =
    let b : h / 2 ^ s ≤ h = below h s in
    let c : h / 2 ^ s < 4294967296 = omega arith in
    ap (λ (z : ℤ). residue 32 (int_div_euclid z (pos (2 ^ s)))) (signed_low 32 h (omega arith) l) ∙ mod-eq_of_lt c

minus_32 : (h s : ℕ) → 2147483648 ≤ h → h < 4294967296 → shifted 32 h s ≡ 4294967295 - (4294967296 - suc h) / 2 ^ s
minus_32 h s i l =
    let b : (4294967296 - suc h) / 2 ^ s ≤ 4294967296 - suc h = below (4294967296 - suc h) s in
    let c : (4294967296 - suc h) / 2 ^ s < 4294967296 = omega arith in
    ap (λ (z : ℤ). residue 32 (int_div_euclid z (pos (2 ^ s)))) (signed_high 32 h i l) ∙ ap (λ n. 4294967295 - n) (mod-eq_of_lt c)

plus_64 : (x s : ℕ) → x < 9223372036854775808 → shifted 64 x s ≡ x / 2 ^ s
plus_64 x s l =
    let b : x / 2 ^ s ≤ x = below x s in
    let c : x / 2 ^ s < 18446744073709551616 = omega arith in
    ap (λ (z : ℤ). residue 64 (int_div_euclid z (pos (2 ^ s)))) (signed_low 64 x (omega arith) l) ∙ mod-eq_of_lt c

minus_64 : (x s : ℕ) → 9223372036854775808 ≤ x → x < 18446744073709551616 → shifted 64 x s ≡ 18446744073709551615 - (18446744073709551616 - suc x) / 2 ^ s
minus_64 x s i l =
    let b : (18446744073709551616 - suc x) / 2 ^ s ≤ 18446744073709551616 - suc x = below (18446744073709551616 - suc x) s in
    let c : (18446744073709551616 - suc x) / 2 ^ s < 18446744073709551616 = omega arith in
    ap (λ (z : ℤ). residue 64 (int_div_euclid z (pos (2 ^ s)))) (signed_high 64 x i l) ∙ ap (λ n. 18446744073709551615 - n) (mod-eq_of_lt c)

pub shifted_below : (h s : ℕ) → h < 2 ^ 32 → shifted 32 h s < 2 ^ 32
shifted_below h s l =
    elim (cases_lt h 2147483648) [
      | inl i ↦ (let e = plus_32 h s i in let b = below h s in omega arith)
      | inr i ↦ (let e = minus_32 h s i l in omega arith)
    ]

no_shift : (h : ℕ) → h < 2 ^ 32 → shifted 32 h 0 ≡ h
no_shift h l =
    elim (cases_lt h 2147483648) [
      | inl i ↦ plus_32 h 0 i ∙ (let e : h / 1 ≡ h = omega arith in e)
      | inr i ↦ minus_32 h 0 i l ∙ (let e : 4294967295 - (4294967296 - suc h) / 1 ≡ h = omega arith in e)
    ]

-- ---- the turned number, M - 1 - h over M - 1 - l
turned : (h l : ℕ) → h < 4294967296 → l < 4294967296 → 18446744073709551616 - suc (h * 4294967296 + l) ≡ (4294967296 - suc h) * 4294967296 + (4294967296 - suc l)
turned h l a b = omega arith

-- quotients of complements: x below T * S
turned_quotient : (T S x : ℕ) → 0 < S → x < T * S → (T * S - suc x) / S ≡ T - suc (x / S)
turned_quotient T S x p l =
    let q : x ≡ x / S * S + x % S = sym (div-add-mod' x S) in
    let r : x % S < S = mod_below x S p in
    let t : x / S < T = quotient S T x p (omega arith) in
    let u : T ≡ T - suc (x / S) + suc (x / S) = omega arith in
    let e : T * S - suc x ≡ (T - suc (x / S)) * S + (S - suc (x % S)) = omega (arith, ap (λ n. n * S) u) in
    ap (λ n. n / S) e ∙ div-mul-add (T - suc (x / S)) S (S - suc (x % S)) (omega arith)

turned_rest : (T S x : ℕ) → 0 < S → x < T * S → (T * S - suc x) % S ≡ S - suc (x % S)
turned_rest T S x p l =
    let r : x % S < S = mod_below x S p in
    let e = div-add-mod' (T * S - suc x) S in
    let f = div-add-mod' x S in
    let g = turned_quotient T S x p l in
    let t : x / S < T = quotient S T x p (omega arith) in
    let k : T ≡ T - suc (x / S) + suc (x / S) = omega arith in
    let m : T * S ≡ (T - suc (x / S) + suc (x / S)) * S = ap (λ n. n * S) k in
    let u : (T * S - suc x) / S * S ≡ (T - suc (x / S)) * S = ap (λ n. n * S) g in
    omega arith

-- the low half of the turned number's shift
near_turned : (T S h l : ℕ) → 0 < T → 0 < S → h < T * S → l < T * S →
    (T * S - suc h) % S * T + (T * S - suc l) / S ≡ T * S - suc (h % S * T + l / S)
near_turned T S h l p q a b =
    let g : (T * S - suc h) % S ≡ S - suc (h % S) = turned_rest T S h q a in
    let k : (T * S - suc l) / S ≡ T - suc (l / S) = turned_quotient T S l q b in
    let r : h % S < S = mod_below h S q in
    let u : S ≡ S - suc (h % S) + suc (h % S) = omega arith in
    let t : l / S < T = quotient S T l q (omega arith) in
    ap (λ n. n * T + (T * S - suc l) / S) g ∙ (ap (λ n. (S - suc (h % S)) * T + n) k ∙ omega (arith, ap (λ n. n * T) u))

-- ---- both halves at counts below 32
near_of_turned : (h l s : ℕ) → h < 4294967296 → l < 4294967296 → s < 32 → near (4294967296 - suc h) (4294967296 - suc l) s ≡ 4294967296 - suc (near h l s)
near_of_turned h l s a b i =
    let M = powers s i in
    let c : h < 2 ^ (32 - s) * 2 ^ s = omega arith in
    let d : l < 2 ^ (32 - s) * 2 ^ s = omega arith in
    ap (λ m. (m - suc h) % 2 ^ s * 2 ^ (32 - s) + (m - suc l) / 2 ^ s) M ∙
    (near_turned (2 ^ (32 - s)) (2 ^ s) h l (pow_pos (32 - s)) (pow_pos s) c d ∙ ap (λ m. m - suc (near h l s)) (sym M))

complemented : (p n : ℕ) → p < 4294967296 → n < 4294967296 → 18446744073709551615 - (p * 4294967296 + (4294967296 - suc n)) ≡ (4294967295 - p) * 4294967296 + n
complemented p n a b = omega arith

near_whole : (h l s : ℕ) → h < 2 ^ 32 → l < 2 ^ 32 → s < 32 → shifted 64 (h * 2 ^ 32 + l) s ≡ shifted 32 h s * 2 ^ 32 + near h l s
near_whole h l s a b i =
    elim (cases_lt h 2147483648) [
      | inl j ↦
          (let p : h * 4294967296 + l < 9223372036854775808 = omega arith in
          plus_64 (h * 2 ^ 32 + l) s p ∙ (right_whole h l s i ∙ ap (λ n. n * 2 ^ 32 + near h l s) (sym (plus_32 h s j))))
      | inr j ↦
          (let p : 9223372036854775808 ≤ h * 4294967296 + l = omega arith in
          let q : h * 4294967296 + l < 18446744073709551616 = omega arith in
          let r : (4294967296 - suc h) / 2 ^ s ≤ 4294967296 - suc h = below (4294967296 - suc h) s in
          let t : (4294967296 - suc h) / 2 ^ s < 4294967296 = omega arith in
          minus_64 (h * 2 ^ 32 + l) s p q ∙
          (ap (λ n. 18446744073709551615 - n / 2 ^ s) (turned h l a b) ∙
          (ap (λ n. 18446744073709551615 - n) (right_whole (4294967296 - suc h) (4294967296 - suc l) s i) ∙
          (ap (λ n. 18446744073709551615 - ((4294967296 - suc h) / 2 ^ s * 4294967296 + n)) (near_of_turned h l s a b i) ∙
          (complemented ((4294967296 - suc h) / 2 ^ s) (near h l s) t (near_below h l s b i) ∙
          ap (λ n. n * 2 ^ 32 + near h l s) (sym (minus_32 h s j a)))))))
    ]

-- ---- both halves from 32 on
far_whole : (h l s : ℕ) → h < 2 ^ 32 → l < 2 ^ 32 → 32 ≤ s → shifted 64 (h * 2 ^ 32 + l) s ≡ shifted 32 h s * 2 ^ 32 + shifted 32 h (s - 32)
far_whole h l s a b i =
    elim (cases_lt h 2147483648) [
      | inl j ↦
          (let p : h * 4294967296 + l < 9223372036854775808 = omega arith in
          let z : shifted 32 h s ≡ 0 = plus_32 h s j ∙ gone_right 32 h s i a in
          let q : shifted 32 h (s - 32) ≡ h / 2 ^ (s - 32) = plus_32 h (s - 32) j in
          let r : shifted 64 (h * 2 ^ 32 + l) s ≡ h / 2 ^ (s - 32) = plus_64 (h * 2 ^ 32 + l) s p ∙ right_past h l s b i in
          joined (shifted 64 (h * 2 ^ 32 + l) s) (shifted 32 h s) (shifted 32 h (s - 32)) (h / 2 ^ (s - 32)) z q r)
      | inr j ↦
          (let p : 9223372036854775808 ≤ h * 4294967296 + l = omega arith in
          let q : h * 4294967296 + l < 18446744073709551616 = omega arith in
          let c : 4294967296 - suc l < 4294967296 = omega arith in
          let d : 4294967296 - suc h < 4294967296 = omega arith in
          let z : shifted 32 h s ≡ 4294967295 = minus_32 h s j a ∙ ap (λ n. 4294967295 - n) (gone_right 32 (4294967296 - suc h) s i d) in
          let t : (4294967296 - suc h) / 2 ^ (s - 32) ≤ 4294967296 - suc h = below (4294967296 - suc h) (s - 32) in
          let u : shifted 32 h (s - 32) ≡ 4294967295 - (4294967296 - suc h) / 2 ^ (s - 32) = minus_32 h (s - 32) j a in
          let r : shifted 64 (h * 2 ^ 32 + l) s ≡ 18446744073709551615 - (4294967296 - suc h) / 2 ^ (s - 32) =
          minus_64 (h * 2 ^ 32 + l) s p q ∙
          (ap (λ n. 18446744073709551615 - n / 2 ^ s) (turned h l a b) ∙ ap (λ n. 18446744073709551615 - n) (right_past (4294967296 - suc h) (4294967296 - suc l) s c i)) in
          signs (shifted 64 (h * 2 ^ 32 + l) s) (shifted 32 h s) (shifted 32 h (s - 32)) ((4294967296 - suc h) / 2 ^ (s - 32)) (omega arith) z u r)
    ]
  where
    joined : (w x y n : ℕ) → x ≡ 0 → y ≡ n → w ≡ n → w ≡ x * 4294967296 + y
    joined w x y n e f g = omega arith

    signs : (w x y n : ℕ) → n < 4294967296 → x ≡ 4294967295 → y ≡ 4294967295 - n → w ≡ 18446744073709551615 - n → w ≡ x * 4294967296 + y
    signs w x y n l e f g = omega arith

-- ---- as the halves make it
-- the part with the sign counts at counts of 32 and more alone
abbrev pub masked : ℕ → ℕ → ℕ
masked h s = bit_and (shifted 32 h (past s) % 2 ^ 32) (zero_mask 32 (s / 2 ^ 5 % 2 ^ 32) % 2 ^ 32)

abbrev pub with_sign : ℕ → ℕ → ℕ → ℕ
with_sign h l s = shifted 32 h s % 2 ^ 32 * 2 ^ 32 + three_parts (l / 2 ^ s) (h * 2 ^ rest s % 2 ^ 32) (masked h s)

masked_near : (h s : ℕ) → s < 32 → masked h s ≡ 0
masked_near h s i =
    let q : s / 32 % 4294967296 ≡ 0 = omega arith in
    let z : zero_mask 32 (s / 32 % 4294967296) ≡ 0 = grind (arith, nat_tests) in
    ap (λ n. bit_and (shifted 32 h (past s) % 2 ^ 32) (n % 2 ^ 32)) z ∙ and_zero_r (shifted 32 h (past s) % 2 ^ 32)

masked_far : (h s : ℕ) → h < 2 ^ 32 → 32 ≤ s → s < 2 ^ 32 → masked h s ≡ shifted 32 h (s - 32)
masked_far h s a i j =
    let q : 0 < s / 32 % 4294967296 = omega arith in
    let z : zero_mask 32 (s / 32 % 4294967296) ≡ 4294967295 = grind (arith, nat_tests) in
    let p : past s ≡ s - 32 = past_is s i j in
    let b : shifted 32 h (s - 32) < 2 ^ 32 = shifted_below h (s - 32) a in
    ap (λ n. bit_and (shifted 32 h (past s) % 2 ^ 32) (n % 2 ^ 32)) z ∙
    (ap (λ n. bit_and (shifted 32 h n % 2 ^ 32) 4294967295) p ∙
    (and_mask (shifted 32 h (s - 32) % 2 ^ 32) 32 ∙ (ap (λ n. n % 2 ^ 32) (mod-eq_of_lt b) ∙ mod-eq_of_lt b)))
  where
    past_is : (s : ℕ) → 32 ≤ s → s < 4294967296 → past s ≡ s - 32
    past_is s i j = omega arith

-- with the high half as it is
cut_high : (h l s n : ℕ) → h < 2 ^ 32 → shifted 32 h s % 2 ^ 32 * 2 ^ 32 + n ≡ shifted 32 h s * 2 ^ 32 + n
cut_high h l s n a = ap (λ k. k * 2 ^ 32 + n) (mod-eq_of_lt (shifted_below h s a))

signed_near : (h l s : ℕ) → h < 2 ^ 32 → l < 2 ^ 32 → s < 32 → with_sign h l s ≡ shifted 64 (h * 2 ^ 32 + l) s
signed_near h l s a b i =
    cut_high h l s _ a ∙ (ap (λ n. shifted 32 h s * 2 ^ 32 + n) (near_parts h l s (masked h s) b i (masked_near h s i)) ∙ sym (near_whole h l s a b i))

signed_far : (h l s : ℕ) → h < 2 ^ 32 → l < 2 ^ 32 → 32 ≤ s → s < 2 ^ 32 → with_sign h l s ≡ shifted 64 (h * 2 ^ 32 + l) s
signed_far h l s a b i j =
    cut_high h l s _ a ∙
    (ap (λ n. shifted 32 h s * 2 ^ 32 + three_parts (l / 2 ^ s) (h * 2 ^ rest s % 2 ^ 32) n) (masked_far h s a i j) ∙
    (ap (λ n. shifted 32 h s * 2 ^ 32 + n)
    (far_parts h l (shifted 32 h (s - 32)) s a b (shifted_below h (s - 32) a) i j (λ e. ap (λ n. shifted 32 h (n - 32)) e ∙ no_shift h a)) ∙
    sym (far_whole h l s a b i)))

pub signed_law : (h l s : ℕ) → h < 2 ^ 32 → l < 2 ^ 32 → s < 2 ^ 32 → with_sign h l s ≡ shifted 64 (h * 2 ^ 32 + l) s
signed_law h l s a b j =
    elim (cases_lt s 32) [
      | inl i ↦ signed_near h l s a b i
      | inr i ↦ signed_far h l s a b i j
    ]
