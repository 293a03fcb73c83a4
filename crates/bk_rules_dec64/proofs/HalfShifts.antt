-- Shifts of 64 bits, from shifts of their halves. The three parts of a half that is shifted into meet without a common bit at counts
-- below 32, and one of them is all there is from 32 on.
use Rattle.std.proofs.Common.{◌≡◌, ℕ, ◌+◌, ◌-◌, ◌*◌, ◌/◌, ◌%◌, ◌^◌, ◌<◌, ◌≤◌, refl, ap, sym, ◌∙◌, arith, inl, inr, ◌⊎◌, bit_or}
use Rattle.std.specs.Int.Bits.{or_zero_r, or_zero_l, or_self, or_shifted_r}
use Rattle.std.proofs.lemmas.Bool.{cases_lt}
use Rattle.std.proofs.lemmas.Nat.{pow_pos, mod_below, div_below, mod-mul-add, div-mul-add, mul-add-lt, or_shifted, pow-add}
use Rattle.std.proofs.Math.Nat.{mod-eq_of_lt, mod-mod, div-add-mod', div-eq_of_lt, div-div-eq-div-mul, div-le_self}
use Rattle.std.proofs.Math.Pow.{pow_mono}
use Rattle.bk_num.proofs.Powers.{pow_split, shl_gone}
use Rattle.bk_rules_dec64.proofs.Halves.{nothing}

-- ---- counts
-- the counts of the three parts of a half that is shifted into
abbrev pub rest : ℕ → ℕ
rest s = (32 + (2 ^ 32 - s)) % 2 ^ 32 % 2 ^ 32

abbrev pub past : ℕ → ℕ
past s = (s + (2 ^ 32 - 32)) % 2 ^ 32 % 2 ^ 32

rest_small : (s : ℕ) → s < 32 → rest s ≡ 32 - s
rest_small s i = omega arith

rest_far : (s : ℕ) → 32 < s → s < 4294967296 → 32 ≤ rest s
rest_far s i j = omega arith

past_small : (s : ℕ) → s < 32 → 32 ≤ past s
past_small s i = omega arith

past_far : (s : ℕ) → 32 ≤ s → s < 4294967296 → past s ≡ s - 32
past_far s i j = omega arith

-- ---- shifts of a half by all of its bits
gone_left : (x c : ℕ) → 32 ≤ c → x * 2 ^ c % 2 ^ 32 ≡ 0
gone_left x c h = sym (shl_gone 32 x c h)

pub gone_right : (w x c : ℕ) → w ≤ c → x < 2 ^ w → x / 2 ^ c ≡ 0
gone_right w x c h l = let m : 2 ^ w ≤ 2 ^ c = pow_mono h in div-eq_of_lt (omega arith)

right_below : (x c : ℕ) → x < 2 ^ 32 → x / 2 ^ c < 2 ^ 32
right_below x c l = let d : x / 2 ^ c ≤ x = div-le_self x (2 ^ c) in omega arith

-- ---- the parts of numbers below T * S
lower : (T S l : ℕ) → 0 < T → 0 < S → (l % T) * S < T * S
lower T S l p q = omega (arith, mul-add-lt (l % T) S 0 T (mod_below l T p) q)

pub quotient : (T S l : ℕ) → 0 < T → l < T * S → l / T < S
quotient T S l p b = div_below l T S p (omega arith)

upper : (T S h l : ℕ) → 0 < T → l < T * S → (h % T) * S + l / T < T * S
upper T S h l p b = omega (arith, mul-add-lt (h % T) S (l / T) T (mod_below h T p) (quotient T S l p b))

pub low_half : (T S l : ℕ) → 0 < T → 0 < S → (l * S) % (T * S) ≡ (l % T) * S
low_half T S l p q =
    let e : l * S ≡ (l / T) * (T * S) + (l % T) * S = omega (arith, ap (λ n. n * S) (div-add-mod' l T)) in
    ap (λ n. n % (T * S)) e ∙ mod-mul-add (l / T) (T * S) ((l % T) * S) (lower T S l p q)

-- ---- to the left
whole_left : (T S h l : ℕ) → 0 < T → 0 < S → l < T * S →
    ((h * (T * S) + l) * S) % ((T * S) * (T * S)) ≡ ((h % T) * S + l / T) * (T * S) + (l % T) * S
whole_left T S h l p q b =
    let e : (h * (T * S) + l) * S ≡ (h / T) * ((T * S) * (T * S)) + (((h % T) * S + l / T) * (T * S) + (l % T) * S) =
    omega (arith, ap (λ n. n * S) (div-add-mod' l T), ap (λ n. n * (T * S * S)) (div-add-mod' h T)) in
    ap (λ n. n % ((T * S) * (T * S))) e ∙ mod-mul-add (h / T) ((T * S) * (T * S)) (((h % T) * S + l / T) * (T * S) + (l % T) * S) (mul-add-lt ((h % T) * S + l / T) (T * S) ((l % T) * S) (T * S) (upper T S h l p b) (lower T S l p q))

-- a pair whose high half has three parts, each cut to its bits
abbrev pub three_parts : ℕ → ℕ → ℕ → ℕ
three_parts a b c = bit_or (bit_or (a % 2 ^ 32) (b % 2 ^ 32) % 2 ^ 32) (c % 2 ^ 32) % 2 ^ 32

parts_are : (a b c p q r : ℕ) → a ≡ p → b ≡ q → c ≡ r → three_parts a b c ≡ three_parts p q r
parts_are a b c p q r e f g =
    ap (λ n. three_parts n b c) e ∙ (ap (λ n. three_parts p n c) f ∙ ap (λ n. three_parts p q n) g)

-- two parts without a common bit
first_two : (a b : ℕ) → bit_or a b ≡ a + b → a + b < 2 ^ 32 → three_parts a b 0 ≡ a + b
first_two a b o l =
    let p : a < 4294967296 = omega arith in
    let q : b < 4294967296 = omega arith in
    ap (λ n. bit_or (bit_or n (b % 2 ^ 32) % 2 ^ 32) 0 % 2 ^ 32) (mod-eq_of_lt p) ∙
    (ap (λ n. bit_or (bit_or a n % 2 ^ 32) 0 % 2 ^ 32) (mod-eq_of_lt q) ∙
    (ap (λ n. bit_or (n % 2 ^ 32) 0 % 2 ^ 32) o ∙
    (ap (λ n. bit_or n 0 % 2 ^ 32) (mod-eq_of_lt l) ∙ (ap (λ n. n % 2 ^ 32) (or_zero_r (a + b)) ∙ mod-eq_of_lt l))))

-- the last part alone
last_alone : (b c : ℕ) → c < 2 ^ 32 → (b ≡ 0) ⊎ (b ≡ c) → three_parts 0 b c ≡ c
last_alone b c l (inl z) =
    ap (λ n. three_parts 0 n c) z ∙ (ap (λ n. bit_or 0 n % 2 ^ 32) (mod-eq_of_lt l) ∙ (ap (λ n. n % 2 ^ 32) (or_zero_l c) ∙ mod-eq_of_lt l))
last_alone b c l (inr z) =
    ap (λ n. three_parts 0 n c) z ∙
    (ap (λ n. bit_or (bit_or 0 n % 2 ^ 32) n % 2 ^ 32) (mod-eq_of_lt l) ∙
    (ap (λ n. bit_or (n % 2 ^ 32) c % 2 ^ 32) (or_zero_l c) ∙
    (ap (λ n. bit_or n c % 2 ^ 32) (mod-eq_of_lt l) ∙ (ap (λ n. n % 2 ^ 32) (or_self c) ∙ mod-eq_of_lt l))))

abbrev pub to_left : ℕ → ℕ → ℕ → ℕ
to_left h l s = three_parts (h * 2 ^ s % 2 ^ 32) (l / 2 ^ rest s) (l * 2 ^ past s % 2 ^ 32) * 2 ^ 32 + l * 2 ^ s % 2 ^ 32 % 2 ^ 32

-- 2 ^ 32 as the product of the two powers of a count below 32
pub powers : (s : ℕ) → s < 32 → 4294967296 ≡ 2 ^ (32 - s) * 2 ^ s
powers s i = pow_split s 32 (omega arith)

left_small : (h l s : ℕ) → l < 2 ^ 32 → s < 32 → to_left h l s ≡ (h * 2 ^ 32 + l) * 2 ^ s % 2 ^ 64
left_small h l s b i =
    let T = 2 ^ (32 - s) in
    let S = 2 ^ s in
    let M : 4294967296 ≡ T * S = powers s i in
    let t = pow_pos (32 - s) in
    let u = pow_pos s in
    let c : l < T * S = omega arith in
    let eh : h * S % 4294967296 ≡ (h % T) * S = ap (λ m. h * S % m) M ∙ low_half T S h t u in
    let el : l * S % 4294967296 ≡ (l % T) * S = ap (λ m. l * S % m) M ∙ low_half T S l t u in
    let er : l / 2 ^ rest s ≡ l / T = ap (λ n. l / 2 ^ n) (rest_small s i) in
    let ez : l * 2 ^ past s % 4294967296 ≡ 0 = gone_left l (past s) (past_small s i) in
    let o : bit_or ((h % T) * S) (l / T) ≡ (h % T) * S + l / T = or_shifted (h % T) s (l / T) (quotient T S l t c) in
    let k : (h % T) * S + l / T < 4294967296 = omega (arith, M, upper T S h l t c) in
    let top : three_parts (h * 2 ^ s % 2 ^ 32) (l / 2 ^ rest s) (l * 2 ^ past s % 2 ^ 32) ≡ (h % T) * S + l / T = parts_are _ _ _ ((h % T) * S) (l / T) 0 eh er ez ∙ first_two ((h % T) * S) (l / T) o k in
    ap (λ n. n * 2 ^ 32 + l * 2 ^ s % 2 ^ 32 % 2 ^ 32) top ∙
    (ap (λ n. ((h % T) * S + l / T) * 2 ^ 32 + n) (mod-mod (l * S) (2 ^ 32) ∙ el) ∙
    (ap (λ m. ((h % T) * S + l / T) * m + (l % T) * S) M ∙
    (sym (whole_left T S h l t u c) ∙ ap (λ m. ((h * m + l) * S) % (m * m)) (sym M))))

moved : (M S h l : ℕ) → 0 < M → ((h * M + l) * (M * S)) % (M * M) ≡ (l * S) % M * M
moved M S h l p =
    let e : (h * M + l) * (M * S) ≡ (h * S + l * S / M) * (M * M) + (l * S) % M * M = omega (arith, ap (λ n. n * M) (div-add-mod' (l * S) M)) in
    ap (λ n. n % (M * M)) e ∙ mod-mul-add (h * S + l * S / M) (M * M) ((l * S) % M * M)
    (omega (arith, mul-add-lt ((l * S) % M) M 0 M (mod_below (l * S) M p) p))

-- at 32 the part from the other half is whole, and so is the last part
carried_left : (l s : ℕ) → l < 2 ^ 32 → 32 ≤ s → s < 2 ^ 32 → (l / 2 ^ rest s ≡ 0) ⊎ (l / 2 ^ rest s ≡ l * 2 ^ (s - 32) % 2 ^ 32)
carried_left l s b i j =
    elim (cases_lt 32 s) [
      | inl k ↦ inl (gone_right 32 l (rest s) (rest_far s k j) b)
      | inr k ↦
          (let e : s ≡ 32 = omega arith in
          let z : l / 1 ≡ l * 1 % 4294967296 = omega arith in
          inr (ap (λ n. l / 2 ^ rest n) e ∙ (z ∙ ap (λ n. l * 2 ^ (n - 32) % 2 ^ 32) (sym e))))
    ]

left_far : (h l s : ℕ) → l < 2 ^ 32 → 32 ≤ s → s < 2 ^ 32 → to_left h l s ≡ l * 2 ^ (s - 32) % 2 ^ 32 * 2 ^ 32
left_far h l s b i j =
    let c : l * 2 ^ past s % 2 ^ 32 ≡ l * 2 ^ (s - 32) % 2 ^ 32 = ap (λ n. l * 2 ^ n % 2 ^ 32) (past_far s i j) in
    let z : l * 2 ^ s % 2 ^ 32 % 2 ^ 32 ≡ 0 = mod-mod (l * 2 ^ s) (2 ^ 32) ∙ gone_left l s i in
    let top : three_parts (h * 2 ^ s % 2 ^ 32) (l / 2 ^ rest s) (l * 2 ^ past s % 2 ^ 32) ≡ l * 2 ^ (s - 32) % 2 ^ 32 =
    parts_are _ _ _ 0 (l / 2 ^ rest s) (l * 2 ^ (s - 32) % 2 ^ 32) (gone_left h s i) refl c ∙
    last_alone (l / 2 ^ rest s) (l * 2 ^ (s - 32) % 2 ^ 32) (mod_below (l * 2 ^ (s - 32)) (2 ^ 32) (omega arith)) (carried_left l s b i j) in
    ap (λ n. n * 2 ^ 32 + l * 2 ^ s % 2 ^ 32 % 2 ^ 32) top ∙
    (ap (λ n. l * 2 ^ (s - 32) % 2 ^ 32 * 2 ^ 32 + n) z ∙ (let q : l * 2 ^ (s - 32) % 4294967296 * 4294967296 + 0 ≡ l * 2 ^ (s - 32) % 4294967296 * 4294967296 = omega arith in q))

left_whole : (h l s : ℕ) → 32 ≤ s → (h * 2 ^ 32 + l) * 2 ^ s % 2 ^ 64 ≡ l * 2 ^ (s - 32) % 2 ^ 32 * 2 ^ 32
left_whole h l s i =
    let e : 32 + (s - 32) ≡ s = omega arith in
    let p : 2 ^ s ≡ 2 ^ 32 * 2 ^ (s - 32) = ap (λ n. 2 ^ n) (sym e) ∙ pow-add 2 32 (s - 32) in
    ap (λ n. (h * 2 ^ 32 + l) * n % 2 ^ 64) p ∙ moved (2 ^ 32) (2 ^ (s - 32)) h l (omega arith)

pub left_law : (h l s : ℕ) → l < 2 ^ 32 → s < 2 ^ 32 → to_left h l s ≡ (h * 2 ^ 32 + l) * 2 ^ s % 2 ^ 64
left_law h l s b j =
    elim (cases_lt s 32) [
      | inl i ↦ left_small h l s b i
      | inr i ↦ left_far h l s b i j ∙ sym (left_whole h l s i)
    ]

-- ---- to the right
abbrev pub to_right : ℕ → ℕ → ℕ → ℕ
to_right h l s = h / 2 ^ s % 2 ^ 32 * 2 ^ 32 + three_parts (l / 2 ^ s) (h * 2 ^ rest s % 2 ^ 32) (h / 2 ^ past s)

-- the low half of what is left at a count below 32
abbrev pub near : ℕ → ℕ → ℕ → ℕ
near h l s = (h % 2 ^ s) * 2 ^ (32 - s) + l / 2 ^ s

switched : (s : ℕ) → s < 32 → 4294967296 ≡ 2 ^ s * 2 ^ (32 - s)
switched s i = let p = powers s i in omega arith

pub near_below : (h l s : ℕ) → l < 2 ^ 32 → s < 32 → near h l s < 2 ^ 32
near_below h l s b i =
    let M = switched s i in
    let c : l < 2 ^ s * 2 ^ (32 - s) = omega arith in
    omega (arith, M, upper (2 ^ s) (2 ^ (32 - s)) h l (pow_pos s) c)

-- two parts of the low half, at a count below 32
pub near_parts : (h l s c : ℕ) → l < 2 ^ 32 → s < 32 → c ≡ 0 → three_parts (l / 2 ^ s) (h * 2 ^ rest s % 2 ^ 32) c ≡ near h l s
near_parts h l s c b i z =
    let T = 2 ^ (32 - s) in
    let S = 2 ^ s in
    let M : 4294967296 ≡ S * T = switched s i in
    let t = pow_pos (32 - s) in
    let u = pow_pos s in
    let d : l < S * T = omega arith in
    let er : h * 2 ^ rest s % 4294967296 ≡ (h % S) * T = ap (λ n. h * 2 ^ n % 4294967296) (rest_small s i) ∙ (ap (λ m. h * T % m) M ∙ low_half S T h u t) in
    let o : bit_or (l / S) ((h % S) * T) ≡ (h % S) * T + l / S = or_shifted_r (h % S) (32 - s) (l / S) (quotient S T l u d) in
    let k : (h % S) * T + l / S < 4294967296 = near_below h l s b i in
    let w : (h % S) * T + l / S ≡ l / S + (h % S) * T = omega arith in
    parts_are _ _ _ (l / S) ((h % S) * T) 0 refl er z ∙ (first_two (l / S) ((h % S) * T) (o ∙ w) (omega arith) ∙ sym w)

whole_right : (T S h l : ℕ) → 0 < S → (h * (T * S) + l) / S ≡ h / S * (T * S) + ((h % S) * T + l / S)
whole_right T S h l p =
    let e : h * (T * S) + l ≡ (h / S * (T * S) + ((h % S) * T + l / S)) * S + l % S =
    omega (arith, div-add-mod' l S, ap (λ n. n * (T * S)) (div-add-mod' h S)) in
    ap (λ n. n / S) e ∙ div-mul-add (h / S * (T * S) + ((h % S) * T + l / S)) S (l % S) (mod_below l S p)

pub right_whole : (h l s : ℕ) → s < 32 → (h * 2 ^ 32 + l) / 2 ^ s ≡ h / 2 ^ s * 2 ^ 32 + near h l s
right_whole h l s i =
    let M = powers s i in
    ap (λ m. (h * m + l) / 2 ^ s) M ∙ (whole_right (2 ^ (32 - s)) (2 ^ s) h l (pow_pos s) ∙ ap (λ m. h / 2 ^ s * m + near h l s) (sym M))

pub right_past : (h l s : ℕ) → l < 2 ^ 32 → 32 ≤ s → (h * 2 ^ 32 + l) / 2 ^ s ≡ h / 2 ^ (s - 32)
right_past h l s b i =
    let e : 32 + (s - 32) ≡ s = omega arith in
    let p : 2 ^ s ≡ 2 ^ 32 * 2 ^ (s - 32) = ap (λ n. 2 ^ n) (sym e) ∙ pow-add 2 32 (s - 32) in
    let q : (h * 4294967296 + l) / 4294967296 ≡ h = omega arith in
    ap (λ n. (h * 2 ^ 32 + l) / n) p ∙ (sym (div-div-eq-div-mul (h * 2 ^ 32 + l) (2 ^ 32) (2 ^ (s - 32))) ∙ ap (λ n. n / 2 ^ (s - 32)) q)

-- at 32 the part from the other half is whole
pub carried_right : (h c s : ℕ) → h < 2 ^ 32 → 32 ≤ s → s < 2 ^ 32 → (s ≡ 32 → c ≡ h) → (h * 2 ^ rest s % 2 ^ 32 ≡ 0) ⊎ (h * 2 ^ rest s % 2 ^ 32 ≡ c)
carried_right h c s b i j f =
    elim (cases_lt 32 s) [
      | inl k ↦ inl (gone_left h (rest s) (rest_far s k j))
      | inr k ↦
          (let e : s ≡ 32 = omega arith in
          let z : h * 1 % 4294967296 ≡ h = omega arith in
          inr (ap (λ n. h * 2 ^ rest n % 2 ^ 32) e ∙ (z ∙ sym (f e))))
    ]

-- the low half from 32 on is the last part
pub far_parts : (h l c s : ℕ) → h < 2 ^ 32 → l < 2 ^ 32 → c < 2 ^ 32 → 32 ≤ s → s < 2 ^ 32 → (s ≡ 32 → c ≡ h) →
    three_parts (l / 2 ^ s) (h * 2 ^ rest s % 2 ^ 32) c ≡ c
far_parts h l c s a b d i j f =
    ap (λ n. three_parts n (h * 2 ^ rest s % 2 ^ 32) c) (gone_right 32 l s i b) ∙
    last_alone (h * 2 ^ rest s % 2 ^ 32) c d (carried_right h c s a i j f)

right_small : (h l s : ℕ) → h < 2 ^ 32 → l < 2 ^ 32 → s < 32 → to_right h l s ≡ (h * 2 ^ 32 + l) / 2 ^ s
right_small h l s a b i =
    ap (λ n. n * 2 ^ 32 + three_parts (l / 2 ^ s) (h * 2 ^ rest s % 2 ^ 32) (h / 2 ^ past s)) (mod-eq_of_lt (right_below h s a)) ∙
    (ap (λ n. h / 2 ^ s * 2 ^ 32 + n) (near_parts h l s (h / 2 ^ past s) b i (gone_right 32 h (past s) (past_small s i) a)) ∙ sym (right_whole h l s i))

right_far : (h l s : ℕ) → h < 2 ^ 32 → l < 2 ^ 32 → 32 ≤ s → s < 2 ^ 32 → to_right h l s ≡ (h * 2 ^ 32 + l) / 2 ^ s
right_far h l s a b i j =
    let c : h / 2 ^ past s ≡ h / 2 ^ (s - 32) = ap (λ n. h / 2 ^ n) (past_far s i j) in
    let one : h / 1 ≡ h = omega arith in
    let q : h / 2 ^ s ≡ 0 = gone_right 32 h s i a in
    ap (λ n. n % 2 ^ 32 * 2 ^ 32 + three_parts (l / 2 ^ s) (h * 2 ^ rest s % 2 ^ 32) (h / 2 ^ past s)) q ∙
    (nothing (three_parts (l / 2 ^ s) (h * 2 ^ rest s % 2 ^ 32) (h / 2 ^ past s)) ∙
    (ap (λ n. three_parts (l / 2 ^ s) (h * 2 ^ rest s % 2 ^ 32) n) c ∙
    (far_parts h l (h / 2 ^ (s - 32)) s a b (right_below h (s - 32) a) i j (λ e. ap (λ n. h / 2 ^ (n - 32)) e ∙ one) ∙ sym (right_past h l s b i))))

pub right_law : (h l s : ℕ) → h < 2 ^ 32 → l < 2 ^ 32 → s < 2 ^ 32 → to_right h l s ≡ (h * 2 ^ 32 + l) / 2 ^ s
right_law h l s a b j =
    elim (cases_lt s 32) [
      | inl i ↦ right_small h l s a b i
      | inr i ↦ right_far h l s a b i j
    ]
