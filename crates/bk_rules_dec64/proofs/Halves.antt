-- Numbers of 64 bits as halves of 32 bits: what is computed of the whole, from the halves. A rule that takes a number apart reads its
-- halves in this form.
use Rattle.std.proofs.Common.{◌≡◌, ℕ, ◌+◌, ◌-◌, ◌*◌, ◌/◌, ◌%◌, ◌^◌, ◌<◌, ◌≤◌, ap, sym, ◌∙◌, arith, inl, inr, bit_and, bit_or, bit_xor, nat_lt, ℤ, pos, negsuc}
use Rattle.std.specs.Int.{int_div_euclid}
use Rattle.std.proofs.lemmas.Bool.{cases_lt}
use Rattle.std.proofs.lemmas.Bool.Decides.{nat_tests}
use Rattle.std.proofs.lemmas.Nat.{and_mod, or_mod, xor_mod, and_shr, or_shr, xor_shr, mod-mul-add, mod_below, mul-add-lt}
use Rattle.std.proofs.Math.Nat.{mod-eq_of_lt, div-add-mod'}
use Rattle.bk_num.specs.Word.{residue}
use Rattle.bk_ops.specs.Arithmetic.{as_bit}

-- ---- a number and its halves, as ops of 32 bits read them
abbrev pub hi : ℕ → ℕ
hi a = a % 2 ^ 64 / 2 ^ 32 % 2 ^ 32

abbrev pub lo : ℕ → ℕ
lo a = a % 2 ^ 64 % 2 ^ 32 % 2 ^ 32

pub hi_below : (a : ℕ) → hi a < 2 ^ 32
hi_below a = mod_below (a % 2 ^ 64 / 2 ^ 32) (2 ^ 32) (omega arith)

pub lo_below : (a : ℕ) → lo a < 2 ^ 32
lo_below a = mod_below (a % 2 ^ 64 % 2 ^ 32) (2 ^ 32) (omega arith)

whole_of : (x : ℕ) → x < 18446744073709551616 → x % 18446744073709551616 / 4294967296 % 4294967296 * 4294967296 + x % 18446744073709551616 % 4294967296 % 4294967296 ≡ x
whole_of x l = omega arith

pub whole : (a x : ℕ) → a ≡ x → x < 2 ^ 64 → hi a * 2 ^ 32 + lo a ≡ x
whole a x e l = ap (λ n. hi n * 2 ^ 32 + lo n) e ∙ whole_of x l

pub top_of : (h l : ℕ) → l < 2 ^ 32 → (h * 2 ^ 32 + l) / 2 ^ 32 ≡ h
top_of h l b = omega arith

pub bottom_of : (h l : ℕ) → l < 2 ^ 32 → (h * 2 ^ 32 + l) % 2 ^ 32 ≡ l
bottom_of h l b = omega arith

pub nothing : (n : ℕ) → 0 + n ≡ n
nothing n = omega arith

-- what f computes of halves is what g computes of the whole
abbrev pub Halves : (ℕ → ℕ → ℕ → ℕ → ℕ) → (ℕ → ℕ → ℕ) → Type 0
Halves f g = (h l k m : ℕ) → h < 2 ^ 32 → l < 2 ^ 32 → k < 2 ^ 32 → m < 2 ^ 32 → f h l k m ≡ g (h * 2 ^ 32 + l) (k * 2 ^ 32 + m)

pub of_halves : (f : ℕ → ℕ → ℕ → ℕ → ℕ) (g : ℕ → ℕ → ℕ) → Halves f g → (a b x y v : ℕ) → a ≡ x → b ≡ y → x < 2 ^ 64 → y < 2 ^ 64 → g x y ≡ v →
    f (hi a) (lo a) (hi b) (lo b) ≡ v
of_halves f g s a b x y v p q l m e =
    s (hi a) (lo a) (hi b) (lo b) (hi_below a) (lo_below a) (hi_below b) (lo_below b) ∙
    (ap (λ n. g n (hi b * 2 ^ 32 + lo b)) (whole a x p l) ∙ (ap (g x) (whole b y q m) ∙ e))

-- ---- pairs
pub first_half : (x y p v : ℕ) → y < 2 ^ 32 → x * 2 ^ 32 + y ≡ p → p / 2 ^ 32 ≡ v → x ≡ v
first_half x y p v l e f = sym (top_of x y l) ∙ (ap (λ n. n / 2 ^ 32) e ∙ f)

pub second_half : (x y p v : ℕ) → y < 2 ^ 32 → x * 2 ^ 32 + y ≡ p → p % 2 ^ 32 ≡ v → y ≡ v
second_half x y p v l e f = sym (bottom_of x y l) ∙ (ap (λ n. n % 2 ^ 32) e ∙ f)

pub constant_law : (c : ℤ) → residue 32 (int_div_euclid c (pos (2 ^ 32))) % 2 ^ 32 * 2 ^ 32 + residue 32 c % 2 ^ 32 ≡ residue 64 c
constant_law (pos n) = omega arith
constant_law (negsuc n) = omega arith

-- ---- sums
abbrev pub added : ℕ → ℕ → ℕ → ℕ → ℕ
added h l k m = (h + k + (l + m) / 2 ^ 32) % 2 ^ 32 % 2 ^ 32 * 2 ^ 32 + (l + m) % 2 ^ 32 % 2 ^ 32

pub add_law : Halves added (λ x y. (x + y) % 2 ^ 64)
add_law h l k m a b c d = omega arith

abbrev pub taken : ℕ → ℕ → ℕ → ℕ → ℕ
taken h l k m = (h + (2 ^ 32 - (k + as_bit (nat_lt l m)))) % 2 ^ 32 % 2 ^ 32 * 2 ^ 32 + (l + (2 ^ 32 - m)) % 2 ^ 32 % 2 ^ 32

borrow : (h l k m : ℕ) → h < 4294967296 → l < 4294967296 → k < 4294967296 → m < 4294967296 → l < m →
    (h + (4294967296 - (k + 1))) % 4294967296 % 4294967296 * 4294967296 + (l + (4294967296 - m)) % 4294967296 % 4294967296 ≡ (h * 4294967296 + l + (18446744073709551616 - (k * 4294967296 + m))) % 18446744073709551616
borrow h l k m a b c d i = omega arith

no_borrow : (h l k m : ℕ) → h < 4294967296 → l < 4294967296 → k < 4294967296 → m < 4294967296 → m ≤ l →
    (h + (4294967296 - (k + 0))) % 4294967296 % 4294967296 * 4294967296 + (l + (4294967296 - m)) % 4294967296 % 4294967296 ≡ (h * 4294967296 + l + (18446744073709551616 - (k * 4294967296 + m))) % 18446744073709551616
no_borrow h l k m a b c d i = omega arith

pub sub_law : Halves taken (λ x y. (x + (2 ^ 64 - y)) % 2 ^ 64)
sub_law h l k m a b c d =
    elim (cases_lt l m) [
      | inl i ↦
          (let t : as_bit (nat_lt l m) ≡ 1 = grind (arith, nat_tests) in
          ap (λ n. (h + (2 ^ 32 - (k + n))) % 2 ^ 32 % 2 ^ 32 * 2 ^ 32 + (l + (2 ^ 32 - m)) % 2 ^ 32 % 2 ^ 32) t ∙ borrow h l k m a b c d i)
      | inr i ↦
          (let t : as_bit (nat_lt l m) ≡ 0 = grind (arith, nat_tests) in
          ap (λ n. (h + (2 ^ 32 - (k + n))) % 2 ^ 32 % 2 ^ 32 * 2 ^ 32 + (l + (2 ^ 32 - m)) % 2 ^ 32 % 2 ^ 32) t ∙ no_borrow h l k m a b c d i)
    ]

-- ---- bits
abbrev pub each_of : (ℕ → ℕ → ℕ) → ℕ → ℕ → ℕ → ℕ → ℕ
each_of o h l k m = o h k % 2 ^ 32 * 2 ^ 32 + o l m % 2 ^ 32

joined : (z t b : ℕ) → z / 4294967296 ≡ t → z % 4294967296 ≡ b → t * 4294967296 + b ≡ z
joined z t b p q = omega arith

bits_law : (o : ℕ → ℕ → ℕ) → ((a b k : ℕ) → o a b / 2 ^ k ≡ o (a / 2 ^ k) (b / 2 ^ k)) → ((a b k : ℕ) → o a b % 2 ^ k ≡ o (a % 2 ^ k) (b % 2 ^ k)) → Halves (each_of o) o
bits_law o s r h l k m a b c d =
    let x : ℕ = h * 2 ^ 32 + l in
    let y : ℕ = k * 2 ^ 32 + m in
    let top : o x y / 2 ^ 32 ≡ o h k = s x y 32 ∙ (ap (λ n. o n (y / 2 ^ 32)) (top_of h l b) ∙ ap (o h) (top_of k m d)) in
    let bottom : o x y % 2 ^ 32 ≡ o l m = r x y 32 ∙ (ap (λ n. o n (y % 2 ^ 32)) (bottom_of h l b) ∙ ap (o l) (bottom_of k m d)) in
    let e : o h k % 2 ^ 32 ≡ o h k = r h k 32 ∙ (ap (λ n. o n (k % 2 ^ 32)) (mod-eq_of_lt a) ∙ ap (o h) (mod-eq_of_lt c)) in
    let f : o l m % 2 ^ 32 ≡ o l m = r l m 32 ∙ (ap (λ n. o n (m % 2 ^ 32)) (mod-eq_of_lt b) ∙ ap (o l) (mod-eq_of_lt d)) in
    ap (λ n. n * 2 ^ 32 + o l m % 2 ^ 32) e ∙ (ap (λ n. o h k * 2 ^ 32 + n) f ∙ joined (o x y) (o h k) (o l m) top bottom)

pub and_law : Halves (each_of bit_and) (λ x y. bit_and x y)
and_law = bits_law (λ x y. bit_and x y) (λ a b k. and_shr a b k) (λ a b k. and_mod a b k)

pub or_law : Halves (each_of bit_or) (λ x y. bit_or x y)
or_law = bits_law (λ x y. bit_or x y) (λ a b k. or_shr a b k) (λ a b k. or_mod a b k)

pub xor_law : Halves (each_of bit_xor) (λ x y. bit_xor x y)
xor_law = bits_law (λ x y. bit_xor x y) (λ a b k. xor_shr a b k) (λ a b k. xor_mod a b k)

pub complement_law : (a x v : ℕ) → a ≡ x → x < 2 ^ 64 → 2 ^ 64 - 1 - x ≡ v → (2 ^ 32 - 1 - hi a) % 2 ^ 32 * 2 ^ 32 + (2 ^ 32 - 1 - lo a) % 2 ^ 32 ≡ v
complement_law a x v p l e = ap (λ n. (2 ^ 32 - 1 - hi n) % 2 ^ 32 * 2 ^ 32 + (2 ^ 32 - 1 - lo n) % 2 ^ 32) p ∙ turned x v l e
  where
    turned : (x v : ℕ) → x < 18446744073709551616 → 18446744073709551615 - x ≡ v → (4294967295 - x % 18446744073709551616 / 4294967296 % 4294967296) % 4294967296 * 4294967296 + (4294967295 - x % 18446744073709551616 % 4294967296 % 4294967296) % 4294967296 ≡ v
    turned x v l e = omega arith

pub negate_law : (a x v : ℕ) → a ≡ x → x < 2 ^ 64 → (2 ^ 64 - x) % 2 ^ 64 ≡ v → (0 + (2 ^ 64 - a % 2 ^ 64)) % 2 ^ 64 ≡ v
negate_law a x v p l e =
    let z : 0 + (18446744073709551616 - a % 18446744073709551616) ≡ 18446744073709551616 - a % 18446744073709551616 = omega arith in
    ap (λ n. n % 2 ^ 64) z ∙ (ap (λ n. (2 ^ 64 - n) % 2 ^ 64) (ap (λ n. n % 2 ^ 64) p ∙ mod-eq_of_lt l) ∙ e)

-- ---- products
mul_law : (M H1 L1 H2 L2 : ℕ) → 0 < M → L1 < M → L2 < M →
    ((H1 * M + L1) * (H2 * M + L2)) % (M * M) ≡ ((L1 * H2 + (H1 * L2 + L1 * L2 / M)) % M) * M + (L1 * L2) % M
mul_law M H1 L1 H2 L2 p l h =
    let S = L1 * H2 + (H1 * L2 + L1 * L2 / M) in
    let e : (H1 * M + L1) * (H2 * M + L2) ≡ (H1 * H2 + S / M) * (M * M) + (S % M * M + (L1 * L2) % M) =
    omega (arith, div-add-mod' (L1 * L2) M, ap (λ n. n * M) (div-add-mod' S M)) in
    ap (λ n. n % (M * M)) e ∙ mod-mul-add (H1 * H2 + S / M) (M * M) (S % M * M + (L1 * L2) % M)
    (mul-add-lt (S % M) M ((L1 * L2) % M) M (mod_below S M p) (mod_below (L1 * L2) M p))

abbrev pub multiplied : ℕ → ℕ → ℕ → ℕ → ℕ
multiplied h l k m =
    (l * k % 2 ^ 32 % 2 ^ 32 + (h * m % 2 ^ 32 % 2 ^ 32 + l % 2 ^ 32 * (m % 2 ^ 32) / 2 ^ 32 % 2 ^ 32) % 2 ^ 32 % 2 ^ 32) % 2 ^ 32 % 2 ^ 32 * 2 ^ 32 + l * m % 2 ^ 32 % 2 ^ 32

stripped : (A B C D : ℕ) → (A % 4294967296 % 4294967296 + (B % 4294967296 % 4294967296 + C % 4294967296) % 4294967296 % 4294967296) % 4294967296 % 4294967296 * 4294967296 + D % 4294967296 % 4294967296 ≡ (A + (B + C)) % 4294967296 * 4294967296 + D % 4294967296
stripped A B C D = omega arith

pub product_law : Halves multiplied (λ x y. x * y % 2 ^ 64)
product_law h l k m a b c d =
    stripped (l * k) (h * m) (l % 2 ^ 32 * (m % 2 ^ 32) / 2 ^ 32) (l * m) ∙
    (ap (λ n. (l * k + (h * m + n * (m % 2 ^ 32) / 2 ^ 32)) % 2 ^ 32 * 2 ^ 32 + l * m % 2 ^ 32) (mod-eq_of_lt b) ∙
    (ap (λ n. (l * k + (h * m + l * n / 2 ^ 32)) % 2 ^ 32 * 2 ^ 32 + l * m % 2 ^ 32) (mod-eq_of_lt d) ∙ sym (mul_law (2 ^ 32) h l k m (omega arith) b d)))
