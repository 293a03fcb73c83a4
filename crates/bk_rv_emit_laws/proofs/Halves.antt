-- Numbers in bytes that are read and written in parts.
use Rattle.std.proofs.Common.{◌≡◌, ℕ, zero, suc, ◌+◌, ◌-◌, ◌*◌, ◌/◌, ◌%◌, ◌^◌, ◌<◌, ◌≤◌, List, [], ◌∷◌, ◌++◌, length, take, drop, ap, ◌∙◌, sym, subst, refl, arith, Some, None, cond, length-drop}
use Rattle.std.proofs.lemmas.List.{length-take-le, drop-drop}
use Rattle.std.proofs.lemmas.Nat.{mod-mul-add, div-mul-add}
use Rattle.std.proofs.Math.Arith.{mod-mul}
use Rattle.bk_num.specs.Bytes.{number, bytes, is_within, load_in, store_in}
use Rattle.bk_num.proofs.Bytes.{load_within, load_is}
use Rattle.bk_rv_emit_laws.specs.Octets.{AreBytes}
use Rattle.bk_rv_emit_laws.proofs.Below.{number_below, take_are, drop_are}

pow_some : (s : ℕ) → 0 < 256 ^ s
pow_some zero = omega arith
pow_some (suc s) = let r = pow_some s in let e : 256 ^ suc s ≡ 256 * 256 ^ s = omega arith in omega (arith, r, e)

regroup : (b p x n : ℕ) → b + 256 * (x * p + n) ≡ x * (256 * p) + (b + 256 * n)
regroup b p x n = omega arith

-- the number of j + k bytes, from those of the first j and of the others
number_split : (j k : ℕ) (l : List ℕ) → j + k ≤ length l → number (take (j + k) l) ≡ number (take k (drop j l)) * 256 ^ j + number (take j l)
unfolding number
number_split zero k l h =
    let e : number (take k l) ≡ number (take k l) * 256 ^ 0 + 0 = omega arith in
    ap (λ n. number (take n l)) (let q : 0 + k ≡ k = omega arith in q) ∙ e ∙ none l
  where
    none : (l : List ℕ) → number (take k l) * 256 ^ 0 + 0 ≡ number (take k (drop 0 l)) * 256 ^ 0 + number (take 0 l)
    none [] = refl
    none (x ∷ l) = refl
number_split (suc j) k [] h = absurd (omega (arith, h))
number_split (suc j) k (b ∷ l) h =
    let e : suc j + k ≡ suc (j + k) = omega arith in
    let p : 256 ^ suc j ≡ 256 * 256 ^ j = omega arith in
    let r = number_split j k l (omega (arith, h)) in
    ap (λ n. number (take n (b ∷ l))) e
    ∙ ap (λ n. b + 256 * n) r
    ∙ regroup b (256 ^ j) (number (take k (drop j l))) (number (take j l))
    ∙ ap (λ q. number (take k (drop j l)) * q + (b + 256 * number (take j l))) (sym p)

some_same : (a b : ℕ) → Some a ≡ Some b → a ≡ b
some_same a b h = cc

-- a load of j + k bytes is one of j, and one of k behind them
pub record Halves (base j k a v : ℕ) (mem : List ℕ) : Type 0 where
  pub low : load_in base mem j a ≡ Some (v % 256 ^ j)
  pub high : load_in base mem k (a + j) ≡ Some (v / 256 ^ j)

pub load_split : (base j k a v : ℕ) (mem : List ℕ) → AreBytes mem → load_in base mem (j + k) a ≡ Some v → Halves base j k a v mem
load_split base j k a v mem h l =
    let b = load_within base (j + k) a v mem l in
    let lo = b.0 in
    let hi = b.1 in
    let xs = drop (a - base) mem in
    let long = length-drop (a - base) mem in
    let all : j + k ≤ length xs = omega (arith, lo, hi, long) in
    let n = number (take j xs) in
    let q = number (take k (drop j xs)) in
    let e : q * 256 ^ j + n ≡ v = sym (number_split j k xs all) ∙ some_same (number (take (j + k) xs)) v (sym (load_is base (j + k) a mem lo hi) ∙ l) in
    let c : length (take j xs) ≡ j = length-take-le j xs (omega (arith, all)) in
    let lt : n < 256 ^ j = subst (λ x. n < 256 ^ x) c (number_below (take j xs) (take_are j xs (drop_are (a - base) mem h))) in
    let p : a + j - base ≡ a - base + j = omega (arith, lo) in
    record {
      low = load_is base j a mem lo (omega (arith, hi)) ∙ ap Some (sym (mod-mul-add q (256 ^ j) n lt) ∙ ap (λ x. x % 256 ^ j) e);
      high = load_is base k (a + j) mem (omega (arith, lo)) (omega (arith, hi))
          ∙ ap (λ x. Some (number (take k (drop x mem)))) p
          ∙ ap (λ x. Some (number (take k x))) (sym (drop-drop j (a - base) mem))
          ∙ ap Some (sym (div-mul-add q (256 ^ j) n lt) ∙ ap (λ x. x / 256 ^ j) e);
    }

-- the low bytes of a number are those of its rest
low_rest : (n p : ℕ) → (n / 256 % p * 256 + n % 256) % 256 ≡ n % 256
low_rest n p = mod-mul-add (n / 256 % p) 256 (n % 256) (omega arith)

high_rest : (n p : ℕ) → (n / 256 % p * 256 + n % 256) / 256 ≡ n / 256 % p
high_rest n p = div-mul-add (n / 256 % p) 256 (n % 256) (omega arith)

bytes_rest : (s n : ℕ) → bytes s (n % 256 ^ s) ≡ bytes s n
unfolding bytes
bytes_rest zero n = refl
bytes_rest (suc s) n =
    let p = 256 ^ s in
    let e : n % 256 ^ suc s ≡ n / 256 % p * 256 + n % 256 =
    ap (λ k. n % k) (let q : 256 ^ suc s ≡ 256 ^ s * 256 = omega arith in q) ∙ mod-mul n {m = p} {c = 256} (pow_some s) (omega arith) in
    ap (λ k. k % 256 ∷ bytes s (k / 256)) e
    ∙ ap (λ k. k ∷ bytes s ((n / 256 % p * 256 + n % 256) / 256)) (low_rest n p)
    ∙ ap (λ k. n % 256 ∷ bytes s k) (high_rest n p)
    ∙ ap (λ l. n % 256 ∷ l) (bytes_rest s (n / 256))

-- a store of so many bytes sees no more of its number
pub store_rest : (base s a x y : ℕ) (mem : List ℕ) → x % 256 ^ s ≡ y % 256 ^ s → store_in base mem s a x ≡ store_in base mem s a y
unfolding store_in
store_rest base s a x y mem h =
    ap (λ l. cond (is_within base mem s a) (Some (take (a - base) mem ++ (l ++ drop (a - base + s) mem))) None) (sym (bytes_rest s x) ∙ ap (bytes s) h ∙ bytes_rest s y)
