-- The longest front of elements that pass a test.
use Rattle.std.proofs.Common.{◌≡◌, ℕ, zero, suc, ◌+◌, ◌<◌, List, [], ◌∷◌, ◌++◌, length, take, ap, ◌∙◌, refl, arith, Bool, true, false, cond}
use Rattle.std.specs.Prelude.{◌&&◌, nat_lt}
use Rattle.std.specs.List.{prefix_len, list_all, AllByRecursion}
use Rattle.std.specs.Str.{IsAscii}
use Rattle.std.proofs.lemmas.Bool.Decides.{nat_tests}
use Rattle.std.proofs.lemmas.Str.{is_utf8-from_IsUtf8, IsUtf8-from_ascii}
use Rattle.bk_dump.specs.Parts.{IsNameOf}

front_step : {X : Type 0} (p : X → Bool) (x : X) (xs : List X) (b : Bool) → p x ≡ b → AllByRecursion (λ y. p y ≡ true) (take (prefix_len p xs) xs) → AllByRecursion (λ y. p y ≡ true) (take (cond b (1 + prefix_len p xs) 0) (x ∷ xs))
front_step p x xs true e h = let q : suc (prefix_len p xs) ≡ 1 + prefix_len p xs = omega arith in rw (← q) (e, h)
front_step p x xs false e h = tt

pub front_passes : {X : Type 0} (p : X → Bool) (xs : List X) → AllByRecursion (λ y. p y ≡ true) (take (prefix_len p xs) xs)
front_passes p [] = tt
front_passes p (x ∷ xs) = front_step p x xs (p x) refl (front_passes p xs)

pub front_append : {X : Type 0} (p : X → Bool) (xs ys : List X) → AllByRecursion (λ y. p y ≡ true) xs → prefix_len p ys ≡ 0 → prefix_len p (xs ++ ys) ≡ length xs
front_append p [] ys h e = e
front_append p (x ∷ xs) ys h e = ap (λ b. cond b (1 + prefix_len p (xs ++ ys)) 0) h.0 ∙ ap (λ n. 1 + n) (front_append p xs ys h.1 e) ∙ (omega arith)

-- what a test of each byte finds

pub both_hold : (a b : Bool) → (a && b) ≡ true → (a ≡ true) × (b ≡ true)
both_hold true b h = (refl, h)
both_hold false b h = absurd (cc)

pub all_pass : {X : Type 0} (p : X → Bool) (xs : List X) → list_all p xs ≡ true → AllByRecursion (λ x. p x ≡ true) xs
all_pass p [] h = tt
all_pass p (x ∷ xs) h = let q = both_hold (p x) (list_all p xs) h in (q.0, all_pass p xs q.1)

below : (c n : ℕ) → nat_lt c n ≡ true → c < n
below c n h = grind (arith, nat_tests)

ascii : (bs : List ℕ) → list_all (λ c. nat_lt c 128) bs ≡ true → IsAscii bs
ascii [] h i = omega arith
ascii (c ∷ bs) h zero = below c 128 (both_hold (nat_lt c 128) (list_all (λ c. nat_lt c 128) bs) h).0
ascii (c ∷ bs) h (suc i) = ascii bs (both_hold (nat_lt c 128) (list_all (λ c. nat_lt c 128) bs) h).1 i

-- a name of ASCII bytes
pub ascii_named : (p : ℕ → Bool) (bs : List ℕ) → 0 < length bs → list_all p bs ≡ true → list_all (λ c. nat_lt c 128) bs ≡ true → IsNameOf p bs
ascii_named p bs some h g = record { some = some; bytes = all_pass p bs h; utf8 = is_utf8-from_IsUtf8 bs (IsUtf8-from_ascii bs (ascii bs g)) }
