-- What readers leave is shorter than what they were given.
use Rattle.std.proofs.Common.{◌≡◌, ℕ, suc, ◌+◌, ◌<◌, ◌≤◌, min, List, [], ◌∷◌, length, take, drop, ap, refl, arith, Bool, true, false, cond, Option, Some, None}
use Rattle.std.specs.Prelude.{◌==◌, ◌||◌, codes, position}
use Rattle.std.specs.List.{prefix_len}
use Rattle.std.specs.Option.{option_map}
use Rattle.std.specs.Char.{is_ascii_digit}
use Rattle.std.proofs.lemmas.Bool.Decides.{nat_tests}
use Rattle.std.proofs.lemmas.List.{length-drop}
use Rattle.std.proofs.lemmas.List.Sums.{prefix_len-le-length}
use Rattle.bk_text.specs.Tokens.{is_blank}
use Rattle.bk_ops.specs.declared.types.Ty.{Ty}
use Rattle.bk_dump.specs.Front.{◌>>=◌, unblanked, gap_at, after, mark_at, run_at, front_at, cut_at, up_to}
use Rattle.bk_dump.specs.Words.{as_utf8, utf8_at, is_plain_byte, plain_at, group_at, digits_len, digits_at, decimal_at, number_at, next_number_at}
use Rattle.bk_dump.specs.Types.{word_type, place_type_at, next_type_at}
use Rattle.bk_dump.specs.Trees.{ParameterTree}
use Rattle.bk_dump.specs.Headers.{parameter_at, next_parameter_at}
use Rattle.bk_dump.proofs.Every.{Shrinks}

-- a step that gave something
pub bind_some : {A B : Type 0} (o : Option A) (f : A → Option B) (y : B) → (o >>= f) ≡ Some y → (x : A) × (o ≡ Some x) × (f x ≡ Some y)
bind_some None f y h = absurd (cc)
bind_some (Some x) f y h = (x, refl, h)

pub map_some : {A B : Type 0} (f : A → B) (o : Option A) (y : B) → option_map f o ≡ Some y → (x : A) × (o ≡ Some x) × (f x ≡ y)
map_some f None y h = absurd (cc)
map_some f (Some x) y h = (x, refl, cc)

pub unless_true : {A : Type 0} (b : Bool) (o : Option A) (y : A) → cond b None o ≡ Some y → (b ≡ false) × (o ≡ Some y)
unless_true true o y h = absurd (cc)
unless_true false o y h = (refl, h)

pub if_true : {A : Type 0} (b : Bool) (o : Option A) (y : A) → cond b o None ≡ Some y → (b ≡ true) × (o ≡ Some y)
if_true true o y h = (refl, h)
if_true false o y h = absurd (cc)

some_is : {A : Type 0} (x y : A) → Some x ≡ Some y → x ≡ y
some_is x y h = cc

pub unblanked_shrinks : (text : List ℕ) → length (unblanked text) ≤ length text
unfolding unblanked
unblanked_shrinks text = omega (arith, length-drop (prefix_len is_blank text) text)

pub gap_shrinks : (text r : List ℕ) → gap_at text ≡ Some r → length r < length text
unfolding gap_at
gap_shrinks [] r h = absurd (cc)
gap_shrinks (c ∷ text) r h =
    let p = if_true (is_blank c) (Some (unblanked text)) r h in
    omega (arith, ap length (some_is (unblanked text) r p.1), unblanked_shrinks text)

if_same : (c d : ℕ) (o : Option (List ℕ)) (r : List ℕ) → cond (c == d) o None ≡ Some r → o ≡ Some r
if_same c d o r h = (if_true (c == d) o r h).1

pub after_shrinks : (mark text r : List ℕ) → after mark text ≡ Some r → length r + length mark ≡ length text
unfolding after
after_shrinks [] text r h = omega (arith, ap length (some_is text r h))
after_shrinks (c ∷ mark) [] r h = absurd (cc)
after_shrinks (c ∷ mark) (d ∷ text) r h = omega (arith, after_shrinks mark text r (if_same c d (after mark text) r h))

pub mark_shrinks : (mark text r : List ℕ) → mark_at mark text ≡ Some r → length r + length mark ≤ length text
unfolding mark_at
mark_shrinks mark text r h = omega (arith, after_shrinks mark (unblanked text) r h, unblanked_shrinks text)

positive : (n : ℕ) → (n == 0) ≡ false → 0 < n
positive n h = grind (arith, nat_tests)

cut_shrinks : (o : Option ℕ) (text : List ℕ) (x : List ℕ × List ℕ) → cut_at o text ≡ Some x → length x.1 ≤ length text
cut_shrinks None text x h = absurd (cc)
cut_shrinks (Some k) text x h = omega (arith, ap (λ y. length y.1) (some_is (take k text, drop (suc k) text) x h), length-drop (suc k) text)

front_shrinks : (p : ℕ → Bool) (text : List ℕ) (x : List ℕ × List ℕ) → front_at (prefix_len p text) text ≡ Some x → length x.1 < length text
front_shrinks p text x h =
    let q = unless_true (prefix_len p text == 0) (Some (run_at p text)) x h in
    let some : 0 < prefix_len p text = positive (prefix_len p text) q.0 in
    omega (arith, ap (λ y. length y.1) (some_is (run_at p text) x q.1), length-drop (prefix_len p text) text, prefix_len-le-length p text)

first_false : (n : ℕ) (b : Bool) → (n == 0 || b) ≡ false → 0 < n
first_false n b h = grind (arith, nat_tests)

utf8_shrinks : (p : ℕ → Bool) (text : List ℕ) (x : List ℕ × List ℕ) → utf8_at (prefix_len p text) text ≡ Some x → length x.1 < length text
unfolding utf8_at
utf8_shrinks p text x h =
    let n = bind_some (front_at (prefix_len p text) text) _ x h in
    let t = bind_some (as_utf8 n.0.0) _ x n.2 in
    omega (arith, ap (λ y. length y.1) (some_is (t.0, n.0.1) x t.2), front_shrinks p text n.0 n.1)

pub plain_shrinks : (text : List ℕ) (x : List ℕ × List ℕ) → plain_at text ≡ Some x → length x.1 < length text
unfolding plain_at
plain_shrinks text x h = omega (arith, utf8_shrinks is_plain_byte (unblanked text) x h, unblanked_shrinks text)

pub group_shrinks : Shrinks group_at
unfolding group_at up_to
group_shrinks = record {
  by = λ text x r h.
      let a = bind_some (mark_at (codes "(") text) _ (x, r) h in
      omega (arith, cut_shrinks (position (λ d. d == 41) a.0) a.0 (x, r) a.2, mark_shrinks (codes "(") text a.0 a.1);
}

decimal_shrinks : (text : List ℕ) (x : ℕ × List ℕ) → decimal_at text ≡ Some x → length x.1 < length text
unfolding decimal_at digits_at
decimal_shrinks text x h =
    let d = map_some _ (digits_at text) x h in
    let q = unless_true _ (Some (run_at is_ascii_digit text)) d.0 d.1 in
    let some : 0 < digits_len text = first_false (digits_len text) _ q.0 in
    omega (arith, ap (λ y. length y.1) d.2, ap (λ y. length y.1) (some_is (run_at is_ascii_digit text) d.0 q.1), length-drop (digits_len text) text, prefix_len-le-length is_ascii_digit text)

number_shrinks : (letter text : List ℕ) (x : ℕ × List ℕ) → number_at letter text ≡ Some x → length x.1 < length text
unfolding number_at
number_shrinks letter text x h =
    let a = bind_some (after letter text) _ x h in
    let n = bind_some (decimal_at a.0) _ x a.2 in
    omega (arith, ap (λ y. length y.1) (some_is (min n.0.0 4294967295, n.0.1) x n.2), decimal_shrinks a.0 n.0 n.1, after_shrinks letter text a.0 a.1)

pub next_number_shrinks : (letter : List ℕ) → Shrinks (next_number_at letter)
unfolding next_number_at
next_number_shrinks letter = record {
  by = λ text x r h.
      let a = bind_some (gap_at text) _ (x, r) h in
      omega (arith, number_shrinks letter a.0 (x, r) a.2, gap_shrinks text a.0 a.1);
}

place_type_shrinks : (text : List ℕ) (x : Ty × List ℕ) → place_type_at text ≡ Some x → length x.1 < length text
unfolding place_type_at
place_type_shrinks text x h =
    let n = bind_some (plain_at text) _ x h in
    let t = map_some _ (word_type n.0.0) x n.2 in
    omega (arith, ap (λ y. length y.1) t.2, plain_shrinks text n.0 n.1)

pub next_type_shrinks : Shrinks next_type_at
unfolding next_type_at
next_type_shrinks = record {
  by = λ text x r h.
      let a = bind_some (mark_at (codes ",") text) _ (x, r) h in
      omega (arith, place_type_shrinks a.0 (x, r) a.2, mark_shrinks (codes ",") text a.0 a.1);
}

parameter_shrinks : (text : List ℕ) (x : ParameterTree × List ℕ) → parameter_at text ≡ Some x → length x.1 < length text
unfolding parameter_at
parameter_shrinks text x h =
    let n = bind_some (plain_at text) _ x h in
    let t = bind_some (place_type_at n.0.1) _ x n.2 in
    omega (arith, ap (λ y. length y.1) (some_is (record { name = n.0.0; ty = t.0.0 }, t.0.1) x t.2), place_type_shrinks n.0.1 t.0 t.1, plain_shrinks text n.0 n.1)

pub next_parameter_shrinks : Shrinks next_parameter_at
unfolding next_parameter_at
next_parameter_shrinks = record {
  by = λ text x r h.
      let a = bind_some (mark_at (codes ",") text) _ (x, r) h in
      omega (arith, parameter_shrinks a.0 (x, r) a.2, mark_shrinks (codes ",") text a.0 a.1);
}
