-- Marks, runs and cuts at the front of a text, as slices are cut.
use Rattle.std.proofs.Common.{◌≡◌, ℕ, ◌+◌, ◌-◌, List, [], ◌∷◌, length, take, drop, ap, ◌∙◌, sym, refl, arith, Bool, true, false, cond, nat_eq, Option, Some, None}
use Rattle.std.specs.Prelude.{◌==◌, ◌&&◌}
use Rattle.std.specs.Option.{option_map, MatchOption}
use denote.Bor.{Bor}
use lib.Pointwise.{pointwise}
use Rattle.std.proofs.lemmas.Bool.Decides.{nat_tests}
use Rattle.std.proofs.lemmas.List.{take_all, length-drop}
use Rattle.std.specs.Str.{IsUtf8, is_utf8}
use Rattle.std.proofs.lemmas.Str.{IsUtf8-from_is_utf8, is_utf8-from_IsUtf8}
use Rattle.bk_dump.specs.Front.{after}
use Rattle.bk_dump.specs.Words.{as_utf8}

begun : (c d : ℕ) (b : Bool) (o : Option (List ℕ)) (r : List ℕ) → (nat_eq d c && b) ≡ true → (b ≡ true → o ≡ Some r) → cond (c == d) o None ≡ Some r
begun c d true o r h g = let e : o ≡ Some r = g refl in grind (arith, nat_tests)
begun c d false o r h g = absurd (grind (arith, nat_tests))

other : (c d : ℕ) (b : Bool) (o : Option (List ℕ)) → (nat_eq d c && b) ≡ false → (b ≡ false → o ≡ None) → cond (c == d) o None ≡ None
other c d true o h g = grind (arith, nat_tests)
other c d false o h g = let e : o ≡ None = g refl in grind (arith, nat_tests)

pub after_some : (mark text : List ℕ) → pointwise nat_eq (take (length mark) text) mark ≡ true → after mark text ≡ Some (drop (length mark) text)
unfolding after
after_some [] text h = refl
after_some (c ∷ mark) [] h = absurd (cc)
after_some (c ∷ mark) (d ∷ text) h = begun c d _ (after mark text) (drop (length mark) text) h (λ e. after_some mark text e)

pub after_none : (mark text : List ℕ) → pointwise nat_eq (take (length mark) text) mark ≡ false → after mark text ≡ None
unfolding after
after_none [] text h = absurd (cc)
after_none (c ∷ mark) [] h = refl
after_none (c ∷ mark) (d ∷ text) h = other c d _ (after mark text) h (λ e. after_none mark text e)

-- a mark that was stripped off
pub stripped : (mark text : List ℕ) (o : Option (Bor (List ℕ))) → MatchOption o (pointwise nat_eq (take (length mark) text) mark ≡ false) (λ x. (pointwise nat_eq (take (length mark) text) mark ≡ true) × (x.now ≡ drop (length mark) text) × (length x.now + length mark ≡ length text)) → option_map (λ x. x.now) o ≡ after mark text
stripped mark text None h = sym (after_none mark text h)
stripped mark text (Some x) h = ap Some h.1 ∙ sym (after_some mark text h.0)

-- what is cut off behind a place
pub rest_of : (xs : List ℕ) (s : ℕ) → take (length xs - s) (drop s xs) ≡ drop s xs
rest_of xs s = take_all (length xs - s) (drop s xs) (omega (arith, length-drop s xs))

-- bytes that were tested for UTF-8
pub is_text : (bytes : List ℕ) → IsUtf8 bytes → as_utf8 bytes ≡ Some bytes
is_text bytes h = ap (λ b. cond b (Some bytes) None) (is_utf8-from_IsUtf8 bytes h)

not_text : (bytes : List ℕ) (b : Bool) → is_utf8 bytes ≡ b → (IsUtf8 bytes → ⊥) → cond b (Some bytes) None ≡ None
not_text bytes true e h = absurd (h (IsUtf8-from_is_utf8 bytes e))
not_text bytes false e h = refl

pub no_text : (bytes : List ℕ) → (IsUtf8 bytes → ⊥) → as_utf8 bytes ≡ None
no_text bytes h = not_text bytes (is_utf8 bytes) refl h
