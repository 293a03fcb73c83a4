-- The words of instructions in the text, and the lengths of forms.
use Rattle.std.proofs.Common.{◌≡◌, ℕ, ◌+◌, ◌≤◌, List, [], ◌∷◌, ◌++◌, length, drop, ap, ◌∙◌, sym, subst, refl, arith, Some, None, Bool, true, false, cond, ℤ, append_assoc}
use Rattle.std.specs.Prelude.{map, unwrap_or, ◌==◌}
use Rattle.std.proofs.lemmas.Bool.Decides.{nat_tests}
use Rattle.std.proofs.lemmas.List.{drop_at, drop-drop}
use Rattle.bk_rv_isa.specs.declared.inst.Inst.{Inst}
use Rattle.bk_rv_isa.specs.Encoding.{fits, word, decoding}
use Rattle.bk_rv_isa.specs.Machine.{HasAt, Begins}
use Rattle.bk_rv_isa.proofs.Words.{decode_word}
use Rattle.bk_rv_isa.proofs.Steps.{has_words}
use Rattle.bk_rv_emit.specs.Lines.{word_of}
use Rattle.bk_rv_emit.specs.Written.{jump_form, branch_form}
use Rattle.bk_rv_emit_laws.specs.Does.{AreFit}
use Rattle.bk_rv_emit_laws.specs.Jumps.{address}
use Rattle.bk_rv_emit_laws.specs.Ends.{Stands}

-- instructions whose fields fit are read from their words
pub word_is : (i : Inst) → fits i ≡ true → word_of i ≡ word i
unfolding word_of
word_is i h = ap (λ b. unwrap_or (cond b (Some (word i)) None) 0) h

begins : (is : List Inst) (rest : List ℕ) → AreFit is → Begins (map word_of is ++ rest) is
begins [] rest h = tt
begins (i ∷ is) rest h = (ap decoding (word_is i h.0) ∙ decode_word i h.0, begins is rest h.1)

-- where the words of instructions stand in a text from a place on, the instructions stand at its address
pub stand_at : (is : List Inst) (text : List ℕ) (k pc : ℕ) (tail : List ℕ) → AreFit is → pc ≡ address k → Stands text k (map word_of is ++ tail) → HasAt text pc is
stand_at is text k pc tail h e s =
    subst (λ p. HasAt text p is) (sym e)
    (has_words is text (map word_of is ++ (tail ++ s.0)) k (s.1 ∙ append_assoc (map word_of is) tail s.0) (begins is (tail ++ s.0) h))

-- what stands behind words
pub stand_behind : (a b text : List ℕ) (k : ℕ) → Stands text k (a ++ b) → Stands text (k + length a) b
stand_behind a b text k s = (
  s.0,
  sym (drop-drop (length a) k text) ∙ ap (drop (length a)) (s.1 ∙ append_assoc a b s.0) ∙ drop_at a (b ++ s.0) (length a) refl,
)

-- the words of forms

one_of : (t : Bool) (a b : List Inst) → length (map word_of (cond t a b)) ≡ cond t (length (map word_of a)) (length (map word_of b))
one_of true a b = refl
one_of false a b = refl

pub jump_long : (w : ℕ) (d : ℤ) → 1 ≤ w → w ≤ 2 → length (map word_of (jump_form w d)) ≡ w
jump_long w d h k = one_of (w == 1) _ _ ∙ grind (arith, nat_tests)

pub branch_long : (b : Bool) (w : ℕ) (d : ℤ) → 1 ≤ w → w ≤ 3 → length (map word_of (branch_form b w d)) ≡ w
branch_long b w d h k = one_of (w == 1) _ _ ∙ ap (cond (w == 1) 1) (one_of (w == 2) _ _) ∙ grind (arith, nat_tests)

pub same_length : (is : List Inst) → length (map word_of is) ≡ length is
same_length [] = refl
same_length (i ∷ is) = let e = same_length is in omega (arith, e)
