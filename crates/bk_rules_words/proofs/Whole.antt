-- Lists of sound rules, line by line.
use Rattle.std.proofs.Common.{ℕ, ◌≤◌, arith, List, [], ◌∷◌, ◌++◌}
use Rattle.std.specs.List.{All}
use Rattle.std.proofs.lemmas.List.Elements.{All-append, All-cons, All-nil}
use Rattle.bk_ops.specs.declared.types.Target.{Target}
use Rattle.bk_ops.specs.declared.types.Target.TheVariants.{Arm, Riscv64}
use Rattle.bk_ops.specs.Types.{word_width}
use Rattle.bk_rule.specs.declared.trees.Rule.{Rule}
use Rattle.bk_rules_words.specs.Sound.{SoundInWords}
use Rattle.bk_rules_words.specs.declared.lines.Shape.{Shape}
use Rattle.bk_rules_words.specs.declared.lines.Widths.TheVariants.{Alone, At64, At32, At8, Narrow}
use Rattle.bk_rules_words.specs.Lines.{family, pairs, rules_of, line}

pub record AllSound (t : Target) (rs : List Rule) : Type 0 where
  pub all : All (SoundInWords t) rs

pub with_first : (t : Target) (r : Rule) (rest : List Rule) → SoundInWords t r → AllSound t rest → AllSound t (r ∷ rest)
with_first t r rest s a = record { all = All-cons (SoundInWords t) r rest s a.all }

pub none : (t : Target) → AllSound t []
none t = record { all = All-nil (SoundInWords t) }

pub both : (t : Target) (rs rest : List Rule) → AllSound t rs → AllSound t rest → AllSound t (rs ++ rest)
both t rs rest a b = record { all = All-append (SoundInWords t) rs rest a.all b.all }

-- ---- the rules of one line, and the rest of a list
-- a family at each width of a word
abbrev pub Sized : Target → Shape → Type 0
Sized t s = (w v : ℕ) → 1 ≤ w → w ≤ word_width t → v ≤ word_width t → SoundInWords t (family s w v)

at_least_32 : (t : Target) → 32 ≤ word_width t
at_least_32 Arm = omega arith
at_least_32 Riscv64 = omega arith

pub of_one : (t : Target) (s : Shape) (rest : List Rule) → SoundInWords t (family s 0 0) → AllSound t rest → AllSound t (rules_of (line Alone s) ++ rest)
unfolding rules_of pairs
of_one t s rest a b = with_first t (family s 0 0) _ a b

pub of_64 : (t : Target) (s : Shape) (rest : List Rule) → SoundInWords t (family s 64 0) → AllSound t rest → AllSound t (rules_of (line At64 s) ++ rest)
unfolding rules_of pairs
of_64 t s rest a b = with_first t (family s 64 0) _ a b

pub of_32 : (t : Target) (s : Shape) (rest : List Rule) → SoundInWords t (family s 32 0) → AllSound t rest → AllSound t (rules_of (line At32 s) ++ rest)
unfolding rules_of pairs
of_32 t s rest a b = with_first t (family s 32 0) _ a b

pub of_8 : (t : Target) (s : Shape) (rest : List Rule) → SoundInWords t (family s 8 0) → AllSound t rest → AllSound t (rules_of (line At8 s) ++ rest)
unfolding rules_of pairs
of_8 t s rest a b = with_first t (family s 8 0) _ a b

pub of_narrow : (t : Target) (s : Shape) (rest : List Rule) → Sized t s → AllSound t rest → AllSound t (rules_of (line Narrow s) ++ rest)
unfolding rules_of pairs
of_narrow t s rest a b =
    let h : 32 ≤ word_width t = at_least_32 t in
    with_first t (family s 32 0) _ (a 32 0 (omega arith) h (omega arith))
    (with_first t (family s 16 0) _ (a 16 0 (omega arith) (omega (arith, h)) (omega arith))
    (with_first t (family s 8 0) _ (a 8 0 (omega arith) (omega (arith, h)) (omega arith)) b))
