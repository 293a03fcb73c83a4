-- Lines one behind the other.
use Rattle.std.proofs.Common.{◌≡◌, ℕ, ◌+◌, List, [], ◌∷◌, ◌++◌, length, ap, ◌∙◌, sym, subst, refl, arith, append_assoc, length-append}
use Rattle.std.specs.Prelude.{map}
use Rattle.bk_rv_isa.specs.declared.inst.Inst.{Inst}
use Rattle.bk_emit.specs.declared.lines.Line.{Line}
use Rattle.bk_emit.specs.declared.lines.Line.TheVariants as line
use Rattle.bk_emit.specs.Code.{distance, goal_of, line_words, words_from}
use Rattle.bk_rv_emit.specs.Code.{riscv64}
use Rattle.bk_rv_emit.specs.Lines.{inst, word_of}
use Rattle.bk_rv_emit_laws.specs.Jumps.{address}
use Rattle.bk_rv_emit_laws.specs.Ends.{Stands, Reaches, LinesReach}
use Rattle.bk_rv_emit_laws.specs.Cuts.{Cut, LinesCut, WordsCut, InstsStand}
use Rattle.bk_rv_emit_laws.proofs.Standing.{stand_at, stand_behind, jump_long, branch_long}

-- a line that reaches has so many words
line_long : (at w goal : ℕ) (l : Line) → Reaches at w goal l → length (line_words riscv64 at w goal l) ≡ w
line_long at w goal (line.Word x) h = sym h
line_long at w goal (line.Open p k x) h = sym h
line_long at w goal (line.Jump n) h = jump_long w (distance at goal) h.0 h.1
line_long at w goal (line.Branch o n) h = branch_long o w (distance at goal) h.0 h.1

-- one line before a cut
grown : (g : ℕ → ℕ) (at w : ℕ) (ws : List ℕ) (l : Line) (a b : List Line) → Reaches at w (goal_of g l) l → Cut g (at + w) ws a b → Cut g at (w ∷ ws) (l ∷ a) (b)
grown g at w ws l a b r c =
    let line = line_words riscv64 at w (goal_of g l) l in
    let front = words_from riscv64 g (at + w) c.first a in
    let e : at + w + length front ≡ at + length (line ++ front) = let z = length-append line front in let q = line_long at w (goal_of g l) l r in omega (arith, z, q) in
    record {
      first = w ∷ c.first;
      rest = c.rest;
      front = (r, c.front);
      behind = subst (λ p. LinesReach g p c.rest b) e c.behind;
      words = ap (λ x. line ++ x) c.words
          ∙ sym (append_assoc line front (words_from riscv64 g (at + w + length front) c.rest b))
          ∙ ap (λ p. (line ++ front) ++ words_from riscv64 g p c.rest b) e;
    }

pub lines_cut : LinesCut
lines_cut g at ws [] b h =
    let e : at ≡ at + 0 = omega arith in
    record { first = []; rest = ws; front = tt; behind = subst (λ p. LinesReach g p ws b) e h; words = ap (λ p. words_from riscv64 g p ws b) e }
lines_cut g at [] (l ∷ a) b h = absurd h
lines_cut g at (w ∷ ws) (l ∷ a) b h = grown g at w ws l a b h.0 (lines_cut g (at + w) ws a b h.1)

pub words_cut : WordsCut
words_cut text k a b h = ((b ++ h.0, h.1 ∙ append_assoc a b h.0), stand_behind a b text k h)

-- instructions as lines
inst_words : (is : List Inst) (g : ℕ → ℕ) (at : ℕ) (ws : List ℕ) → LinesReach g at ws (map inst is) → words_from riscv64 g at ws (map inst is) ≡ map word_of is
inst_words [] g at [] h = refl
inst_words [] g at (w ∷ ws) h = absurd h
inst_words (i ∷ is) g at [] h = absurd h
inst_words (i ∷ is) g at (w ∷ ws) h = ap (λ l. word_of i ∷ l) (inst_words is g (at + w) ws h.1)

none_behind : (l : List ℕ) → l ++ [] ≡ l
none_behind [] = refl
none_behind (x ∷ l) = ap (λ t. x ∷ t) (none_behind l)

pub insts_stand : InstsStand
insts_stand is text g start at ws fit reach h =
    stand_at is text (start + at) (address (start + at)) [] fit refl
    (subst (Stands text (start + at)) (inst_words is g at ws reach ∙ sym (none_behind (map word_of is))) h)
