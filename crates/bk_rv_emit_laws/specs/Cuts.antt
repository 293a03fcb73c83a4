-- Lines cut in two, and lines that are instructions.
use Rattle.std.specs.Prelude.{◌≡◌, ℕ, ◌+◌, List, ◌++◌, length, map}
use Rattle.bk_rv_isa.specs.declared.inst.Inst.{Inst}
use Rattle.bk_rv_isa.specs.Machine.{HasAt}
use Rattle.bk_emit.specs.declared.lines.Line.{Line}
use Rattle.bk_emit.specs.Code.{words_from}
use Rattle.bk_rv_emit.specs.Code.{riscv64}
use Rattle.bk_rv_emit.specs.Lines.{inst}
use Rattle.bk_rv_emit_laws.specs.Does.{AreFit}
use Rattle.bk_rv_emit_laws.specs.Jumps.{address}
use Rattle.bk_rv_emit_laws.specs.Ends.{Stands, LinesReach}

-- lines of so many words each, from a place on, are some lines and others behind their words
pub record Cut (g : ℕ → ℕ) (at : ℕ) (ws : List ℕ) (a b : List Line) : Type 0 where
  pub first : List ℕ
  pub rest : List ℕ
  pub front : LinesReach g at first a
  pub behind : LinesReach g (at + length (words_from riscv64 g at first a)) rest b
  pub words : words_from riscv64 g at ws (a ++ b) ≡ words_from riscv64 g at first a ++ words_from riscv64 g (at + length (words_from riscv64 g at first a)) rest b

abbrev pub LinesCut : Type 0
LinesCut = (g : ℕ → ℕ) (at : ℕ) (ws : List ℕ) (a b : List Line) → LinesReach g at ws (a ++ b) → Cut g at ws a b

-- words that stand do so one behind the other
abbrev pub WordsCut : Type 0
WordsCut = (text : List ℕ) (k : ℕ) (a b : List ℕ) → Stands text k (a ++ b) → Stands text k a × Stands text (k + length a) b

-- lines that are instructions have their words, and where those stand, the instructions do
abbrev pub InstsStand : Type 0
InstsStand =
    (is : List Inst) (text : List ℕ) (g : ℕ → ℕ) (start at : ℕ) (ws : List ℕ) → AreFit is → LinesReach g at ws (map inst is) →
    Stands text (start + at) (words_from riscv64 g at ws (map inst is)) → HasAt text (address (start + at)) is
