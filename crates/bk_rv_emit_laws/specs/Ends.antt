-- The lines of the ends of blocks, where their words stand in the text.
use Rattle.std.specs.Prelude.{◌≡◌, ◌<◌, ◌≤◌, ℕ, ◌+◌, ◌%◌, ◌^◌, ◌==◌, true, false, if◌then◌else◌, List, [], ◌∷◌, ◌++◌, length, drop, Option, Some, ◌⊎◌}
use Rattle.bk_rv_isa.specs.Machine.{Machine, reg}
use Rattle.bk_fixup.specs.Sizes.{AreLeastSizes, reaches}
use Rattle.bk_emit.specs.declared.lines.Line.{Line}
use Rattle.bk_emit.specs.declared.lines.Line.TheVariants as line
use Rattle.bk_emit.specs.Blocks.{jump_from, branch}
use Rattle.bk_emit.specs.Code.{branches_from, widths, goal_of, goal_in, words_from}
use Rattle.bk_rv_emit.specs.Code.{riscv64}
use Rattle.bk_rv_emit_laws.specs.Leaving.{IsWell, Path}
use Rattle.bk_rv_emit_laws.specs.Jumps.{address}

-- the text has these words from a place on
abbrev pub Stands : List ℕ → ℕ → List ℕ → Type 0
Stands text k words = (rest : List ℕ) × (drop k text ≡ words ++ rest)

-- a line of so many words at a place reaches what it leads to
abbrev pub Reaches : ℕ → ℕ → ℕ → Line → Type 0
Reaches at w goal (line.Word x) = w ≡ 1
Reaches at w goal (line.Open p h x) = w ≡ 1
Reaches at w goal (line.Jump n) = (1 ≤ w) × (w ≤ 2) × (reaches false w at goal ≡ true)
Reaches at w goal (line.Branch b n) = (1 ≤ w) × (w ≤ 3) × (reaches true w at goal ≡ true)

-- lines of so many words each, the first of which stands at a place; g gives the place of each block
abbrev pub LinesReach : (ℕ → ℕ) → ℕ → List ℕ → List Line → Type 0
LinesReach g at [] [] = Unit {0}
LinesReach g at [] (l ∷ ls) = ⊥
LinesReach g at (w ∷ ws) [] = ⊥
LinesReach g at (w ∷ ws) (l ∷ ls) = Reaches at w (goal_of g l) l × LinesReach g (at + w) ws ls

-- with least sizes all lines of a function reach, where its blocks begin in it
abbrev pub SizesReach : Type 0
SizesReach =
    (s : ℕ → ℕ) (ls : List Line) (sizes : List ℕ) → ((n : ℕ) → s n < length ls) → AreLeastSizes (branches_from s 0 ls) sizes →
    LinesReach (goal_in s (widths sizes ls)) 0 (widths sizes ls) ls

-- a way to an address that writes x31 alone; some step was made, or the block there stands next
pub record Comes (m : Machine) (to : ℕ) (Next : Type 0) : Type 0 where
  pub after : Machine
  pub path : Path 31 m after
  pub pc : after.pc ≡ to
  pub some : (1 ≤ path.steps) ⊎ Next

-- behind these lines the next block begins
abbrev pub IsNext : (ℕ → ℕ) → ℕ → List ℕ → List Line → Option ℕ → Type 0
IsNext g at ws ls next = (x : ℕ) → next ≡ Some x → g x ≡ at + length (words_from riscv64 g at ws ls)

-- the function begins at a place of the text, and its code lies in the first 2 ^ 26 words
abbrev pub AreLow : (ℕ → ℕ) → ℕ → ℕ → Type 0
AreLow g start at = (start + at + 4 < 2 ^ 26) × ((x : ℕ) → start + g x < 2 ^ 26)

-- the lines of a jump come to the target
abbrev pub JumpComes : Type 0
JumpComes =
    (target start at : ℕ) (next : Option ℕ) (g : ℕ → ℕ) (ws : List ℕ) (m : Machine) → IsWell m → AreLow g start at → m.pc ≡ address (start + at) →
    LinesReach g at ws (jump_from target next) → Stands m.text (start + at) (words_from riscv64 g at ws (jump_from target next)) →
    IsNext g at ws (jump_from target next) next → Comes m (address (start + g target)) (next ≡ Some target)

-- the lines of a branch come to the first block where the control's low bit is 1, else to the second
abbrev pub chosen : ℕ → ℕ → ℕ → ℕ
chosen control first second = if control % 2 == 0 then second else first

abbrev pub BranchComes : Type 0
BranchComes =
    (control first second start at : ℕ) (next : Option ℕ) (g : ℕ → ℕ) (ws : List ℕ) (m : Machine) → IsWell m → control < 32 → AreLow g start (at + 4) → m.pc ≡ address (start + at) →
    LinesReach g at ws (branch riscv64 control (first ∷ second ∷ []) next) → Stands m.text (start + at) (words_from riscv64 g at ws (branch riscv64 control (first ∷ second ∷ []) next)) →
    IsNext g at ws (branch riscv64 control (first ∷ second ∷ []) next) next → Comes m (address (start + g (chosen (reg m.regs control) first second))) ⊥
