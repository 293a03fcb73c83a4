-- When a rule is sound in functions in words: no value in them has a type wider than a machine word, and on riscv64 no type is.
use Rattle.std.specs.Prelude.{◌≡◌, ◌≤◌, List, true}
use Rattle.bk_ops.specs.declared.types.Target.{Target}
use Rattle.bk_ops.specs.Types.{width_of, word_width}
use Rattle.bk_func.specs.Records.{ValueRecord}
use Rattle.bk_rule.specs.declared.trees.Expr.{Expr}
use Rattle.bk_rule.specs.declared.trees.Rule.{Rule}
use Rattle.bk_rule.specs.Expressions.{Env, hold_each}
use Rattle.bk_rule.specs.WordSound.{Setting, ForRoot, MakesTheSame}

-- the conditions hold, and the value's type is no wider than a word
abbrev pub Applies : Target → Env → List Expr → ValueRecord → Type 0
Applies t e conds l = (hold_each t e conds ≡ true) × (width_of l.ty t ≤ word_width t)

-- for all that the variables stand for, and for each number that the values inside the left tree can have
unfoldable pub SoundInWords : Target → Rule → Type 0
SoundInWords t r = (e : Env) (s : Setting) → ForRoot t s e r.left (λ l. Applies t e r.conds l → MakesTheSame t s e r.right l)
