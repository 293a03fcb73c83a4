-- Which numbers the values of a function bear, before and after.
use Rattle.std.specs.Prelude.{ℕ, ◌+◌, ◌==◌, length, filter, count_by, sum_by}
use Rattle.bk_ops.specs.declared.types.Target.{Target}
use Rattle.bk_func.specs.Records.{FuncRecord}
use Rattle.bk_func.specs.Words.{register_words}
use Rattle.bk_calls.specs.Areas.{stays, made_in}
use Rattle.bk_calls.specs.Arguments.{arguments_of}

-- how many values bear the number
abbrev pub bearers : FuncRecord → ℕ → ℕ
bearers f n = sum_by (λ b. count_by (λ v. v.id == n) b.values) f.blocks

-- how many of those that stay
abbrev pub staying_bearers : FuncRecord → ℕ → ℕ
staying_bearers f n = sum_by (λ b. count_by (λ v. v.id == n) (filter stays b.values)) f.blocks

-- how many values are made
abbrev pub made_count : Target → FuncRecord → ℕ
made_count t f = length (arguments_of t f) + sum_by (made_in (register_words t)) f.blocks
