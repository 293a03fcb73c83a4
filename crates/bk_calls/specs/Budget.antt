-- How many values a function has while its calls go to words.
use Rattle.std.specs.Prelude.{ℕ, ◌+◌, ◌-◌, ◌==◌, Bool, nat_lt, if◌then◌else◌, length, fold, sum_by, Option, Some, None, is_none}
use Rattle.bk_ops.specs.declared.types.Target.{Target}
use Rattle.bk_func.specs.Limits.{most_values_made}
use Rattle.bk_func.specs.Records.{ValueRecord, FuncRecord}
use Rattle.bk_func.specs.Words.{register_words}
use Rattle.bk_calls.specs.Areas.{made_for, is_end}
use Rattle.bk_calls.specs.Arguments.{arguments_of}

abbrev pub value_count : FuncRecord → ℕ
value_count f = sum_by (λ b. length b.values) f.blocks

-- the count of values after k more, none where a value past the limit would be added
abbrev pub grown_by : ℕ → ℕ → Option ℕ
grown_by k n = if k == 0 then Some n else (if nat_lt most_values_made (n + k) then None else Some (n + k))

-- the count of values after one value's turn
abbrev pub counted : ℕ → ValueRecord → ℕ → Option ℕ
counted r v n = if is_end v then Some (n - 1) else grown_by (made_for r v) n

abbrev pub count_next : ℕ → Option ℕ → ValueRecord → Option ℕ
count_next r None v = None
count_next r (Some n) v = counted r v n

-- the count after the arguments in registers and the turns of all values, in their order
abbrev pub count_after : Target → FuncRecord → Option ℕ
count_after t f =
    fold (λ o b. fold (count_next (register_words t)) o b.values) (grown_by (length (arguments_of t f)) (value_count f)) f.blocks

-- a value past the limit would be added
abbrev pub is_grown : Target → FuncRecord → Bool
is_grown t f = is_none (count_after t f)
