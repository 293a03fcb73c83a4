-- How many values a function has once its numbers of 64 bits are in halves.
use Rattle.std.specs.Prelude.{ℕ, ◌+◌, Bool, ◌&&◌, nat_lt, length, sum_by}
use Rattle.bk_func.specs.Limits.{most_values_made}
use Rattle.bk_func.specs.Records.{FuncRecord, PackageRecord}
use Rattle.bk_dec64.specs.Decomposed.{made_of}

abbrev pub value_count : FuncRecord → ℕ
value_count f = sum_by (λ b. length b.values) f.blocks

-- with so many values more one of them is past the limit
abbrev pub is_past : ℕ → ℕ → Bool
is_past count more = nat_lt 0 more && nat_lt most_values_made (count + more)

-- a value past the limit would be added
abbrev pub is_grown : PackageRecord → FuncRecord → Bool
is_grown p f = is_past (value_count f) (length (made_of p f))
