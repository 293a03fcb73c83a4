-- The values of a function that a target has no code for.
use Rattle.std.specs.Prelude.{ℕ, min, List, map, filter, flat_map, fold, if◌then◌else◌, Option, Some, None}
use Rattle.bk_ops.specs.declared.types.Target.{Target}
use Rattle.bk_ops.specs.Refused.{is_refused}
use Rattle.bk_func.specs.Records.{ValueRecord, FuncRecord}

-- the numbers of the refused values among these
abbrev pub refused_among : Target → List ValueRecord → List ℕ
refused_among t vs = map (λ v. v.id) (filter (λ v. is_refused v.op v.int t) vs)

-- the numbers of the refused values of a function
abbrev pub refused_numbers : Target → FuncRecord → List ℕ
refused_numbers t f = flat_map (λ b. refused_among t b.values) f.blocks

-- the lesser of a number that may be there and another one
abbrev pub lesser : Option ℕ → ℕ → Option ℕ
lesser None n = Some n
lesser (Some m) n = Some (min m n)

-- the least number of a refused value
abbrev pub first_construct : FuncRecord → Target → Option ℕ
first_construct f t = fold lesser None (refused_numbers t f)

-- the lesser of a number and that of a value, if the value is refused
abbrev pub sooner : Target → Option ℕ → ValueRecord → Option ℕ
sooner t g v = if is_refused v.op v.int t then lesser g v.id else g
