-- What registers hold, and which of them a value takes.
--
-- Registers are a list, one entry for each register in the order in which they are taken: the number of the value that it
-- holds, if it holds one. A value's next use is a count of places, None where it is not used any more.
use Rattle.std.specs.Prelude.{ℕ, nat_lt, ◌==◌, ◌&&◌, ◌||◌, Bool, true, false, if◌then◌else◌, List, length, map, slice_set, Option, None, Some}
use Rattle.std.specs.List.{fold, list_any, position_or_len}

abbrev pub Registers : Type 0
Registers = List (Option ℕ)

-- the next use of each value after a place
abbrev pub Uses : Type 0
Uses = ℕ → Option ℕ

abbrev pub is_open : Option ℕ → Bool
is_open None = true
is_open (Some v) = false

abbrev pub is_value : ℕ → Option ℕ → Bool
is_value v None = false
is_value v (Some u) = u == v

-- the register that holds the value, or the count of registers
abbrev pub register_of : Registers → ℕ → ℕ
register_of rs v = position_or_len (is_value v) rs

abbrev pub holds : Registers → ℕ → Bool
holds rs v = nat_lt (register_of rs v) (length rs)

-- one next use is farther than another, that of the value v than that of u; ties go to the lesser number
abbrev pub is_farther : Option ℕ → Option ℕ → ℕ → ℕ → Bool
is_farther None None v u = nat_lt v u
is_farther None (Some b) v u = true
is_farther (Some a) None v u = false
is_farther (Some a) (Some b) v u = nat_lt b a || (a == b && nat_lt v u)

-- of two values the one that leaves first
abbrev pub first_to_leave : Uses → Option ℕ → ℕ → Option ℕ
first_to_leave n None v = Some v
first_to_leave n (Some u) v = if is_farther (n v) (n u) v u then Some v else Some u

abbrev pub is_kept : List ℕ → ℕ → Bool
is_kept keep v = list_any (λ x. v == x) keep

abbrev pub weighed : Uses → List ℕ → Option ℕ → Option ℕ → Option ℕ
weighed n keep best None = best
weighed n keep best (Some v) = if is_kept keep v then best else first_to_leave n best v

-- the value in a register, none of those that are kept, whose next use is farthest
unfoldable pub farthest : Uses → List ℕ → Registers → Option ℕ
farthest n keep rs = fold (weighed n keep) None rs

abbrev pub register_or_none : Registers → Option ℕ → ℕ
register_or_none rs None = length rs
register_or_none rs (Some v) = register_of rs v

-- the least open register, or the count of registers
abbrev pub least_open : Registers → ℕ
least_open rs = position_or_len is_open rs

-- the register that a value takes: the least open one, else that of the value which leaves
unfoldable pub seat : Uses → List ℕ → Registers → ℕ
seat n keep rs = if nat_lt (least_open rs) (length rs) then least_open rs else register_or_none rs (farthest n keep rs)

abbrev pub put : Registers → ℕ → ℕ → Registers
put rs r v = slice_set rs r (Some v)

abbrev pub used_as : Option ℕ → ℕ → Option ℕ
used_as None v = None
used_as (Some m) v = Some v

-- a register whose value is used no more is open
abbrev pub while_used : Uses → Option ℕ → Option ℕ
while_used n None = None
while_used n (Some v) = used_as (n v) v

abbrev pub freed : Uses → Registers → Registers
freed n rs = map (while_used n) rs

abbrev pub emptied : Registers → Registers
emptied rs = map (λ o. None) rs
