-- The line that tells how a call ends.
use Rattle.std.specs.Prelude.{ℕ, zero, suc, ◌==◌, Bool, true, false, List, [], ◌∷◌, ◌++◌, Option, unwrap_or, codes, if◌then◌else◌}
use Rattle.std.specs.Fmt.{decimal, signed_decimal}
use Rattle.bk_num.specs.Word.{signed}
use Rattle.bk_ops.specs.Types.{width_of}
use Rattle.bk_ops.specs.declared.types.Target.{Target}
use Rattle.bk_ops.specs.declared.types.Ty.{Ty}
use Rattle.bk_ops.specs.declared.types.Ty.TheVariants as ty
use Rattle.bk_dump.specs.Print.{hex}
use Rattle.bk_top.specs.declared.rows.outcome.Outcome.{Outcome}
use Rattle.bk_top.specs.declared.rows.outcome.Outcome.TheVariants.{Returned, Trapped, Going, Fault, Wild}

-- how a call ends: with numbers, by a trap, not yet, or at an address that a machine or the meaning does not have
pub data OutcomeRecord : Type 0 where
  returned : List ℕ → OutcomeRecord
  trapped : ℕ → OutcomeRecord
  going : OutcomeRecord
  fault : ℕ → OutcomeRecord
  wild : ℕ → OutcomeRecord

abbrev pub seen_outcome : Outcome → OutcomeRecord
seen_outcome (Returned numbers) = returned numbers.items
seen_outcome (Trapped number) = trapped number
seen_outcome Going = going
seen_outcome (Fault address) = fault address
seen_outcome (Wild address) = wild address

abbrev pub is_signed : Ty → Bool
is_signed ty.Int8 = true
is_signed ty.Int16 = true
is_signed ty.Int32 = true
is_signed ty.Int64 = true
is_signed ty.Int = true
is_signed _ = false

abbrev pub is_truth : Ty → Bool
is_truth ty.Bool = true
is_truth _ = false

-- a number of a type
abbrev pub shown : Target → Ty → ℕ → List ℕ
shown target type n =
    if is_truth type then (if n == 0 then codes "false" else codes "true")
    else (if is_signed type then signed_decimal (signed (width_of type target) n) else decimal n)

-- numbers of these types, a space before each
unfoldable pub shown_all : Target → List Ty → List ℕ → List ℕ
shown_all target (type ∷ types) (n ∷ ns) = codes " " ++ (shown target type n ++ shown_all target types ns)
shown_all target types numbers = []

abbrev pub trap_name : ℕ → List ℕ
trap_name n =
    if n == 1 then codes "nil"
    else (if n == 2 then codes "bounds"
    else (if n == 3 then codes "divide"
    else (if n == 4 then codes "shift"
    else (if n == 5 then codes "stack"
    else codes "exit"))))

-- how a call ends whose results have these types
abbrev pub outcome_part : Target → List Ty → OutcomeRecord → List ℕ
outcome_part target types (returned numbers) = codes "returned" ++ shown_all target types numbers
outcome_part target types (trapped number) = codes "trapped " ++ (decimal number ++ (codes " " ++ trap_name number))
outcome_part target types going = codes "going"
outcome_part target types (fault address) = codes "fault " ++ decimal address
outcome_part target types (wild address) = codes "wild " ++ decimal address

-- bytes in hexadecimal
unfoldable pub hex_all : List ℕ → List ℕ
hex_all [] = []
hex_all (b ∷ bs) = hex b ++ hex_all bs

-- the data window behind the outcome, where it is not empty
unfoldable pub data_part : List ℕ → List ℕ
data_part [] = []
data_part (b ∷ bs) = codes " data " ++ hex_all (b ∷ bs)

-- the whole line: how the call ends, and the data window then
unfoldable pub outcome_line : Target → List Ty → OutcomeRecord → List ℕ → List ℕ
outcome_line target types outcome window = outcome_part target types outcome ++ (data_part window ++ codes "\n")

-- what f gives at each of the first places
unfoldable pub first_numbers : (ℕ → Option ℕ) → ℕ → List ℕ
first_numbers f zero = []
first_numbers f (suc k) = first_numbers f k ++ unwrap_or (f k) 0 ∷ []
