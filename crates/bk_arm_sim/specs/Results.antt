-- What stands in the words of a result.
use Rattle.std.specs.Prelude.{ℕ, ◌+◌, ◌*◌, ◌%◌, ◌^◌, if◌then◌else◌, Option, Some, None, option_map, slice_get, take}
use Rattle.bk_ops.specs.declared.types.Ty.{Ty}
use Rattle.bk_ops.specs.declared.types.Target.TheVariants.{Arm}
use Rattle.bk_ops.specs.Types.{width_of}
use Rattle.bk_func.specs.Records.{SigRecord}
use Rattle.bk_func.specs.Words.{is_double, count_words}
use Rattle.bk_num.specs.Bytes.{load_in}
use Rattle.bk_arm_isa.specs.Machine.{Machine, stack_top}

-- the address of the first word of a result: behind the words of the arguments and of the results before it
abbrev pub result_place : SigRecord → ℕ → ℕ
result_place sig index = stack_top + 4 * (count_words Arm sig.args + count_words Arm (take index sig.results))

-- the number in the words at an address, modulo 2 to the width of its type
abbrev pub number_of : Machine → ℕ → Option Ty → Option ℕ
number_of m address None = None
number_of m address (Some ty) = option_map (λ n. n % 2 ^ width_of ty Arm) (load_in m.bottom m.stack (if is_double Arm ty then 8 else 4) address)

-- the number in the words of a result
abbrev pub result_of : Machine → SigRecord → ℕ → Option ℕ
result_of m sig index = number_of m (result_place sig index) (slice_get sig.results index)
