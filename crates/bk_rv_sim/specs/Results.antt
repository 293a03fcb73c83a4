-- What stands in the word of a result.
use Rattle.std.specs.Prelude.{ℕ, ◌+◌, ◌*◌, ◌%◌, ◌^◌, length, nat_lt, if◌then◌else◌, Option, Some, None, option_map, slice_get}
use Rattle.bk_ops.specs.declared.types.Ty.{Ty}
use Rattle.bk_ops.specs.declared.types.Target.TheVariants.{Riscv64}
use Rattle.bk_ops.specs.Types.{width_of}
use Rattle.bk_func.specs.Records.{SigRecord}
use Rattle.bk_num.specs.Bytes.{load_in}
use Rattle.bk_rv_isa.specs.Machine.{Machine, stack_top}

-- the address of a result's cell: behind the cells of the arguments and of the results before it
abbrev pub result_place : SigRecord → ℕ → ℕ
result_place sig index = stack_top + 8 * (length sig.args + index)

-- the word of a result: of the first eight in x10 and above, of the others in its cell
abbrev pub result_word : Machine → SigRecord → ℕ → Option ℕ
result_word m sig index = if nat_lt index 8 then slice_get m.regs (10 + index) else load_in m.bottom m.stack 8 (result_place sig index)

-- a word modulo 2 to the width of a type
abbrev pub narrowed : Option Ty → Option ℕ → Option ℕ
narrowed None word = None
narrowed (Some ty) word = option_map (λ n. n % 2 ^ width_of ty Riscv64) word

-- the number in the word of a result
abbrev pub result_of : Machine → SigRecord → ℕ → Option ℕ
result_of m sig index = narrowed (slice_get sig.results index) (result_word m sig index)
