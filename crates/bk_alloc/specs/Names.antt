-- The machine's numbers of registers, as the code has them.
use Rattle.std.specs.Prelude.{ℕ, slice_index}
use Rattle.bk_alloc.specs.declared.steps.Names.{Names}

abbrev pub number_in : Names → ℕ → ℕ
number_in n r = slice_index n.registers.now r
