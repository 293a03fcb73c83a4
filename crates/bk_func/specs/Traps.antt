-- The numbers of traps.
use Rattle.std.specs.Prelude.{ℕ}

-- at a nil pointer, an index out of bounds, a division by zero, a shift by a negative count
abbrev pub trap_nil : ℕ
trap_nil = 1

abbrev pub trap_bounds : ℕ
trap_bounds = 2

abbrev pub trap_divide : ℕ
trap_divide = 3

abbrev pub trap_shift : ℕ
trap_shift = 4

-- where the stack is used up, and at a block that ends the run
abbrev pub trap_stack : ℕ
trap_stack = 5

abbrev pub trap_exit : ℕ
trap_exit = 6
