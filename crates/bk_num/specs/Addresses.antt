-- The address map of both machines.
use Rattle.std.specs.Prelude.{ℕ}

-- the return address that halts
abbrev pub halt : ℕ
halt = 61440

-- where the text begins
abbrev pub text_base : ℕ
text_base = 65536

-- where the pool of constants begins
abbrev pub pool_base : ℕ
pool_base = 33554432

-- where the data window begins
abbrev pub data_base : ℕ
data_base = 67108864

-- where the stack ends; the words of the started function's arguments and results stand there and above
abbrev pub stack_top : ℕ
stack_top = 536870912
