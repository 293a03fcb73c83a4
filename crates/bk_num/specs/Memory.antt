-- The memory of a machine: the pool of constants, which is only read, the data window and the stack.
use Rattle.std.specs.Prelude.{ℕ, List, Option, Some, None}
use Rattle.bk_num.specs.Bytes.{load_in, store_in}
pub use Rattle.bk_num.specs.Addresses.{pool_base, data_base}

-- the first of two numbers that is there
abbrev pub or_in : Option ℕ → Option ℕ → Option ℕ
or_in (Some n) o = Some n
or_in None o = o

-- the number in `size` bytes at an address; they lie whole in the pool, in the data window or in the stack, which begins at `bottom`
unfoldable pub read : List ℕ → List ℕ → ℕ → List ℕ → ℕ → ℕ → Option ℕ
read pool window bottom stack size address =
    or_in (load_in pool_base pool size address) (or_in (load_in data_base window size address) (load_in bottom stack size address))

-- the data window and the stack, with the stack after a write
abbrev pub to_stack : List ℕ → Option (List ℕ) → Option (List ℕ × List ℕ)
to_stack window None = None
to_stack window (Some stack) = Some (window, stack)

-- the data window after a write and the stack, or else the other pair
abbrev pub to_data : List ℕ → Option (List ℕ) → Option (List ℕ × List ℕ) → Option (List ℕ × List ℕ)
to_data stack None other = other
to_data stack (Some window) other = Some (window, stack)

-- the data window and the stack after `size` bytes at an address were written; they lie whole in one of them
unfoldable pub write : List ℕ → ℕ → List ℕ → ℕ → ℕ → ℕ → Option (List ℕ × List ℕ)
write window bottom stack size address n =
    to_data stack (store_in data_base window size address n) (to_stack window (store_in bottom stack size address n))
