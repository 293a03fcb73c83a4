-- The next uses of values from a place of the function.
use Rattle.std.specs.Prelude.{◌≡◌, ℕ, Option, None, Some}
use Rattle.std.specs.Option.{option_map}
use Rattle.bk_live.specs.Table.{next_in}
use Rattle.bk_alloc.specs.declared.ahead.Ahead.{Ahead}
use Rattle.bk_alloc.specs.declared.registers.Leaver.{Leaver}
use Rattle.bk_alloc.specs.Registers.{Uses}

-- behind so many entries of the block's order
abbrev pub uses_in : Ahead → ℕ → Uses
uses_in a k v = next_in a.table.now a.block k v

abbrev pub uses_from : Ahead → Uses
uses_from a = uses_in a a.after

-- the value that may leave its register, if there is one
abbrev pub leaving : Option Leaver → Option ℕ
leaving o = option_map (λ l. l.value) o

-- its next use stands beside it
abbrev pub IsWeighed : Uses → Option Leaver → Type 0
IsWeighed n None = Unit
IsWeighed n (Some l) = l.next ≡ n l.value
