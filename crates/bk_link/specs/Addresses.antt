-- The addresses of keys.
use Rattle.std.specs.Prelude.{ℕ, ◌+◌, ◌*◌, ◌-◌, ◌==◌, nat_lt, if◌then◌else◌, List, count_by, slice_index, Option, Some, None}
use Rattle.std.specs.List.{slice_get}
use Rattle.bk_num.specs.Memory.{pool_base}
use Rattle.bk_piece.specs.declared.Handle.{Handle}
use Rattle.bk_piece.specs.declared.Key.{Key}
use Rattle.bk_link.specs.declared.cells.Addresses.{Addresses}
use Rattle.bk_link.specs.declared.sites.Site.{Site}

abbrev pub address_in : Option Site → ℕ
address_in None = 0
address_in (Some s) = s.address

-- the address of a symbol, whose key is the number of its name plus 1; the sites stand in order of names
abbrev pub symbol_address : List Site → ℕ → ℕ
symbol_address sites key = if key == 0 then 0 else address_in (slice_get sites (key - 1))

-- the address of a constant: the smaller ones stand before it
abbrev pub constant_address : List ℕ → ℕ → ℕ
constant_address pool key = pool_base + 8 * count_by (λ c. nat_lt c key) pool

-- the address of a symbol or a constant
abbrev pub address_of : List Site → List ℕ → Key → ℕ
address_of sites pool k = if k.area == 2 then constant_address pool k.key else symbol_address sites k.key

-- the same from the addresses of the cells
abbrev pub find_in : Addresses → Handle → ℕ
find_in a h = if h.area == 2 then slice_index a.constants.items h.cell else slice_index a.symbols.items h.cell
