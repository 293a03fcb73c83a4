use Rattle.std.proofs.Common.{arith}
use Rattle.bk_elf.proofs.Headers.{extent-symbol_entry}
use Rattle.bk_elf.proofs.symbols.is_entry.Goals as goal

pub first_fault-requires : goal.first_fault-requires
first_fault-requires c =
    let extent = extent-symbol_entry c.args.target c.entry_at-entry.result.name c.entry_at-entry.result.func c.entry_at-entry.result.address c.entry_at-entry.result.size in
    rw (c.symbol_entry-fields.ensures, extent) (omega (arith, c.requires))
