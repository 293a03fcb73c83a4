use Rattle.std.proofs.lemmas.Result.{err_from_is_err_and}
use Rattle.bk_elf.proofs.Tabling.{symbols_refused, same_count}
use Rattle.bk_elf.proofs.file.File.symbols.Goals as goal

pub returns-in_err-entries-clause-refused : goal.returns-in_err-entries-clause-refused
returns-in_err-entries-clause-refused c =
    let p = err_from_is_err_and c.from_residual-in_err-entries.result c.from_residual-in_err-entries.ensures.1 in
    rw (p.1, p.2) (symbols_refused c.args.self.now.bytes.now c.args.before c.in_err-entries.field-0.0 c.requires c.in_err-entries.ensures.fails)

pub symbols-requires-clause-same : goal.symbols-requires-clause-same
symbols-requires-clause-same c =
    let h = same_count c.args.self.now.bytes.now c.in_ok-entries.entries.items c.in_ok-entries.names.items c.in_ok-entries.ensures.entries c.in_ok-entries.ensures.names in
    rw (c.deref-2.ensures.value, c.deref-3.ensures.value) h
