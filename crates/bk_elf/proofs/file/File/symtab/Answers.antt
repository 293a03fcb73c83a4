use Rattle.std.proofs.lemmas.Result.{err_from_is_err_and}
use Rattle.bk_elf.proofs.Tabling.{entries_refused}
use Rattle.bk_elf.proofs.file.File.symtab.Goals as goal

pub returns-in_err-entries-clause-fails : goal.returns-in_err-entries-clause-fails
returns-in_err-entries-clause-fails c =
    let p = err_from_is_err_and c.from_residual.result c.from_residual.ensures.1 in
    rw (p.1, p.2) (entries_refused c.args.self.now.bytes.now c.in_err-entries.field-0.0 c.in_err-entries.ensures.fails)
