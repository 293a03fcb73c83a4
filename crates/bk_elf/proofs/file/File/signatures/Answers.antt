use Rattle.std.proofs.lemmas.Result.{err_from_is_err_and}
use Rattle.bk_elf.proofs.Signing.{gosig_refused}
use Rattle.bk_elf.proofs.file.File.signatures.Goals as goal

pub returns-in_err-types-clause-refused : goal.returns-in_err-types-clause-refused
returns-in_err-types-clause-refused c =
    let p = err_from_is_err_and c.from_residual-in_err-types.result c.from_residual-in_err-types.ensures.1 in
    rw (p.1, p.2) (gosig_refused c.args.self.now.bytes.now c.args.before c.in_err-types.field-0.0 c.requires c.in_err-types.ensures.fails)
