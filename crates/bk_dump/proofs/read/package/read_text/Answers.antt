use Rattle.std.proofs.Common.{map}
use Rattle.bk_func.specs.Records.{PackageRecord}
use Rattle.bk_dump.specs.Texts.{reading}
use Rattle.bk_dump.specs.Views.{state}
use Rattle.bk_dump.proofs.Whole.{not_read, text_read, reads_failed}
use Rattle.bk_dump.proofs.read.package.read_text.Goals as goal

pub returns-in_err-read_lines : goal.returns-in_err-read_lines
returns-in_err-read_lines c =
    reads_failed {X = PackageRecord} {Y = PackageRecord} (λ p. p) c.from_residual.result c.in_err-read_lines.field-0.0 (reading c.args.bytes.now) c.from_residual.ensures.1 (not_read c.in_err-read_lines.field-0.0 c.args.bytes.now c.in_err-read_lines.ensures)

pub returns : goal.returns
returns c =
    let d = c.declared-names in
    text_read c.package_of.result c.args.bytes.now (state c.in_ok-read_lines.field-0) (map (λ n. n.now) d.result.0.keys) d.result.1.items d.result.2.items c.in_ok-read_lines.ensures d.ensures.names d.ensures.funcs d.ensures.vars c.package_of.ensures
