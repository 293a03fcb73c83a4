use Rattle.bk_dump.specs.Texts.{reading}
use Rattle.bk_dump.proofs.Judged.{is_refused, is_blamed, reading_failed}
use Rattle.bk_dump.proofs.read.package.read_package.Goals as goal

pub returns-in_err-package : goal.returns-in_err-package
returns-in_err-package c =
    reading_failed c.args.target c.from_residual.result c.in_err-package.field-0.0 (reading c.args.bytes.now) c.from_residual.ensures.1 (is_refused c.args.target c.in_err-package.field-0.0 (reading c.args.bytes.now) c.in_err-package.ensures)

pub returns-in_err-check_forms : goal.returns-in_err-check_forms
returns-in_err-check_forms c =
    reading_failed c.args.target c.from_residual-in_err-check_forms.result c.in_err-check_forms.field-0.0 (reading c.args.bytes.now) c.from_residual-in_err-check_forms.ensures.1
    (is_blamed c.args.target c.in_err-check_forms.field-0.0 _ (reading c.args.bytes.now) c.in_ok-package.ensures c.in_err-check_forms.ensures.blames)
