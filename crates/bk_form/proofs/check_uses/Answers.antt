use Rattle.std.proofs.Common.{refl}
use Rattle.bk_func.specs.declared.form.FormKind.TheVariants.{Use}
use Rattle.bk_form.specs.Names.{measure}
use Rattle.bk_form.proofs.Judging.{kept_here, kept_more}
use Rattle.bk_form.proofs.check_uses.Goals as goal

pub check_memory-requires-clause-kept : goal.check_memory-requires-clause-kept
check_memory-requires-clause-kept c =
    let s = measure c.args.flow.now.scope in
    let f = c.args.flow.now.scope.func.now in
    let unreached = c.in_ok-unreached in
    kept_more s f Use 6 refl c.requires.kept (kept_here s f Use unreached.unreached unreached.ensures c.in_ok-refuse.ensures)
