use Rattle.bk_form_laws.proofs.FormKept.{form_kept}
use Rattle.bk_form_laws.proofs.rules_keep_form.Goals as goal

pub returns : goal.returns
returns c = form_kept
