use Rattle.bk_form_laws.proofs.FormKept.{state_form_kept}
use Rattle.bk_form_laws.proofs.state_rules_keep_form.Goals as goal

pub returns : goal.returns
returns c = state_form_kept
