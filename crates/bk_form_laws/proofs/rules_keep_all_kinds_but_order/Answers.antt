use Rattle.bk_form_laws.proofs.Calm.{nearly}
use Rattle.bk_form_laws.proofs.rules_keep_all_kinds_but_order.Goals as goal

pub returns : goal.returns
returns c = nearly
