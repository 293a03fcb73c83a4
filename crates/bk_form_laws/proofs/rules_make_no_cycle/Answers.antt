use Rattle.bk_form_laws.proofs.Rising.{no_cycle}
use Rattle.bk_form_laws.proofs.rules_make_no_cycle.Goals as goal

pub returns : goal.returns
returns c = no_cycle
