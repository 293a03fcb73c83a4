use Rattle.bk_form_laws.proofs.StateRoots.{state_kept}
use Rattle.bk_form_laws.proofs.state_rules_keep_all_kinds_but_order.Goals as goal

pub returns : goal.returns
returns c = state_kept
