use Rattle.bk_rv_run_laws.proofs.Besides.{beside_then, back_behind, of_back}
use Rattle.bk_rv_run_laws.proofs.calls_leave_what_is_above.Goals as goal

pub returns-clause-parts : goal.returns-clause-parts
returns-clause-parts c = beside_then

pub returns-clause-behind : goal.returns-clause-behind
returns-clause-behind c = back_behind

pub returns-clause-within : goal.returns-clause-within
returns-clause-within c = of_back
