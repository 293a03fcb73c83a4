use Rattle.bk_core.proofs.Runs.{keeps_rule}
use Rattle.bk_core.proofs.laws.one_event.Goals as goal

pub returns : goal.returns
returns c = λ announced parts m e k can ann. keeps_rule announced parts m k e can ann
