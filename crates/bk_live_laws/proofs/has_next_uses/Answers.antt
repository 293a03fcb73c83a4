use Rattle.bk_live_laws.proofs.Existing.{next_uses_there}
use Rattle.bk_live_laws.proofs.has_next_uses.Goals as goal

pub returns : goal.returns
returns c = λ f os given. next_uses_there f os given
