use Rattle.bk_alloc_quality.proofs.Steps.{tasks_stay}
use Rattle.bk_alloc_quality.proofs.values_find_registers.Goals as goal

pub returns : goal.returns
returns c = λ words next k ts rs h p f q. (let r = tasks_stay words next k ts rs h p f q in (r.settled, r.quiet))
