use Rattle.bk_live.proofs.Tabled.{next_alone, next_uses_alone}
use Rattle.bk_live.proofs.laws.has_one_next_use.Goals as goal

pub returns-clause-value : goal.returns-clause-value
returns-clause-value c = λ f os n i k o p. next_alone f os n i k o p

pub returns-clause-all : goal.returns-clause-all
returns-clause-all c = λ f os l m. next_uses_alone f os l m
