use Rattle.bk_core.specs.Events.{word_at}
use Rattle.bk_core.proofs.Keeps.{whole}
use Rattle.bk_core.proofs.laws.all_parts_know_all.Goals as goal

pub returns : goal.returns
returns c = λ announced parts m w k some all. record { rule = whole announced parts m.claims (word_at m.areas) m.workers w some k.rule all; sizes = k.sizes }
