use Rattle.bk_core.specs.Rule.{keys_of}
use Rattle.bk_core.specs.Events.{word_at}
use Rattle.bk_core.proofs.Room.{free_cell}
use Rattle.bk_core.proofs.laws.one_is_free.Goals as goal

pub returns : goal.returns
returns c = λ announced parts m area k h. free_cell (keys_of announced area) (word_at m.areas area) (k.rule.filled area h)
