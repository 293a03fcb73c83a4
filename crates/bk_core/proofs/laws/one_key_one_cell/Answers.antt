use Rattle.bk_core.specs.Events.{word_at}
use Rattle.bk_core.proofs.Room.{one_cell}
use Rattle.bk_core.proofs.laws.one_key_one_cell.Goals as goal

pub returns : goal.returns
returns c = λ announced parts m v w area x y key k one two. one_cell announced parts m.claims (word_at m.areas) m.workers k.rule v w area x y key one two
