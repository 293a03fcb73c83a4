use Rattle.bk_live.proofs.Tabled.{table_next_uses}
use Rattle.bk_live.proofs.laws.tells_next_uses.Goals as goal

pub returns : goal.returns
returns c = λ f os t. table_next_uses f os t
