use Rattle.bk_calls.proofs.Counted.{words_counted, words_bounded}
use Rattle.bk_calls.proofs.laws.growth_is_counted.Goals as goal

pub returns : goal.returns
returns c = record { counted = words_counted; within = words_bounded }
