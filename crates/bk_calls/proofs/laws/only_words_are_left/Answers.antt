use Rattle.bk_calls.proofs.Remaining.{only_words}
use Rattle.bk_calls.proofs.laws.only_words_are_left.Goals as goal

pub returns : goal.returns
returns c = only_words
