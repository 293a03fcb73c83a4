use Rattle.bk_calls.proofs.Borne.{old_numbers, new_numbers, no_numbers}
use Rattle.bk_calls.proofs.laws.numbers_of_words.Goals as goal

pub returns : goal.returns
returns c = record { old = old_numbers; new = new_numbers; none = no_numbers }
